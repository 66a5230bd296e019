use Rattle.std.proofs.Common.{arith}
use Rattle.stack_code.proofs.Laid.{all_count, instr_read}
use Rattle.stack_code.proofs.code.Code.fetch.Goals as goal

pub index-requires : goal.index-requires
index-requires c =
    let l = c.args.self.now.layout in
    let n = all_count l.functions.items l.instrs.items l.inside.items c.args.self.now.laid in
    omega (arith, c.requires, n, l.instrs.ok.0)

pub returns : goal.returns
returns c =
    let l = c.args.self.now.layout in
    instr_read l.functions.items l.instrs.items l.inside.items c.args.self.now.laid c.args.place c.index.result.now c.requires c.index.ensures
