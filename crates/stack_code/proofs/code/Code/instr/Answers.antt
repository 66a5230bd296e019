use Rattle.std.proofs.Common.{◌+◌, sym, ap, ◌∙◌, arith}
use Rattle.std.proofs.lemmas.List.{length-map}
use Rattle.std.specs.Prelude.{option_map, slice_get}
use Rattle.stack_code.specs.Code.{Placed}
use Rattle.stack_code.specs.Layout.{laid_function_of, functions_in}
use Rattle.stack_code.specs.Together.{all_steps}
use Rattle.stack_code.specs.View.{seen_code}
use Rattle.stack_code.proofs.Laid.{has_function}
use Rattle.stack_code.proofs.Together.{start_within, fetched}
use Rattle.stack_code.proofs.code.Code.instr.Goals as goal

pub start-requires : goal.start-requires
start-requires c =
    let l = c.args.self.now.layout in
    let lt = has_function l.functions.items l.instrs.items l.inside.items c.args.self.now.laid c.args.function c.args.place c.requires in
    omega (arith, lt, length-map l.functions.items (laid_function_of l.instrs.items l.inside.items))

pub fetch-requires : goal.fetch-requires
fetch-requires c =
    let within = start_within (functions_in c.args.self.now.layout) c.args.function c.args.place c.requires in
    omega (arith, within, c.start.ensures)

pub returns : goal.returns
returns c =
    let fs = functions_in c.args.self.now.layout in
    ap (λ o. option_map (λ (x : Placed). x.instr) o) (sym (fetched fs c.args.function c.args.place c.requires))
    ∙ ap (λ n. option_map (λ (x : Placed). x.instr) (slice_get (all_steps (seen_code c.args.self.now)) (n + c.args.place))) (sym c.start.ensures)
    ∙ c.fetch.ensures
