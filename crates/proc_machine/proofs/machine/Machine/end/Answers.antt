use Rattle.std.proofs.Common.{refl, sym, arith}
use Rattle.stack_code.specs.View.{seen_code}
use Rattle.proc_machine.proofs.Knows.{ends_by}
use Rattle.proc_machine.proofs.Onwards.{kept_over}
use Rattle.proc_machine.proofs.machine.Machine.end.Goals as goal

pub invariant_of-self : goal.invariant_of-self
invariant_of-self c =
    let m = c.args.self.now in
    record { kept = kept_over (seen_code m.setting.code.now) m.setting.count m.setting.me.no m.execution m.begun m.next m.kept }

pub returns-clause-made : goal.returns-clause-made
returns-clause-made c =
    let m = c.args.self.now in
    record {
      stands = λ inputs events s. ends_by (seen_code m.setting.code.now) m.setting.count m.setting.me.no m.execution m.begun m.next c.args.last c.requires.last c.requires.waits m.kept inputs events s;
      fits = sym c.requires.waits;
      setting = refl;
      sent = omega arith;
    }
