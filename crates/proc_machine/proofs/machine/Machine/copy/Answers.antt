use Rattle.std.proofs.Common.{sym, subst}
use Rattle.stack_code.specs.View.{seen_code}
use Rattle.proc_machine.specs.declared.execution.Execution.{Execution}
use Rattle.proc_machine.specs.Standing.{ComesTo}
use Rattle.proc_machine.specs.private.Kept.{IsKept}
use Rattle.proc_machine.proofs.Alikes.{kept_alike, comes_alike}
use Rattle.proc_machine.proofs.machine.Machine.copy.Goals as goal

pub invariant_of-result : goal.invariant_of-result
invariant_of-result c =
    let m = c.args.self.now in
    let like = c.in_ok-execution.ensures in
    let e = c.in_ok-execution.execution in
    record {
      kept = subst (λ (x : Execution). ∥ IsKept (seen_code m.setting.code.now) m.setting.count m.setting.me.no x m.begun m.next ∥₁) (sym like.others)
          (kept_alike (seen_code m.setting.code.now) m.setting.count m.setting.me.no m.execution e.output like.output m.begun m.next m.kept);
    }

pub returns-clause-stands : goal.returns-clause-stands
returns-clause-stands c =
    let m = c.args.self.now in
    let like = c.in_ok-execution.ensures in
    let e = c.in_ok-execution.execution in
    λ inputs events s. subst (λ (x : Execution). ComesTo (seen_code m.setting.code.now) m.setting.count m.setting.me.no x m.begun m.next inputs events) (sym like.others)
    (comes_alike (seen_code m.setting.code.now) m.setting.count m.setting.me.no m.execution e.output like.output m.begun m.next inputs events s)
