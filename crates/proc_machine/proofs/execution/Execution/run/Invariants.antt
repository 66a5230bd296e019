use Rattle.std.proofs.Common.{◌≡◌, List}
use Rattle.nm_base.specs.declared.kind.Kind.{Kind}
use Rattle.stack_code.specs.View.{seen_code}
use Rattle.proc_machine.specs.private.Sound.{Holds}
use Rattle.proc_machine.specs.View.{control_of, data_with}
use Rattle.proc_machine.specs.private.Run.{Reaches, way}
use Rattle.proc_machine.proofs.execution.Execution.run.Given as goal

abbrev pub invariant-steps : goal.invariant-steps
invariant-steps l = record {
  holds : ∥ Holds (seen_code l.at.code.now) l.self ∥₁;
  reaches : (events : List Kind)
      → Reaches (seen_code l.at.code.now) l.at.count l.at.me.no (control_of l.initial.self) (data_with l.initial.self events 0) (control_of l.self) (data_with l.self events 0);
  sent : l.self.sent ≡ l.initial.self.sent;
}

abbrev pub decreases-steps : goal.decreases-steps
decreases-steps l = way (seen_code l.at.code.now) l.self
