use Rattle.std.proofs.Common.{◌∙◌}
use Rattle.stack_code.specs.View.{seen_code}
use Rattle.proc_machine.specs.View.{control_of, data_with}
use Rattle.proc_machine.proofs.Running.{reaches_on}
use Rattle.proc_machine.proofs.execution.Execution.run.Goals as goal

pub steps-preserved : goal.steps-preserved
steps-preserved c =
    let e = c.args.self.now in
    let d = c.steps.self in
    let f = c.step.new.self in
    record {
      holds = c.step.ensures.holds;
      reaches = λ events. reaches_on (seen_code c.args.at.code.now) c.args.at.count c.args.at.me.no (control_of e) (data_with e events 0) (control_of d) (data_with d events 0) (control_of f)
          (data_with f events 0) (c.steps.invariant.reaches events) (c.in_default.ensures.steps.goes events);
      sent = c.in_default.ensures.steps.sent ∙ c.steps.invariant.sent;
    }
