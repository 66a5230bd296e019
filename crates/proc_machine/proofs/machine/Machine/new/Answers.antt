use Rattle.std.proofs.Common.{[], ◌∙◌}
use Rattle.stack_code.specs.View.{seen_code}
use Rattle.proc_machine.proofs.Begins.{called_true, kept_new, begins}
use Rattle.proc_machine.proofs.machine.Machine.new.Goals as goal

pub invariant_of-result-2 : goal.invariant_of-result-2
invariant_of-result-2 c =
    record { kept = kept_new (seen_code c.args.code.now) c.args.n c.args.me.no c.run-next.new.self c.run-next.result c.run-next.ensures.holds c.run-next.ensures.stands }

pub returns-clause-stands : goal.returns-clause-stands
returns-clause-stands c =
    let called = called_true (seen_code c.args.code.now) c.in_ok-execution.execution c.call_main.new.self c.call_main.result c.if-not-call_main.false c.call_main.ensures in
    begins (seen_code c.args.code.now) c.args.n c.args.me.no c.call_main.new.self c.run-next.new.self c.run-next.result (called.1 c.args.n c.args.me.no)
    (c.run-next.ensures.reaches []) c.run-next.ensures.stands

pub returns-clause-sent : goal.returns-clause-sent
returns-clause-sent c =
    let called = called_true (seen_code c.args.code.now) c.in_ok-execution.execution c.call_main.new.self c.call_main.result c.if-not-call_main.false c.call_main.ensures in
    c.run-next.ensures.sent ∙ called.2 ∙ c.in_ok-execution.ensures.sent
