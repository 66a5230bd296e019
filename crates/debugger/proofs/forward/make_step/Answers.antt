use Rattle.debugger.proofs.Growing.{some_stepped, all_stepped, step_longer}
use Rattle.debugger.proofs.forward.make_step.Goals as goal

pub invariant_of-session : goal.invariant_of-session
invariant_of-session g c =
    some_stepped _ c.step.new.self c.step.ensures.same c.step.result c.step.ensures.stepped c.step.ensures.refused
    c.session.invariant

pub returns-clause-stepped : goal.returns-clause-stepped
returns-clause-stepped g c =
    all_stepped _ c.step.new.self c.step.ensures.same _ c.session.view_is c.step.result c.step.ensures.stepped

pub returns-clause-longer : goal.returns-clause-longer
returns-clause-longer g c =
    step_longer _ c.step.new.self c.step.ensures.same _ c.session.view_is c.step.result c.step.ensures.stepped
    c.session.invariant
