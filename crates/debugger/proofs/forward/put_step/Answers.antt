use Rattle.std.proofs.Common.{ap, sym}
use Rattle.debugger.specs.private.Making.{step_text}
use Rattle.debugger.proofs.Replying.{same_text}
use Rattle.debugger.proofs.forward.put_step.Goals as goal

pub returns-in-None-clause-text : goal.returns-in-None-clause-text
returns-in-None-clause-text g c p s h =
    same_text _ _ (ap (step_text p c.args.session.now.trace s.run) (sym c.in-None.is)) (c.put_end.ensures.text p s h)

pub returns-in-Some-clause-text : goal.returns-in-Some-clause-text
returns-in-Some-clause-text g c p s h =
    same_text _ _ (ap (step_text p c.args.session.now.trace s.run) (sym c.in-Some.is)) c.event_line.ensures
