use Rattle.debugger.proofs.Noting.{noted_event, longer_event, noted_nothing}
use Rattle.debugger.proofs.forward.noted_step.Goals as goal

pub returns-in-None-clause-noted : goal.returns-in-None-clause-noted
returns-in-None-clause-noted g c =
    noted_nothing c.args.session.now c.make_step.new.session c.in_ok-event.field-0 _ c.in-None.is c.in_ok-event.ensures.stepped

pub returns-in_ok-note-in-Some-clause-noted : goal.returns-in_ok-note-in-Some-clause-noted
returns-in_ok-note-in-Some-clause-noted g c =
    noted_event c.args.session.now c.make_step.new.session c.note.new.session c.in_ok-event.field-0 _ _ c.note.ensures.same
    _ c.in-Some.is c.in_ok-event.ensures.stepped c.in_ok-note-in-Some.ensures.noted c.note.ensures.told

pub returns-in_ok-note-in-Some-clause-longer : goal.returns-in_ok-note-in-Some-clause-longer
returns-in_ok-note-in-Some-clause-longer g c =
    longer_event c.args.session.now c.make_step.new.session c.note.new.session c.in_ok-event.field-0 c.note.ensures.same
    _ c.in-Some.is c.in_ok-event.ensures.longer c.note.ensures.replay
