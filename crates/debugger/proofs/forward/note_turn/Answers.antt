use Rattle.std.proofs.Common.{ap}
use Rattle.world.specs.Outcomes.{outcome, reason}
use Rattle.debugger.proofs.Noting.{noted_going, noted_idle}
use Rattle.debugger.proofs.forward.note_turn.Goals as goal

pub returns-in-Went-clause-noted : goal.returns-in-Went-clause-noted
returns-in-Went-clause-noted g c =
    noted_going c.args.session.now c.note.new.session c.args.turned.now _ _ c.note.ensures.same c.in-Went.event
    (ap outcome c.in-Went.is) c.note.result c.note.ensures.noted c.note.ensures.told

pub returns-in-Idle-clause-noted : goal.returns-in-Idle-clause-noted
returns-in-Idle-clause-noted g c =
    noted_idle c.args.session.now c.args.turned.now _ (reason c.in-Idle.field-0) (ap outcome c.in-Idle.is)
