use Rattle.std.proofs.Common.{ap}
use Rattle.world.specs.Outcomes.{outcome}
use Rattle.debugger.proofs.GoingTo.{foreign_turn, made_told, ok_then}
use Rattle.debugger.proofs.backward.make_again.Goals as goal

pub returns-then-n-q-clause-made : goal.returns-then-n-q-clause-made
returns-then-n-q-clause-made g c = λ p s e h is.
    absurd (foreign_turn _ _ c.session.view_is c.n.result c.args.q.no c.n.ensures c.if-n-q.true p s e h is)

pub returns-in-Went-clause-made : goal.returns-in-Went-clause-made
returns-in-Went-clause-made g c =
    ok_then c.note.result
    (λ noted. made_told c.args.session.now c.make_turn.new.session c.note.new.session c.args.q.no c.in_ok-event.field-0
    c.in-Went.event _ _
    (ap outcome c.in-Went.is) c.make_turn.ensures.same c.note.ensures.same c.in_ok-event.ensures.gone noted
    c.note.ensures.told)
    c.note.ensures.noted
