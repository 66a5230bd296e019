use Rattle.debugger.proofs.Growing.{some_gone, all_gone}
use Rattle.debugger.proofs.forward.make_turn.Goals as goal

pub invariant_of-session : goal.invariant_of-session
invariant_of-session g c =
    some_gone _ c.turn.new.self c.turn.ensures.same c.args.q.no c.turn.result c.turn.ensures.gone c.turn.ensures.refused
    c.session.invariant

pub returns-clause-gone : goal.returns-clause-gone
returns-clause-gone g c =
    all_gone _ c.turn.new.self c.turn.ensures.same c.args.q.no _ c.session.view_is c.turn.result c.turn.ensures.gone
