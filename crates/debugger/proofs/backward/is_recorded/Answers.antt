use Rattle.debugger.proofs.GoingTo.{foreign_event}
use Rattle.debugger.proofs.backward.is_recorded.Goals as goal

pub returns-then-n-q : goal.returns-then-n-q
returns-then-n-q g c =
    foreign_event _ _ c.session.view_is c.session.invariant c.n.result c.args.q.no c.args.k c.n.ensures c.if-n-q.true
