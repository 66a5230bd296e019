use Rattle.causal_stop.specs.Stops.{cut_of}
use Rattle.debugger.proofs.MovedReplies.{avoided}
use Rattle.debugger.proofs.backward.go_to_greatest.Goals as goal

pub returns-clause-gone : goal.returns-clause-gone
returns-clause-gone g c =
    avoided c.args.session.now c.go_to.new.session _ _ c.args.events.now.events c.args.q.no c.args.k
    (cut_of c.cut_without-cut.result)
    c.go_to.ensures.same c.in_ok-go_to.ensures.moved c.cut_without-cut.ensures
