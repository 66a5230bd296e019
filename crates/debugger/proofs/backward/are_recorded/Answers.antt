use Rattle.replay_core.specs.Gates.{seen_trace}
use Rattle.debugger.specs.Sessions.{is_recorded}
use Rattle.debugger.proofs.MovedReplies.{both_else, both_then}
use Rattle.debugger.proofs.backward.are_recorded.Goals as goal

pub returns-then-is_recorded : goal.returns-then-is_recorded
returns-then-is_recorded g c = λ p.
    both_then c.is_recorded.result c.is_recorded-then-is_recorded.result
    (is_recorded p (seen_trace c.args.session.now.trace) c.args.a.0.no c.args.a.1)
    (is_recorded p (seen_trace c.args.session.now.trace) c.args.b.0.no c.args.b.1)
    (c.is_recorded.ensures p) c.if-is_recorded.true (c.is_recorded-then-is_recorded.ensures p)

pub returns-else-is_recorded : goal.returns-else-is_recorded
returns-else-is_recorded g c = λ p.
    both_else c.is_recorded.result
    (is_recorded p (seen_trace c.args.session.now.trace) c.args.a.0.no c.args.a.1)
    (is_recorded p (seen_trace c.args.session.now.trace) c.args.b.0.no c.args.b.1)
    (c.is_recorded.ensures p) c.if-is_recorded.false
