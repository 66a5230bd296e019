use Rattle.causal_stop.proofs.FreeFacts.{named_greatest}
use Rattle.causal_stop.proofs.cuts.avoid_at.Goals as goal

pub returns-clause-greatest : goal.returns-clause-greatest
returns-clause-greatest c =
    let a = c.in_ok-place.ensures.place in
    named_greatest a.0 c.args.p.no c.args.number a.2.of_p a.2.numbered (c.free_of.ensures a.0 a.1)
