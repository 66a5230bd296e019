use Rattle.causal_stop.proofs.PastFacts.{named_least}
use Rattle.causal_stop.proofs.cuts.stop_at.Goals as goal

pub returns-clause-least : goal.returns-clause-least
returns-clause-least c =
    let a = c.in_ok-place.ensures.place in
    named_least a.0 c.args.p.no c.args.number a.2.of_p a.2.numbered (c.past_from.ensures a.0 a.1)
