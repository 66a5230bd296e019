use Rattle.std.proofs.Common.{arith}
use Rattle.std.proofs.lemmas.Bool.{false≢true}
use Rattle.causal_stop.proofs.PlaceFacts.{too_many, place_found, place_if}
use Rattle.causal_stop.proofs.cuts.place_of.Goals as goal

pub returns-then-len-number-clause-found : goal.returns-then-len-number-clause-found
returns-then-len-number-clause-found c = ((λ t. absurd (false≢true t)), (λ h. absurd (too_many c.requires c.args.p.no c.args.number (omega arith) h)))

pub returns-clause-found : goal.returns-clause-found
returns-clause-found c = place_found c.args.events.now.events c.args.p.no c.args.number c.place.result c.place.ensures

pub returns-clause-place : goal.returns-clause-place
returns-clause-place c = place_if c.args.events.now.events c.args.p.no c.args.number c.place.result c.place.ensures
