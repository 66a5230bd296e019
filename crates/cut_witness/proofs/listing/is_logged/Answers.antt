use Rattle.std.proofs.Common.{sym, ◌∙◌}
use Rattle.std.proofs.lemmas.Bool.{false≢true}
use Rattle.cut_witness.proofs.ListingFacts.{logged_by}
use Rattle.cut_witness.proofs.listing.is_logged.Goals as goal

pub returns-then-contains : goal.returns-then-contains
returns-then-contains c = ((λ t. absurd (false≢true t)), (λ l. absurd (c.requires.quiet.each c.args.id (sym c.contains.ensures ∙ c.if-contains.true) l)))

pub returns : goal.returns
returns c = logged_by c.requires.sound c.find.result c.find.ensures c.is_some.result c.is_some.ensures
