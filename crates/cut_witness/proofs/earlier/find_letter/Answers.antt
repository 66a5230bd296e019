use Rattle.cut_witness.proofs.EarlierFacts.{posted_none, posted_some, passing_in}
use Rattle.cut_witness.specs.declared.query.Query.TheVariants.{Send}
use Rattle.cut_witness.specs.private.Queries.{meets}
use Rattle.cut_witness.proofs.earlier.find_letter.Goals as goal

pub returns-in_err-e : goal.returns-in_err-e
returns-in_err-e c = rw c.from_residual.ensures (posted_none c.args.events.now.events c.args.id c.in_err-e.ensures)

pub returns : goal.returns
returns c =
    let l = c.in_ok-e.ensures in
    posted_some c.args.events.now.events c.args.id c.in_ok-e.e l (passing_in (meets (Send c.args.id)) c.args.events.now.events c.in_ok-e.e l) c.posted_at.result c.posted_at.ensures
