use Rattle.std.proofs.Common.{subst}
use Rattle.cut_witness.specs.declared.query.Query.TheVariants.{Naming}
use Rattle.cut_witness.specs.private.Queries.{meets, IsLastPassing}
use Rattle.cut_witness.proofs.EarlierFacts.{held_back, earlier_is}
use Rattle.cut_witness.proofs.earlier.earlier.Goals as goal

pub returns-in_err-above : goal.returns-in_err-above
returns-in_err-above c a m h o = rw c.from_residual.ensures (held_back c.args.mask c.args.events.now.events c.requires a m c.args.letter.now h c.args.own o (c.in_err-above.ensures a m h))

pub returns : goal.returns
returns c a m h o =
    let p = c.args.letter.now in
    earlier_is c.args.mask c.args.events.now.events c.requires a m p h c.args.own o c.in_ok-above.above (c.in_ok-above.ensures a m h) c.last.result
    (subst (λ x. IsLastPassing (meets (Naming p.dest p.chan c.in_ok-above.above x)) c.args.events.now.events c.last.result) c.number_at.ensures c.last.ensures)
