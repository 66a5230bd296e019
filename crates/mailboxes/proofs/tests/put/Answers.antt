use Rattle.std.proofs.Common.{◌+◌, subst, sym, arith}
use Rattle.std.specs.Prelude.{Contains}
use Rattle.mailboxes.specs.Numbered.{AreBelow}
use Rattle.mailboxes.proofs.NumberedFacts.{later, unnamed, one_more}
use Rattle.mailboxes.proofs.tests.put.Goals as goal

pub returns-in_err-reserve : goal.returns-in_err-reserve
returns-in_err-reserve g c =
    subst (λ ls. AreBelow ls (c.args.l.posted + 1)) (sym c.reserve.ensures.same) (later _ c.args.l.posted (c.args.l.posted + 1) (omega arith) c.requires.below)

pub post-requires-clause-last : goal.post-requires-clause-last
post-requires-clause-last g c w k = c.requires.below.posted w (subst (λ ls. Contains ls w) c.reserve.ensures.same k)

pub post-requires-clause-unnamed : goal.post-requires-clause-unnamed
post-requires-clause-unnamed g c w k = unnamed _ c.args.l c.requires.below c.requires.number w (subst (λ ls. Contains ls w) c.reserve.ensures.same k)

pub returns-in-Ok : goal.returns-in-Ok
returns-in-Ok g c = one_more c.post.result _ _ c.args.l c.post.ensures.posted c.post.ensures.refused (subst (λ ls. AreBelow ls c.args.l.posted) (sym c.reserve.ensures.same) c.requires.below) c.requires.number
