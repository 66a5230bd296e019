use Rattle.std.proofs.Common.{refl, subst}
use Rattle.nm_top.specs.private.Unread.{IsUnread}
use Rattle.nm_top.proofs.fetch.unread.Goals as goal

pub returns-in-Refused-clause-unmet : goal.returns-in-Refused-clause-unmet
returns-in-Refused-clause-unmet c = λ held name text h. (refl, (_, subst (IsUnread text) c.in-Refused.is h, refl))
