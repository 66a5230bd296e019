use Rattle.std.proofs.Common.{refl}
use Rattle.nm_top.proofs.fetch.bad_word.Goals as goal

pub returns-clause-unmet : goal.returns-clause-unmet
returns-clause-unmet c = λ held name n text h. (refl, (_, h, refl))
