use Rattle.std.proofs.Common.{refl}
use Rattle.nm_top.specs.SoakText.{soak_text}
use Rattle.nm_top.proofs.soak.soak_text.Goals as goal

pub returns : goal.returns
unfolding soak_text
returns c = refl
