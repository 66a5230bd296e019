use Rattle.std.proofs.Common.{◌≡◌, ◌==◌, ap, refl, arith}
use Rattle.std.specs.Int.{bit_at}
use Rattle.std.proofs.lemmas.Nat.Bits.{bit_at_above, shr_and_one}
use Rattle.nm_base.specs.Channels.{has_channel}
use Rattle.nm_base.proofs.channels.has_channel.Goals as goal

pub returns-then-chan-ge32 : goal.returns-then-chan-ge32
unfolding has_channel
returns-then-chan-ge32 c = let b : bit_at c.args.set c.args.chan ≡ 0 = bit_at_above c.args.set 32 c.args.chan (omega arith) c.if-chan-ge32.true in rw b refl

pub returns : goal.returns
unfolding has_channel
returns c = ap (λ b. b == 1) (shr_and_one c.args.set c.args.chan)
