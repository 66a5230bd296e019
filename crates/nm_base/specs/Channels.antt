-- Sets of channels.
use Rattle.std.specs.Prelude.{ℕ, Bool, ◌==◌}
use Rattle.std.specs.Int.{bit_at}

-- whether the set of channels has this channel: bit c stands for channel c
unfoldable pub has_channel : ℕ → ℕ → Bool
has_channel set chan = bit_at set chan == 1
