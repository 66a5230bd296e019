-- What the tables of a tracer decide.
use Rattle.std.specs.Prelude.{ℕ, Bool, ◌&&◌, nat_lt, if◌then◌else◌}
use Rattle.nm_base.specs.declared.letter.Letter.{Letter}
use Rattle.nm_base.specs.declared.limits.TheConstants.{MAX_PROCESSES}
use Rattle.nm_base.specs.Channels.{has_channel}

-- whether there is a place for the process, and for the letter's sender and channel
abbrev pub has_place : ℕ → Letter → Bool
has_place p l = nat_lt p MAX_PROCESSES && (nat_lt l.id.sender.no MAX_PROCESSES && nat_lt l.chan 32)

-- after which receive one could have taken a letter of the sender: on an ordered channel that of its last predecessor
abbrev pub since_of : ℕ → ℕ → ℕ → ℕ
since_of mask chan number = if has_channel mask chan then number else 0
