-- Which channels had a letter already, as the waiting letters are gone through.
use Rattle.std.specs.Prelude.{◌≡◌, ℕ, ◌+◌, ◌*◌, ◌&&◌, nat_lt, Bool, true, List, slice_index}
use Rattle.std.specs.List.{list_any}
use Rattle.nm_base.specs.declared.letter.Letter.{Letter}
use Rattle.nm_base.specs.declared.limits.TheConstants.{MAX_PROCESSES}
use Rattle.nm_base.specs.Channels.{has_channel}
use Rattle.mailboxes.specs.Letters.{are_rivals}

-- whether its receiver, sender and channel are numbers below 32
abbrev pub has_place : Letter → Bool
has_place l = nat_lt l.dest.no MAX_PROCESSES && (nat_lt l.id.sender.no MAX_PROCESSES && nat_lt l.chan 32)

-- which of the sets is that of the letter's sender and receiver
abbrev pub set_of : Letter → ℕ
set_of l = l.id.sender.no * 32 + l.dest.no

-- the sets have exactly the channels of these letters, by sender and receiver
pub record Holds (sets : List ℕ) (gone : List Letter) : Type 0 where
  pub each : (l : Letter) → has_place l ≡ true
      → has_channel (slice_index sets (set_of l)) l.chan ≡ list_any (λ k. are_rivals k l) gone
