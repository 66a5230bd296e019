-- What a buffer keeps of a line.
use Rattle.std.specs.Prelude.{ℕ, nat_le, nat_lt, Bool, List, length, take, Option, Some, None, if◌then◌else◌}

-- the first bytes of a line, and whether it has more than they are
pub record Front : Type 0 where
  pub bytes : List ℕ
  pub more : Bool

-- a line of 255 bytes may have a carriage return behind it
abbrev pub front_of : List ℕ → Front
front_of line = record { bytes = take 256 line; more = nat_lt 256 (length line) }

-- the line, where it isn't too long
abbrev pub short : List ℕ → Option (List ℕ)
short line = if nat_le (length line) 255 then Some line else None
