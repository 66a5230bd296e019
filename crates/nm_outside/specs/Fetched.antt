-- What a fetch answers.
use Rattle.std.specs.Prelude.{◌≡◌, ℕ, ◌+◌, ◌≤◌, Bool, true, false, List, length, take, Option, Some, None, IsNone, IsSomeAnd, ⊤}
use Rattle.std.specs.FinMap.{get}
use Rattle.nm_outside.specs.Files.{Files}
use Rattle.nm_outside.specs.declared.cabinet.Fetched.{Fetched}
use Rattle.nm_outside.specs.declared.cabinet.Fetched.TheVariants.{Bytes, Absent, Failed, Memory}

abbrev pub is_absent : Fetched → Bool
is_absent Absent = true
is_absent (Bytes v) = false
is_absent Failed = false
is_absent Memory = false

abbrev pub is_failed : Fetched → Bool
is_failed Failed = true
is_failed (Bytes v) = false
is_failed Absent = false
is_failed Memory = false

-- at most so many bytes are answered
abbrev pub IsWithin : ℕ → Fetched → Type 0
IsWithin most (Bytes v) = length v.items ≤ most
IsWithin most Absent = ⊤
IsWithin most Failed = ⊤
IsWithin most Memory = ⊤

-- What is answered for a file that holds these bytes, or for one that isn't there: its first
-- limit + 1 bytes, all of them where it has no more.
abbrev pub Tells : Option (List ℕ) → ℕ → Fetched → Type 0
Tells file limit (Bytes v) = IsSomeAnd file (λ bytes. v.items ≡ take (limit + 1) bytes)
Tells file limit Absent = IsNone file
Tells file limit Failed = ⊤
Tells file limit Memory = ⊤

-- The same where the files are told, and nothing where they aren't.
abbrev pub Fetches : Option Files → List ℕ → ℕ → Fetched → Type 0
Fetches None name limit fetched = ⊤
Fetches (Some files) name limit fetched = Tells (get files name) limit fetched
