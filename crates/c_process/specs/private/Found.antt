-- The value of a variable that was found in the code.
use Rattle.std.specs.Prelude.{ℕ, ◌+◌, List, Option, Some, None, slice_index}
use Rattle.c_tree.specs.NameLookup.{Seen, NoName, seen_at}
use Rattle.stack_code.specs.declared.seek.Found.{Found}
use Rattle.stack_code.specs.declared.seek.Home.{Home}
use Rattle.stack_code.specs.declared.seek.Home.TheVariants.{Global, ArrayParam}

abbrev pub place_by : Home → ℕ → ℕ → ℕ
place_by Global base slot = slot
place_by home base slot = base + slot

-- its place, where the innermost frame's words begin at this one
abbrev pub place_found : ℕ → Found → ℕ
place_found base f = place_by f.home base f.slot

abbrev pub array_by : Home → List ℕ → Option ℕ → ℕ → Option (ℕ × ℕ)
array_by ArrayParam words length place = Some (slice_index words place, slice_index words (place + 1))
array_by home words None place = None
array_by home words (Some n) place = Some (place, n)

-- the place and the length of an array; an array parameter keeps those of the caller's
abbrev pub array_found : List ℕ → Found → ℕ → Option (ℕ × ℕ)
array_found words f place = array_by f.home words f.length place

abbrev pub seen_found : List ℕ → ℕ → Found → Option ℕ → Seen
seen_found words base f index =
    seen_at words (place_found base f) (array_found words f (place_found base f)) f.of index

abbrev pub seen_by : List ℕ → ℕ → Option Found → Option ℕ → Seen
seen_by words base None index = NoName
seen_by words base (Some f) index = seen_found words base f index
