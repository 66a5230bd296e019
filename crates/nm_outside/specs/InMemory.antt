-- What the objects in memory hold.
use Rattle.std.specs.Prelude.{ℕ, suc, List, [], ◌∷◌, map, Vec, String, Option, string_bytes, vec_capacity}
use Rattle.std.specs.Option.{option_copied}
use Rattle.std.specs.FinMap.{from_entries}
use Rattle.std.specs.Borrow.{Bor}
use Rattle.std.specs.declared.alloc.Global.{Global}
use Rattle.nm_outside.specs.Files.{Files}

-- the files of a list; of two of one name the first
abbrev pub files_of : List (String Global × Vec ℕ Global) → Files
files_of files = from_entries (map (λ f. (string_bytes f.0, f.1.items)) files)

abbrev pub file_of : Option (Bor (List ℕ)) → Option (List ℕ)
file_of found = option_copied found

abbrev pub first_name : List (String Global × Vec ℕ Global) → List ℕ
first_name [] = []
first_name (f ∷ fs) = string_bytes f.0

abbrev pub first_bytes : List (String Global × Vec ℕ Global) → List ℕ
first_bytes [] = []
first_bytes (f ∷ fs) = f.1.items

-- one more than the bytes that the first file may have without more memory, and 0 where there is no file
abbrev pub first_room : List (String Global × Vec ℕ Global) → ℕ
first_room [] = 0
first_room (f ∷ fs) = suc (vec_capacity f.1)
