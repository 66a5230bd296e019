-- Where names were declared.
use Rattle.std.specs.Prelude.{◌≡◌, ℕ, suc, Bool, if◌then◌else◌, List, [], ◌∷◌, ◌++◌, map, Option, Some, None, unwrap_or}
use Rattle.std.specs.declared.alloc.Global.{Global}
use Rattle.std.specs.declared.vec.Vec.{Vec}
use Rattle.std.specs.Ordering.{nat_cmp}
use Rattle.std.specs.Cmp.Lexicographic.{slice_cmp}
use Rattle.std.specs.BTreeMap.{BTreeMap, get_by}
use Rattle.std.specs.Str.{bytes_eq}
use Rattle.c_checker.specs.declared.entries.Entry.{Entry}
use Rattle.c_checker.specs.declared.entries.Held.{Held}

-- one place further on, or here
abbrev pub later : Option ℕ → Bool → Option ℕ
later (Some k) here = Some (suc k)
later None here = if here then Some 0 else None

-- the place of the last entry with a name
abbrev pub place : List ℕ → List Entry → Option ℕ
place name [] = None
place name (e ∷ es) = later (place name es) (bytes_eq e.name name)

-- For each entry, the place of the last one of its name before it, after those before them.
abbrev pub hidden_after : List Entry → List Entry → List (Option ℕ)
hidden_after before [] = []
hidden_after before (e ∷ es) = place e.name before ∷ hidden_after (before ++ e ∷ []) es

-- the place under a name
abbrev pub place_in : BTreeMap (Vec ℕ Global) (Option ℕ) → List ℕ → Option ℕ
place_in places name = unwrap_or (get_by (λ k. slice_cmp nat_cmp name k.items) places) None

-- the entries without the places
abbrev pub entries_of : List Held → List Entry
entries_of held = map (λ h. h.entry) held

-- Each entry has the place that it hides, and each name its last place.
pub record Keeps (held : List Held) (map_of : BTreeMap (Vec ℕ Global) (Option ℕ)) : Type 0 where
  pub hides : map (λ h. h.hides) held ≡ hidden_after [] (entries_of held)
  pub places : (name : List ℕ) → place_in map_of name ≡ place name (entries_of held)
