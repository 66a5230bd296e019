-- The files of a cabinet in memory, where the first of them grows.
use Rattle.std.proofs.Common.{◌≡◌, ℕ, ◌+◌, ◌<◌, ◌≤◌, Bool, true, false, cond, List, [], ◌∷◌, ◌++◌, length, set, get_or, Option, None, Some, Vec, Global, string_bytes, refl, sym, ap, ◌∙◌, subst, arith, append_assoc}
use Rattle.std.specs.Prelude.{unwrap_or, IsSome}
use Rattle.std.specs.Ordering.{nat_cmp, eq_by_cmp}
use Rattle.std.specs.Cmp.Lexicographic.{slice_cmp, nat_list_cmp_total}
use Rattle.std.proofs.lemmas.Cmp.{eq_by_cmp_equiv}
use Rattle.std.specs.FinMap.{get, insert, get-insert, same_map, nat_cmp-IsAntisymmetric, slice_cmp-IsAntisymmetric}
use Rattle.nm_outside.specs.Files.{Files, file_in, emptied, extended, HasRoom}
use Rattle.nm_outside.specs.Failing.{kept_within, part_of}
use Rattle.nm_outside.specs.InMemory.{files_of, first_name, first_bytes, first_room}
use Rattle.nm_outside.proofs.NameSearch.{File}

same_files : (m n : Files) → ((q : List ℕ) → get m q ≡ get n q) → m ≡ n
same_files = same_map nat_list_cmp_total (slice_cmp-IsAntisymmetric nat_cmp-IsAntisymmetric)

chosen_twice : (b : Bool) (v w : List ℕ) (x : Option (List ℕ)) → cond b (Some w) (cond b (Some v) x) ≡ cond b (Some w) x
chosen_twice true v w x = refl
chosen_twice false v w x = refl

-- of two values for one name the second counts
pub insert_twice : (m : Files) (name v w : List ℕ) → insert (insert m name v) name w ≡ insert m name w
insert_twice m name v w =
    same_files _ _ (λ q. get-insert nat_list_cmp_total (insert m name v) name w q
    ∙ ap (cond (eq_by_cmp (slice_cmp nat_cmp) q name) (Some w)) (get-insert nat_list_cmp_total m name v q)
    ∙ chosen_twice (eq_by_cmp (slice_cmp nat_cmp) q name) v w (get m q)
    ∙ sym (get-insert nat_list_cmp_total m name w q))

is_itself : (name : List ℕ) → eq_by_cmp (slice_cmp nat_cmp) name name ≡ true
is_itself name = (eq_by_cmp_equiv nat_list_cmp_total).refl name

pub get_inserted : (m : Files) (name v : List ℕ) → get (insert m name v) name ≡ Some v
get_inserted m name v = get-insert nat_list_cmp_total m name v name ∙ ap (λ b. cond b (Some v) (get m name)) (is_itself name)

-- the first file's bytes count for its name
pub first_held : (fs : List File) (f : File) → 0 < length fs → f ≡ get_or fs 0 f → get (files_of fs) (first_name fs) ≡ Some f.1.items
first_held [] f some is = absurd (omega arith)
first_held (g ∷ fs) f some is = get_inserted (files_of fs) (string_bytes g.0) g.1.items ∙ ap (λ (h : File). Some h.1.items) (sym is)

pub bytes_first : (fs : List File) (f : File) → 0 < length fs → f ≡ get_or fs 0 f → first_bytes fs ≡ f.1.items
bytes_first [] f some is = absurd (omega arith)
bytes_first (g ∷ fs) f some is = ap (λ (h : File). h.1.items) (sym is)

-- the first file has a piece more
pub first_grown : (fs : List File) (f : File) (v : Vec ℕ Global) (piece : List ℕ) → 0 < length fs → f ≡ get_or fs 0 f → v.items ≡ f.1.items ++ piece
    → Some (files_of (set fs 0 (f.0, v))) ≡ extended (Some (files_of fs)) (first_name fs) piece
first_grown [] f v piece some is grown = absurd (omega arith)
first_grown (g ∷ fs) f v piece some is grown =
    let name = string_bytes g.0 in
    let held : unwrap_or (get (files_of (g ∷ fs)) name) [] ≡ f.1.items = ap (λ o. unwrap_or o []) (first_held (g ∷ fs) f some is) in
    let same_name : string_bytes f.0 ≡ name = ap (λ (h : File). string_bytes h.0) is in
    ap (λ (n : List ℕ). Some (insert (files_of fs) n v.items)) same_name
    ∙ ap (λ (b : List ℕ). Some (insert (files_of fs) name b)) (grown ∙ ap (λ (b : List ℕ). b ++ piece) (sym held))
    ∙ ap Some (sym (insert_twice (files_of fs) name g.1.items (unwrap_or (get (files_of (g ∷ fs)) name) [] ++ piece)))

-- what is kept of a piece, by the first file's bytes
pub same_part : (room : ℕ) (fs : List File) (f : File) (piece : List ℕ) (failing asked : Option ℕ) → 0 < length fs → f ≡ get_or fs 0 f → failing ≡ asked
    → kept_within room f.1.items piece failing ≡ kept_within room (first_bytes fs) piece asked
same_part room fs f piece failing asked some is same =
    ap (λ (b : List ℕ). kept_within room b piece failing) (sym (bytes_first fs f some is)) ∙ ap (kept_within room (first_bytes fs) piece) same

-- an append that keeps what it is to keep
pub appended : (room : ℕ) (fs : List File) (f : File) (v : Vec ℕ Global) (piece : List ℕ) (failing asked : Option ℕ) → 0 < length fs → f ≡ get_or fs 0 f → failing ≡ asked
    → v.items ≡ f.1.items ++ part_of piece (kept_within room f.1.items piece failing)
    → Some (files_of (set fs 0 (f.0, v))) ≡ extended (Some (files_of fs)) (first_name fs) (part_of piece (kept_within room (first_bytes fs) piece asked))
appended room fs f v piece failing asked some is same grown =
    first_grown fs f v (part_of piece (kept_within room f.1.items piece failing)) some is grown
    ∙ ap (λ o. extended (Some (files_of fs)) (first_name fs) (part_of piece o)) (same_part room fs f piece failing asked some is same)

pub some_file : (b : Bool) (room : ℕ) (fs : List File) → b ≡ true → cond b (room + 1) 0 ≤ first_room fs → 0 < length fs
some_file false room fs is fits = absurd cc
some_file true room [] is fits = absurd (omega arith)
some_file true room (f ∷ fs) is fits = omega arith

-- what has room tells it
pub told_room : (b : Bool) (room : ℕ) (file : Option (List ℕ)) (bytes piece : List ℕ) → file ≡ Some bytes → HasRoom (cond b (Some room) None) file piece
    → (b ≡ true) × (length bytes + length piece ≤ room)
told_room false room file bytes piece is fits = absurd fits
told_room true room None bytes piece is fits = absurd fits
told_room true room (Some b) bytes piece is fits = (refl, (let same : b ≡ bytes = cc in subst (λ (x : List ℕ). length x + length piece ≤ room) same fits))

-- a new file has its room
pub begun_room : (files mid : Option Files) (name open_name : List ℕ) (room mid_room : Option ℕ) (piece : List ℕ) → IsSome files → mid ≡ emptied files name → (IsSome mid → open_name ≡ name) → mid_room ≡ room
    → HasRoom room (Some []) piece → HasRoom mid_room (file_in mid open_name) piece
begun_room None mid name open_name room mid_room piece told is named same fits = absurd cc
begun_room (Some fs) mid name open_name room mid_room piece told is named same fits =
    let here : IsSome mid = subst (λ (m : Option Files). IsSome m) (sym is) told in
    let held : file_in mid open_name ≡ Some [] = ap (λ (m : Option Files). file_in m open_name) is ∙ ap (get (insert fs name [])) (named here) ∙ get_inserted fs name [] in
    subst (λ (r : Option ℕ). HasRoom r (file_in mid open_name) piece) (sym same) (subst (λ (f : Option (List ℕ)). HasRoom room f piece) (sym held) fits)

-- two pieces, one after the other, are one piece
pub extended_twice : (files : Option Files) (name a b : List ℕ) → extended (extended files name a) name b ≡ extended files name (a ++ b)
extended_twice None name a b = refl
extended_twice (Some fs) name a b =
    let old = unwrap_or (get fs name) [] in
    ap (λ (o : Option (List ℕ)). Some (insert (insert fs name (old ++ a)) name (unwrap_or o [] ++ b))) (get_inserted fs name (old ++ a))
    ∙ ap Some (insert_twice fs name (old ++ a) ((old ++ a) ++ b))
    ∙ ap (λ (xs : List ℕ). Some (insert fs name xs)) (append_assoc old a b)

-- a new file holds the piece that was put into it
pub begun_file : (files : Files) (name a : List ℕ) → file_in (extended (emptied (Some files) name) name a) name ≡ Some a
begun_file files name a =
    ap (λ (o : Option (List ℕ)). file_in (Some (insert (insert files name []) name (unwrap_or o [] ++ a))) name) (get_inserted files name [])
    ∙ get_inserted (insert files name []) name a

-- the named file has the piece at its end
pub grown_file : (files : Option Files) (name piece b : List ℕ) → file_in files name ≡ Some b → file_in (extended files name piece) name ≡ Some (b ++ piece)
grown_file None name piece b held = absurd cc
grown_file (Some fs) name piece b held =
    get_inserted fs name (unwrap_or (get fs name) [] ++ piece) ∙ ap (λ (o : Option (List ℕ)). Some (unwrap_or o [] ++ piece)) held
