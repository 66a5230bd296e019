-- What is read of the code of all functions, where it is laid out.
use Rattle.std.proofs.Common.{◌≡◌, ℕ, zero, suc, ◌+◌, ◌<◌, ◌≤◌, Bool, true, false, List, [], ◌∷◌, ◌++◌, length, map, take, drop, get_or, Option, Some, None, refl, sym, ap, ◌∙◌, subst, arith, length-append}
use Rattle.std.proofs.lemmas.List.{map-append, length-map, length-drop, length-take-le, take-append-drop, drop-drop, drop_all}
use Rattle.std.specs.Prelude.{slice_get, IsTrue, ◌&&◌, ◌==◌, nat_le, not, is_none, option_map}
use Rattle.std.specs.List.{list_all}
use Rattle.std.proofs.lemmas.Bool.{leb-true, eqb-true}
use Rattle.stack_code.specs.declared.instr.Instr.{Instr}
use Rattle.stack_code.specs.declared.code.Variable.{Variable}
use Rattle.stack_code.specs.declared.layout.LaidFunction.{LaidFunction}
use Rattle.stack_code.specs.declared.layout.Layout.{Layout}
use Rattle.stack_code.specs.declared.seek.CodePlace.{CodePlace}
use Rattle.stack_code.specs.Code.{Placed, FunctionCode, entered_by, steps_by}
use Rattle.stack_code.specs.Blocks.{entered_in, table_of, placed_in, blocks_nest}
use Rattle.stack_code.specs.Layout.{slice_of, laid_function_of, functions_in, follow_from, is_part, is_laid_out, laid_view}
use Rattle.stack_code.specs.Together.{steps_together}
use Rattle.stack_code.specs.Valid.{is_within, is_fit_function, laid_out_from, words_of_all}
use Rattle.stack_code.specs.Seek.{found_among, found_by, IsPlaceIn}
use Rattle.stack_code.proofs.Tables.{Table, placed_entered, placed_length}

pub both : (a b : Bool) → (a && b) ≡ true → (a ≡ true) × (b ≡ true)
both true b h = (refl, h)
both false b h = cc

got : {A : Type 0} (xs : List A) (k : ℕ) (x : A) → k < length xs → x ≡ get_or xs k x → slice_get xs k ≡ Some x
got [] k x lt e = absurd (omega (arith, lt))
got (y ∷ ys) zero x lt e = ap Some (sym e)
got (y ∷ ys) (suc k) x lt e = got ys k x (omega (arith, lt)) e

get_map : {A B : Type 0} (g : A → B) (xs : List A) (k : ℕ) → slice_get (map g xs) k ≡ option_map g (slice_get xs k)
get_map g [] k = refl
get_map g (y ∷ ys) zero = refl
get_map g (y ∷ ys) (suc k) = get_map g ys k

all_at : {A : Type 0} (test : A → Bool) (xs : List A) (k : ℕ) (x : A) → list_all test xs ≡ true → slice_get xs k ≡ Some x → test x ≡ true
all_at test [] k x a h = cc
all_at test (y ∷ ys) zero x a h = let same : y ≡ x = cc in subst (λ z. test z ≡ true) same (both (test y) (list_all test ys) a).0
all_at test (y ∷ ys) (suc k) x a h = all_at test ys k x (both (test y) (list_all test ys) a).1 h

pub below_end : {A : Type 0} (xs : List A) (k : ℕ) (x : A) → slice_get xs k ≡ Some x → k < length xs
below_end [] k x h = cc
below_end (y ∷ ys) zero x h = omega arith
below_end (y ∷ ys) (suc k) x h = let r = below_end ys k x h in omega (arith, r)

-- ---- parts of lists

get_drop : {A : Type 0} (start : ℕ) (xs : List A) (k : ℕ) → slice_get (drop start xs) k ≡ slice_get xs (start + k)
get_drop zero xs k = let none : 0 + k ≡ k = omega arith in ap (slice_get xs) (sym none)
get_drop (suc s) [] k = refl
get_drop (suc s) (x ∷ xs) k = let one : suc s + k ≡ suc (s + k) = omega arith in get_drop s xs k ∙ ap (slice_get (x ∷ xs)) (sym one)

get_take : {A : Type 0} (len : ℕ) (xs : List A) (k : ℕ) → k < len → slice_get (take len xs) k ≡ slice_get xs k
get_take zero xs k h = absurd (omega (arith, h))
get_take (suc n) [] k h = refl
get_take (suc n) (x ∷ xs) zero h = refl
get_take (suc n) (x ∷ xs) (suc k) h = get_take n xs k (omega (arith, h))

get_slice : {A : Type 0} (start len : ℕ) (xs : List A) (k : ℕ) → k < len → slice_get (slice_of start len xs) k ≡ slice_get xs (start + k)
get_slice start len xs k h = get_take len (drop start xs) k h ∙ get_drop start xs k

pub slice_length : {A : Type 0} (start len : ℕ) (xs : List A) → start + len ≤ length xs → length (slice_of start len xs) ≡ len
slice_length start len xs h = length-take-le len (drop start xs) (omega (arith, h, length-drop start xs))

-- ---- the instructions of all functions

placed_instrs : (t : Table) (is : List Instr) (ns : List ℕ) → length ns ≡ length is → map (λ (x : Placed). x.instr) (placed_in t is ns) ≡ is
placed_instrs t [] ns e = refl
placed_instrs t (i ∷ is) [] e = absurd (omega (arith, e))
placed_instrs t (i ∷ is) (n ∷ ns) e = ap (λ l. i ∷ l) (placed_instrs t is ns (omega (arith, e)))

module _ (is : List Instr) (ns : List ℕ) (numbered : length ns ≡ length is) where
  abbrev of : LaidFunction → FunctionCode
  of f = laid_function_of is ns f

  module _ (f : LaidFunction) (fits : is_part ns f ≡ true) where
    abbrev known : Bool
    known = list_all (λ n. nat_le n (length f.blocks.items)) (slice_of f.start f.len ns)

    abbrev within : Bool
    within = nat_le (f.start + f.len) (length ns)

    pub ends_within : f.start + f.len ≤ length ns
    ends_within = leb-true (f.start + f.len) (length ns) (both within known (both (within && known) (blocks_nest 0 f.blocks.items) fits).0).0

    pub all_known : known ≡ true
    all_known = (both within known (both (within && known) (blocks_nest 0 f.blocks.items) fits).0).1

    pub nest_is : IsTrue (blocks_nest 0 f.blocks.items)
    nest_is = (both (within && known) (blocks_nest 0 f.blocks.items) fits).1

    slice_numbered : length (slice_of f.start f.len ns) ≡ length (slice_of f.start f.len is)
    slice_numbered =
        let e = ends_within in
        let a = slice_length f.start f.len ns e in
        let b = slice_length f.start f.len is (omega (arith, e, numbered)) in
        omega (arith, a, b)

    pub steps_count : length (of f).steps ≡ f.len
    steps_count =
        let e = ends_within in
        placed_length (table_of f.blocks.items) (slice_of f.start f.len is) (slice_of f.start f.len ns) slice_numbered
        ∙ slice_length f.start f.len is (omega (arith, e, numbered))

    steps_instrs : map (λ (x : Placed). x.instr) (of f).steps ≡ slice_of f.start f.len is
    steps_instrs = placed_instrs (table_of f.blocks.items) (slice_of f.start f.len is) (slice_of f.start f.len ns) slice_numbered

    module _ (place n : ℕ) (lt : place < f.len) (here : n ≡ get_or ns (f.start + place) n) where
      number_is : slice_get (slice_of f.start f.len ns) place ≡ Some n
      number_is = let e = ends_within in get_slice f.start f.len ns place lt ∙ got ns (f.start + place) n (omega (arith, lt, e)) here

      pub known_is : n ≤ length f.blocks.items
      known_is = leb-true n (length f.blocks.items) (all_at (λ m. nat_le m (length f.blocks.items)) (slice_of f.start f.len ns) place n all_known number_is)

      pub entered_is : entered_by (slice_get (of f).steps place) ≡ entered_in (table_of f.blocks.items) n
      entered_is = ap entered_by (placed_entered (table_of f.blocks.items) (slice_of f.start f.len is) (slice_of f.start f.len ns) place n slice_numbered number_is).1

  instrs_from : (fs : List LaidFunction) (place : ℕ) → follow_from place fs (length is) ≡ true → list_all (is_part ns) fs ≡ true → map (λ (x : Placed). x.instr) (steps_together (map of fs)) ≡ drop place is
  instrs_from [] place follow parts = let e = eqb-true place (length is) follow in sym (drop_all place is (omega (arith, e)))
  instrs_from (f ∷ fs) place follow parts =
      let h = both (f.start == place) (follow_from (place + f.len) fs (length is)) follow in
      let p = both (is_part ns f) (list_all (is_part ns) fs) parts in
      map-append (λ (x : Placed). x.instr) (of f).steps (steps_together (map of fs))
      ∙ ap (λ l. l ++ map (λ (x : Placed). x.instr) (steps_together (map of fs))) (steps_instrs f p.0 ∙ ap (λ s. slice_of s f.len is) (eqb-true f.start place h.0))
      ∙ ap (λ l. slice_of place f.len is ++ l) (instrs_from fs (place + f.len) h.1 p.1 ∙ sym (drop-drop f.len place is))
      ∙ take-append-drop f.len (drop place is)

  start_from : (fs : List LaidFunction) (place g : ℕ) (f : LaidFunction) → follow_from place fs (length is) ≡ true → list_all (is_part ns) fs ≡ true → slice_get fs g ≡ Some f
      → f.start ≡ place + length (steps_together (take g (map of fs)))
  start_from [] place g f follow parts here = cc
  start_from (x ∷ fs) place zero f follow parts here =
      let same : x ≡ f = cc in
      let e = eqb-true x.start place (both (x.start == place) (follow_from (place + x.len) fs (length is)) follow).0 in
      subst (λ (y : LaidFunction). y.start ≡ place + 0) same (omega (arith, e))
  start_from (x ∷ fs) place (suc g) f follow parts here =
      let h = both (x.start == place) (follow_from (place + x.len) fs (length is)) follow in
      let p = both (is_part ns x) (list_all (is_part ns) fs) parts in
      let r = start_from fs (place + x.len) g f h.1 p.1 here in
      let n = steps_count x p.0 in
      omega (arith, r, n, length-append (of x).steps (steps_together (take g (map of fs))))

-- ---- a layout

module _ (fs : List LaidFunction) (is : List Instr) (ns : List ℕ) (laid : IsTrue (is_laid_out fs is ns)) where
  abbrev seen : List FunctionCode
  seen = map (laid_function_of is ns) fs

  pub split : ((length ns == length is && follow_from 0 fs (length is)) ≡ true) × (list_all (is_part ns) fs ≡ true)
  split = both (length ns == length is && follow_from 0 fs (length is)) (list_all (is_part ns) fs) laid

  pub numbered_is : length ns ≡ length is
  numbered_is = eqb-true (length ns) (length is) (both (length ns == length is) (follow_from 0 fs (length is)) split.0).0

  pub follow_is : follow_from 0 fs (length is) ≡ true
  follow_is = (both (length ns == length is) (follow_from 0 fs (length is)) split.0).1

  instrs_are : map (λ (x : Placed). x.instr) (steps_together seen) ≡ is
  instrs_are = instrs_from is ns numbered_is fs 0 follow_is split.1

  pub all_count : length (steps_together seen) ≡ length is
  all_count = let e = ap length instrs_are in omega (arith, e, length-map (steps_together seen) (λ (x : Placed). x.instr))

  pub instr_read : (place : ℕ) (i : Instr) → place < length (steps_together seen) → i ≡ get_or is place i → option_map (λ (x : Placed). x.instr) (slice_get (steps_together seen) place) ≡ Some i
  instr_read place i h e =
      let n = all_count in
      sym (get_map (λ (x : Placed). x.instr) (steps_together seen) place)
      ∙ ap (λ (l : List Instr). slice_get l place) instrs_are
      ∙ got is place i (omega (arith, h, n)) e

  module _ (g : ℕ) (f : LaidFunction) (lt : g < length fs) (here : f ≡ get_or fs g f) where
    at : slice_get fs g ≡ Some f
    at = got fs g f lt here

    pub seen_at : slice_get seen g ≡ Some (laid_function_of is ns f)
    seen_at = get_map (laid_function_of is ns) fs g ∙ ap (option_map (laid_function_of is ns)) at

    pub part_at : is_part ns f ≡ true
    part_at = all_at (is_part ns) fs g f split.1 at

    pub steps_length : length (steps_by (slice_get seen g)) ≡ f.len
    steps_length = ap (λ o. length (steps_by o)) seen_at ∙ steps_count is ns numbered_is f part_at

    pub start_at : f.start ≡ length (steps_together (take g seen))
    start_at = let e = start_from is ns numbered_is fs 0 g f follow_is split.1 at in omega (arith, e)

    pub found_there : (place n : ℕ) → place < f.len → n ≡ get_or ns (f.start + place) n → (name : List ℕ)
        → found_by (slice_get seen g) place name ≡ found_among f.slots.items f.param_count (entered_in (table_of f.blocks.items) n) name
    found_there place n h e name =
        ap (λ o. found_by o place name) seen_at
        ∙ ap (λ b. found_among f.slots.items f.param_count b name) (entered_is is ns numbered_is f part_at place n h e)

    pub few_at : (main : ℕ) (texts : List (List ℕ)) (globals : List ℕ) (variables : List Variable) → IsTrue (is_within (record { functions = seen; main = main; texts = texts; globals = globals; variables = variables })) → f.param_count ≤ length f.slots.items
    few_at main texts globals variables h =
        let fit = all_at is_fit_function seen g (laid_function_of is ns f) (both _ (list_all is_fit_function seen) h).1 seen_at in
        let few = nat_le f.param_count (length f.slots.items) in
        let locals = list_all (λ (x : Variable). not x.array_param) (drop f.param_count f.slots.items) in
        let laid = laid_out_from 0 f.slots.items in
        let params = f.param_words == words_of_all (take f.param_count f.slots.items) in
        let frame = f.frame_words == words_of_all f.slots.items in
        let plain = list_all (λ (x : Variable). is_none x.length) (take f.param_count f.slots.items) in
        let h4 = (both (few && locals && laid && params && frame) plain fit).0 in
        let h3 = (both (few && locals && laid && params) frame h4).0 in
        let h2 = (both (few && locals && laid) params h3).0 in
        let h1 = (both (few && locals) laid h2).0 in
        leb-true f.param_count (length f.slots.items) (both few locals h1).0

  -- there is a function of that number, where it has steps
  pub has_function : (g place : ℕ) → place < length (steps_by (slice_get seen g)) → g < length fs
  has_function g place h = by fs g h
    where
      by : (xs : List LaidFunction) (k : ℕ) → place < length (steps_by (slice_get (map (laid_function_of is ns) xs) k)) → k < length xs
      by [] k h = absurd (omega (arith, h))
      by (x ∷ xs) zero h = omega arith
      by (x ∷ xs) (suc k) h = let r = by xs k h in omega (arith, r)

  pub all_within : (bound : ℕ) → ((k : ℕ) (f : LaidFunction) → slice_get fs k ≡ Some f → f.len ≤ bound) → (g : ℕ) → length (steps_by (slice_get seen g)) ≤ bound
  all_within bound h g = by (slice_get fs g) refl
    where
      by : (o : Option LaidFunction) → slice_get fs g ≡ o → length (steps_by (slice_get seen g)) ≤ bound
      by None e =
          let n : length (steps_by (slice_get seen g)) ≡ 0 = ap (λ o. length (steps_by o)) (get_map (laid_function_of is ns) fs g ∙ ap (option_map (laid_function_of is ns)) e) in
          omega (arith, n)
      by (Some f) e =
          let n : length (steps_by (slice_get seen g)) ≡ length (laid_function_of is ns f).steps =
          ap (λ o. length (steps_by o)) (get_map (laid_function_of is ns) fs g ∙ ap (option_map (laid_function_of is ns)) e) in
          let c = steps_count is ns numbered_is f (all_at (is_part ns) fs g f split.1 e) in
          let b = h g f e in
          omega (arith, n, c, b)

pub function_in : (l : Layout) (main : ℕ) (texts : List (List ℕ)) (globals : List ℕ) (variables : List Variable) (there : Option CodePlace) (p : CodePlace) → there ≡ Some p
    → IsPlaceIn (laid_view l main texts globals variables) there → (p.function < length l.functions.items) × (p.place < length (steps_by (slice_get (functions_in l) p.function)))
function_in l main texts globals variables there p e h =
    let h2 : IsPlaceIn (laid_view l main texts globals variables) (Some p) = subst (IsPlaceIn (laid_view l main texts globals variables)) e h in
    let lt = h2.0 in
    (omega (arith, lt, length-map l.functions.items (laid_function_of l.instrs.items l.inside.items)), h2.1)
