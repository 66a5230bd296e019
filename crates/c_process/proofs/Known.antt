-- What a name denotes in a program is declared there.
use Rattle.std.proofs.Common.{◌≡◌, ℕ, zero, suc, ◌+◌, Bool, true, false, List, [], ◌∷◌, ◌++◌, Option, Some, None, refl, ap, ◌∙◌, arith}
use Rattle.std.specs.Prelude.{slice_get, if◌then◌else◌}
use Rattle.std.specs.Str.{bytes_eq}
use Rattle.c_tree.specs.declared.program.Global.{Global}
use Rattle.c_tree.specs.declared.program.Function.{Function}
use Rattle.c_tree.specs.declared.program.Slot.{Slot}
use Rattle.c_tree.specs.declared.program.Target.{Target}
use Rattle.c_tree.specs.declared.program.Target.TheVariants.{Global as AGlobal, Slot as ASlot}
use Rattle.c_tree.specs.Expr.{slots_of}
use Rattle.c_tree.specs.NameLookup.{Variable, or_else, slot_if, in_block, in_blocks, in_params, in_globals, in_function, slots_of_function}

-- ---- globals

module _ (globals : List Global) where
  abbrev pub GlobalAt : Target → Type 0
  GlobalAt (AGlobal i) = (g : Global) × (slice_get globals i ≡ Some g)
  GlobalAt (ASlot i) = ⊥

  abbrev pub IsGlobal : Option Variable → Type 0
  IsGlobal None = Unit {0}
  IsGlobal (Some v) = GlobalAt v.what

  -- these are the globals from a number on
  abbrev From : ℕ → List Global → Type 0
  From number xs = (k : ℕ) (g : Global) → slice_get xs k ≡ Some g → slice_get globals (number + k) ≡ Some g

  from_later : (number : ℕ) (x : Global) (xs : List Global) → From number (x ∷ xs) → From (number + 1) xs
  from_later number x xs h k g is =
      let same : number + 1 + k ≡ number + suc k = omega arith in
      ap (slice_get globals) same ∙ h (suc k) g is

  found_from : (name : List ℕ) (number : ℕ) (xs : List Global) → From number xs → IsGlobal (in_globals name number xs)
  found_from name number [] h = tt
  found_from name number (x ∷ xs) h = by (bytes_eq name x.name) (found_from name (number + 1) xs (from_later number x xs h))
    where
      here : number ≡ number + 0
      here = omega arith

      by : (t : Bool) → IsGlobal (in_globals name (number + 1) xs) → IsGlobal (if t then Some (record { what = AGlobal number; of = x.of }) else in_globals name (number + 1) xs)
      by true later = (x, ap (slice_get globals) here ∙ h 0 x refl)
      by false later = later

  all_from : From 0 globals
  all_from k g is = let same : 0 + k ≡ k = omega arith in ap (slice_get globals) same ∙ is

  pub global_known : (name : List ℕ) → IsGlobal (in_globals name 0 globals)
  global_known name = found_from name 0 globals all_from

-- ---- in a function

module _ (globals : List Global) (slots : List Slot) where
  abbrev pub KnownAt : Target → Type 0
  KnownAt (AGlobal i) = (g : Global) × (slice_get globals i ≡ Some g)
  KnownAt (ASlot i) = (x : Slot) × (slice_get slots i ≡ Some x)

  abbrev pub IsKnown : Option Variable → Type 0
  IsKnown None = Unit {0}
  IsKnown (Some v) = KnownAt v.what

  target_known : (t : Target) → GlobalAt globals t → KnownAt t
  target_known (AGlobal i) h = h
  target_known (ASlot i) h = absurd h

  pub known_global : (v : Option Variable) → IsGlobal globals v → IsKnown v
  known_global None h = tt
  known_global (Some v) h = target_known v.what h

  pub known_or : (a b : Option Variable) → IsKnown a → IsKnown b → IsKnown (or_else a b)
  known_or None b h k = k
  known_or (Some x) b h k = h

  slot_known : (name : List ℕ) (i : ℕ) (o : Option Slot) → slice_get slots i ≡ o → IsKnown (slot_if name i o)
  slot_known name i None is = tt
  slot_known name i (Some x) is = by (bytes_eq name x.name)
    where
      by : (t : Bool) → IsKnown (if t then Some (record { what = ASlot i; of = x.of }) else None)
      by true = (x, is)
      by false = tt

  block_known : (name : List ℕ) (block : List ℕ) → IsKnown (in_block slots name block)
  block_known name [] = tt
  block_known name (i ∷ more) = known_or (slot_if name i (slice_get slots i)) (in_block slots name more) (slot_known name i (slice_get slots i) refl) (block_known name more)

  pub blocks_known : (name : List ℕ) (blocks : List (List ℕ)) → IsKnown (in_blocks slots name blocks)
  blocks_known name [] = tt
  blocks_known name (b ∷ more) = known_or (in_block slots name b) (in_blocks slots name more) (block_known name b) (blocks_known name more)

  -- these are the slots from a number on
  abbrev SlotsFrom : ℕ → List Slot → Type 0
  SlotsFrom number xs = (k : ℕ) (x : Slot) → slice_get xs k ≡ Some x → slice_get slots (number + k) ≡ Some x

  slots_later : (number : ℕ) (x : Slot) (xs : List Slot) → SlotsFrom number (x ∷ xs) → SlotsFrom (number + 1) xs
  slots_later number x xs h k y is =
      let same : number + 1 + k ≡ number + suc k = omega arith in
      ap (slice_get slots) same ∙ h (suc k) y is

  pub params_known : (name : List ℕ) (number : ℕ) (xs : List Slot) → SlotsFrom number xs → IsKnown (in_params name number xs)
  params_known name number [] h = tt
  params_known name number (x ∷ xs) h =
      let here : number ≡ number + 0 = omega arith in
      known_or (slot_if name number (Some x)) (in_params name (number + 1) xs) (slot_known name number (Some x) (ap (slice_get slots) here ∙ h 0 x refl))
      (params_known name (number + 1) xs (slots_later number x xs h))

left : (xs ys : List Slot) (k : ℕ) (x : Slot) → slice_get xs k ≡ Some x → slice_get (xs ++ ys) (0 + k) ≡ Some x
left [] ys k x is = cc
left (y ∷ xs) ys zero x is = is
left (y ∷ xs) ys (suc k) x is =
    let same : 0 + suc k ≡ suc (0 + k) = omega arith in
    ap (slice_get (y ∷ xs ++ ys)) same ∙ left xs ys k x is

module _ (globals : List Global) (name : List ℕ) where
  function_known : (entered : List (List ℕ)) (o : Option Function) → IsKnown globals (slots_of_function o) (in_function name entered o)
  function_known entered None = tt
  function_known entered (Some f) =
      known_or globals (slots_of f) (in_blocks (slots_of f) name entered) (in_params name 0 f.params) (blocks_known globals (slots_of f) name entered)
      (params_known globals (slots_of f) name 0 f.params (left f.params f.locals))

  -- a name in the blocks, the parameters and the globals
  pub name_known : (entered : List (List ℕ)) (o : Option Function) → IsKnown globals (slots_of_function o) (or_else (in_function name entered o) (in_globals name 0 globals))
  name_known entered o =
      known_or globals (slots_of_function o) (in_function name entered o) (in_globals name 0 globals) (function_known entered o)
      (known_global globals (slots_of_function o) (in_globals name 0 globals) (global_known globals name))
