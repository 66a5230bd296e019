-- The code of a checked program keeps the limits, and lays out the variables.
use Rattle.std.proofs.Common.{◌≡◌, ℕ, zero, suc, ◌+◌, ◌*◌, ◌≤◌, Bool, true, false, List, [], ◌∷◌, ◌++◌, map, length, take, drop, Option, Some, None, refl, sym, ap, ◌∙◌, subst, arith, length-append}
use Rattle.std.specs.Prelude.{◌&&◌, ◌||◌, ◌==◌, not, nat_lt, nat_le, replicate, slice_get, is_none, unwrap_or}
use Rattle.std.specs.List.{list_all, list_any}
use Rattle.std.proofs.lemmas.Bool.{eq-eqb, leb-true, le-leb}
use Rattle.nm_base.specs.declared.limits.TheConstants.{MAX_DATA_WORDS}
use Rattle.c_tree.specs.declared.program.Global.{Global}
use Rattle.c_tree.specs.declared.program.Slot.{Slot}
use Rattle.c_tree.specs.declared.program.Function.{Function}
use Rattle.c_tree.specs.Storage.{words_of_global, words_of_slot, words_of, words_before, first_words}
use Rattle.c_tree.specs.Expr.{slots_of}
use Rattle.c_tree.specs.Checks as check
use Rattle.c_tree.specs.Checks.{is_name, is_size, param_fits, local_fits, main_fits, is_checked}
use Rattle.stack_code.specs.declared.code.Variable.{Variable}
use Rattle.stack_code.specs.Code.{FunctionCode, params_of}
use Rattle.stack_code.specs.Valid.{operands_of, words_of_all, laid_out_from, is_scalar_at, is_array_at, is_array_param_at, is_whole_at}
use Rattle.stack_code.specs.Valid.{is_length, is_fit_function, is_main, is_within}
use Rattle.c_compile.specs.Variables.{variable_of_global, variable_of_slot, globals_from, slots_from}
use Rattle.c_compile.specs.StmtCode.{function_code, program_code}
use Rattle.c_compile.proofs.Parts.{both_true}
use Rattle.c_compile.proofs.Sorts.{and_true}
use Rattle.c_compile.proofs.CheckFacts.{function_facts, program_facts}
use Rattle.c_compile.proofs.ExprStacks.{passed, param_operands}

-- ---- where variables lie

or_left : (a b : Bool) → a ≡ true → (a || b) ≡ true
or_left true b h = refl
or_left false b h = cc

or_right : (a b : Bool) → b ≡ true → (a || b) ≡ true
or_right true b h = refl
or_right false b h = h

-- a test that a global meets at its place
pub global_at :
    (t : ℕ → Variable → Bool) (gs : List Global) (base i : ℕ) (g : Global) → slice_get gs i ≡ Some g → ((place : ℕ) → t place (variable_of_global place g) ≡ true)
    → list_any (t (base + words_before words_of_global gs i)) (globals_from base gs) ≡ true
global_at t [] base i g e h = cc
global_at t (x ∷ gs) base zero g e h =
    let same : x ≡ g = cc in
    let n : base + 0 ≡ base = omega arith in
    or_left _ _ (subst (λ k. t k (variable_of_global base x) ≡ true) (sym n) (subst (λ y. t base (variable_of_global base y) ≡ true) (sym same) (h base)))
global_at t (x ∷ gs) base (suc i) g e h =
    let n : base + (words_of_global x + words_before words_of_global gs i) ≡ base + words_of_global x + words_before words_of_global gs i = omega arith in
    or_right _ _ (subst (λ k. list_any (t k) (globals_from (base + words_of_global x) gs) ≡ true) (sym n) (global_at t gs (base + words_of_global x) i g e h))

pub slot_at :
    (t : ℕ → Variable → Bool) (xs : List Slot) (base i : ℕ) (x : Slot) → slice_get xs i ≡ Some x → ((place : ℕ) → t place (variable_of_slot place x) ≡ true)
    → list_any (t (base + words_before words_of_slot xs i)) (slots_from base xs) ≡ true
slot_at t [] base i x e h = cc
slot_at t (y ∷ xs) base zero x e h =
    let same : y ≡ x = cc in
    let n : base + 0 ≡ base = omega arith in
    or_left _ _ (subst (λ k. t k (variable_of_slot base y) ≡ true) (sym n) (subst (λ z. t base (variable_of_slot base z) ≡ true) (sym same) (h base)))
slot_at t (y ∷ xs) base (suc i) x e h =
    let n : base + (words_of_slot y + words_before words_of_slot xs i) ≡ base + words_of_slot y + words_before words_of_slot xs i = omega arith in
    or_right _ _ (subst (λ k. list_any (t k) (slots_from (base + words_of_slot y) xs) ≡ true) (sym n) (slot_at t xs (base + words_of_slot y) i x e h))

itself : (n : ℕ) → (n == n) ≡ true
itself n = eq-eqb n n refl

of_none : (o : Option ℕ) → o ≡ None → is_none o ≡ true
of_none None h = refl
of_none (Some n) h = cc

of_some : (n : ℕ) (o : Option ℕ) → o ≡ Some n → is_length n o ≡ true
of_some n None h = cc
of_some n (Some m) h = let same : m ≡ n = cc in eq-eqb m n same

of_false : (b : Bool) → b ≡ false → not b ≡ true
of_false true h = cc
of_false false h = refl

module _ (gs : List Global) where
  from_zero :
      (t : ℕ → Variable → Bool) (i : ℕ) (g : Global) → slice_get gs i ≡ Some g → ((place : ℕ) → t place (variable_of_global place g) ≡ true)
      → list_any (t (words_before words_of_global gs i)) (globals_from 0 gs) ≡ true
  from_zero t i g e h =
      let n : 0 + words_before words_of_global gs i ≡ words_before words_of_global gs i = omega arith in
      subst (λ k. list_any (t k) (globals_from 0 gs) ≡ true) n (global_at t gs 0 i g e h)

  pub scalar_global : (i : ℕ) (g : Global) → slice_get gs i ≡ Some g → g.length ≡ None → list_any (is_scalar_at (words_before words_of_global gs i)) (globals_from 0 gs) ≡ true
  scalar_global i g e h = from_zero is_scalar_at i g e (λ place. and_true _ _ (and_true _ _ (itself place) refl) (of_none g.length h))

  pub array_global : (i n : ℕ) (g : Global) → slice_get gs i ≡ Some g → g.length ≡ Some n → list_any (is_array_at (words_before words_of_global gs i) n) (globals_from 0 gs) ≡ true
  array_global i n g e h = from_zero (λ place. is_array_at place n) i g e (λ place. and_true _ _ (and_true _ _ (itself place) refl) (of_some n g.length h))

module _ (xs : List Slot) where
  slot_from_zero :
      (t : ℕ → Variable → Bool) (i : ℕ) (x : Slot) → slice_get xs i ≡ Some x → ((place : ℕ) → t place (variable_of_slot place x) ≡ true)
      → list_any (t (words_before words_of_slot xs i)) (slots_from 0 xs) ≡ true
  slot_from_zero t i x e h =
      let n : 0 + words_before words_of_slot xs i ≡ words_before words_of_slot xs i = omega arith in
      subst (λ k. list_any (t k) (slots_from 0 xs) ≡ true) n (slot_at t xs 0 i x e h)

  pub scalar_slot : (i : ℕ) (x : Slot) → slice_get xs i ≡ Some x → x.array_param ≡ false → x.length ≡ None → list_any (is_scalar_at (words_before words_of_slot xs i)) (slots_from 0 xs) ≡ true
  scalar_slot i x e h g = slot_from_zero is_scalar_at i x e (λ place. and_true _ _ (and_true _ _ (itself place) (of_false x.array_param h)) (of_none x.length g))

  pub array_slot : (i n : ℕ) (x : Slot) → slice_get xs i ≡ Some x → x.array_param ≡ false → x.length ≡ Some n → list_any (is_array_at (words_before words_of_slot xs i) n) (slots_from 0 xs) ≡ true
  array_slot i n x e h g = slot_from_zero (λ place. is_array_at place n) i x e (λ place. and_true _ _ (and_true _ _ (itself place) (of_false x.array_param h)) (of_some n x.length g))

  pub array_param : (i : ℕ) (x : Slot) → slice_get xs i ≡ Some x → x.array_param ≡ true → list_any (is_array_param_at (words_before words_of_slot xs i)) (slots_from 0 xs) ≡ true
  array_param i x e h = slot_from_zero is_array_param_at i x e (λ place. and_true _ _ (itself place) h)

  pub whole_slot : (i : ℕ) (x : Slot) → slice_get xs i ≡ Some x → x.array_param ≡ false → list_any (is_whole_at (words_before words_of_slot xs i) (words_of_slot x)) (slots_from 0 xs) ≡ true
  whole_slot i x e h = slot_from_zero (λ place. is_whole_at place (words_of_slot x)) i x e (λ place. and_true _ _ (and_true _ _ (itself place) (of_false x.array_param h)) (itself (words_of_slot x)))

-- ---- parameters

pub take_params : (ps ls : List Slot) (base : ℕ) → take (length ps) (slots_from base (ps ++ ls)) ≡ slots_from base ps
take_params [] ls base = refl
take_params (p ∷ ps) ls base = ap (λ l. variable_of_slot base p ∷ l) (take_params ps ls (base + words_of_slot p))

pub param_operands_are : (ps : List Slot) (base : ℕ) → operands_of (slots_from base ps) ≡ param_operands ps
param_operands_are [] base = refl
param_operands_are (p ∷ ps) base = ap (passed p.array_param) (param_operands_are ps (base + words_of_slot p))

-- ---- limits

slots_laid : (xs : List Slot) (base : ℕ) → laid_out_from base (slots_from base xs) ≡ true
slots_laid [] base = refl
slots_laid (x ∷ xs) base = and_true _ _ (itself base) (slots_laid xs (base + words_of_slot x))

slots_words : (xs : List Slot) (base : ℕ) → words_of_all (slots_from base xs) ≡ words_of words_of_slot xs
slots_words [] base = refl
slots_words (x ∷ xs) base = ap (λ n. words_of_slot x + n) (slots_words xs (base + words_of_slot x))

slots_count : (xs : List Slot) (base : ℕ) → length (slots_from base xs) ≡ length xs
slots_count [] base = refl
slots_count (x ∷ xs) base = ap suc (slots_count xs (base + words_of_slot x))

globals_laid : (gs : List Global) (base : ℕ) → laid_out_from base (globals_from base gs) ≡ true
globals_laid [] base = refl
globals_laid (g ∷ gs) base = and_true _ _ (itself base) (globals_laid gs (base + words_of_global g))

globals_words : (gs : List Global) (base : ℕ) → words_of_all (globals_from base gs) ≡ words_of words_of_global gs
globals_words [] base = refl
globals_words (g ∷ gs) base = ap (λ n. words_of_global g + n) (globals_words gs (base + words_of_global g))

no_array_params : (gs : List Global) (base : ℕ) → list_all (λ x. not x.array_param) (globals_from base gs) ≡ true
no_array_params [] base = refl
no_array_params (g ∷ gs) base = no_array_params gs (base + words_of_global g)

replicate_length : (n x : ℕ) → length (replicate n x) ≡ n
replicate_length zero x = refl
replicate_length (suc n) x = ap suc (replicate_length n x)

first_length : (gs : List Global) → length (first_words gs) ≡ words_of words_of_global gs
first_length [] = refl
first_length (g ∷ gs) = omega (arith, length-append (replicate (words_of_global g) g.start) (first_words gs), replicate_length (words_of_global g) g.start, first_length gs)

-- no local is a parameter that names an array
locals_only : (ps ls : List Slot) (base : ℕ) → list_all local_fits ls ≡ true → list_all (λ x. not x.array_param) (drop (length ps) (slots_from base (ps ++ ls))) ≡ true
locals_only [] [] base h = refl
locals_only [] (x ∷ ls) base h =
    let b = both_true (local_fits x) (list_all local_fits ls) h in
    and_true _ _ (both_true _ (not x.array_param) b.0).1 (locals_only [] ls (base + words_of_slot x) b.1)
locals_only (p ∷ ps) ls base h = locals_only ps ls (base + words_of_slot p) h

-- no parameter has a length of its own
params_only : (ps : List Slot) (base : ℕ) → list_all param_fits ps ≡ true → list_all (λ x. is_none x.length) (slots_from base ps) ≡ true
params_only [] base h = refl
params_only (x ∷ xs) base h =
    let b = both_true (param_fits x) (list_all param_fits xs) h in
    let parts = both_true (is_name x.name && is_none x.length) (x.block == 0) b.0 in
    and_true _ _ (both_true (is_name x.name) (is_none x.length) parts.0).1 (params_only xs (base + words_of_slot x) b.1)

module _ (globals : List Global) (functions : List Function) (texts : List (List ℕ)) where
  abbrev compiled : Function → FunctionCode
  compiled f = function_code globals functions texts f

  pub params_are : (f : Function) → params_of (compiled f) ≡ slots_from 0 f.params
  params_are f = take_params f.params f.locals 0

  fit_function : (f : Function) → check.function_fits globals functions texts f ≡ true → is_fit_function (compiled f) ≡ true
  fit_function f h =
      let facts = function_facts globals functions texts f h in
      let count = slots_count (slots_of f) 0 in
      let few : length f.params ≤ length (slots_from 0 (slots_of f)) = omega (arith, count, length-append f.params f.locals) in
      let params : words_of words_of_slot f.params ≡ words_of_all (params_of (compiled f)) = sym (ap words_of_all (params_are f) ∙ slots_words f.params 0) in
      let frame : words_of words_of_slot (slots_of f) ≡ words_of_all (slots_from 0 (slots_of f)) = sym (slots_words (slots_of f) 0) in
      let no_lengths : list_all (λ x. is_none x.length) (params_of (compiled f)) ≡ true = ap (list_all (λ x. is_none x.length)) (params_are f) ∙ params_only f.params 0 facts.params in
      let laid = and_true _ _ (and_true _ _ (le-leb _ _ few) (locals_only f.params f.locals 0 facts.locals)) (slots_laid (slots_of f) 0) in
      and_true _ _ (and_true _ _ (and_true _ _ laid (eq-eqb _ _ params)) (eq-eqb _ _ frame)) no_lengths

  fit_functions : (fs : List Function) → list_all (check.function_fits globals functions texts) fs ≡ true → list_all is_fit_function (map compiled fs) ≡ true
  fit_functions [] h = refl
  fit_functions (f ∷ fs) h =
      let b = both_true (check.function_fits globals functions texts f) (list_all (check.function_fits globals functions texts) fs) h in
      and_true _ _ (fit_function f b.0) (fit_functions fs b.1)

  map_length : (fs : List Function) → length (map compiled fs) ≡ length fs
  map_length [] = refl
  map_length (f ∷ fs) = ap suc (map_length fs)

  -- the function at main's number has no parameters
  main_is : (fs : List Function) (i : ℕ) → main_fits globals functions texts (slice_get fs i) ≡ true → is_main (slice_get (map compiled fs) i) ≡ true
  main_is [] i h = cc
  main_is (f ∷ fs) zero h = (both_true _ _ h).0
  main_is (f ∷ fs) (suc i) h = main_is fs i h

  pub checked_within : (main : ℕ) → is_checked globals functions texts main ≡ true → is_within (program_code globals functions texts main) ≡ true
  checked_within main h =
      let facts = program_facts globals functions texts main h in
      let words = first_length globals in
      let many = subst (λ n. nat_le n 512 ≡ true) (sym (map_length functions)) facts.few_functions in
      let few = subst (λ n. nat_le n MAX_DATA_WORDS ≡ true) (sym words) facts.few_words in
      let sum : length (first_words globals) ≡ words_of_all (globals_from 0 globals) = words ∙ sym (globals_words globals 0) in
      let h3 = and_true _ _ (and_true _ _ many (main_is functions main facts.main_fit)) facts.short_texts in
      let h5 = and_true _ _ (and_true _ _ h3 few) (globals_laid globals 0) in
      and_true _ _ (and_true _ _ (and_true _ _ h5 (eq-eqb _ _ sum)) (no_array_params globals 0)) (fit_functions functions facts.functions_fit)

-- ---- bounds of words

both_words : (ps ls : List Slot) → words_of words_of_slot (ps ++ ls) ≡ words_of words_of_slot ps + words_of words_of_slot ls
both_words [] ls = omega arith
both_words (p ∷ ps) ls = omega (arith, both_words ps ls)

length_words : (o : Option ℕ) → is_size o ≡ true → unwrap_or o 1 ≤ MAX_DATA_WORDS
length_words None h = omega arith
length_words (Some n) h = leb-true n MAX_DATA_WORDS (both_true (nat_lt 0 n) (nat_le n MAX_DATA_WORDS) h).1

param_words : (ps : List Slot) → list_all param_fits ps ≡ true → words_of words_of_slot ps ≤ 2 * length ps
param_words [] h = omega arith
param_words (p ∷ ps) h =
    let b = both_true (param_fits p) (list_all param_fits ps) h in
    let scalar = (both_true _ (is_none p.length) (both_true _ (p.block == 0) b.0).0).1 in
    omega (arith, one p.array_param p.length scalar, param_words ps b.1)
  where
    one : (array : Bool) (o : Option ℕ) → is_none o ≡ true → words_of_slot (record p { array_param = array; length = o }) ≤ 2
    one true o e = omega arith
    one false None e = omega arith
    one false (Some n) e = cc

local_words : (ls : List Slot) → list_all local_fits ls ≡ true → words_of words_of_slot ls ≤ MAX_DATA_WORDS * length ls
local_words [] h = omega arith
local_words (x ∷ ls) h =
    let b = both_true (local_fits x) (list_all local_fits ls) h in
    let one = both_true (is_name x.name && is_size x.length) (not x.array_param) b.0 in
    let sized = (both_true (is_name x.name) (is_size x.length) one.0).1 in
    omega (arith, local x.array_param x.length one.1 sized, local_words ls b.1)
  where
    local : (array : Bool) (o : Option ℕ) → not array ≡ true → is_size o ≡ true → words_of_slot (record x { array_param = array; length = o }) ≤ MAX_DATA_WORDS
    local true o e h = cc
    local false o e h = length_words o h

module _ (globals : List Global) (functions : List Function) (texts : List (List ℕ)) (f : Function) (h : check.function_fits globals functions texts f ≡ true) where
  -- a frame has at most 256 variables of at most 65,536 words each
  pub frame_bound : words_of words_of_slot (slots_of f) ≤ 16777216
  frame_bound =
      let facts = function_facts globals functions texts f h in
      let few = leb-true (length f.params + length f.locals) 256 facts.few_slots in
      omega (arith, both_words f.params f.locals, param_words f.params facts.params, local_words f.locals facts.locals, few)
