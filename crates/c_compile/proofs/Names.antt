-- What the code of a program tells of names.
use Rattle.std.proofs.Common.{◌≡◌, ℕ, zero, suc, ◌+◌, ◌<◌, Bool, true, false, List, [], ◌∷◌, ◌++◌, map, length, take, Option, Some, None, refl, sym, ap, ◌∙◌, subst, arith}
use Rattle.std.specs.Prelude.{slice_get, option_map, if◌then◌else◌}
use Rattle.std.specs.Str.{bytes_eq}
use Rattle.std.proofs.lemmas.Slice.Eq.{bytes_eq-Decides}
use Rattle.nm_base.specs.declared.operator.Ctype.{Ctype}
use Rattle.c_tree.specs.declared.program.Global.{Global}
use Rattle.c_tree.specs.declared.program.Slot.{Slot}
use Rattle.c_tree.specs.declared.program.Function.{Function}
use Rattle.c_tree.specs.declared.program.Program.{Program}
use Rattle.c_tree.specs.declared.program.Target.TheVariants.{Global as AGlobal, Slot as ASlot}
use Rattle.c_tree.specs.NameLookup as meaning
use Rattle.c_tree.specs.NameLookup.{Variable, in_globals, in_params, in_function, slot_if, slots_of_function}
use Rattle.c_tree.specs.Storage.{words_of_global, words_of_slot, words_before}
use Rattle.c_tree.specs.Expr.{slots_of}
use Rattle.stack_code.specs.declared.code.Variable.{Variable as Kept}
use Rattle.stack_code.specs.declared.seek.CodePlace.{CodePlace}
use Rattle.stack_code.specs.declared.seek.Found.{Found}
use Rattle.stack_code.specs.Code.{Code, FunctionCode, entered_at, entered_by, steps_by}
use Rattle.stack_code.specs.Seek as seek
use Rattle.stack_code.specs.Seek.{first_named, as_global, as_local, found, found_in, found_by as kept_by}
use Rattle.c_compile.specs.Variables.{variable_of_global, variable_of_slot, globals_from, slots_from}
use Rattle.c_compile.specs.StmtCode.{function_code, program_code}
use Rattle.c_compile.specs.KeptNames as kept
use Rattle.c_compile.specs.KeptNames.{found_of, found_by, KeepsNames}
use Rattle.c_compile.proofs.Places.{get_left}

-- ---- the same name

same_test : (x y : Bool) → (x ≡ true → y ≡ true) → (y ≡ true → x ≡ true) → x ≡ y
same_test true y h g = sym (h refl)
same_test false true h g = g refl
same_test false false h g = refl

same_names : (a b : List ℕ) → bytes_eq a b ≡ bytes_eq b a
same_names a b =
    let d = bytes_eq-Decides a b in
    let e = bytes_eq-Decides b a in
    same_test (bytes_eq a b) (bytes_eq b a) (λ h. e.1 (sym (d.0 h))) (λ h. d.1 (sym (e.0 h)))

-- ---- what is found, and the variable that it is

module _ (globals : List Global) (slots : List Slot) where
  abbrev IsKept : Option Found → Option Variable → Type 0
  IsKept None None = Unit {0}
  IsKept None (Some x) = ⊥
  IsKept (Some f) None = ⊥
  IsKept (Some f) (Some x) = Some f ≡ found_of globals slots x.what x.of

  kept_or : (f g : Option Found) (o p : Option Variable) → IsKept f o → IsKept g p → IsKept (seek.or_else f g) (meaning.or_else o p)
  kept_or None g None p h k = k
  kept_or None g (Some x) p h k = absurd h
  kept_or (Some f) g None p h k = absurd h
  kept_or (Some f) g (Some x) p h k = h

  kept_is : (f : Option Found) (o : Option Variable) → IsKept f o → f ≡ found_by globals slots o
  kept_is None None h = refl
  kept_is None (Some x) h = absurd h
  kept_is (Some f) None h = absurd h
  kept_is (Some f) (Some x) h = h

  module _ (name : List ℕ) where
    -- ---- globals

    abbrev GlobalsAt : ℕ → ℕ → List Global → Type 0
    GlobalsAt number place xs = (k : ℕ) (of : Ctype) → found_of globals slots (AGlobal (number + k)) of ≡ option_map (kept.as_global (place + words_before words_of_global xs k) of) (slice_get xs k)

    globals_later : (number place : ℕ) (x : Global) (xs : List Global) → GlobalsAt number place (x ∷ xs) → GlobalsAt (number + 1) (place + words_of_global x) xs
    globals_later number place x xs h k of =
        let e : number + 1 + k ≡ number + suc k = omega arith in
        let w : place + (words_of_global x + words_before words_of_global xs k) ≡ place + words_of_global x + words_before words_of_global xs k = omega arith in
        ap (λ n. found_of globals slots (AGlobal n) of) e ∙ h (suc k) of ∙ ap (λ n. option_map (kept.as_global n of) (slice_get xs k)) w

    global_here : (number place : ℕ) (x : Global) (xs : List Global) → GlobalsAt number place (x ∷ xs) → Some (as_global (variable_of_global place x)) ≡ found_of globals slots (AGlobal number) x.of
    global_here number place x xs h =
        let e : number + 0 ≡ number = omega arith in
        let w : place ≡ place + 0 = omega arith in
        ap (λ n. Some (kept.as_global n x.of x)) w ∙ sym (h 0 x.of) ∙ ap (λ n. found_of globals slots (AGlobal n) x.of) e

    globals_kept : (number place : ℕ) (xs : List Global) → GlobalsAt number place xs → IsKept (option_map as_global (first_named name (globals_from place xs))) (in_globals name number xs)
    globals_kept number place [] h = tt
    globals_kept number place (x ∷ xs) h =
        subst (λ t. IsKept (option_map as_global (elim t [ true ↦ Some (variable_of_global place x) | false ↦ first_named name (globals_from (place + words_of_global x) xs) ]))
        (in_globals name number (x ∷ xs))) (same_names name x.name) (by (bytes_eq name x.name) (globals_kept (number + 1) (place + words_of_global x) xs (globals_later number place x xs h)))
      where
        by : (t : Bool) → IsKept (option_map as_global (first_named name (globals_from (place + words_of_global x) xs))) (in_globals name (number + 1) xs)
            → IsKept (option_map as_global (elim t [ true ↦ Some (variable_of_global place x) | false ↦ first_named name (globals_from (place + words_of_global x) xs) ]))
            (if t then Some (record { what = AGlobal number; of = x.of }) else in_globals name (number + 1) xs)
        by true later = global_here number place x xs h
        by false later = later

    -- ---- parameters

    abbrev SlotsAt : ℕ → ℕ → List Slot → Type 0
    SlotsAt number place xs = (k : ℕ) (of : Ctype) → k < length xs → found_of globals slots (ASlot (number + k)) of ≡ option_map (kept.as_slot (place + words_before words_of_slot xs k) of)
        (slice_get xs k)

    slots_later : (number place : ℕ) (x : Slot) (xs : List Slot) → SlotsAt number place (x ∷ xs) → SlotsAt (number + 1) (place + words_of_slot x) xs
    slots_later number place x xs h k of lt =
        let e : number + 1 + k ≡ number + suc k = omega arith in
        let w : place + (words_of_slot x + words_before words_of_slot xs k) ≡ place + words_of_slot x + words_before words_of_slot xs k = omega arith in
        ap (λ n. found_of globals slots (ASlot n) of) e ∙ h (suc k) of (omega (arith, lt)) ∙ ap (λ n. option_map (kept.as_slot n of) (slice_get xs k)) w

    slot_here : (number place : ℕ) (x : Slot) (xs : List Slot) → SlotsAt number place (x ∷ xs) → Some (as_local (variable_of_slot place x)) ≡ found_of globals slots (ASlot number) x.of
    slot_here number place x xs h =
        let e : number + 0 ≡ number = omega arith in
        let w : place ≡ place + 0 = omega arith in
        ap (λ n. Some (kept.as_slot n x.of x)) w ∙ sym (h 0 x.of (omega arith)) ∙ ap (λ n. found_of globals slots (ASlot n) x.of) e

    params_kept : (number place : ℕ) (xs : List Slot) → SlotsAt number place xs → IsKept (option_map as_local (first_named name (slots_from place xs))) (in_params name number xs)
    params_kept number place [] h = tt
    params_kept number place (x ∷ xs) h =
        subst (λ t. IsKept (option_map as_local (elim t [ true ↦ Some (variable_of_slot place x) | false ↦ first_named name (slots_from (place + words_of_slot x) xs) ]))
        (in_params name number (x ∷ xs))) (same_names name x.name) (by (bytes_eq name x.name) (params_kept (number + 1) (place + words_of_slot x) xs (slots_later number place x xs h)))
      where
        by : (t : Bool) → IsKept (option_map as_local (first_named name (slots_from (place + words_of_slot x) xs))) (in_params name (number + 1) xs)
            → IsKept (option_map as_local (elim t [ true ↦ Some (variable_of_slot place x) | false ↦ first_named name (slots_from (place + words_of_slot x) xs) ]))
            (meaning.or_else (if t then Some (record { what = ASlot number; of = x.of }) else None) (in_params name (number + 1) xs))
        by true later = slot_here number place x xs h
        by false later = later

    -- ---- blocks

    kept_at : (place : ℕ) (xs : List Slot) (i : ℕ) → slice_get (slots_from place xs) i ≡ option_map (variable_of_slot (place + words_before words_of_slot xs i)) (slice_get xs i)
    kept_at place [] i = refl
    kept_at place (x ∷ xs) zero = let w : place ≡ place + 0 = omega arith in ap (λ n. Some (variable_of_slot n x)) w
    kept_at place (x ∷ xs) (suc i) =
        let w : place + words_of_slot x + words_before words_of_slot xs i ≡ place + (words_of_slot x + words_before words_of_slot xs i) = omega arith in
        kept_at (place + words_of_slot x) xs i ∙ ap (λ n. option_map (variable_of_slot n) (slice_get xs i)) w

    -- a block's local, by what stands at its number
    local_by : (i : ℕ) (rest : Option Kept) (later : Option Variable) (o : Option Slot) → slice_get slots i ≡ o → IsKept (option_map as_local rest) later
        → let y = option_map (variable_of_slot (words_before words_of_slot slots i)) o in IsKept (option_map as_local (elim (seek.is_named name y) [ true ↦ y | false ↦ rest ]))
        (meaning.or_else (slot_if name i o) later)
    local_by i rest later None is h = h
    local_by i rest later (Some x) is h =
        subst (λ t. IsKept (option_map as_local (elim t [ true ↦ Some (variable_of_slot (words_before words_of_slot slots i) x) | false ↦ rest ]))
        (meaning.or_else (slot_if name i (Some x)) later)) (same_names name x.name) (by (bytes_eq name x.name))
      where
        by : (t : Bool) → IsKept (option_map as_local (elim t [ true ↦ Some (variable_of_slot (words_before words_of_slot slots i) x) | false ↦ rest ]))
            (meaning.or_else (if t then Some (record { what = ASlot i; of = x.of }) else None) later)
        by true = sym (ap (option_map (kept.as_slot (words_before words_of_slot slots i) x.of)) is)
        by false = h

    block_kept : (b : List ℕ) → IsKept (option_map as_local (seek.in_block name (slots_from 0 slots) b)) (meaning.in_block slots name b)
    block_kept [] = tt
    block_kept (i ∷ is) =
        let z : 0 + words_before words_of_slot slots i ≡ words_before words_of_slot slots i = omega arith in
        let at = kept_at 0 slots i ∙ ap (λ n. option_map (variable_of_slot n) (slice_get slots i)) z in
        subst (λ y. IsKept (option_map as_local (elim (seek.is_named name y) [ true ↦ y | false ↦ seek.in_block name (slots_from 0 slots) is ])) (meaning.in_block slots name (i ∷ is))) (sym at)
        (local_by i (seek.in_block name (slots_from 0 slots) is) (meaning.in_block slots name is) (slice_get slots i) refl (block_kept is))

    first_of_both : (y rest : Option Kept) → option_map as_local (elim y [ Some x ↦ Some x | None ↦ rest ]) ≡ seek.or_else (option_map as_local y) (option_map as_local rest)
    first_of_both None rest = refl
    first_of_both (Some x) rest = refl

    blocks_kept : (bs : List (List ℕ)) → IsKept (option_map as_local (seek.in_blocks name (slots_from 0 slots) bs)) (meaning.in_blocks slots name bs)
    blocks_kept [] = tt
    blocks_kept (b ∷ bs) =
        let y = seek.in_block name (slots_from 0 slots) b in
        let rest = seek.in_blocks name (slots_from 0 slots) bs in
        subst (λ f. IsKept f (meaning.in_blocks slots name (b ∷ bs))) (sym (first_of_both y rest))
        (kept_or (option_map as_local y) (option_map as_local rest) (meaning.in_block slots name b) (meaning.in_blocks slots name bs) (block_kept b) (blocks_kept bs))

    all_globals : IsKept (option_map as_global (first_named name (globals_from 0 globals))) (in_globals name 0 globals)
    all_globals =
        globals_kept 0 0 globals (λ k of.
        let e : 0 + k ≡ k = omega arith in
        let w : words_before words_of_global globals k ≡ 0 + words_before words_of_global globals k = omega arith in
        ap (λ n. found_of globals slots (AGlobal n) of) e ∙ ap (λ n. option_map (kept.as_global n of) (slice_get globals k)) w)

-- ---- functions

take_params : (place : ℕ) (xs ys : List Slot) → take (length xs) (slots_from place (xs ++ ys)) ≡ slots_from place xs
take_params place [] ys = refl
take_params place (x ∷ xs) ys = ap (λ l. variable_of_slot place x ∷ l) (take_params (place + words_of_slot x) xs ys)

before_left : (xs ys : List Slot) (k : ℕ) → k < length xs → words_before words_of_slot (xs ++ ys) k ≡ words_before words_of_slot xs k
before_left [] ys k lt = absurd (omega (arith, lt))
before_left (x ∷ xs) ys zero lt = refl
before_left (x ∷ xs) ys (suc k) lt = ap (λ n. words_of_slot x + n) (before_left xs ys k (omega (arith, lt)))

module _ (globals : List Global) (functions : List Function) (texts : List (List ℕ)) where
  abbrev code_of : Function → FunctionCode
  code_of f = function_code globals functions texts f

  params_at : (f : Function) (name : List ℕ) → SlotsAt globals (slots_of f) name 0 0 f.params
  params_at f name k of lt =
      let e : 0 + k ≡ k = omega arith in
      let w : words_before words_of_slot (slots_of f) k ≡ 0 + words_before words_of_slot f.params k = let b = before_left f.params f.locals k lt in omega (arith, b) in
      ap (λ n. found_of globals (slots_of f) (ASlot n) of) e
      ∙ ap (λ n. option_map (kept.as_slot n of) (slice_get (slots_of f) k)) w
      ∙ ap (option_map (kept.as_slot (0 + words_before words_of_slot f.params k) of)) (get_left f.params f.locals k lt)

  function_kept : (f : Function) (entered : List (List ℕ)) (name : List ℕ)
      → IsKept globals (slots_of f) (seek.or_else (option_map as_local (seek.in_blocks name (code_of f).slots entered))
      (option_map as_local (first_named name (take (length f.params) (code_of f).slots)))) (in_function name entered (Some f))
  function_kept f entered name =
      let params = subst (λ l. IsKept globals (slots_of f) (option_map as_local (first_named name l)) (in_params name 0 f.params)) (sym (take_params 0 f.params f.locals))
      (params_kept globals (slots_of f) name 0 0 f.params (params_at f name)) in
      kept_or globals (slots_of f) (option_map as_local (seek.in_blocks name (code_of f).slots entered)) (option_map as_local (first_named name (take (length f.params) (code_of f).slots)))
      (meaning.in_blocks (slots_of f) name entered) (in_params name 0 f.params) (blocks_kept globals (slots_of f) name entered) params

  by_function : (o : Option Function) (place : ℕ) (name : List ℕ)
      → IsKept globals (slots_of_function o) (seek.or_else (kept_by (option_map code_of o) place name) (option_map as_global (first_named name (globals_from 0 globals))))
      (meaning.or_else (in_function name (entered_by (slice_get (steps_by (option_map code_of o)) place)) o) (in_globals name 0 globals))
  by_function None place name = all_globals globals [] name
  by_function (Some f) place name =
      let entered = entered_by (slice_get (code_of f).steps place) in
      kept_or globals (slots_of f) (found_in (code_of f) place name) (option_map as_global (first_named name (globals_from 0 globals))) (in_function name entered (Some f))
      (in_globals name 0 globals) (function_kept f entered name) (all_globals globals (slots_of f) name)

  get_map : {A B : Type 0} (f : A → B) (xs : List A) (i : ℕ) → slice_get (map f xs) i ≡ option_map f (slice_get xs i)
  get_map f [] i = refl
  get_map f (x ∷ xs) zero = refl
  get_map f (x ∷ xs) (suc i) = get_map f xs i

  names_kept : (fs : List Function) → map (λ f. f.name) (map code_of fs) ≡ map (λ f. f.name) fs
  names_kept [] = refl
  names_kept (f ∷ fs) = ap (λ l. f.name ∷ l) (names_kept fs)

  line_kept : (o : Option Function) → option_map (λ f. f.line) (option_map code_of o) ≡ option_map (λ f. f.line) o
  line_kept None = refl
  line_kept (Some f) = refl

  module _ (main : ℕ) where
    abbrev whole : Code
    whole = program_code globals functions texts main

    locals_kept : (at : CodePlace) (name : List ℕ) → found whole (Some at) name ≡ found_by globals (slots_of_function (slice_get functions at.function))
        (meaning.or_else (in_function name (entered_at whole at.function at.place) (slice_get functions at.function)) (in_globals name 0 globals))
    locals_kept at name =
        let o = slice_get functions at.function in
        let e = get_map code_of functions at.function in
        ap (λ p. seek.or_else (kept_by p at.place name) (option_map as_global (first_named name (globals_from 0 globals)))) e
        ∙ kept_is globals (slots_of_function o) (seek.or_else (kept_by (option_map code_of o) at.place name) (option_map as_global (first_named name (globals_from 0 globals))))
        (meaning.or_else (in_function name (entered_by (slice_get (steps_by (option_map code_of o)) at.place)) o) (in_globals name 0 globals)) (by_function o at.place name)
        ∙ ap (λ p. found_by globals (slots_of_function o) (meaning.or_else (in_function name (entered_by (slice_get (steps_by p) at.place)) o) (in_globals name 0 globals))) (sym e)

-- the code of a program tells its names
pub keeps_names : (p : Program) (code : Code) → code ≡ program_code p.globals p.functions p.texts p.main → KeepsNames p code
keeps_names p code same =
    subst (KeepsNames p) (sym same) (record {
      functions = names_kept p.globals p.functions p.texts p.functions;
      main_line = ap (option_map (λ f. f.line)) (get_map p.globals p.functions p.texts (function_code p.globals p.functions p.texts) p.functions p.main)
          ∙ line_kept p.globals p.functions p.texts (slice_get p.functions p.main);
      globals = λ name. kept_is p.globals [] (option_map as_global (first_named name (globals_from 0 p.globals))) (in_globals name 0 p.globals) (all_globals p.globals [] name);
      locals = locals_kept p.globals p.functions p.texts p.main;
    })
