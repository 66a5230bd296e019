-- In valid code an instruction finds what it needs.
use Rattle.std.proofs.Common.{◌≡◌, ℕ, zero, suc, ◌+◌, ◌<◌, ◌≤◌, ◌^◌, ◌⊎◌, inl, inr, ⊎_elim, Bool, true, false, List}
use Rattle.std.proofs.Common.{[], ◌∷◌, length, drop, Option, Some, None, refl, sym, ap, ◌∙◌, subst, arith, rules, tests}
use Rattle.std.specs.Prelude.{IsTrue, ◌&&◌, ◌||◌, ◌==◌, not, is_none, unwrap_or, slice_get, slice_index, nat_lt, nat_le, if◌then◌else◌}
use Rattle.std.specs.List.{list_all, list_any}
use Rattle.std.proofs.lemmas.Bool.{ltb-true, leb-true, eqb-true}
use Rattle.nm_base.specs.declared.limits.TheConstants.{MAX_DATA_WORDS}
use Rattle.stack_code.specs.declared.instr.Instr.{Instr}
use Rattle.stack_code.specs.declared.instr.Instr.TheVariants as instr
use Rattle.stack_code.specs.declared.code.Variable.{Variable}
use Rattle.stack_code.specs.Code.{Placed, FunctionCode, Code, params_of, steps_of, steps_by}
use Rattle.stack_code.specs.Machine.{conversions, text_at}
use Rattle.stack_code.specs.Valid.{Operand, Value, Place, is_within, is_fit_function, is_main, laid_out_from, words_of_all, words_of_variable, is_array_at, is_length, finds}
use Rattle.stack_code.specs.Valid.{follows, follows_if_any, names_fit, go_on, pushed, taking, values, operands_by, operands_of}
use Rattle.stack_code.specs.Valid as valid
use Rattle.proc_machine.specs.declared.execution.Execution.{Execution}
use Rattle.proc_machine.specs.View.{control_of}
use Rattle.proc_machine.specs.private.Moves.{frame_words_by}
use Rattle.proc_machine.specs.private.Ready.{needs, adds, is_word_at, is_named, reaches, IsReady, param_words_by}
use Rattle.proc_machine.specs.private.Sound.{IsSoundAt, Holds}
use Rattle.proc_machine.proofs.OfKinds.{both, Tops, taken, taken_are, tops_length, tops_words, all_words, pushed_words, pushed_length, are_length}
use Rattle.proc_machine.proofs.Advancing.{length_values, twice_is, swapped_is}

-- ---- lists

below_length : {A : Type 0} (xs : List A) (k : ℕ) (x : A) → slice_get xs k ≡ Some x → k < length xs
below_length [] k x h = cc
below_length (y ∷ xs) zero x h = omega arith
below_length (y ∷ xs) (suc k) x h = let r = below_length xs k x h in omega (arith, r)

all_at : {A : Type 0} (test : A → Bool) (xs : List A) (k : ℕ) (x : A) → list_all test xs ≡ true → slice_get xs k ≡ Some x → test x ≡ true
all_at test [] k x a h = cc
all_at test (y ∷ ys) zero x a h = let same : y ≡ x = cc in subst (λ z. test z ≡ true) same (both (test y) (list_all test ys) a).0
all_at test (y ∷ ys) (suc k) x a h = all_at test ys k x (both (test y) (list_all test ys) a).1 h

either : (a b : Bool) → (a || b) ≡ true → (a ≡ true) ⊎ (b ≡ true)
either true b h = inl refl
either false b h = inr h

lt_is : (j n : ℕ) → j < n → nat_lt j n ≡ true
lt_is j n h = search (rules, tests)

le_is : (j n : ℕ) → j ≤ n → nat_le j n ≡ true
le_is j n h = search (rules, tests)

join : (a b : Bool) → a ≡ true → b ≡ true → (a && b) ≡ true
join true b h g = g
join false b h g = cc

-- ---- variables

param_count_of : (xs : List Variable) → list_all (λ (x : Variable). is_none x.length) xs ≡ true → length (operands_of xs) ≡ words_of_all xs
param_count_of [] h = refl
param_count_of (x ∷ xs) h =
    let b = both (is_none x.length) (list_all (λ (x : Variable). is_none x.length) xs) h in
    by x.array_param x.length b.0 (param_count_of xs b.1)
  where
    by : (a : Bool) (o : Option ℕ) → is_none o ≡ true → length (operands_of xs) ≡ words_of_all xs
        → length {A = Operand} (elim a [ true ↦ valid.ArrayPlace ∷ valid.ArrayLength ∷ operands_of xs | false ↦ Value ∷ operands_of xs ]) ≡ (if a then 2 else unwrap_or o 1) + words_of_all xs
    by true o n h = omega (arith, h)
    by false None n h = omega (arith, h)
    by false (Some k) n h = cc

place_within : (place len p : ℕ) (xs : List Variable) → laid_out_from p xs ≡ true → list_any (is_array_at place len) xs ≡ true → place ≤ p + words_of_all xs
place_within place len p [] l h = cc
place_within place len p (x ∷ xs) l h =
    let b = both (x.place == p) (laid_out_from (p + words_of_variable x) xs) l in
    let at = eqb-true x.place p b.0 in
    ⊎_elim
    (λ here. let e = eqb-true x.place place (both (x.place == place) (not x.array_param) (both (x.place == place && not x.array_param) (is_length len x.length) here).0).0 in omega (arith, e, at))
    (λ later. let r = place_within place len (p + words_of_variable x) xs b.1 later in omega (arith, r))
    (either (is_array_at place len x) (list_any (is_array_at place len) xs) h)

-- ---- the parts of a test of code

module _ (code : Code) (within : IsTrue (is_within code)) where
  abbrev few : Bool
  few = nat_le (length code.functions) 512

  abbrev main_is : Bool
  main_is = is_main (slice_get code.functions code.main)

  abbrev short_texts : Bool
  short_texts = list_all (λ t. nat_le (length t) 509) code.texts

  abbrev few_words : Bool
  few_words = nat_le (length code.globals) MAX_DATA_WORDS

  abbrev laid : Bool
  laid = laid_out_from 0 code.variables

  abbrev whole : Bool
  whole = length code.globals == words_of_all code.variables

  abbrev no_params : Bool
  no_params = list_all (λ (x : Variable). not x.array_param) code.variables

  seven : (few && main_is && short_texts && few_words && laid && whole && no_params) ≡ true
  seven = (both (few && main_is && short_texts && few_words && laid && whole && no_params) (list_all is_fit_function code.functions) within).0

  four : (few && main_is && short_texts && few_words) ≡ true
  four = (both (few && main_is && short_texts && few_words) laid
      (both (few && main_is && short_texts && few_words && laid) whole (both (few && main_is && short_texts && few_words && laid && whole) no_params seven).0).0).0

  pub globals_few : length code.globals ≤ MAX_DATA_WORDS
  globals_few = leb-true (length code.globals) MAX_DATA_WORDS (both (few && main_is && short_texts) few_words four).1

  texts_short : short_texts ≡ true
  texts_short = (both (few && main_is) short_texts (both (few && main_is && short_texts) few_words four).0).1

  pub main_there : is_main (slice_get code.functions code.main) ≡ true
  main_there = (both few main_is (both (few && main_is) short_texts (both (few && main_is && short_texts) few_words four).0).0).1

  pub text_short : (i : ℕ) (t : List ℕ) → slice_get code.texts i ≡ Some t → length t ≤ 509
  text_short i t h = leb-true (length t) 509 (all_at (λ t. nat_le (length t) 509) code.texts i t texts_short h)

  module _ (g : ℕ) (f : FunctionCode) (is : slice_get code.functions g ≡ Some f) where
    abbrev has_params : Bool
    has_params = nat_le f.param_count (length f.slots)

    abbrev locals_plain : Bool
    locals_plain = list_all (λ (x : Variable). not x.array_param) (drop f.param_count f.slots)

    abbrev slots_laid : Bool
    slots_laid = laid_out_from 0 f.slots

    abbrev params_sum : Bool
    params_sum = f.param_words == words_of_all (params_of f)

    abbrev frame_sum : Bool
    frame_sum = f.frame_words == words_of_all f.slots

    abbrev plain : Bool
    plain = list_all (λ (x : Variable). is_none x.length) (params_of f)

    fit : is_fit_function f ≡ true
    fit = all_at is_fit_function code.functions g f (both (few && main_is && short_texts && few_words && laid && whole && no_params) (list_all is_fit_function code.functions) within).1 is

    five : (has_params && locals_plain && slots_laid && params_sum && frame_sum) ≡ true
    five = (both (has_params && locals_plain && slots_laid && params_sum && frame_sum) plain fit).0

    pub frame_is : f.frame_words ≡ words_of_all f.slots
    frame_is = eqb-true f.frame_words (words_of_all f.slots) (both (has_params && locals_plain && slots_laid && params_sum) frame_sum five).1

    pub slots_are : slots_laid ≡ true
    slots_are = (both (has_params && locals_plain) slots_laid
        (both (has_params && locals_plain && slots_laid) params_sum (both (has_params && locals_plain && slots_laid && params_sum) frame_sum five).0).0).1

    pub params_are : length (operands_of (params_of f)) ≡ f.param_words
    params_are =
        param_count_of (params_of f) (both (has_params && locals_plain && slots_laid && params_sum && frame_sum) plain fit).1
        ∙ sym (eqb-true f.param_words (words_of_all (params_of f))
        (both (has_params && locals_plain && slots_laid) params_sum (both (has_params && locals_plain && slots_laid && params_sum) frame_sum five).0).1)

-- ---- every instruction

adds_most : (i : Instr) → adds i ≤ 2
adds_most (instr.Line line) = omega arith
adds_most (instr.Push bits) = omega arith
adds_most instr.Drop = omega arith
adds_most instr.Dup = omega arith
adds_most instr.Swap = omega arith
adds_most (instr.GlobalPlace slot) = omega arith
adds_most (instr.LocalPlace slot) = omega arith
adds_most (instr.GlobalAt base len) = omega arith
adds_most (instr.LocalAt base len) = omega arith
adds_most (instr.ParamAt slot) = omega arith
adds_most (instr.GlobalArray base len) = omega arith
adds_most (instr.LocalArray base len) = omega arith
adds_most (instr.ParamArray slot) = omega arith
adds_most instr.Load = omega arith
adds_most instr.Store = omega arith
adds_most (instr.Unary op of) = omega arith
adds_most (instr.Binary op of) = omega arith
adds_most (instr.Jump target) = omega arith
adds_most (instr.JumpZero target) = omega arith
adds_most (instr.Zero base len) = omega arith
adds_most (instr.Call function) = omega arith
adds_most instr.Return = omega arith
adds_most (instr.Send words) = omega arith
adds_most instr.Receive = omega arith
adds_most instr.Word = omega arith
adds_most instr.Words = omega arith
adds_most instr.From = omega arith
adds_most instr.Via = omega arith
adds_most instr.SelfNo = omega arith
adds_most instr.Count = omega arith
adds_most (instr.Print text) = omega arith

values_words : (n : ℕ) → all_words (values n) ≡ true
values_words zero = refl
values_words (suc n) = values_words n

operands_words : (xs : List Variable) → all_words (operands_of xs) ≡ true
operands_words [] = refl
operands_words (x ∷ xs) = by x.array_param (operands_words xs)
  where
    by : (a : Bool) → all_words (operands_of xs) ≡ true → all_words (elim a [ true ↦ valid.ArrayPlace ∷ valid.ArrayLength ∷ operands_of xs | false ↦ Value ∷ operands_of xs ]) ≡ true
    by true h = h
    by false h = h

-- so many words are there
abbrev Words : ℕ → List ℕ → Type 0
Words n own = (n ≤ length own) × ((j : ℕ) → IsTrue (nat_lt j n) → slice_index own j < 2 ^ 32)

tops_are_words : (ws : List Operand) (n : ℕ) (own : List ℕ) → all_words ws ≡ true → length ws ≡ n → Tops ws own → Words n own
tops_are_words ws n own a len t =
    (let l = tops_length ws own t in omega (arith, l, len), λ j h. tops_words ws own t a j (let lt = ltb-true j n h in omega (arith, lt, len)))

no_words : (own : List ℕ) → Words 0 own
no_words own = (omega arith, λ j h. absurd (let lt = ltb-true j 0 h in omega (arith, lt)))

module _ (code : Code) (count me : ℕ) (e : Execution) (holds : Holds code e) where
  abbrev at : IsSoundAt code (control_of e)
  at = holds.control

  abbrev f : FunctionCode
  f = at.here.function

  abbrev own : List ℕ
  own = e.calls.own

  abbrev pc : ℕ
  pc = e.frame.place

  abbrev kinds : List Operand
  kinds = at.here.kinds

  steps_are : steps_of code e.frame.function ≡ f.steps
  steps_are = ap steps_by at.here.here

  -- there is an instruction
  pub there : (x : Placed) × (slice_get (steps_of code e.frame.function) pc ≡ Some x)
  there = by (slice_get f.steps pc) (at.here.find 1) refl
    where
      by : (o : Option Placed) → IsTrue (follows_if_any code f o pc kinds (λ q t. finds code f 0 q t)) → slice_get f.steps pc ≡ o
          → (x : Placed) × (slice_get (steps_of code e.frame.function) pc ≡ Some x)
      by None h g = let no : false ≡ true = h in cc
      by (Some x) h g = (x, ap (λ l. slice_get l pc) steps_are ∙ g)

  pub is_there : pc < length (steps_of code e.frame.function)
  is_there = below_length (steps_of code e.frame.function) pc there.0 there.1

  module _ (x : Placed) (is : slice_get (steps_of code e.frame.function) pc ≡ Some x) where
    found : slice_get f.steps pc ≡ Some x
    found = ap (λ l. slice_get l pc) (sym steps_are) ∙ is

    whole_test : (n : ℕ) → (names_fit code.variables f.slots x.instr && follows code f x.instr pc kinds (λ q t. finds code f n q t)) ≡ true
    whole_test n = ap (λ o. follows_if_any code f o pc kinds (λ q t. finds code f n q t)) (sym found) ∙ at.here.find (suc n)

    pub it_follows : (n : ℕ) → IsTrue (follows code f x.instr pc kinds (λ q t. finds code f n q t))
    it_follows n = (both (names_fit code.variables f.slots x.instr) (follows code f x.instr pc kinds (λ q t. finds code f n q t)) (whole_test n)).1

    it_names : names_fit code.variables f.slots x.instr ≡ true
    it_names = (both (names_fit code.variables f.slots x.instr) (follows code f x.instr pc kinds (λ q t. finds code f 0 q t)) (whole_test 0)).0

  tops : (ws : List Operand) (go : ℕ → List Operand → Bool) → ((n : ℕ) → IsTrue (go_on (valid.below ws kinds) (go n))) → Tops ws own
  tops ws go h = let r = taken (valid.below ws kinds) go h in (taken_are ws kinds r.0 own at.here.are r.1).1

  one_word : (go : ℕ → List Operand → Bool) → ((n : ℕ) → IsTrue (go_on (valid.below (Value ∷ []) kinds) (go n))) → Words 1 own
  one_word go h = tops_are_words (Value ∷ []) 1 own refl refl (tops (Value ∷ []) go h)

  many_words : (ks : List Operand) (m : ℕ) (go : ℕ → List Operand → Bool) → all_words ks ≡ true → length ks ≡ m → ((n : ℕ) → IsTrue (go_on (valid.below (pushed ks []) kinds) (go n))) → Words m own
  many_words ks m go a len h = tops_are_words (pushed ks []) m own (pushed_words ks [] a refl) (let p = pushed_length ks [] in omega (arith, p, len)) (tops (pushed ks []) go h)

  abbrev Finds : Instr → Type 0
  Finds i = (needs code i ≤ length own) × ((j : ℕ) → IsTrue (is_word_at code i j) → slice_index own j < 2 ^ 32) × IsTrue (is_named code i)

  abbrev Goes : ℕ → ℕ → List Operand → Bool
  Goes n q t = finds code f n q t

  abbrev Follows : Instr → Type 0
  Follows i = (n : ℕ) → IsTrue (follows code f i pc kinds (λ q t. finds code f n q t))

  as_needed : (i : Instr) → Words (needs code i) own → ((j : ℕ) → is_word_at code i j ≡ nat_lt j (needs code i)) → IsTrue (is_named code i) → Finds i
  as_needed i w same named = (w.0, λ j h. w.1 j (sym (same j) ∙ h), named)

  some_kind : (k : Operand) (s : List Operand) → kinds ≡ k ∷ s → 1 ≤ length own
  some_kind k s h = let l = are_length kinds own at.here.are in let m = ap (λ (ks : List Operand). length ks) h in omega (arith, l, m)

  two_kinds : (k j : Operand) (s : List Operand) → kinds ≡ k ∷ j ∷ s → 2 ≤ length own
  two_kinds k j s h = let l = are_length kinds own at.here.are in let m = ap (λ (ks : List Operand). length ks) h in omega (arith, l, m)

  finds_what : (i : Instr) (entered : List (List ℕ)) → slice_get (steps_of code e.frame.function) pc ≡ Some (record { instr = i; entered = entered }) → Follows i → Finds i
  finds_what (instr.Line line) entered is h = as_needed (instr.Line line) (no_words own) (λ j. refl) refl
  finds_what (instr.Push bits) entered is h = as_needed (instr.Push bits) (no_words own) (λ j. refl) refl
  finds_what instr.Drop entered is h = as_needed instr.Drop (one_word (λ n t. Goes n (pc + 1) t) h) (λ j. refl) refl
  finds_what instr.Dup entered is h =
      let r = twice_is kinds (λ n t. Goes n (pc + 1) t) h in
      (some_kind r.0 r.1 r.2, λ j g. cc, refl)
  finds_what instr.Swap entered is h =
      let r = swapped_is kinds (λ n t. Goes n (pc + 1) t) h in
      (two_kinds r.0 r.1 r.2 r.3, λ j g. cc, refl)
  finds_what (instr.GlobalPlace slot) entered is h = as_needed (instr.GlobalPlace slot) (no_words own) (λ j. refl) refl
  finds_what (instr.LocalPlace slot) entered is h = as_needed (instr.LocalPlace slot) (no_words own) (λ j. refl) refl
  finds_what (instr.GlobalAt base len) entered is h = as_needed (instr.GlobalAt base len) (one_word (λ n t. Goes n (pc + 1) (Place ∷ t)) h) (λ j. refl) refl
  finds_what (instr.LocalAt base len) entered is h = as_needed (instr.LocalAt base len) (one_word (λ n t. Goes n (pc + 1) (Place ∷ t)) h) (λ j. refl) refl
  finds_what (instr.ParamAt slot) entered is h = as_needed (instr.ParamAt slot) (one_word (λ n t. Goes n (pc + 1) (Place ∷ t)) h) (λ j. refl) refl
  finds_what (instr.GlobalArray base len) entered is h = as_needed (instr.GlobalArray base len) (no_words own) (λ j. refl) refl
  finds_what (instr.LocalArray base len) entered is h = as_needed (instr.LocalArray base len) (no_words own) (λ j. refl) refl
  finds_what (instr.ParamArray slot) entered is h = as_needed (instr.ParamArray slot) (no_words own) (λ j. refl) refl
  finds_what instr.Load entered is h =
      (tops_length (Place ∷ []) own (tops (Place ∷ []) (λ n t. Goes n (pc + 1) (Value ∷ t)) h), λ j g. cc, refl)
  finds_what instr.Store entered is h =
      let t = tops (Value ∷ Place ∷ []) (λ n t. Goes n (pc + 1) (Value ∷ t)) h in
      (tops_length (Value ∷ Place ∷ []) own t, λ j g. first_word own t j (eqb-true j 0 g), refl)
    where
      first_word : (xs : List ℕ) → Tops (Value ∷ Place ∷ []) xs → (j : ℕ) → j ≡ 0 → slice_index xs j < 2 ^ 32
      first_word [] t j g = absurd t
      first_word (y ∷ ys) t zero g = t.0
      first_word (y ∷ ys) t (suc j) g = absurd (omega (arith, g))
  finds_what (instr.Unary op of) entered is h = as_needed (instr.Unary op of) (one_word (λ n t. Goes n (pc + 1) (Value ∷ t)) h) (λ j. refl) refl
  finds_what (instr.Binary op of) entered is h =
      as_needed (instr.Binary op of) (tops_are_words (Value ∷ Value ∷ []) 2 own refl refl (tops (Value ∷ Value ∷ []) (λ n t. Goes n (pc + 1) (Value ∷ t)) h)) (λ j. refl) refl
  finds_what (instr.Jump target) entered is h = as_needed (instr.Jump target) (no_words own) (λ j. refl) refl
  finds_what (instr.JumpZero target) entered is h = as_needed (instr.JumpZero target) (one_word (λ n t. Goes n (pc + 1) t && Goes n target t) h) (λ j. refl) refl
  finds_what (instr.Zero base len) entered is h = as_needed (instr.Zero base len) (no_words own) (λ j. refl) refl
  finds_what (instr.Call g) entered is h =
      let callee = holds.sound.forward.calls e.frame.function pc g entered is in
      let ks = operands_of (params_of callee.0) in
      let h2 = subst (λ o. (n : ℕ) → IsTrue (go_on (valid.below (pushed (operands_by o) []) kinds) (λ t. Goes n (pc + 1) (Value ∷ t)))) callee.1 h in
      let w = many_words ks callee.0.param_words (λ n t. Goes n (pc + 1) (Value ∷ t)) (operands_words (params_of callee.0)) (params_are code holds.within g callee.0 callee.1) h2 in
      as_needed (instr.Call g) (subst (λ o. Words (param_words_by o) own) (sym callee.1) w) (λ j. refl) (lt_is g (length code.functions) (below_length code.functions g callee.0 callee.1))
  finds_what instr.Return entered is h = as_needed instr.Return (one_word (λ n t. valid.is_empty t) h) (λ j. refl) refl
  finds_what (instr.Send words) entered is h =
      let sized = nat_le 1 words && nat_le words 8 in
      let takes : ℕ → Bool = λ n. taking (values (words + 2)) kinds (λ t. Goes n (pc + 1) (Value ∷ t)) in
      as_needed (instr.Send words) (many_words (values (words + 2)) (words + 2) (λ n t. Goes n (pc + 1) (Value ∷ t)) (values_words (words + 2)) (length_values (words + 2))
      (λ n. (both sized (takes n) (h n)).1)) (λ j. refl) (both sized (takes 0) (h 0)).0
  finds_what instr.Receive entered is h = as_needed instr.Receive (one_word (λ n t. Goes n (pc + 1) (Value ∷ t)) h) (λ j. refl) refl
  finds_what instr.Word entered is h = as_needed instr.Word (one_word (λ n t. Goes n (pc + 1) (Value ∷ t)) h) (λ j. refl) refl
  finds_what instr.Words entered is h = as_needed instr.Words (no_words own) (λ j. refl) refl
  finds_what instr.From entered is h = as_needed instr.From (no_words own) (λ j. refl) refl
  finds_what instr.Via entered is h = as_needed instr.Via (no_words own) (λ j. refl) refl
  finds_what instr.SelfNo entered is h = as_needed instr.SelfNo (no_words own) (λ j. refl) refl
  finds_what instr.Count entered is h = as_needed instr.Count (no_words own) (λ j. refl) refl
  finds_what (instr.Print text) entered is h =
      let m = conversions (text_at code 0 0 text) in
      let named = nat_lt text (length code.texts) in
      let takes : ℕ → Bool = λ n. taking (values m) kinds (λ t. Goes n (pc + 1) (Value ∷ t)) in
      let lt = ltb-true text (length code.texts) (both named (takes 0) (h 0)).0 in
      as_needed (instr.Print text) (many_words (values m) m (λ n t. Goes n (pc + 1) (Value ∷ t)) (values_words m) (length_values m) (λ n. (both named (takes n) (h n)).1)) (λ j. refl)
      (join named (nat_le (length (text_at code 0 0 text)) 509) (both named (takes 0) (h 0)).0 (le_is (length (text_at code 0 0 text)) 509 (short text lt)))
    where
      some_at : (xs : List (List ℕ)) (k : ℕ) → k < length xs → (t : List ℕ) × (slice_get xs k ≡ Some t)
      some_at [] k lt = absurd (omega (arith, lt))
      some_at (y ∷ ys) zero lt = (y, refl)
      some_at (y ∷ ys) (suc k) lt = some_at ys k (omega (arith, lt))

      short : (i : ℕ) → i < length code.texts → length (unwrap_or (slice_get code.texts i) []) ≤ 509
      short i lt =
          let r = some_at code.texts i lt in
          let t = text_short code holds.within i r.0 r.1 in
          subst (λ (o : Option (List ℕ)). length (unwrap_or o []) ≤ 509) (sym r.1) t

  -- its words are within 32 bits
  near_is : (i : Instr) → names_fit code.variables f.slots i ≡ true → reaches i ≤ f.frame_words
  near_is (instr.LocalArray base len) h =
      let w = place_within base len 0 f.slots (slots_are code holds.within e.frame.function f at.here.here) h in
      let s = frame_is code holds.within e.frame.function f at.here.here in
      omega (arith, w, s)
  near_is i h = omega arith

  pub ready : (x : Placed) → slice_get (steps_of code e.frame.function) pc ≡ Some x → IsReady code x.instr e
  ready x is =
      let w = finds_what x.instr x.entered is (it_follows x is) in
      let most = adds_most x.instr in
      let low = at.low in
      let inside = below_length (steps_of code e.frame.function) pc x is in
      let room = holds.room e.frame.function pc inside in
      let short = holds.short e.frame.function in
      let near = near_is x.instr (it_names x is) in
      let size : frame_words_by (slice_get code.functions e.frame.function) ≡ f.frame_words = ap frame_words_by at.here.here in
      let fits = holds.frames.0.0 in
      record {
        some = w.0;
        words = w.1;
        room = omega (arith, most, low, room);
        onward = omega (arith, inside, short);
        named = w.2;
        near = omega (arith, near, size, fits);
      }
