-- In a checked expression each call passes as many words as it must.
use Rattle.std.proofs.Common.{◌≡◌, ℕ, Bool, true, false, List, [], ◌∷◌, map, length, Option, Some, None, refl, sym, ◌∙◌, subst, arith}
use Rattle.std.specs.Prelude.{◌&&◌, ◌==◌, not, nat_le, slice_get, unwrap_or, is_none}
use Rattle.std.specs.List.{list_all}
use Rattle.std.proofs.lemmas.Bool.{eqb-true, eq-eqb, leb-true, le-leb}
use Rattle.nm_base.specs.declared.operator.Ctype.{Ctype}
use Rattle.nm_base.specs.declared.operator.Ctype.TheVariants.{Int}
use Rattle.nm_base.specs.Word.{common_type}
use Rattle.c_tree.specs.declared.program.Global.{Global}
use Rattle.c_tree.specs.declared.program.Slot.{Slot}
use Rattle.c_tree.specs.declared.program.Function.{Function}
use Rattle.c_tree.specs.declared.program.Target.{Target}
use Rattle.c_tree.specs.declared.program.Target.TheVariants.{Global as AGlobal, Slot as ASlot}
use Rattle.c_tree.specs.declared.program.Callee.{Callee}
use Rattle.c_tree.specs.declared.program.Callee.TheVariants.{Function as Own, BuiltIn as Built}
use Rattle.c_tree.specs.declared.program.BuiltIn.{BuiltIn}
use Rattle.c_tree.specs.declared.program.BuiltIn.TheVariants as built
use Rattle.c_tree.specs.declared.program.PExpr.{PExpr}
use Rattle.c_tree.specs.declared.program.PKind.{PKind, roll-PKind}
use Rattle.c_tree.specs.declared.program.PKind.TheOpen.{PKind-F, PExpr-F}
use Rattle.c_tree.specs.declared.program.PKind.TheFolds.{ind-PKind, map-PKind}
use Rattle.c_tree.specs.Storage.{words_of_slot, words_of}
use Rattle.c_tree.specs.Typing.{Sort, Value, Void, Array, Text, Wrong, Declarations, agreed, is_typed, is_value, is_effect, with_type, with_place, where_true, element_of, const_of, comma_of, result_of}
use Rattle.c_tree.specs.Typing.{sort_of_global, sort_of_slot, sort_of_target, sort_of_call, call_of_function, fit_params, fits_param, all_values, fits_format, fits_printf, fits_built_in}
use Rattle.c_tree.specs.Typing.{is_count, conversions_from, same_type, sort_step, sort_of}
use Rattle.c_tree.specs.Checks.{param_fits}
use Rattle.stack_code.specs.Machine.{conversions}
use Rattle.c_compile.specs.Asm.{Asm, one}
use Rattle.c_compile.specs.ExprCode as code_of
use Rattle.c_compile.specs.ExprCode.{Shape, ExprCode, TypedCode, kind_code, typed_code, expr_code, width_of, all_fit}
use Rattle.c_compile.proofs.Levels.{code_roll, kind_sort, sort_roll}
use Rattle.c_compile.proofs.Parts.{both_true}

-- what the sort of an expression says of its code
abbrev pub SortFits : Sort → ExprCode → Type 0
SortFits (Value of is_place) c = (c.fits ≡ true) × (c.width ≡ 1)
SortFits Void c = c.fits ≡ true
SortFits (Array of) c = (c.fits ≡ true) × (c.width ≡ 2)
SortFits (Text text) c = c.text ≡ Some text
SortFits Wrong c = Unit {0}

pub and_true : (a b : Bool) → a ≡ true → b ≡ true → (a && b) ≡ true
and_true true b h g = g
and_true false b h g = h

pair : {A B : Type 0} → A → B → A × B
pair a b = (a, b)

agreed_fits : (s : Sort) (written : Option Ctype) (c : ExprCode) → SortFits s c → SortFits (agreed s written) c
agreed_fits (Value of is_place) written c h = by_test (is_typed written of)
  where
    by_test : (b : Bool) → SortFits (where_true b (Value of is_place)) c
    by_test true = h
    by_test false = tt
agreed_fits (Array of) written c h = by_test (is_typed written of)
  where
    by_test : (b : Bool) → SortFits (where_true b (Array of)) c
    by_test true = h
    by_test false = tt
agreed_fits Void written c h = by_test (is_none written)
  where
    by_test : (b : Bool) → SortFits (where_true b Void) c
    by_test true = h
    by_test false = tt
agreed_fits (Text text) written c h = by_test (is_none written)
  where
    by_test : (b : Bool) → SortFits (where_true b (Text text)) c
    by_test true = h
    by_test false = tt
agreed_fits Wrong written c h = by_test (is_none written)
  where
    by_test : (b : Bool) → SortFits (where_true b Wrong) c
    by_test true = tt
    by_test false = tt

pub value_facts : (s : Sort) (c : ExprCode) → SortFits s c → is_value s ≡ true → (c.fits ≡ true) × (c.width ≡ 1)
value_facts (Value of is_place) c h v = h
value_facts Void c h v = cc
value_facts (Array of) c h v = cc
value_facts (Text text) c h v = cc
value_facts Wrong c h v = cc

pub effect_facts : (s : Sort) (c : ExprCode) → SortFits s c → is_effect s ≡ true → c.fits ≡ true
effect_facts (Value of is_place) c h v = h.0
effect_facts Void c h v = h
effect_facts (Array of) c h v = cc
effect_facts (Text text) c h v = cc
effect_facts Wrong c h v = cc

with_type_fits : (s : Sort) (c d : ExprCode) (go : Ctype → Sort) → SortFits s c → ((of : Ctype) → c.fits ≡ true → SortFits (go of) d) → SortFits (with_type s go) d
with_type_fits (Value of is_place) c d go h k = k of h.0
with_type_fits Void c d go h k = tt
with_type_fits (Array of) c d go h k = tt
with_type_fits (Text text) c d go h k = tt
with_type_fits Wrong c d go h k = tt

with_place_fits : (s : Sort) (c d : ExprCode) (go : Ctype → Sort) → SortFits s c → ((of : Ctype) → c.fits ≡ true → SortFits (go of) d) → SortFits (with_place s go) d
with_place_fits (Value of true) c d go h k = k of h.0
with_place_fits (Value of false) c d go h k = tt
with_place_fits Void c d go h k = tt
with_place_fits (Array of) c d go h k = tt
with_place_fits (Text text) c d go h k = tt
with_place_fits Wrong c d go h k = tt

where_true_fits : (b : Bool) (s : Sort) (d : ExprCode) → (b ≡ true → SortFits s d) → SortFits (where_true b s) d
where_true_fits true s d k = k refl
where_true_fits false s d k = tt

choose_fits :
    (t a b : Sort) (ct ca cb d : ExprCode) → SortFits t ct → SortFits a ca → SortFits b cb → (ct.fits ≡ true → ca.fits ≡ true → cb.fits ≡ true → d.fits ≡ true) → d.width ≡ 1
    → SortFits (where_true (is_value t) (with_type a (λ x. with_type b (λ y. Value (common_type x y) false)))) d
choose_fits t a b ct ca cb d ft fa fb k w =
    where_true_fits (is_value t) (with_type a (λ x. with_type b (λ y. Value (common_type x y) false))) d (λ h.
    with_type_fits a ca d (λ x. with_type b (λ y. Value (common_type x y) false)) fa (λ x f.
    with_type_fits b cb d (λ y. Value (common_type x y) false) fb (λ y g. (k (value_facts t ct ft h).0 f g, w))))

element_fits : (s : Sort) (d : ExprCode) → d.fits ≡ true → d.width ≡ 1 → SortFits (element_of s) d
element_fits (Value of is_place) d f w = tt
element_fits Void d f w = tt
element_fits (Array of) d f w = (f, w)
element_fits (Text text) d f w = tt
element_fits Wrong d f w = tt

comma_fits : (s : Sort) (c d : ExprCode) → SortFits s c → (c.fits ≡ true → (d.fits ≡ true) × (d.width ≡ 1)) → SortFits (comma_of s) d
comma_fits (Value of is_place) c d h k = k h.0
comma_fits Void c d h k = (k h).0
comma_fits (Array of) c d h k = tt
comma_fits (Text text) c d h k = tt
comma_fits Wrong c d h k = tt

result_fits : (o : Option Ctype) (d : ExprCode) → d.fits ≡ true → d.width ≡ 1 → SortFits (result_of o) d
result_fits None d f w = f
result_fits (Some of) d f w = (f, w)

-- ---- arguments

abbrev pub AllSorts : List Sort → List TypedCode → Type 0
AllSorts [] [] = Unit {0}
AllSorts [] (e ∷ es) = ⊥
AllSorts (s ∷ ss) [] = ⊥
AllSorts (s ∷ ss) (e ∷ es) = SortFits s e.part × AllSorts ss es

values_fit : (ss : List Sort) (es : List TypedCode) → AllSorts ss es → all_values ss ≡ true → (all_fit es ≡ true) × (width_of es ≡ length ss)
values_fit [] [] r h = (refl, refl)
values_fit [] (e ∷ es) r h = absurd r
values_fit (s ∷ ss) [] r h = absurd r
values_fit (s ∷ ss) (e ∷ es) r h =
    let b = both_true (is_value s) (all_values ss) h in
    let one = value_facts s e.part r.0 b.0 in
    let more = values_fit ss es r.1 b.1 in
    (and_true e.part.fits (all_fit es) one.0 more.0, omega (arith, one.1, more.1))

-- a parameter has no length
scalar_words : (x : Slot) (b : Bool) (n : Option ℕ) → is_none n ≡ true → not b ≡ true → words_of_slot (record x { array_param = b; length = n }) ≡ 1
scalar_words x true n h g = cc
scalar_words x false None h g = refl
scalar_words x false (Some n) h g = cc

array_words : (x : Slot) (b : Bool) (n : Option ℕ) → b ≡ true → words_of_slot (record x { array_param = b; length = n }) ≡ 2
array_words x true n g = refl
array_words x false n g = cc

param_facts : (s : Sort) (x : Slot) (c : ExprCode) → SortFits s c → fits_param s x ≡ true → is_none x.length ≡ true → (c.fits ≡ true) × (c.width ≡ words_of_slot x)
param_facts (Value of is_place) x c h f n = (h.0, h.1 ∙ sym (scalar_words x x.array_param x.length n f))
param_facts (Array of) x c h f n = (h.0, h.1 ∙ sym (array_words x x.array_param x.length (both_true x.array_param (same_type of x.of) f).0))
param_facts Void x c h f n = cc
param_facts (Text text) x c h f n = cc
param_facts Wrong x c h f n = cc

params_fit :
    (ss : List Sort) (es : List TypedCode) (xs : List Slot) → AllSorts ss es → fit_params ss xs ≡ true → list_all param_fits xs ≡ true
    → (all_fit es ≡ true) × (width_of es ≡ words_of words_of_slot xs)
params_fit [] [] [] r h p = (refl, refl)
params_fit [] [] (x ∷ xs) r h p = cc
params_fit [] (e ∷ es) xs r h p = absurd r
params_fit (s ∷ ss) [] xs r h p = absurd r
params_fit (s ∷ ss) (e ∷ es) [] r h p = cc
params_fit (s ∷ ss) (e ∷ es) (x ∷ xs) r h p =
    let b = both_true (fits_param s x) (fit_params ss xs) h in
    let q = both_true (param_fits x) (list_all param_fits xs) p in
    let length_none = (both_true _ (is_none x.length) (both_true _ (x.block == 0) q.0).0).1 in
    let one = param_facts s x e.part r.0 b.0 length_none in
    let more = params_fit ss es xs r.1 b.1 q.1 in
    (and_true e.part.fits (all_fit es) one.0 more.0, omega (arith, one.1, more.1))

module _ (names : Declarations) (params : (g : ℕ) (fn : Function) → slice_get names.functions g ≡ Some fn → list_all param_fits fn.params ≡ true) where
  abbrev sh : Shape
  sh = record { globals = names.globals; functions = names.functions; texts = names.texts; slots = names.slots }

  own_fits :
      (g : ℕ) (asm : Asm) (o : Option Function) → slice_get names.functions g ≡ o → (ss : List Sort) (es : List TypedCode) → AllSorts ss es
      → SortFits (call_of_function o ss) (code_of.valued asm (all_fit es && code_of.is_width_of o (width_of es)))
  own_fits g asm None e ss es r = tt
  own_fits g asm (Some fn) e ss es r =
      where_true_fits (fit_params ss fn.params) (result_of fn.result) _ (λ h.
      let p = params_fit ss es fn.params r h (params g fn e) in
      result_fits fn.result _ (and_true (all_fit es) (width_of es == words_of words_of_slot fn.params) p.0 (eq-eqb (width_of es) (words_of words_of_slot fn.params) p.1)) refl)

  count_facts : (o : Option ℕ) (n : ℕ) → is_count o n ≡ true → unwrap_or o 0 ≡ n
  count_facts None n h = cc
  count_facts (Some m) n h = eqb-true m n h

  format_facts : (o : Option (List ℕ)) (ss : List Sort) (es : List TypedCode) → AllSorts ss es → fits_format o ss ≡ true → (all_fit es && width_of es == conversions (unwrap_or o [])) ≡ true
  format_facts None ss es r h = cc
  format_facts (Some text) ss es r h =
      let b = both_true (all_values ss) (is_count (conversions_from false text) (length ss)) h in
      let v = values_fit ss es r b.0 in
      let n = count_facts (conversions_from false text) (length ss) b.1 in
      and_true (all_fit es) (width_of es == conversions text) v.0 (eq-eqb (width_of es) (conversions text) (v.1 ∙ sym n))

  printf_facts :
      (ss : List Sort) (es : List TypedCode) → AllSorts ss es → fits_printf names.texts ss ≡ true
      → (all_fit (code_of.after_text es) && width_of (code_of.after_text es) == conversions (unwrap_or (slice_get names.texts (unwrap_or (code_of.text_of es) 0)) [])) ≡ true
  printf_facts [] es r h = cc
  printf_facts (s ∷ ss) [] r h = absurd r
  printf_facts (Text text ∷ ss) (e ∷ es) r h =
      subst (λ o. (all_fit es && width_of es == conversions (unwrap_or (slice_get names.texts (unwrap_or o 0)) [])) ≡ true) (sym r.0) (format_facts (slice_get names.texts text) ss es r.1 h)
  printf_facts (Value of is_place ∷ ss) (e ∷ es) r h = cc
  printf_facts (Void ∷ ss) (e ∷ es) r h = cc
  printf_facts (Array of ∷ ss) (e ∷ es) r h = cc
  printf_facts (Wrong ∷ ss) (e ∷ es) r h = cc

  one_facts : (ss : List Sort) (es : List TypedCode) → AllSorts ss es → (all_values ss && length ss == 1) ≡ true → (all_fit es && width_of es == 1) ≡ true
  one_facts ss es r h =
      let b = both_true (all_values ss) (length ss == 1) h in
      let v = values_fit ss es r b.0 in
      and_true (all_fit es) (width_of es == 1) v.0 (eq-eqb (width_of es) 1 (v.1 ∙ eqb-true (length ss) 1 b.1))

  send_facts : (ss : List Sort) (es : List TypedCode) → AllSorts ss es → (all_values ss && nat_le 3 (length ss) && nat_le (length ss) 10) ≡ true → (all_fit es && nat_le 2 (width_of es)) ≡ true
  send_facts ss es r h =
      let b = both_true (all_values ss) (nat_le 3 (length ss)) (both_true (all_values ss && nat_le 3 (length ss)) (nat_le (length ss) 10) h).0 in
      let v = values_fit ss es r b.0 in
      let least = leb-true 3 (length ss) b.1 in
      and_true (all_fit es) (nat_le 2 (width_of es)) v.0 (le-leb 2 (width_of es) (omega (arith, v.1, least)))

  built_facts : (b : BuiltIn) (ss : List Sort) (es : List TypedCode) → AllSorts ss es → fits_built_in names.texts b ss ≡ true → (code_of.built_in sh b es).1 ≡ true
  built_facts built.SelfNo ss es r h = refl
  built_facts built.Nprocs ss es r h = refl
  built_facts built.Send ss es r h = send_facts ss es r h
  built_facts built.Receive ss es r h = one_facts ss es r h
  built_facts built.Word ss es r h = one_facts ss es r h
  built_facts built.Words ss es r h = refl
  built_facts built.From ss es r h = refl
  built_facts built.Via ss es r h = refl
  built_facts built.Printf ss es r h = printf_facts ss es r (both_true (nat_le (length ss) 31) (fits_printf names.texts ss) h).1

  call_fits :
      (what : Callee) (ss : List Sort) (es : List TypedCode) → AllSorts ss es
      → SortFits (sort_of_call names what ss) (code_of.valued (code_of.called sh what es).0 (code_of.called sh what es).1)
  call_fits (Own g) ss es r = own_fits g _ (slice_get names.functions g) refl ss es r
  call_fits (Built b) ss es r = where_true_fits (fits_built_in names.texts b ss) (Value Int false) _ (λ h. (built_facts b ss es r h, refl))

  -- ---- names

  global_fits : (base : ℕ) (place : Asm) (o : Option Global) → SortFits (sort_of_global o) (code_of.placed place (code_of.global_argument sh base o).0 (code_of.global_argument sh base o).1 true)
  global_fits base place None = tt
  global_fits base place (Some g) = by_length g.length
    where
      by_length :
          (n : Option ℕ)
          → SortFits (sort_of_global (Some (record g { length = n })))
          (code_of.placed place (code_of.global_argument sh base (Some (record g { length = n }))).0 (code_of.global_argument sh base (Some (record g { length = n }))).1 true)
      by_length None = (refl, refl)
      by_length (Some n) = (refl, refl)

  slot_fits : (base : ℕ) (place : Asm) (o : Option Slot) → SortFits (sort_of_slot o) (code_of.placed place (code_of.slot_argument sh base o).0 (code_of.slot_argument sh base o).1 true)
  slot_fits base place None = tt
  slot_fits base place (Some x) = by_kind x.array_param x.length
    where
      by_kind :
          (b : Bool) (n : Option ℕ)
          → SortFits (sort_of_slot (Some (record x { array_param = b; length = n })))
          (code_of.placed place (code_of.slot_argument sh base (Some (record x { array_param = b; length = n }))).0
          (code_of.slot_argument sh base (Some (record x { array_param = b; length = n }))).1 true)
      by_kind true n = (refl, refl)
      by_kind false None = (refl, refl)
      by_kind false (Some n) = (refl, refl)

  name_fits : (what : Target) (place : Asm) → SortFits (sort_of_target names what) (code_of.placed place (code_of.name_argument sh what).0 (code_of.name_argument sh what).1 true)
  name_fits (AGlobal i) place = global_fits _ place (slice_get names.globals i)
  name_fits (ASlot i) place = slot_fits _ place (slice_get names.slots i)

  -- ---- the induction

  abbrev KindFits : PKind → Type 0
  KindFits k = (written : Option Ctype) → SortFits (kind_sort names k written) (kind_code sh k)

  abbrev Child : Type 0
  Child = (e : PExpr) × KindFits e.kind

  child_fits : (e : Child) → SortFits (sort_of names e.0) (typed_code sh e.0).part
  child_fits e = agreed_fits (kind_sort names e.0.kind e.0.of) e.0.of (kind_code sh e.0.kind) (e.1 e.0.of)

  all_sorts : (es : List Child) → AllSorts (map (sort_of names) (map (λ e. e.0) es)) (map (typed_code sh) (map (λ e. e.0) es))
  all_sorts [] = tt
  all_sorts (e ∷ es) = (child_fits e, all_sorts es)

  abbrev Layer : Type 0
  Layer = PKind-F ((k : PKind) × KindFits k) Child

  const_fits : (written : Option Ctype) (d : ExprCode) → d.fits ≡ true → d.width ≡ 1 → SortFits (const_of written) d
  const_fits None d f w = tt
  const_fits (Some of) d f w = (f, w)

  step_fits :
      (y : Layer) (written : Option Ctype)
      → SortFits (sort_step names (map-PKind PKind PExpr (Option Ctype → Sort) Sort (kind_sort names) (sort_of names)
      (map-PKind ((k : PKind) × KindFits k) Child PKind PExpr (λ k. k.0) (λ e. e.0) y)) written)
      (code_of.kind_step sh (map-PKind PKind PExpr ExprCode TypedCode (kind_code sh) (typed_code sh) (map-PKind ((k : PKind) × KindFits k) Child PKind PExpr (λ k. k.0) (λ e. e.0) y)))
  step_fits (PKind-F.Const bits) written = const_fits written _ refl refl
  step_fits (PKind-F.Text text) written = where_true_fits _ (Text text) _ (λ _. refl)
  step_fits (PKind-F.Name what) written = name_fits what (one (code_of.place_instr sh what))
  step_fits (PKind-F.At what index) written =
      where_true_fits _ (element_of (sort_of_target names what)) _ (λ h. element_fits (sort_of_target names what) _ (value_facts _ _ (child_fits index) h).0 refl)
  step_fits (PKind-F.Call what args) written = call_fits what _ _ (all_sorts args)
  step_fits (PKind-F.Unary op part) written = with_type_fits _ _ _ _ (child_fits part) (λ of f. (f, refl))
  step_fits (PKind-F.Bump up before part) written = with_place_fits _ _ _ _ (child_fits part) (λ of f. (f, refl))
  step_fits (PKind-F.Binary op left right) written =
      with_type_fits _ _ _ _ (child_fits left) (λ a f. with_type_fits _ _ _ _ (child_fits right) (λ b g. (and_true _ _ f g, refl)))
  step_fits (PKind-F.And left right) written =
      where_true_fits _ (Value Int false) _ (λ h. let b = both_true _ _ h in (and_true _ _ (value_facts _ _ (child_fits left) b.0).0 (value_facts _ _ (child_fits right) b.1).0, refl))
  step_fits (PKind-F.Or left right) written =
      where_true_fits _ (Value Int false) _ (λ h. let b = both_true _ _ h in (and_true _ _ (value_facts _ _ (child_fits left) b.0).0 (value_facts _ _ (child_fits right) b.1).0, refl))
  step_fits (PKind-F.Choose test first second) written =
      choose_fits _ _ _ _ _ _ _ (child_fits test) (child_fits first) (child_fits second) (λ h f g. and_true _ _ h (and_true _ _ f g)) refl
  step_fits (PKind-F.Comma left right) written =
      where_true_fits _ _ _ (λ h. comma_fits _ _ _ (child_fits right) (λ g. pair (and_true _ _ (effect_facts _ _ (child_fits left) h) g) refl))
  step_fits (PKind-F.Assign op target value) written =
      with_place_fits _ _ _ _ (child_fits target) (λ of f. where_true_fits _ (Value of false) _ (λ h. (and_true _ _ f (value_facts _ _ (child_fits value) h).0, refl)))

  rolled : (y : Layer) → KindFits (roll-PKind (map-PKind ((k : PKind) × KindFits k) Child PKind PExpr (λ k. k.0) (λ e. e.0) y))
  rolled y written =
      let x = map-PKind ((k : PKind) × KindFits k) Child PKind PExpr (λ k. k.0) (λ e. e.0) y in
      subst (λ s. SortFits (s written) (kind_code sh (roll-PKind x))) (sym (sort_roll names x))
      (subst (λ c. SortFits (sort_step names (map-PKind PKind PExpr (Option Ctype → Sort) Sort (kind_sort names) (sort_of names) x) written) c) (sym (code_roll sh x)) (step_fits y written))

  kind_fits : (k : PKind) → KindFits k
  kind_fits = ind-PKind KindFits (λ e. KindFits e.kind) (λ x y is. subst (λ z. KindFits (roll-PKind z)) is (rolled y)) (λ x y is. subst (λ (z : PExpr-F PKind PExpr). KindFits z.kind) is y.kind.1)

  pub expr_fits : (e : PExpr) → SortFits (sort_of names e) (expr_code sh e)
  expr_fits e = child_fits (e, kind_fits e.kind)
