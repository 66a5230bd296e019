-- Every part of an expression fits the whole program, where no rule is broken.
use Rattle.std.proofs.Common.{◌≡◌, ℕ, suc, Bool, true, false, List, [], ◌∷◌, ◌++◌, map, length, Option, Some, None, refl, sym, ap, ◌∙◌, subst, inl, inr, arith, append_assoc}
use Rattle.std.specs.Prelude.{◌==◌, nat_le, slice_get, if◌then◌else◌}
use Rattle.std.proofs.lemmas.Bool.{eqb-true}
use Rattle.std.proofs.lemmas.List.Folds.{list_all-append}
use Rattle.std.proofs.lemmas.List.{append-nil, length-map}
use Rattle.nm_base.specs.declared.operator.Ctype.{Ctype}
use Rattle.nm_base.specs.declared.operator.Ctype.TheVariants.{Int, Unsigned}
use Rattle.c_tree.specs.declared.program.Function.{Function}
use Rattle.c_tree.specs.declared.program.Slot.{Slot}
use Rattle.c_tree.specs.declared.program.PExpr.{PExpr}
use Rattle.c_tree.specs.declared.program.PKind.TheVariants as k
use Rattle.c_tree.specs.declared.program.Callee.TheVariants.{Function as Own, BuiltIn as Built}
use Rattle.c_tree.specs.declared.program.BuiltIn.{BuiltIn}
use Rattle.c_tree.specs.declared.program.BuiltIn.TheVariants.{SelfNo, Nprocs, Send, Receive, Word, Words, From, Via, Printf}
use Rattle.c_tree.specs.Typing as typing
use Rattle.c_tree.specs.Typing.{Sort, Value, Array, Text, same_type, sort_of, sort_of_target, fit_params, fits_param, all_values, fits_built_in, fits_format}
use Rattle.c_tree.specs.Typing.{is_count, conversions_from, result_of, where_true, call_of_function}
use Rattle.c_checker.specs.declared.fault.CheckFault.{CheckFault}
use Rattle.c_checker.specs.declared.fault.CheckFault.TheVariants.{Undeclared, NotArray, NotFunction, NotAssignable, Arity, TooMany, Format}
use Rattle.c_checker.specs.declared.entries.Thing.{Thing}
use Rattle.c_checker.specs.declared.entries.Thing.TheVariants as t
use Rattle.c_checker.specs.Found.{pure, broken, note, unless, ◌>>=◌, ◌>>◌}
use Rattle.c_checker.specs.Scope.{ScopeNames}
use Rattle.c_checker.specs.Expressions.{ExprCheck, typed, nothing, named_value, named_place, named_array, named_loose, subscripted, element, is_array, element_place, arguments, values}
use Rattle.c_checker.specs.Expressions.{returned, call_of, call_function, takes, add_text, conversion_faults, format_faults, text_argument, print_text, print_nothing, call_simple}
use Rattle.c_checker.specs.Expressions.{call_built_in, call_nothing, call_thing, call}
use Rattle.c_checker.proofs.TypedLists.{front_more, front_then, front_last, nil_left, nil_right, unless_none, and_true, both_true}
use Rattle.c_checker.proofs.TypedSorts as sorts
use Rattle.c_checker.proofs.TypedSorts.{IsValue, IsPlace, IsArray, Used, value_used, place_value, name_is, array_is, element_is, call_value, text_is, is_value_true}
use Rattle.c_checker.proofs.TypedReads.{Good, good_pure, good_broken, good_bind, good_weak, good_map, good_noted, good_after, good_notes, good_if, good_where}

-- ---- parameters

-- of one type each, and arrays alike
abbrev pub SameParams : List Slot → List Slot → Type 0
SameParams [] [] = Unit {0}
SameParams [] (y ∷ ys) = ⊥
SameParams (x ∷ xs) [] = ⊥
SameParams (x ∷ xs) (y ∷ ys) = (x.of ≡ y.of) × (x.array_param ≡ y.array_param) × SameParams xs ys

pub same_is : (a b : Ctype) → same_type a b ≡ true → a ≡ b
same_is Int Int h = refl
same_is Int Unsigned h = cc
same_is Unsigned Int h = cc
same_is Unsigned Unsigned h = refl

pub same_self : (a : Ctype) → same_type a a ≡ true
same_self Int = refl
same_self Unsigned = refl

module _ (final : typing.Declarations) where
  -- what a name stands for is there in the whole program, and a function's parameters are known
  pub record HasFunction (params : ℕ → List Slot) (f : ℕ) (result : Option Ctype) : Type 0 where
    pub function : Function
    pub is : slice_get final.functions f ≡ Some function
    pub gives : function.result ≡ result
    pub same : SameParams (params f) function.params

  abbrev pub ThingFits : (ℕ → List Slot) → Thing → Type 0
  ThingFits params (t.Scalar what of) = sort_of_target final what ≡ Value of true
  ThingFits params (t.Array what of) = sort_of_target final what ≡ Array of
  ThingFits params (t.Function f result) = HasFunction params f result
  ThingFits params (t.BuiltIn b) = Unit {0}
  ThingFits params t.Unknown = Unit {0}

  pub record NamesFit (names : ScopeNames) : Type 0 where
    pub things : (name : List ℕ) → ThingFits names.params (names.find name)

module _ (final : typing.Declarations) (H : Type 0) where
  -- what a part is checked for fits
  pub record PartFits (p : ExprCheck) : Type 0 where
    pub value : (used : Bool) → Good final.texts H (p.value used) (Used final used)
    pub place : (line : ℕ) → Good final.texts H (p.place line) (IsPlace final)
    pub array : (of : Ctype) → Good final.texts H (p.array of) (IsArray final of)
    pub loose : Good final.texts H p.loose (λ e. Unit {0})

  abbrev pub AllFit : List ExprCheck → Type 0
  AllFit [] = Unit {0}
  AllFit (p ∷ ps) = PartFits p × AllFit ps

  -- ---- names

  pub value_named : (params : ℕ → List Slot) (x : Thing) (line : ℕ) (used : Bool) → (H → ThingFits final params x) → Good final.texts H (named_value x line) (Used final used)
  value_named params (t.Scalar what of) line used h = good_pure final.texts H _ (λ w. value_used final used _ (place_value final _ (name_is final what of line (h w))))
  value_named params (t.Array what of) line used h = good_broken final.texts H _ _
  value_named params (t.Function f result) line used h = good_broken final.texts H _ _
  value_named params (t.BuiltIn b) line used h = good_broken final.texts H _ _
  value_named params t.Unknown line used h = good_broken final.texts H _ _

  pub place_named : (params : ℕ → List Slot) (x : Thing) (line at : ℕ) → (H → ThingFits final params x) → Good final.texts H (named_place x line at) (IsPlace final)
  place_named params (t.Scalar what of) line at h = good_pure final.texts H _ (λ w. name_is final what of line (h w))
  place_named params (t.Array what of) line at h = good_broken final.texts H _ _
  place_named params (t.Function f result) line at h = good_broken final.texts H _ _
  place_named params (t.BuiltIn b) line at h = good_broken final.texts H _ _
  place_named params t.Unknown line at h = good_notes final.texts H (Undeclared line) (NotAssignable at ∷ []) _

  array_by : (b : Bool) (x : PExpr) (f : CheckFault) (y : PExpr) {P : PExpr → Type 0} → (b ≡ true → H → P x) → Good final.texts H (if b then pure x else broken f y) P
  array_by true x f y k = good_pure final.texts H x (k refl)
  array_by false x f y k = good_broken final.texts H f y

  pub array_named : (params : ℕ → List Slot) (x : Thing) (line : ℕ) (of : Ctype) → (H → ThingFits final params x) → Good final.texts H (named_array x line of) (IsArray final of)
  array_named params (t.Array what a) line of h =
      let e = typed (k.Name what) a line in
      array_by (same_type a of) e _ _ (λ same w. subst (λ o. IsArray final o e) (same_is a of same) (array_is final what a line (h w)))
  array_named params (t.Scalar what a) line of h = good_broken final.texts H _ _
  array_named params (t.Function f result) line of h = good_broken final.texts H _ _
  array_named params (t.BuiltIn b) line of h = good_broken final.texts H _ _
  array_named params t.Unknown line of h = good_notes final.texts H (Undeclared line) (NotArray line ∷ []) _

  pub loose_named : (x : Thing) (line : ℕ) → Good final.texts H (named_loose x line) (λ e. Unit {0})
  loose_named (t.Array what a) line = good_pure final.texts H _ (λ w. tt)
  loose_named (t.Scalar what a) line = good_pure final.texts H _ (λ w. tt)
  loose_named (t.Function f result) line = good_broken final.texts H _ _
  loose_named (t.BuiltIn b) line = good_broken final.texts H _ _
  loose_named t.Unknown line = good_broken final.texts H _ _

  subscripted_good : (params : ℕ → List Slot) (x : Thing) (line : ℕ) → (H → ThingFits final params x)
      → Good final.texts H (subscripted x line) (λ a. sort_of_target final a.0 ≡ Array a.1)
  subscripted_good params (t.Array what of) line h = good_pure final.texts H _ h
  subscripted_good params (t.Scalar what of) line h = good_broken final.texts H _ _
  subscripted_good params (t.Function f result) line h = good_broken final.texts H _ _
  subscripted_good params (t.BuiltIn b) line h = good_broken final.texts H _ _
  subscripted_good params t.Unknown line h = good_notes final.texts H (Undeclared line) (NotArray line ∷ []) _

  pub element_good : (params : ℕ → List Slot) (x : Thing) (line : ℕ) (index : ExprCheck) → (H → ThingFits final params x) → PartFits index
      → Good final.texts H (element x line index) (IsPlace final)
  element_good params x line index h p =
      good_bind final.texts H {f = λ a. index.value true >>= (λ i. pure (typed (k.At a.0 i) a.1 line))} (subscripted_good params x line h) (λ a.
      good_map final.texts H (λ i. typed (k.At a.0 i) a.1 line) (p.value true) (λ i v s. element_is final a.0 a.1 i line s v))

  pub element_place_good : (params : ℕ → List Slot) (x : Thing) (line : ℕ) (index : ExprCheck) (at : ℕ) → (H → ThingFits final params x) → PartFits index
      → Good final.texts H (element_place x line index at) (IsPlace final)
  element_place_good params x line index at h p =
      good_bind final.texts H {f = λ e. note (unless (is_array x) (NotAssignable at)) >> pure e} (element_good params x line index h p) (λ e.
      good_noted final.texts H (unless (is_array x) (NotAssignable at)) (good_pure final.texts H e (λ w n s. s)))

  -- ---- arguments

  abbrev IsArgumentBy : Bool → Ctype → PExpr → Type 0
  IsArgumentBy true of e = IsArray final of e
  IsArgumentBy false of e = IsValue final e

  abbrev pub IsArgument : Slot → PExpr → Type 0
  IsArgument x e = IsArgumentBy x.array_param x.of e

  argument_by : (a : ExprCheck) (b : Bool) (of : Ctype) → PartFits a → Good final.texts H (if b then a.array of else a.value true) (IsArgumentBy b of)
  argument_by a true of p = p.array of
  argument_by a false of p = p.value true

  abbrev pub EachArgument : List Slot → List PExpr → Type 0
  EachArgument [] [] = Unit {0}
  EachArgument [] (e ∷ es) = ⊥
  EachArgument (x ∷ xs) [] = ⊥
  EachArgument (x ∷ xs) (e ∷ es) = IsArgument x e × EachArgument xs es

  -- the arguments after those before them
  pub record After (params : List Slot) (before : List PExpr) (n : ℕ) (all : List PExpr) : Type 0 where
    pub more : List PExpr
    pub is : all ≡ before ++ more
    pub each : n ≡ length params → EachArgument params more

  after_one : (x : Slot) (params : List Slot) (before : List PExpr) (e : PExpr) (n : ℕ) (all : List PExpr) → IsArgument x e → After params (before ++ e ∷ []) n all
      → After (x ∷ params) before (suc n) all
  after_one x params before e n all h a = record {
    more = e ∷ a.more;
    is = a.is ∙ append_assoc before (e ∷ []) a.more;
    each = λ l. (h, a.each (omega (arith, l)));
  }

  after_loose : (before : List PExpr) (e : PExpr) (n : ℕ) (all : List PExpr) → After [] (before ++ e ∷ []) n all → After [] before (suc n) all
  after_loose before e n all a = record {
    more = e ∷ a.more;
    is = a.is ∙ append_assoc before (e ∷ []) a.more;
    each = λ l. absurd (omega (arith, l));
  }

  pub arguments_good : (params : List Slot) (before : List PExpr) (args : List ExprCheck) → AllFit args
      → Good final.texts H (arguments params before args) (After params before (length args))
  arguments_good [] before [] h = good_pure final.texts H before (λ w. record { more = []; is = sym (append-nil before); each = λ l. tt })
  arguments_good (x ∷ xs) before [] h = good_pure final.texts H before (λ w. record { more = []; is = sym (append-nil before); each = λ l. absurd (omega (arith, l)) })
  arguments_good [] before (a ∷ more) h =
      good_bind final.texts H {f = λ e. arguments [] (before ++ e ∷ []) more} h.0.loose (λ e.
      good_weak final.texts H (arguments_good [] (before ++ e ∷ []) more h.1) (λ all r u. after_loose before e (length more) all r))
  arguments_good (x ∷ xs) before (a ∷ more) h =
      good_bind final.texts H {f = λ e. arguments xs (before ++ e ∷ []) more} (argument_by a x.array_param x.of h.0) (λ e.
      good_weak final.texts H (arguments_good xs (before ++ e ∷ []) more h.1) (λ all r p. after_one x xs before e (length more) all p r))

  argument_fits : (x y : Slot) (e : PExpr) → x.of ≡ y.of → x.array_param ≡ y.array_param → IsArgument x e → fits_param (sort_of final e) y ≡ true
  argument_fits x y e h g = by_test x.array_param y.array_param g
    where
      by_test : (b c : Bool) → b ≡ c → IsArgumentBy b x.of e → fits_param (sort_of final e) (record y { array_param = c }) ≡ true
      by_test true true i a = ap (λ s. fits_param s (record y { array_param = true })) a.sort ∙ ap (same_type x.of) (sym h) ∙ same_self x.of
      by_test true false i a = cc
      by_test false true i a = cc
      by_test false false i a = ap (λ s. fits_param s (record y { array_param = false })) a.sort

  pub arguments_fit : (xs ys : List Slot) (es : List PExpr) → SameParams xs ys → EachArgument xs es → fit_params (map (sort_of final) es) ys ≡ true
  arguments_fit [] [] [] s h = refl
  arguments_fit [] [] (e ∷ es) s h = absurd h
  arguments_fit [] (y ∷ ys) es s h = absurd s
  arguments_fit (x ∷ xs) [] es s h = absurd s
  arguments_fit (x ∷ xs) (y ∷ ys) [] s h = absurd h
  arguments_fit (x ∷ xs) (y ∷ ys) (e ∷ es) s h = and_true (argument_fits x y e s.0 s.1 h.0) (arguments_fit xs ys es s.2 h.1)

  -- ---- calls of the program's own functions

  function_sort : (params : ℕ → List Slot) (f : ℕ) (result : Option Ctype) (es : List PExpr) (h : HasFunction final params f result)
      → fit_params (map (sort_of final) es) h.function.params ≡ true → typing.sort_of_call final (Own f) (map (sort_of final) es) ≡ result_of result
  function_sort params f result es h g =
      ap (λ o. call_of_function o (map (sort_of final) es)) h.is
      ∙ ap (λ b. where_true b (result_of h.function.result)) g
      ∙ ap result_of h.gives

  returned_good : (f : ℕ) (result : Option Ctype) (es : List PExpr) (line : ℕ) (used : Bool) → (H → typing.sort_of_call final (Own f) (map (sort_of final) es) ≡ result_of result)
      → Good final.texts H (returned used result line (call_of (Own f) es result line)) (Used final used)
  returned_good f None es line true h = good_broken final.texts H _ _
  returned_good f None es line false h = good_pure final.texts H _ (λ w. inr (sorts.call_nothing final (Own f) es line (h w)))
  returned_good f (Some of) es line true h = good_pure final.texts H _ (λ w. call_value final (Own f) es of line (h w))
  returned_good f (Some of) es line false h = good_pure final.texts H _ (λ w. inl (call_value final (Own f) es of line (h w)))

  returned_any : (result : Option Ctype) (line : ℕ) (used : Bool) (e : PExpr) → Good final.texts H (returned used result line e) (λ y. Unit {0})
  returned_any None line true e = good_broken final.texts H _ _
  returned_any None line false e = good_pure final.texts H _ (λ w. tt)
  returned_any (Some of) line true e = good_pure final.texts H _ (λ w. tt)
  returned_any (Some of) line false e = good_pure final.texts H _ (λ w. tt)

  function_done : (params : ℕ → List Slot) (f : ℕ) (result : Option Ctype) (n line : ℕ) (used : Bool) (xs : List PExpr) → (H → HasFunction final params f result)
      → After (params f) [] n xs → n ≡ length (params f) → Good final.texts H (returned used result line (call_of (Own f) xs result line)) (Used final used)
  function_done params f result n line used xs h a e =
      returned_good f result xs line used (λ w.
      function_sort params f result xs (h w)
      (subst (λ l. fit_params (map (sort_of final) l) (h w).function.params ≡ true) (sym a.is)
      (arguments_fit (params f) (h w).function.params a.more (h w).same (a.each e))))

  pub function_good : (params : ℕ → List Slot) (f : ℕ) (result : Option Ctype) (args : List ExprCheck) (line : ℕ) (used : Bool) → (H → HasFunction final params f result) → AllFit args
      → Good final.texts H (call_function f result (params f) args line used) (Used final used)
  function_good params f result args line used h fits =
      good_noted final.texts H (unless (length args == length (params f)) (Arity line))
      (good_bind final.texts H {f = λ xs. returned used result line (call_of (Own f) xs result line)} (arguments_good (params f) [] args fits) (λ xs.
      let any = returned_any result line used (call_of (Own f) xs result line) in
      good_if final.texts H any.grows any.short (λ a.
      good_if final.texts H any.grows any.short (λ e.
      function_done params f result (length args) line used xs h a (eqb-true (length args) (length (params f)) (unless_none _ (Arity line) e))))))

  -- ---- calls of the built-in functions

  abbrev pub EachValue : List PExpr → Type 0
  EachValue [] = Unit {0}
  EachValue (e ∷ es) = IsValue final e × EachValue es

  -- the values after those before them
  pub record Values (before : List PExpr) (n : ℕ) (all : List PExpr) : Type 0 where
    pub more : List PExpr
    pub is : all ≡ before ++ more
    pub count : length more ≡ n
    pub each : EachValue more

  pub values_good : (before : List PExpr) (args : List ExprCheck) → AllFit args → Good final.texts H (values before args) (Values before (length args))
  values_good before [] h = good_pure final.texts H before (λ w. record { more = []; is = sym (append-nil before); count = refl; each = tt })
  values_good before (a ∷ more) h =
      good_bind final.texts H {f = λ e. values (before ++ e ∷ []) more} (h.0.value true) (λ e.
      good_weak final.texts H (values_good (before ++ e ∷ []) more h.1) (λ all r p.
      record { more = e ∷ r.more; is = r.is ∙ append_assoc before (e ∷ []) r.more; count = ap suc r.count; each = (p, r.each) }))

  values_are : (es : List PExpr) → EachValue es → all_values (map (sort_of final) es) ≡ true
  values_are [] h = refl
  values_are (e ∷ es) h = and_true (is_value_true final e h.0) (values_are es h.1)

  -- a number of values that a built-in function takes fits it
  abbrev pub TakesValues : BuiltIn → Type 0
  TakesValues b = (ss : List Sort) → all_values ss ≡ true → takes b (length ss) ≡ true → fits_built_in final.texts b ss ≡ true

  built_value : (b : BuiltIn) (xs : List PExpr) (line : ℕ) → fits_built_in final.texts b (map (sort_of final) xs) ≡ true → IsValue final (call_of (Built b) xs (Some Int) line)
  built_value b xs line h = call_value final (Built b) xs Int line (ap (λ c. where_true c (Value Int false)) h)

  simple_done : (b : BuiltIn) (n line : ℕ) (xs : List PExpr) → TakesValues b → Values [] n xs → unless (takes b n) (Arity line) ≡ []
      → IsValue final (call_of (Built b) xs (Some Int) line)
  simple_done b n line xs k a h =
      built_value b xs line
      (subst (λ l. fits_built_in final.texts b (map (sort_of final) l) ≡ true) (sym a.is)
      (k (map (sort_of final) a.more) (values_are a.more a.each)
      (ap (takes b) (length-map a.more (sort_of final) ∙ a.count) ∙ unless_none (takes b n) (Arity line) h)))

  pub simple_good : (b : BuiltIn) (args : List ExprCheck) (line : ℕ) → TakesValues b → AllFit args → Good final.texts H (call_simple b args line) (IsValue final)
  simple_good b args line k fits =
      good_noted final.texts H (unless (takes b (length args)) (Arity line))
      (good_map final.texts H (λ xs. call_of (Built b) xs (Some Int) line) (values_good [] args fits) (λ xs a h. simple_done b (length args) line xs k a h))

  send_takes : TakesValues Send
  send_takes ss v h = let b = both_true (nat_le 3 (length ss)) (nat_le (length ss) 10) h in and_true (and_true v b.0) b.1

  add_good : (text : List ℕ) → nat_le (length text) 509 ≡ true → Good final.texts H (add_text text) (λ t. slice_get final.texts t ≡ Some text)
  add_good text l = record {
    grows = λ s. front_more s (text ∷ []);
    short = λ s h a. list_all-append (λ t. nat_le (length t) 509) s (text ∷ []) ∙ and_true a (and_true l refl);
    holds = λ s g e w. front_last s text e;
  }

  count_is : (o : Option ℕ) (n at line : ℕ) → conversion_faults o n at line ≡ [] → is_count o n ≡ true
  count_is None n at line h = cc
  count_is (Some m) n at line h = unless_none (m == n) (Format line) h

  print_fits : (text : List ℕ) (t n at line : ℕ) (vs : List Sort) → slice_get final.texts t ≡ Some text → all_values vs ≡ true → length vs ≡ n → nat_le (suc n) 31 ≡ true
      → conversion_faults (conversions_from false text) n at line ≡ [] → fits_built_in final.texts Printf (Text t ∷ vs) ≡ true
  print_fits text t n at line vs g v l few h =
      and_true (ap (λ m. nat_le (suc m) 31) l ∙ few) (ap (λ o. fits_format o vs) g ∙ and_true v (ap (is_count (conversions_from false text)) l ∙ count_is (conversions_from false text) n at line h))

  print_done : (text : List ℕ) (t n at line : ℕ) (xs : List PExpr) → slice_get final.texts t ≡ Some text → Values (text_argument t at ∷ []) n xs → nat_le (suc n) 31 ≡ true
      → conversion_faults (conversions_from false text) n at line ≡ [] → IsValue final (call_of (Built Printf) xs (Some Int) line)
  print_done text t n at line xs g a few h =
      built_value Printf xs line
      (subst (λ l. fits_built_in final.texts Printf (map (sort_of final) l) ≡ true) (sym a.is)
      (subst (λ s. fits_built_in final.texts Printf (s ∷ map (sort_of final) a.more) ≡ true) (sym (text_is final t text at g))
      (print_fits text t n at line (map (sort_of final) a.more) g (values_are a.more a.each) (length-map a.more (sort_of final) ∙ a.count) few h)))

  print_good : (text : List ℕ) (at : ℕ) (more : List ExprCheck) (line : ℕ) → AllFit more
      → Good final.texts H (print_text text at more line) (λ y. nat_le (suc (length more)) 31 ≡ true → IsValue final y)
  print_good text at more line fits =
      let made : List PExpr → PExpr = λ xs. call_of (Built Printf) xs (Some Int) line in
      let limit = unless (nat_le (length text) 509) (TooMany line) in
      let counts = conversion_faults (conversions_from false text) (length more) at line in
      good_where final.texts H (format_faults text (length more) at line)
      (λ s. front_then (front_more s (text ∷ [])) ((values_good (text_argument (length s) at ∷ []) more fits).grows (s ++ text ∷ []))) (λ h.
      let short = unless_none (nat_le (length text) 509) (TooMany line) (nil_left limit counts h) in
      good_bind final.texts H {f = λ t. values (text_argument t at ∷ []) more >>= (λ xs. pure (made xs))} (add_good text short) (λ t.
      good_map final.texts H made (values_good (text_argument t at ∷ []) more fits) (λ xs a g few.
      print_done text t (length more) at line xs g a few (nil_right limit counts h))))

  print_nothing_good : {P : PExpr → Type 0} (args : List ExprCheck) (line : ℕ) → AllFit args → Good final.texts H (print_nothing args line) P
  print_nothing_good args line fits =
      good_bind final.texts H {f = λ u. pure (nothing line)} (good_after final.texts H {Q = λ u. ⊥} (Format line) (nothing line) (values_good [] args fits)) (λ u.
      good_pure final.texts H (nothing line) (λ w e. absurd e))

  print_by : (o : Option (List ℕ)) (first : ExprCheck) (more : List ExprCheck) (line : ℕ) → AllFit (first ∷ more)
      → Good final.texts H (elim o [ None ↦ print_nothing (first ∷ more) line | Some text ↦ print_text text first.line more line ]) (λ y. nat_le (suc (length more)) 31 ≡ true → IsValue final y)
  print_by None first more line fits = print_nothing_good (first ∷ more) line fits
  print_by (Some text) first more line fits = print_good text first.line more line fits.1

  pub built_in_good : (b : BuiltIn) (args : List ExprCheck) (line : ℕ) → AllFit args
      → Good final.texts H (call_built_in b args line) (λ y. nat_le (length args) 31 ≡ true → IsValue final y)
  built_in_good Printf [] line fits = print_nothing_good [] line fits
  built_in_good Printf (a ∷ more) line fits = print_by a.text a more line fits
  built_in_good Send args line fits = good_weak final.texts H (simple_good Send args line send_takes fits) (λ y h few. h)
  built_in_good Receive args line fits = good_weak final.texts H (simple_good Receive args line (λ ss v h. and_true v h) fits) (λ y h few. h)
  built_in_good Word args line fits = good_weak final.texts H (simple_good Word args line (λ ss v h. and_true v h) fits) (λ y h few. h)
  built_in_good SelfNo args line fits = good_weak final.texts H (simple_good SelfNo args line (λ ss v h. h) fits) (λ y h few. h)
  built_in_good Nprocs args line fits = good_weak final.texts H (simple_good Nprocs args line (λ ss v h. h) fits) (λ y h few. h)
  built_in_good Words args line fits = good_weak final.texts H (simple_good Words args line (λ ss v h. h) fits) (λ y h few. h)
  built_in_good From args line fits = good_weak final.texts H (simple_good From args line (λ ss v h. h) fits) (λ y h few. h)
  built_in_good Via args line fits = good_weak final.texts H (simple_good Via args line (λ ss v h. h) fits) (λ y h few. h)

  -- ---- calls

  call_nothing_good : {P : PExpr → Type 0} (f : CheckFault) (args : List ExprCheck) (line : ℕ) → AllFit args → Good final.texts H (call_nothing f args line) P
  call_nothing_good f args line fits =
      good_bind final.texts H {f = λ u. pure (nothing line)} (good_after final.texts H {Q = λ u. ⊥} f (nothing line) (arguments_good [] [] args fits)) (λ u.
      good_pure final.texts H (nothing line) (λ w e. absurd e))

  thing_good : (names : ScopeNames) (x : Thing) (args : List ExprCheck) (line : ℕ) (used : Bool) → (H → ThingFits final names.params x) → AllFit args
      → Good final.texts H (call_thing names x args line used) (λ y. nat_le (length args) 31 ≡ true → Used final used y)
  thing_good names (t.Function f result) args line used h fits = good_weak final.texts H (function_good names.params f result args line used h fits) (λ y u few. u)
  thing_good names (t.BuiltIn b) args line used h fits = good_weak final.texts H (built_in_good b args line fits) (λ y u few. value_used final used y (u few))
  thing_good names t.Unknown args line used h fits = call_nothing_good (Undeclared line) args line fits
  thing_good names (t.Scalar what of) args line used h fits = call_nothing_good (NotFunction line) args line fits
  thing_good names (t.Array what of) args line used h fits = call_nothing_good (NotFunction line) args line fits

  pub call_good : (names : ScopeNames) (x : Thing) (args : List ExprCheck) (line : ℕ) (used : Bool) → (H → ThingFits final names.params x) → AllFit args
      → Good final.texts H (call names x args line used) (Used final used)
  call_good names x args line used h fits =
      let few = nat_le (length args) 31 in
      good_noted final.texts H (unless few (TooMany line)) (good_weak final.texts H (thing_good names x args line used h fits) (λ y u e. u (unless_none few (TooMany line) e)))
