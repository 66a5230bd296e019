-- The sort of each kind of expression, by those of its parts.
use Rattle.std.proofs.Common.{◌≡◌, ℕ, Bool, true, false, List, map, length, Option, Some, None, refl, sym, ap, ◌∙◌, ◌⊎◌, inl, inr}
use Rattle.std.specs.Prelude.{◌&&◌, slice_get, unwrap_or, nat_lt}
use Rattle.std.proofs.lemmas.Option.{slice_get_within}
use Rattle.std.proofs.lemmas.Bool.{lt-ltb}
use denote.Hole.Carrier.{out, roll}
use Rattle.nm_base.specs.declared.operator.Ctype.{Ctype}
use Rattle.nm_base.specs.declared.operator.Ctype.TheVariants.{Int, Unsigned}
use Rattle.nm_base.specs.declared.operator.UnaryOp.{UnaryOp}
use Rattle.nm_base.specs.declared.operator.BinaryOp.{BinaryOp}
use Rattle.nm_base.specs.Word.{common_type}
use Rattle.c_tree.specs.declared.program.Target.{Target}
use Rattle.c_tree.specs.declared.program.Callee.{Callee}
use Rattle.c_tree.specs.declared.program.PExpr.{PExpr, roll-PExpr, out-roll-PExpr}
use Rattle.c_tree.specs.declared.program.PKind.{PKind, roll-PKind, out-PKind, out-roll-PKind}
use Rattle.c_tree.specs.declared.program.PKind.TheOpen.{PKind-F, PExpr-F}
use Rattle.c_tree.specs.declared.program.PKind.TheBlock.{laid-PKind, the_family, the_fold, body-PKind, body-PExpr, lays-PKind, lays-PExpr}
use Rattle.c_tree.specs.declared.program.PKind.TheFolds.{family, steps, map-PKind, map_is-PKind, map-PExpr, map_is-PExpr}
use Rattle.c_tree.specs.declared.program.PKind.TheVariants as k
use Rattle.c_tree.specs.declared.program.PKind.TheVariants.{rolls-Const, rolls-Text, rolls-Name, rolls-At, rolls-Call, rolls-Unary, rolls-Bump, rolls-Binary, rolls-And, rolls-Or}
use Rattle.c_tree.specs.declared.program.PKind.TheVariants.{rolls-Choose, rolls-Comma, rolls-Assign}
use Rattle.c_tree.specs.Typing as typing
use Rattle.c_tree.specs.Typing.{Declarations, Sort, Value, Void, Array, Text, sort_of, sort_of_target, sort_of_call, sort_step, typed_step, agreed, is_value, is_effect, with_type}
use Rattle.c_tree.specs.Typing.{with_place, where_true, element_of, unary_type, binary_type}
use Rattle.c_checker.specs.Expressions.{typed, type_of, unary_of, binary_of, choose_of, and_of, or_of, comma_of, bump_of, assign_of, call_of, text_argument}

agreed_value : (of : Ctype) (b : Bool) → agreed (Value of b) (Some of) ≡ Value of b
agreed_value Int b = refl
agreed_value Unsigned b = refl

agreed_array : (of : Ctype) → agreed (Array of) (Some of) ≡ Array of
agreed_array Int = refl
agreed_array Unsigned = refl

unary_sort : (op : UnaryOp) (s : Sort) (a : Ctype) (p : Bool) → s ≡ Value a p → with_type s (λ of. Value (unary_type op of) false) ≡ Value (unary_type op a) false
unary_sort op s a p h = ap (λ s. with_type s (λ of. Value (unary_type op of) false)) h

both_sort : (f : Ctype → Ctype → Ctype) (s t : Sort) (a b : Ctype) (p q : Bool) → s ≡ Value a p → t ≡ Value b q
    → with_type s (λ a. with_type t (λ b. Value (f a b) false)) ≡ Value (f a b) false
both_sort f s t a b p q h g = ap (λ s. with_type s (λ a. with_type t (λ b. Value (f a b) false))) h ∙ ap (λ t. with_type t (λ b. Value (f a b) false)) g

value_true : (s : Sort) (a : Ctype) (p : Bool) → s ≡ Value a p → is_value s ≡ true
value_true s a p h = ap is_value h

where_is : (b : Bool) (s : Sort) → b ≡ true → where_true b s ≡ s
where_is b s h = ap (λ b. where_true b s) h

module _ (names : Declarations) where
  abbrev pub kind_sort : PKind → Option Ctype → Sort
  kind_sort k = laid-PKind (family (Option Ctype → Sort) Sort) (steps (Option Ctype → Sort) Sort (sort_step names) (typed_step names)) k

  kind_roll : (x : PKind-F PKind PExpr) → kind_sort (roll-PKind x) ≡ sort_step names (map-PKind PKind PExpr (Option Ctype → Sort) Sort kind_sort (sort_of names) x)
  unfolding out-PKind roll-PKind out
  kind_roll x =
      let A = family (Option Ctype → Sort) Sort in
      let S = steps (Option Ctype → Sort) Sort (sort_step names) (typed_step names) in
      lays-PKind A S (roll-PKind x)
      ∙ ap (λ l. sort_step names ((body-PKind).map the_family A (the_fold A S) l)) (out-roll-PKind x)
      ∙ ap (sort_step names) (map_is-PKind the_family A (the_fold A S) x)

  expr_roll : (x : PExpr-F PKind PExpr) → sort_of names (roll-PExpr x) ≡ typed_step names (map-PExpr PKind PExpr (Option Ctype → Sort) Sort kind_sort (sort_of names) x)
  unfolding out roll
  expr_roll x =
      let A = family (Option Ctype → Sort) Sort in
      let S = steps (Option Ctype → Sort) Sort (sort_step names) (typed_step names) in
      lays-PExpr A S (roll-PExpr x)
      ∙ ap (λ l. typed_step names ((body-PExpr).map the_family A (the_fold A S) l)) (out-roll-PExpr x)
      ∙ ap (typed_step names) (map_is-PExpr the_family A (the_fold A S) x)

  sort_is : (x : PKind) (of : Option Ctype) (line : ℕ) → sort_of names (record { kind = x; of = of; line = line }) ≡ agreed (kind_sort x of) of
  unfolding out roll
  sort_is x of line = expr_roll (record { kind = x; of = of; line = line })

  -- ---- what an expression may be

  -- a value, with its type
  pub record IsValue (e : PExpr) : Type 0 where
    pub of : Ctype
    pub place : Bool
    pub sort : sort_of names e ≡ Value of place
    pub typed : e.of ≡ Some of

  pub record IsPlace (e : PExpr) : Type 0 where
    pub of : Ctype
    pub sort : sort_of names e ≡ Value of true
    pub typed : e.of ≡ Some of

  pub record IsNothing (e : PExpr) : Type 0 where
    pub sort : sort_of names e ≡ Void
    pub typed : e.of ≡ None

  pub record IsArray (of : Ctype) (e : PExpr) : Type 0 where
    pub sort : sort_of names e ≡ Array of

  -- a value, or nothing where it is not used
  abbrev pub Used : Bool → PExpr → Type 0
  Used true e = IsValue e
  Used false e = IsValue e ⊎ IsNothing e

  pub value_used : (used : Bool) (e : PExpr) → IsValue e → Used used e
  value_used true e h = h
  value_used false e h = inl h

  pub place_value : (e : PExpr) → IsPlace e → IsValue e
  place_value e h = record { of = h.of; place = true; sort = h.sort; typed = h.typed }

  type_is : (e : PExpr) (of : Ctype) → e.of ≡ Some of → type_of e ≡ of
  type_is e of h = ap (λ o. unwrap_or o Int) h

  sort_typed : (x : PKind) (of : Ctype) (line : ℕ) (b : Bool) → kind_sort x (Some of) ≡ Value of b → sort_of names (typed x of line) ≡ Value of b
  sort_typed x of line b h = sort_is x (Some of) line ∙ ap (λ s. agreed s (Some of)) h ∙ agreed_value of b

  value_typed : (x : PKind) (of : Ctype) (line : ℕ) (b : Bool) → kind_sort x (Some of) ≡ Value of b → IsValue (typed x of line)
  value_typed x of line b h = record { of = of; place = b; sort = sort_typed x of line b h; typed = refl }

  pub effect_true : (e : PExpr) → Used false e → is_effect (sort_of names e) ≡ true
  effect_true e (inl h) = ap is_effect h.sort
  effect_true e (inr h) = ap is_effect h.sort

  pub is_value_true : (e : PExpr) → IsValue e → is_value (sort_of names e) ≡ true
  is_value_true e h = ap is_value h.sort

  -- ---- leaves

  pub const_is : (bits : ℕ) (of : Ctype) (line : ℕ) → IsValue (typed (k.Const bits) of line)
  const_is bits of line = value_typed (k.Const bits) of line false (ap (λ s. s (Some of)) (ap kind_sort (sym (rolls-Const bits)) ∙ kind_roll (PKind-F.Const bits)))

  name_kind : (what : Target) (written : Option Ctype) → kind_sort (k.Name what) written ≡ sort_of_target names what
  name_kind what written = ap (λ s. s written) (ap kind_sort (sym (rolls-Name what)) ∙ kind_roll (PKind-F.Name what))

  pub name_is : (what : Target) (of : Ctype) (line : ℕ) → sort_of_target names what ≡ Value of true → IsPlace (typed (k.Name what) of line)
  name_is what of line h = record { of = of; sort = sort_typed (k.Name what) of line true (name_kind what (Some of) ∙ h); typed = refl }

  pub array_is : (what : Target) (of : Ctype) (line : ℕ) → sort_of_target names what ≡ Array of → IsArray of (typed (k.Name what) of line)
  array_is what of line h = record { sort = sort_is (k.Name what) (Some of) line ∙ ap (λ s. agreed s (Some of)) (name_kind what (Some of) ∙ h) ∙ agreed_array of }

  pub element_is : (what : Target) (of : Ctype) (i : PExpr) (line : ℕ) → sort_of_target names what ≡ Array of → IsValue i → IsPlace (typed (k.At what i) of line)
  element_is what of i line h v = record {
    of = of;
    sort = sort_typed (k.At what i) of line true
        (ap (λ s. s (Some of)) (ap kind_sort (sym (rolls-At what i)) ∙ kind_roll (PKind-F.At what i))
        ∙ where_is (is_value (sort_of names i)) (element_of (sort_of_target names what)) (is_value_true i v)
        ∙ ap element_of h);
    typed = refl;
  }

  -- ---- operators

  pub unary_is : (op : UnaryOp) (x : PExpr) (line : ℕ) → IsValue x → IsValue (unary_of op x line)
  unary_is op x line h =
      value_typed (k.Unary op x) (unary_type op (type_of x)) line false
      (ap (λ s. s (Some (unary_type op (type_of x)))) (ap kind_sort (sym (rolls-Unary op x)) ∙ kind_roll (PKind-F.Unary op x))
      ∙ unary_sort op (sort_of names x) h.of h.place h.sort
      ∙ ap (λ t. Value (unary_type op t) false) (sym (type_is x h.of h.typed)))

  abbrev types_are : (f : Ctype → Ctype → Ctype) (x y : PExpr) (h : IsValue x) (g : IsValue y) → Value (f h.of g.of) false ≡ Value (f (type_of x) (type_of y)) false
  types_are f x y h g = ap (λ t. Value (f t g.of) false) (sym (type_is x h.of h.typed)) ∙ ap (λ t. Value (f (type_of x) t) false) (sym (type_is y g.of g.typed))

  pub binary_is : (op : BinaryOp) (x y : PExpr) (line : ℕ) → IsValue x → IsValue y → IsValue (binary_of op x y line)
  binary_is op x y line h g =
      value_typed (k.Binary op x y) (binary_type op (type_of x) (type_of y)) line false
      (ap (λ s. s (Some (binary_type op (type_of x) (type_of y)))) (ap kind_sort (sym (rolls-Binary op x y)) ∙ kind_roll (PKind-F.Binary op x y))
      ∙ both_sort (binary_type op) (sort_of names x) (sort_of names y) h.of g.of h.place g.place h.sort g.sort
      ∙ types_are (binary_type op) x y h g)

  pub and_is : (x y : PExpr) (line : ℕ) → IsValue x → IsValue y → IsValue (and_of x y line)
  and_is x y line h g =
      value_typed (k.And x y) Int line false
      (ap (λ s. s (Some Int)) (ap kind_sort (sym (rolls-And x y)) ∙ kind_roll (PKind-F.And x y))
      ∙ where_is (is_value (sort_of names x) && is_value (sort_of names y)) (Value Int false) (ap (λ b. b && is_value (sort_of names y)) (is_value_true x h) ∙ is_value_true y g))

  pub or_is : (x y : PExpr) (line : ℕ) → IsValue x → IsValue y → IsValue (or_of x y line)
  or_is x y line h g =
      value_typed (k.Or x y) Int line false
      (ap (λ s. s (Some Int)) (ap kind_sort (sym (rolls-Or x y)) ∙ kind_roll (PKind-F.Or x y))
      ∙ where_is (is_value (sort_of names x) && is_value (sort_of names y)) (Value Int false) (ap (λ b. b && is_value (sort_of names y)) (is_value_true x h) ∙ is_value_true y g))

  pub choose_is : (t x y : PExpr) (line : ℕ) → IsValue t → IsValue x → IsValue y → IsValue (choose_of t x y line)
  choose_is t x y line v h g =
      value_typed (k.Choose t x y) (common_type (type_of x) (type_of y)) line false
      (ap (λ s. s (Some (common_type (type_of x) (type_of y)))) (ap kind_sort (sym (rolls-Choose t x y)) ∙ kind_roll (PKind-F.Choose t x y))
      ∙ where_is (is_value (sort_of names t)) (with_type (sort_of names x) (λ a. with_type (sort_of names y) (λ b. Value (common_type a b) false))) (is_value_true t v)
      ∙ both_sort common_type (sort_of names x) (sort_of names y) h.of g.of h.place g.place h.sort g.sort
      ∙ types_are common_type x y h g)

  comma_kind : (x y : PExpr) (written : Option Ctype) → Used false x → kind_sort (k.Comma x y) written ≡ typing.comma_of (sort_of names y)
  comma_kind x y written h =
      ap (λ s. s written) (ap kind_sort (sym (rolls-Comma x y)) ∙ kind_roll (PKind-F.Comma x y))
      ∙ where_is (is_effect (sort_of names x)) (typing.comma_of (sort_of names y)) (effect_true x h)

  comma_value : (x y : PExpr) (line : ℕ) → Used false x → IsValue y → IsValue (comma_of x y line)
  comma_value x y line h g = record {
    of = g.of;
    place = false;
    sort = sort_is (k.Comma x y) y.of line
        ∙ ap (λ o. agreed (kind_sort (k.Comma x y) o) o) g.typed
        ∙ ap (λ s. agreed s (Some g.of)) (comma_kind x y (Some g.of) h ∙ ap typing.comma_of g.sort)
        ∙ agreed_value g.of false;
    typed = g.typed;
  }

  comma_nothing : (x y : PExpr) (line : ℕ) → Used false x → IsNothing y → IsNothing (comma_of x y line)
  comma_nothing x y line h g = record {
    sort = sort_is (k.Comma x y) y.of line ∙ ap (λ o. agreed (kind_sort (k.Comma x y) o) o) g.typed ∙ ap (λ s. agreed s None) (comma_kind x y None h ∙ ap typing.comma_of g.sort);
    typed = g.typed;
  }

  pub comma_is : (used : Bool) (x y : PExpr) (line : ℕ) → Used false x → Used used y → Used used (comma_of x y line)
  comma_is true x y line h g = comma_value x y line h g
  comma_is false x y line h (inl g) = inl (comma_value x y line h g)
  comma_is false x y line h (inr g) = inr (comma_nothing x y line h g)

  abbrev stored_kind : (s : Sort) (a : Ctype) (go : Ctype → Sort) → s ≡ Value a true → with_place s go ≡ go a
  stored_kind s a go h = ap (λ s. with_place s go) h

  pub bump_is : (up before : Bool) (x : PExpr) (line : ℕ) → IsPlace x → IsValue (bump_of up before x line)
  bump_is up before x line h = record {
    of = h.of;
    place = false;
    sort = sort_is (k.Bump up before x) x.of line
        ∙ ap (λ o. agreed (kind_sort (k.Bump up before x) o) o) h.typed
        ∙ ap (λ s. agreed s (Some h.of))
        (ap (λ s. s (Some h.of)) (ap kind_sort (sym (rolls-Bump up before x)) ∙ kind_roll (PKind-F.Bump up before x))
        ∙ stored_kind (sort_of names x) h.of (λ of. Value of false) h.sort)
        ∙ agreed_value h.of false;
    typed = h.typed;
  }

  pub assign_is : (op : Option BinaryOp) (x y : PExpr) (line : ℕ) → IsPlace x → IsValue y → IsValue (assign_of op x y line)
  assign_is op x y line h g = record {
    of = h.of;
    place = false;
    sort = sort_is (k.Assign op x y) x.of line
        ∙ ap (λ o. agreed (kind_sort (k.Assign op x y) o) o) h.typed
        ∙ ap (λ s. agreed s (Some h.of))
        (ap (λ s. s (Some h.of)) (ap kind_sort (sym (rolls-Assign op x y)) ∙ kind_roll (PKind-F.Assign op x y))
        ∙ stored_kind (sort_of names x) h.of (λ of. where_true (is_value (sort_of names y)) (Value of false)) h.sort
        ∙ where_is (is_value (sort_of names y)) (Value h.of false) (is_value_true y g))
        ∙ agreed_value h.of false;
    typed = h.typed;
  }

  -- ---- calls and texts

  call_kind : (what : Callee) (args : List PExpr) (written : Option Ctype) → kind_sort (k.Call what args) written ≡ sort_of_call names what (map (sort_of names) args)
  call_kind what args written = ap (λ s. s written) (ap kind_sort (sym (rolls-Call what args)) ∙ kind_roll (PKind-F.Call what args))

  pub call_value : (what : Callee) (args : List PExpr) (of : Ctype) (line : ℕ) → sort_of_call names what (map (sort_of names) args) ≡ Value of false
      → IsValue (call_of what args (Some of) line)
  call_value what args of line h = value_typed (k.Call what args) of line false (call_kind what args (Some of) ∙ h)

  pub call_nothing : (what : Callee) (args : List PExpr) (line : ℕ) → sort_of_call names what (map (sort_of names) args) ≡ Void → IsNothing (call_of what args None line)
  call_nothing what args line h = record { sort = sort_is (k.Call what args) None line ∙ ap (λ s. agreed s None) (call_kind what args None ∙ h); typed = refl }

  pub text_is : (t : ℕ) (bytes : List ℕ) (line : ℕ) → slice_get names.texts t ≡ Some bytes → sort_of names (text_argument t line) ≡ Text t
  text_is t bytes line h =
      sort_is (k.Text t) None line
      ∙ ap (λ s. agreed s None)
      (ap (λ s. s None) (ap kind_sort (sym (rolls-Text t)) ∙ kind_roll (PKind-F.Text t))
      ∙ where_is (nat_lt t (length names.texts)) (Text t) (lt-ltb t (length names.texts) (slice_get_within names.texts t bytes h)))
