-- Functions that were declared agree with their bodies, where no rule is broken.
use Rattle.std.proofs.Common.{◌≡◌, ℕ, zero, suc, ◌≤◌, Bool, true, false, List, [], ◌∷◌, ◌++◌, length, Option, Some, None, refl, sym, ap, ◌∙◌, subst, arith}
use Rattle.std.specs.Prelude.{◌&&◌, not, slice_get, slice_set, is_some, if◌then◌else◌}
use Rattle.nm_base.specs.declared.operator.Ctype.{Ctype}
use Rattle.c_tree.specs.declared.program.Function.{Function}
use Rattle.c_tree.specs.declared.program.Slot.{Slot}
use Rattle.c_tree.specs.declared.tree.Item.{Item}
use Rattle.c_tree.specs.declared.tree.Item.TheVariants as i
use Rattle.c_tree.specs.declared.tree.Head.{Head}
use Rattle.c_tree.specs.declared.tree.Declr.{Declr}
use Rattle.c_tree.specs.declared.tree.Stmt.{Stmt}
use Rattle.c_tree.specs.Typing as typing
use Rattle.c_tree.specs.Typing.{same_type}
use Rattle.c_checker.specs.declared.fault.CheckFault.TheVariants.{Twice, Mismatch, NoBody}
use Rattle.c_checker.specs.declared.headings.Heading.{Heading}
use Rattle.c_checker.specs.declared.entries.Thing.{Thing}
use Rattle.c_checker.specs.declared.entries.Thing.TheVariants as t
use Rattle.c_checker.specs.declared.state.File.{File}
use Rattle.c_checker.specs.Found.{unless}
use Rattle.c_checker.specs.Scope.{find}
use Rattle.c_checker.specs.Units.{visible_params, global, globals, params, same_kind, same_kinds, same_result, later_faults, heading_of, first_head, head_of, head, with_body_of}
use Rattle.c_checker.specs.Units.{body_begin, body_of, function_of, item, items, functions_of, missing}
use Rattle.c_checker.proofs.TypedLists.{Front, front_same, front_more, front_then, nil_left, nil_right, unless_none, both_true, not_nil}
use Rattle.c_checker.proofs.TypedParts.{SameParams, same_is}
use Rattle.c_checker.proofs.TypedForms.{stmt_fits}

-- ---- lists of functions

-- the same functions, and perhaps more
abbrev pub HeadsFront : List Heading → List Heading → Type 0
HeadsFront [] ks = Unit {0}
HeadsFront (h ∷ hs) [] = ⊥
HeadsFront (h ∷ hs) (k ∷ ks) = (k.result ≡ h.result) × (k.params ≡ h.params) × HeadsFront hs ks

pub heads_same : (hs : List Heading) → HeadsFront hs hs
heads_same [] = tt
heads_same (h ∷ hs) = (refl, refl, heads_same hs)

pub heads_more : (hs ks : List Heading) → HeadsFront hs (hs ++ ks)
heads_more [] ks = tt
heads_more (h ∷ hs) ks = (refl, refl, heads_more hs ks)

pub heads_then : (hs ks ls : List Heading) → HeadsFront hs ks → HeadsFront ks ls → HeadsFront hs ls
heads_then [] ks ls a b = tt
heads_then (h ∷ hs) [] ls a b = absurd a
heads_then (h ∷ hs) (k ∷ ks) [] a b = absurd b
heads_then (h ∷ hs) (k ∷ ks) (l ∷ ls) a b = (b.0 ∙ a.0, b.1 ∙ a.1, heads_then hs ks ls a.2 b.2)

heads_set : (hs : List Heading) (f : ℕ) (x : Heading) (made : Function) → slice_get hs f ≡ Some x → HeadsFront hs (slice_set hs f (record x { body = Some made }))
heads_set [] f x made h = tt
heads_set (y ∷ hs) zero x made h = let e : y ≡ x = cc in (ap (λ (z : Heading). z.result) (sym e), ap (λ (z : Heading). z.params) (sym e), heads_same hs)
heads_set (y ∷ hs) (suc f) x made h = (refl, refl, heads_set hs f x made h)

heads_body : (hs : List Heading) (f : ℕ) (made : Function) (o : Option Heading) → slice_get hs f ≡ o → HeadsFront hs (with_body_of hs f made o)
heads_body hs f made None h = heads_same hs
heads_body hs f made (Some x) h = heads_set hs f x made h

pub heads_length : (hs ks : List Heading) → HeadsFront hs ks → length hs ≤ length ks
heads_length [] ks h = omega arith
heads_length (x ∷ hs) [] h = absurd h
heads_length (x ∷ hs) (y ∷ ks) h = omega (arith, heads_length hs ks h.2)

-- these are the functions that were declared
abbrev pub FunctionsFit : List Heading → List Function → Type 0
FunctionsFit [] gs = Unit {0}
FunctionsFit (h ∷ hs) [] = ⊥
FunctionsFit (h ∷ hs) (g ∷ gs) = (g.result ≡ h.result) × SameParams h.params g.params × FunctionsFit hs gs

pub functions_before : (hs ks : List Heading) (gs : List Function) → HeadsFront hs ks → FunctionsFit ks gs → FunctionsFit hs gs
functions_before [] ks gs a b = tt
functions_before (h ∷ hs) [] gs a b = absurd a
functions_before (h ∷ hs) (k ∷ ks) [] a b = absurd b
functions_before (h ∷ hs) (k ∷ ks) (g ∷ gs) a b = (b.0 ∙ a.0, subst (λ l. SameParams l g.params) a.1 b.1, functions_before hs ks gs a.2 b.2)

pub record FunctionAt (h : Heading) (gs : List Function) (f : ℕ) : Type 0 where
  pub function : Function
  pub is : slice_get gs f ≡ Some function
  pub gives : function.result ≡ h.result
  pub same : SameParams h.params function.params

pub function_at : (hs : List Heading) (gs : List Function) (f : ℕ) (h : Heading) → FunctionsFit hs gs → slice_get hs f ≡ Some h → FunctionAt h gs f
function_at [] gs f h a e = cc
function_at (x ∷ hs) [] f h a e = absurd a
function_at (x ∷ hs) (g ∷ gs) zero h a e = let is : x ≡ h = cc in subst (λ y. FunctionAt y (g ∷ gs) zero) is (record { function = g; is = refl; gives = a.0; same = a.1 })
function_at (x ∷ hs) (g ∷ gs) (suc f) h a e = let r = function_at hs gs f h a.2 e in record { function = r.function; is = r.is; gives = r.gives; same = r.same }

-- ---- parameters

pub params_self : (xs : List Slot) → SameParams xs xs
params_self [] = tt
params_self (x ∷ xs) = (refl, refl, params_self xs)

array_is : (a b : Bool) → (if a then b else not b) ≡ true → a ≡ b
array_is true true h = refl
array_is true false h = cc
array_is false true h = cc
array_is false false h = refl

kinds_are : (xs ys : List Slot) → same_kinds xs ys ≡ true → SameParams xs ys
kinds_are [] [] h = tt
kinds_are [] (y ∷ ys) h = absurd (cc)
kinds_are (x ∷ xs) [] h = absurd (cc)
kinds_are (x ∷ xs) (y ∷ ys) h =
    let a = both_true (same_kind x y) (same_kinds xs ys) h in
    let b = both_true (same_type x.of y.of) (if x.array_param then y.array_param else not y.array_param) a.0 in
    (same_is x.of y.of b.0, array_is x.array_param y.array_param b.1, kinds_are xs ys a.1)

result_is : (a b : Option Ctype) → same_result a b ≡ true → a ≡ b
result_is None None h = refl
result_is None (Some b) h = cc
result_is (Some a) None h = cc
result_is (Some a) (Some b) h = ap Some (sym (same_is b a h))

-- ---- bodies

abbrev pub BodyMatches : Option Ctype → List Slot → Option Function → Type 0
BodyMatches result params None = Unit {0}
BodyMatches result params (Some g) = (g.result ≡ result) × SameParams params g.params

-- each body is that of its heading
abbrev pub Consistent : List Heading → Type 0
Consistent [] = Unit {0}
Consistent (h ∷ hs) = BodyMatches h.result h.params h.body × Consistent hs

consistent_more : (hs : List Heading) (h : Heading) → Consistent hs → BodyMatches h.result h.params h.body → Consistent (hs ++ h ∷ [])
consistent_more [] h a b = (b, tt)
consistent_more (x ∷ hs) h a b = (a.0, consistent_more hs h a.1 b)

-- the function with this number has this result and parameters as these
pub record IsHead (hs : List Heading) (f : ℕ) (result : Option Ctype) (xs : List Slot) : Type 0 where
  pub agrees : (x : Heading) → slice_get hs f ≡ Some x → (result ≡ x.result) × SameParams x.params xs

consistent_set : (hs : List Heading) (f : ℕ) (x : Heading) (made : Function) → Consistent hs → slice_get hs f ≡ Some x → BodyMatches x.result x.params (Some made)
    → Consistent (slice_set hs f (record x { body = Some made }))
consistent_set [] f x made a h b = tt
consistent_set (y ∷ hs) zero x made a h b = (b, a.1)
consistent_set (y ∷ hs) (suc f) x made a h b = (a.0, consistent_set hs f x made a.1 h b)

consistent_body : (hs : List Heading) (f : ℕ) (made : Function) (o : Option Heading) → slice_get hs f ≡ o → Consistent hs → IsHead hs f made.result made.params
    → Consistent (with_body_of hs f made o)
consistent_body hs f made None h a b = a
consistent_body hs f made (Some x) h a b = consistent_set hs f x made a h (b.agrees x h)

-- all have bodies
pub has_all : (hs : List Heading) → Consistent hs → missing hs ≡ [] → FunctionsFit hs (functions_of hs)
has_all [] a h = tt
has_all (x ∷ hs) a h = by x.body a.0 (λ e. has_all hs a.1 e) h
  where
    by : (o : Option Function) → BodyMatches x.result x.params o → (missing hs ≡ [] → FunctionsFit hs (functions_of hs)) → unless (is_some o) (NoBody x.line) ++ missing hs ≡ []
        → FunctionsFit (x ∷ hs) (functions_of (record x { body = o } ∷ hs))
    by None b k e = absurd (not_nil (NoBody x.line) [] (missing hs) e)
    by (Some g) b k e = (b.0, b.1, k e)

-- ---- from one state to a later one

pub record GrowsFile (s t : File) : Type 0 where
  pub texts : Front s.texts t.texts
  pub globals : Front s.globals t.globals
  pub heads : HeadsFront s.headings t.headings

pub file_same : (s : File) → GrowsFile s s
file_same s = record { texts = front_same s.texts; globals = front_same s.globals; heads = heads_same s.headings }

pub file_then : {s t u : File} → GrowsFile s t → GrowsFile t u → GrowsFile s u
file_then {s = s} {t = t} {u = u} a b = record {
  texts = front_then a.texts b.texts;
  globals = front_then a.globals b.globals;
  heads = heads_then s.headings t.headings u.headings a.heads b.heads;
}

pub global_grows : (of : Ctype) (d : Declr) (s : File) → GrowsFile s (global of d s).state
global_grows of d s = record { texts = front_same s.texts; globals = front_more s.globals _; heads = heads_same s.headings }

pub globals_grow : (of : Ctype) (ds : List Declr) (s : File) → GrowsFile s (globals of ds s).state
globals_grow of [] s = file_same s
globals_grow of (d ∷ more) s = file_then (global_grows of d s) (globals_grow of more (global of d s).state)

head_of_grows : (x : Thing) (h : Head) (xs : List Slot) (defines : Bool) (s : File) → GrowsFile s (head_of x h xs defines s).state
head_of_grows (t.Function f result) h xs defines s = file_same s
head_of_grows (t.Scalar what of) h xs defines s = record { texts = front_same s.texts; globals = front_same s.globals; heads = heads_more s.headings (heading_of h xs ∷ []) }
head_of_grows (t.Array what of) h xs defines s = record { texts = front_same s.texts; globals = front_same s.globals; heads = heads_more s.headings (heading_of h xs ∷ []) }
head_of_grows (t.BuiltIn b) h xs defines s = record { texts = front_same s.texts; globals = front_same s.globals; heads = heads_more s.headings (heading_of h xs ∷ []) }
head_of_grows t.Unknown h xs defines s = record { texts = front_same s.texts; globals = front_same s.globals; heads = heads_more s.headings (heading_of h xs ∷ []) }

pub head_grows : (h : Head) (defines : Bool) (s : File) → GrowsFile s (head h defines s).state
head_grows h defines s = head_of_grows (find s.entries h.name) h (params (visible_params s) defines [] h.params).value defines s

any_names : typing.Declarations
any_names = record { globals = []; functions = []; texts = []; slots = [] }

pub function_grows : (f : ℕ) (h : Head) (xs : List Slot) (body : Stmt) (s : File) → GrowsFile s (function_of f h xs body s).state
function_grows f h xs body s =
    let grows = ((stmt_fits any_names s.headings xs h.result body).body (length s.entries)).grows (body_begin s xs) in
    record { texts = grows.texts; globals = front_same s.globals; heads = heads_body s.headings f (body_of s h xs body).value (slice_get s.headings f) refl }

pub item_grows : (x : Item) (s : File) → GrowsFile s (item x s).state
item_grows (i.Vars v) s = globals_grow v.of v.list s
item_grows (i.Proto h) s = head_grows h false s
item_grows (i.Function h body) s =
    let a = head h true s in
    file_then (head_grows h true s) (function_grows a.value.0 h a.value.1 body a.state)

pub items_grow : (xs : List Item) (s : File) → GrowsFile s (items xs s).state
items_grow [] s = file_same s
items_grow (x ∷ more) s = file_then (item_grows x s) (items_grow more (item x s).state)

-- ---- bodies stay those of their headings

globals_consistent : (of : Ctype) (ds : List Declr) (s : File) → Consistent s.headings → Consistent (globals of ds s).state.headings
globals_consistent of [] s c = c
globals_consistent of (d ∷ more) s c = globals_consistent of more (global of d s).state c

-- what is known of a function with a head: it agrees with it
pub record Headed (h : Head) (xs : List Slot) (f : ℕ) (t : File) : Type 0 where
  pub consistent : Consistent t.headings
  pub is_head : IsHead t.headings f h.result xs

last_is : (hs : List Heading) (h y : Heading) → slice_get (hs ++ h ∷ []) (length hs) ≡ Some y → h ≡ y
last_is [] h y e = cc
last_is (x ∷ hs) h y e = last_is hs h y e

first_headed : (h : Head) (xs : List Slot) (s : File) → Consistent s.headings → Headed h xs (length s.headings) (first_head h xs s).state
first_headed h xs s c = record {
  consistent = consistent_more s.headings (heading_of h xs) c tt;
  is_head = record {
    agrees = λ x e.
        let is = last_is s.headings (heading_of h xs) x e in
        (ap (λ (y : Heading). y.result) is, subst (λ (y : Heading). SameParams y.params xs) is (params_self xs));
  };
}

later_agrees : (o : Option Heading) (h : Head) (xs : List Slot) (defines : Bool) (x : Heading) → o ≡ Some x → later_faults o h xs defines ≡ []
    → (h.result ≡ x.result) × SameParams x.params xs
later_agrees None h xs defines x e n = cc
later_agrees (Some y) h xs defines x e n =
    let is : y ≡ x = cc in
    let mismatch = unless (same_result y.result h.result && same_kinds y.params xs) (Mismatch h.line) in
    let twice = unless (not (defines && is_some y.body)) (Twice h.line) in
    let b = both_true (same_result y.result h.result) (same_kinds y.params xs) (unless_none (same_result y.result h.result && same_kinds y.params xs) (Mismatch h.line) (nil_left mismatch twice n)) in
    (sym (result_is y.result h.result b.0) ∙ ap (λ (z : Heading). z.result) is, subst (λ (z : Heading). SameParams z.params xs) is (kinds_are y.params xs b.1))

later_headed : (f : ℕ) (h : Head) (xs : List Slot) (defines : Bool) (s : File) → Consistent s.headings → later_faults (slice_get s.headings f) h xs defines ≡ [] → Headed h xs f s
later_headed f h xs defines s c n = record { consistent = c; is_head = record { agrees = λ x e. later_agrees (slice_get s.headings f) h xs defines x e n } }

head_of_headed : (x : Thing) (h : Head) (xs : List Slot) (defines : Bool) (s : File) → Consistent s.headings → (head_of x h xs defines s).faults ≡ []
    → Headed h xs (head_of x h xs defines s).value (head_of x h xs defines s).state
head_of_headed (t.Function f result) h xs defines s c n = later_headed f h xs defines s c n
head_of_headed (t.Scalar what of) h xs defines s c n = first_headed h xs s c
head_of_headed (t.Array what of) h xs defines s c n = first_headed h xs s c
head_of_headed (t.BuiltIn b) h xs defines s c n = first_headed h xs s c
head_of_headed t.Unknown h xs defines s c n = first_headed h xs s c

pub head_headed : (h : Head) (defines : Bool) (s : File) → Consistent s.headings → (head h defines s).faults ≡ []
    → Headed h (head h defines s).value.1 (head h defines s).value.0 (head h defines s).state
head_headed h defines s c n =
    let xs = params (visible_params s) defines [] h.params in
    let found = head_of (find s.entries h.name) h xs.value defines s in
    head_of_headed (find s.entries h.name) h xs.value defines s c (nil_left found.faults [] (nil_right xs.faults (found.faults ++ []) n))

function_consistent : (f : ℕ) (h : Head) (xs : List Slot) (body : Stmt) (s : File) → Headed h xs f s → Consistent (function_of f h xs body s).state.headings
function_consistent f h xs body s a = consistent_body s.headings f (body_of s h xs body).value (slice_get s.headings f) refl a.consistent a.is_head

pub item_consistent : (x : Item) (s : File) → Consistent s.headings → (item x s).faults ≡ [] → Consistent (item x s).state.headings
item_consistent (i.Vars v) s c n = globals_consistent v.of v.list s c
item_consistent (i.Proto h) s c n = (head_headed h false s c (nil_left (head h false s).faults [] n)).consistent
item_consistent (i.Function h body) s c n =
    let a = head h true s in
    function_consistent a.value.0 h a.value.1 body a.state (head_headed h true s c (nil_left a.faults (function_of a.value.0 h a.value.1 body a.state).faults n))

pub items_consistent : (xs : List Item) (s : File) → Consistent s.headings → (items xs s).faults ≡ [] → Consistent (items xs s).state.headings
items_consistent [] s c n = c
items_consistent (x ∷ more) s c n =
    let a = item x s in
    items_consistent more a.state (item_consistent x s c (nil_left a.faults (items more a.state).faults n)) (nil_right a.faults (items more a.state).faults n)
