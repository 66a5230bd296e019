-- The program that a tree stands for keeps every rule, where no rule is broken.
use Rattle.std.proofs.Common.{◌≡◌, ℕ, zero, suc, ◌+◌, ◌≤◌, Bool, true, false, List, [], ◌∷◌, ◌++◌, length, Option, Some, None, refl, sym, ap, ◌∙◌, subst, arith, append_assoc}
use Rattle.std.proofs.Common.{length-append}
use Rattle.std.specs.Prelude.{◌&&◌, ◌==◌, not, nat_le, slice_get, slice_set, is_some, is_none, unwrap_or, codes, option_and_then, IsTrue}
use Rattle.std.specs.List.{list_all}
use Rattle.std.proofs.lemmas.List.{append-nil, length-set}
use Rattle.std.proofs.lemmas.Bool.{le-leb, eq-eqb}
use Rattle.nm_base.specs.declared.operator.Ctype.TheVariants.{Int}
use Rattle.nm_base.specs.declared.limits.TheConstants.{MAX_DATA_WORDS}
use Rattle.c_tree.specs.declared.program.Global.{Global}
use Rattle.c_tree.specs.declared.program.Function.{Function}
use Rattle.c_tree.specs.declared.program.Slot.{Slot}
use Rattle.c_tree.specs.declared.program.Target.TheVariants.{Slot as ASlot}
use Rattle.c_tree.specs.declared.tree.Tree.{Tree}
use Rattle.c_tree.specs.declared.tree.Item.{Item}
use Rattle.c_tree.specs.declared.tree.Item.TheVariants as i
use Rattle.c_tree.specs.declared.tree.Head.{Head}
use Rattle.c_tree.specs.declared.tree.Stmt.{Stmt}
use Rattle.c_tree.specs.Storage.{words_of, words_of_global}
use Rattle.c_tree.specs.Typing as typing
use Rattle.c_tree.specs.Typing.{is_typed}
use Rattle.c_tree.specs.Checks.{is_name, param_fits, function_fits, blocks_fit, check_of, main_fits, is_checked}
use Rattle.c_checker.specs.declared.fault.CheckFault.TheVariants.{NoBody, NoMain}
use Rattle.c_checker.specs.declared.headings.Heading.{Heading}
use Rattle.c_checker.specs.declared.state.Body.{Body}
use Rattle.c_checker.specs.declared.state.File.{File}
use Rattle.c_checker.specs.Found.{Found, unless}
use Rattle.c_checker.specs.Scope.{variable, find, params_of}
use Rattle.c_checker.specs.Statements.{slots, outside}
use Rattle.c_checker.specs.Units.{param_entries, head, with_body_of, body_begin, body_of, function_of, item, items, functions_of, missing, main_faults, number_of, body_at, whole}
use Rattle.c_checker.specs.Units.{empty_file, checks}
use Rattle.c_checker.specs.Laws.{IsChecked, UnbrokenIsChecked}
use Rattle.c_checker.proofs.TypedLists.{front_same, get_next, nil_left, nil_right, unless_none, and_true, both_true, not_nil}
use Rattle.c_checker.proofs.TypedParts.{ThingFits}
use Rattle.c_checker.proofs.TypedBodies.{EntriesFit, append_fits, Ended, Known}
use Rattle.c_checker.proofs.TypedStmts as level
use Rattle.c_checker.proofs.TypedForms.{stmt_fits}
use Rattle.c_checker.proofs.TypedHeads.{FunctionsFit, heads_length, has_all, function_grows, items_grow, items_consistent}
use Rattle.c_checker.proofs.TypedUnits.{FileEnd, end_before, entries_more, names_with, entries_in, BodyFits, BodiesFit, KnownFile, globals_keep, ParamsFit, head_keeps, head_params}

-- ---- lists of functions

body_length : (hs : List Heading) (f : ℕ) (made : Function) (o : Option Heading) → length (with_body_of hs f made o) ≡ length hs
body_length hs f made None = refl
body_length hs f made (Some x) = length-set hs f (record x { body = Some made })

module _ (G : List Global) (F : List Function) (T : List (List ℕ)) where
  bodies_set : (hs : List Heading) (f : ℕ) (x : Heading) (made : Function) → BodiesFit G F T hs → function_fits G F T made ≡ true
      → BodiesFit G F T (slice_set hs f (record x { body = Some made }))
  bodies_set [] f x made a b = tt
  bodies_set (y ∷ hs) zero x made a b = (b, a.1)
  bodies_set (y ∷ hs) (suc f) x made a b = (a.0, bodies_set hs f x made a.1 b)

  bodies_with : (hs : List Heading) (f : ℕ) (made : Function) (o : Option Heading) → BodiesFit G F T hs → function_fits G F T made ≡ true
      → BodiesFit G F T (with_body_of hs f made o)
  bodies_with hs f made None a b = a
  bodies_with hs f made (Some x) a b = bodies_set hs f x made a b

  -- ---- the body of a function

  param_fits_by : (params : ℕ → List Slot) (slots : List Slot) (n : ℕ) (x : Slot) → slice_get slots n ≡ Some x → param_fits x ≡ true
      → ThingFits (names_with G F T slots) params (variable (ASlot n) x.of x.array_param)
  param_fits_by params slots n x e h = by x.array_param e
    where
      scalar : is_none x.length ≡ true
      scalar = (both_true (is_name x.name) (is_none x.length) (both_true (is_name x.name && is_none x.length) (x.block == 0) h).0).1

      by : (b : Bool) → slice_get slots n ≡ Some (record x { array_param = b }) → ThingFits (names_with G F T slots) params (variable (ASlot n) x.of b)
      by true e = ap typing.sort_of_slot e
      by false e = ap typing.sort_of_slot e ∙ ap (λ c. typing.named x.of (not c)) scalar

  params_entries : (params : ℕ → List Slot) (slots before xs more : List Slot) → slots ≡ before ++ (xs ++ more) → list_all param_fits xs ≡ true
      → EntriesFit (names_with G F T slots) params (param_entries (length before) xs)
  params_entries params slots before [] more e h = tt
  params_entries params slots before (x ∷ xs) more e h =
      let b = both_true (param_fits x) (list_all param_fits xs) h in
      let next : length (before ++ x ∷ []) ≡ length before + 1 = length-append before (x ∷ []) in (
        param_fits_by params slots (length before) x (ap (λ l. slice_get l (length before)) e ∙ get_next before x (xs ++ more)) b.0,
        subst (λ n. EntriesFit (names_with G F T slots) params (param_entries n xs)) next
            (params_entries params slots (before ++ x ∷ []) xs more (e ∙ sym (append_assoc before (x ∷ []) (xs ++ more))) b.1),
      )

  module _ (f : ℕ) (h : Head) (xs : List Slot) (body : Stmt) (s : File) where
    abbrev start : Body
    start = body_begin s xs

    abbrev found : Found Body Function
    found = body_of s h xs body

    abbrev made : Function
    made = found.value

    abbrev final : typing.Declarations
    final = names_with G F T (xs ++ made.locals)

    abbrev after : File
    after = (function_of f h xs body s).state

    start_known : ParamsFit G F T xs → FunctionsFit s.headings F → KnownFile G F T s → Known final s.headings xs start
    start_known p heads k = record {
      entries = append_fits final (params_of s.headings) s.entries (param_entries 0 xs)
          (entries_in G F T (xs ++ made.locals) s.headings s.entries heads k.entries)
          (params_entries (params_of s.headings) (xs ++ made.locals) [] xs made.locals refl p.fit);
      params = refl;
      short = k.short;
      locals = refl;
      room = omega (arith, p.few);
    }

    ended : FileEnd G F T after → Ended final s.headings xs found.state
    ended e = record { texts = e.texts; slots = front_same (xs ++ made.locals) }

    made_fits : Known final s.headings xs found.state → level.BodyFits final s.headings xs h.result outside start made.body found.state → is_name h.name ≡ true
        → ParamsFit G F T xs → function_fits G F T made ≡ true
    made_fits k b name p =
        let check = check_of final h.result made.body in
        let count : length (xs ++ made.locals) ≡ slots found.state = length-append xs made.locals ∙ ap (λ n. n + length made.locals) (sym k.params) in
        let laid = b.0.laid [] (eq-eqb (length (xs ++ made.locals)) (slots found.state) count) in
        let first : slots start ≡ length xs = omega arith in
        let all = subst (λ n. blocks_fit (xs ++ made.locals) n 0 (check.blocks ++ []) ≡ true) first laid in
        let blocks = subst (λ l. blocks_fit (xs ++ made.locals) (length xs) 0 l ≡ true) (append-nil check.blocks) all in
        let room : nat_le (length xs + length made.locals) 256 ≡ true = le-leb (length xs + length made.locals) 256 (omega (arith, k.room, k.params)) in
        and_true (and_true (and_true (and_true (and_true name p.fit) k.locals) (le-leb (length xs) 31 p.few)) room) (and_true (and_true b.1 b.0.fine) blocks)

    function_ok : found.faults ≡ [] → FileEnd G F T after → FunctionsFit s.headings F → KnownFile G F T s → is_name h.name ≡ true → ParamsFit G F T xs
        → (function_fits G F T made ≡ true) × Known final s.headings xs found.state
    function_ok n e heads k name p =
        let good = (stmt_fits final s.headings xs h.result body).body (length s.entries) in
        let begin = start_known p heads k in
        let known = good.keeps start n (ended e) begin in
        (made_fits known (good.holds start n (ended e) begin) name p, known)

    function_keeps : found.faults ≡ [] → FileEnd G F T after → KnownFile G F T s → is_name h.name ≡ true → ParamsFit G F T xs → KnownFile G F T after
    function_keeps n e k name p =
        let grows = function_grows f h xs body s in
        let ok = function_ok n e (end_before G F T grows e).heads k name p in
        let count = body_length s.headings f made (slice_get s.headings f) in
        record {
          entries = entries_more G F T (length s.headings) (length after.headings) s.entries (heads_length s.headings after.headings grows.heads) k.entries;
          named = k.named;
          globals = k.globals;
          many = k.many;
          words = k.words;
          room = k.room;
          heads = omega (arith, count, k.heads);
          short = ok.1.short;
          bodies = bodies_with s.headings f made (slice_get s.headings f) k.bodies ok.0;
        }

  -- ---- items

  item_keeps : (x : Item) (s : File) → (item x s).faults ≡ [] → FileEnd G F T (item x s).state → KnownFile G F T s → KnownFile G F T (item x s).state
  item_keeps (i.Vars v) s n e k = globals_keep G F T v.of v.list s n e k
  item_keeps (i.Proto h) s n e k = (head_keeps G F T h false s (nil_left (head h false s).faults [] n) e k).known
  item_keeps (i.Function h body) s n e k =
      let a = head h true s in
      let rest = function_of a.value.0 h a.value.1 body a.state in
      let first = nil_left a.faults rest.faults n in
      let known = head_keeps G F T h true s first (end_before G F T (function_grows a.value.0 h a.value.1 body a.state) e) k in
      function_keeps a.value.0 h a.value.1 body a.state (nil_right a.faults rest.faults n) e known.known known.name (head_params G F T h s first)

  pub items_keep : (xs : List Item) (s : File) → (items xs s).faults ≡ [] → FileEnd G F T (items xs s).state → KnownFile G F T s → KnownFile G F T (items xs s).state
  items_keep [] s n e k = k
  items_keep (x ∷ more) s n e k =
      let a = item x s in
      let rest = items more a.state in
      items_keep more a.state (nil_right a.faults rest.faults n) e (item_keeps x s (nil_left a.faults rest.faults n) (end_before G F T (items_grow more a.state) e) k)

  pub nothing_known : KnownFile G F T empty_file
  nothing_known = record { entries = tt; named = refl; globals = refl; many = omega arith; words = refl; room = omega arith; heads = omega arith; short = refl; bodies = tt }

-- ---- trees

functions_count : (hs : List Heading) → length (functions_of hs) ≤ length hs
functions_count [] = omega arith
functions_count (x ∷ hs) = by x.body (functions_count hs)
  where
    by : (o : Option Function) → length (functions_of hs) ≤ length hs → length (functions_of (record x { body = o } ∷ hs)) ≤ length (x ∷ hs)
    by None h = omega (arith, h)
    by (Some g) h = omega (arith, h)

all_fit : (G : List Global) (F : List Function) (T : List (List ℕ)) (hs : List Heading) → BodiesFit G F T hs → list_all (function_fits G F T) (functions_of hs) ≡ true
all_fit G F T [] h = refl
all_fit G F T (x ∷ hs) h = by x.body h.0 (all_fit G F T hs h.1)
  where
    by : (o : Option Function) → BodyFits G F T o → list_all (function_fits G F T) (functions_of hs) ≡ true
        → list_all (function_fits G F T) (functions_of (record x { body = o } ∷ hs)) ≡ true
    by None a b = b
    by (Some g) a b = and_true a b

function_with_body : (hs : List Heading) (f : ℕ) (x : Heading) (g : Function) → missing hs ≡ [] → slice_get hs f ≡ Some x → x.body ≡ Some g → slice_get (functions_of hs) f ≡ Some g
function_with_body [] f x g n e b = cc
function_with_body (y ∷ hs) f x g n e b = by f y.body n e refl (λ k m d. function_with_body hs k x g m d b)
  where
    by : (f : ℕ) (o : Option Function) → unless (is_some o) (NoBody y.line) ++ missing hs ≡ [] → slice_get (y ∷ hs) f ≡ Some x → y.body ≡ o
        → ((k : ℕ) → missing hs ≡ [] → slice_get hs k ≡ Some x → slice_get (functions_of hs) k ≡ Some g) → slice_get (functions_of (record y { body = o } ∷ hs)) f ≡ Some g
    by f None m d c k = absurd (not_nil (NoBody y.line) [] (missing hs) m)
    by zero (Some z) m d c k =
        let is : y ≡ x = cc in
        let same : Some z ≡ Some g = sym c ∙ ap (λ (h : Heading). h.body) is ∙ b in
        same
    by (suc f) (Some z) m d c k = k f m d

main_is : (o : Option Function) → main_faults o ≡ [] → main_fits [] [] [] o ≡ true
main_is None h = absurd (not_nil (NoMain 1) [] [] h)
main_is (Some g) h =
    let b = both_true (is_typed g.result Int) (length g.params == 0) (unless_none (is_typed g.result Int && length g.params == 0) (NoMain g.line) h) in
    and_true b.1 b.0

main_at : (hs : List Heading) (o : Option ℕ) → missing hs ≡ [] → main_faults (body_at hs o) ≡ [] → slice_get (functions_of hs) (unwrap_or o 0) ≡ body_at hs o
main_at hs None m h = absurd (not_nil (NoMain 1) [] [] h)
main_at hs (Some f) m h = by (slice_get hs f) refl h
  where
    by : (o : Option Heading) → slice_get hs f ≡ o → main_faults (option_and_then (λ (x : Heading). x.body) o) ≡ []
        → slice_get (functions_of hs) f ≡ option_and_then (λ (x : Heading). x.body) o
    by None e n = absurd (not_nil (NoMain 1) [] [] n)
    by (Some x) e n = with_body_of_it x.body refl n
      where
        with_body_of_it : (b : Option Function) → x.body ≡ b → main_faults b ≡ [] → slice_get (functions_of hs) f ≡ b
        with_body_of_it None c k = absurd (not_nil (NoMain 1) [] [] k)
        with_body_of_it (Some g) c k = function_with_body hs f x g m e c

pub checked_parts : UnbrokenIsChecked
checked_parts tree n =
    let a = items tree.items empty_file in
    let e = a.state in
    let number = number_of (find e.entries (codes "main")) in
    let G = e.globals in
    let F = functions_of e.headings in
    let T = e.texts in
    let first = nil_left a.faults (whole e).faults n in
    let last = nil_right a.faults (whole e).faults n in
    let none_missing = nil_left (missing e.headings) (main_faults (body_at e.headings number)) last in
    let good_main = nil_right (missing e.headings) (main_faults (body_at e.headings number)) last in
    let heads = has_all e.headings (items_consistent tree.items empty_file tt first) none_missing in
    let end : FileEnd G F T e = record { texts = front_same T; globals = front_same G; heads = heads } in
    let known = items_keep G F T tree.items empty_file first end (nothing_known G F T) in
    let functions = le-leb (length F) 512 (omega (arith, functions_count e.headings, known.heads)) in
    let globals = le-leb (length G) 1024 known.many in
    let words = le-leb (words_of words_of_global G) MAX_DATA_WORDS (omega (arith, known.words, known.room)) in
    let main = ap (main_fits G F T) (main_at e.headings number none_missing good_main) ∙ main_is (body_at e.headings number) good_main in
    and_true (and_true (and_true (and_true (and_true (and_true functions globals) words) known.globals) (all_fit G F T e.headings known.bodies)) known.short) main

-- the same of a program's fields
pub checked_fields : (tree : Tree) (globals : List Global) (functions : List Function) (main : ℕ) (texts : List (List ℕ))
    → (checks tree).faults ≡ []
    → (checks tree).value ≡ record { globals = globals; functions = functions; main = main; texts = texts }
    → IsTrue (is_checked globals functions texts main)
checked_fields tree globals functions main texts n e = subst IsChecked e (checked_parts tree n)
