-- What a tree stands for, and the rules that it breaks.
use Rattle.std.specs.Prelude.{◌≡◌, ℕ, ◌+◌, Bool, true, false, not, ◌&&◌, ◌||◌, ◌==◌, nat_lt, nat_le, if◌then◌else◌, List, [], ◌∷◌, ◌++◌, length, slice_set, slice_get}
use Rattle.std.specs.Prelude.{Option, Some, None, is_some, is_none, unwrap_or, option_and_then, codes}
use Rattle.std.specs.List.{list_any}
use Rattle.std.specs.Str.{bytes_eq}
use Rattle.nm_base.specs.declared.operator.Ctype.{Ctype}
use Rattle.nm_base.specs.declared.operator.Ctype.TheVariants.{Int}
use Rattle.nm_base.specs.declared.limits.TheConstants.{MAX_DATA_WORDS}
use Rattle.c_tree.specs.declared.program.Global.{Global}
use Rattle.c_tree.specs.declared.program.Function.{Function}
use Rattle.c_tree.specs.declared.program.Slot.{Slot}
use Rattle.c_tree.specs.declared.program.Program.{Program}
use Rattle.c_tree.specs.declared.program.Target.TheVariants.{Global as AGlobal, Slot as ASlot}
use Rattle.c_tree.specs.Checks.{is_name}
use Rattle.c_tree.specs.declared.tree.Tree.{Tree}
use Rattle.c_tree.specs.declared.tree.Item.{Item}
use Rattle.c_tree.specs.declared.tree.Item.TheVariants as i
use Rattle.c_tree.specs.declared.tree.Head.{Head}
use Rattle.c_tree.specs.declared.tree.Param.{Param}
use Rattle.c_tree.specs.declared.tree.Declr.{Declr}
use Rattle.c_tree.specs.declared.tree.Expr.{Expr}
use Rattle.c_tree.specs.declared.tree.Stmt.{Stmt}
use Rattle.c_tree.specs.Storage.{words_of_global}
use Rattle.c_tree.specs.Typing.{same_type, is_typed}
use Rattle.c_checker.specs.declared.fault.CheckFault.{CheckFault}
use Rattle.c_checker.specs.declared.fault.CheckFault.TheVariants.{Twice, Mismatch, BadSize, NoBody, NoMain, TooMany}
use Rattle.c_checker.specs.declared.headings.Heading.{Heading}
use Rattle.c_checker.specs.declared.entries.Entry.{Entry}
use Rattle.c_checker.specs.declared.entries.Thing.{Thing}
use Rattle.c_checker.specs.declared.entries.Thing.TheVariants.{Function as AFunction}
use Rattle.c_checker.specs.declared.state.Body.{Body}
use Rattle.c_checker.specs.declared.state.File.{File}
use Rattle.c_checker.specs.Scope.{ScopeNames, names_of, variable, find, built_in, is_built_in, is_taken}
use Rattle.c_checker.specs.Found.{Found, Check, IsIn, fine, ◌>>=◌, ◌>>◌, pure, lift, unless, note}
use Rattle.c_checker.specs.Statements.{declr_faults, size, constant_pattern, stmt_of}

abbrev pub Files : Type 0 → Type 0
Files A = Check File A

abbrev pub get : Files File
get = λ s. fine s s

abbrev pub visible : File → ScopeNames
visible s = names_of s.entries s.headings

-- ---- globals

-- the pattern of a global's initialiser, 0 without one
abbrev pub initial : ScopeNames → Option Expr → Found (Unit {0}) ℕ
initial names None = fine 0 tt
initial names (Some e) = ((λ s. constant_pattern names e) >>= (λ n. pure (unwrap_or n 0))) tt

abbrev pub global_of : Ctype → Declr → Option ℕ → ℕ → Global
global_of of d n start = record { name = d.name; of = of; length = n; start = start }

-- a global's rules, its name aside
abbrev pub global_faults : Declr → File → List CheckFault
global_faults d s = declr_faults d ++ unless (nat_lt (length s.globals) 1024) (TooMany d.line)

abbrev pub global_entry : Ctype → Declr → ℕ → Entry
global_entry of d number = record { name = d.name; thing = variable (AGlobal number) of (is_some d.size) }

-- A name that is taken keeps what it stands for.
abbrev pub enter_global : Entry → ℕ → Files (Unit {0})
enter_global e line = λ s.
    let taken = is_taken e.name s.entries in
    record {
      value = tt;
      state = record s { entries = if taken then s.entries else s.entries ++ e ∷ [] };
      faults = unless (not taken) (Twice line);
    }

-- A global with which the words pass the limit isn't counted.
abbrev pub count_words : Global → ℕ → Files (Unit {0})
count_words g line = λ s.
    let fits = nat_le (s.words + words_of_global g) MAX_DATA_WORDS in
    record {
      value = tt;
      state = record s { words = if fits then s.words + words_of_global g else s.words };
      faults = unless fits (BadSize line);
    }

abbrev pub add_global : Global → Files (Unit {0})
add_global g = λ s. fine tt (record s { globals = s.globals ++ g ∷ [] })

-- A global is visible after its name, in its size and its initialiser too.
abbrev pub global : Ctype → Declr → Files (Unit {0})
global of d = do
  s ← get
  note (global_faults d s)
  enter_global (global_entry of d (length s.globals)) d.line
  t ← get
  n ← lift (size (visible t) d.size d.line)
  start ← lift (initial (visible t) d.start)
  count_words (global_of of d n start) d.line
  add_global (global_of of d n start)

abbrev pub globals : Ctype → List Declr → Files (Unit {0})
globals of [] = pure tt
globals of (d ∷ more) = global of d >> globals of more

-- ---- heads

abbrev pub slot_of_param : Param → Slot
slot_of_param x = record { name = unwrap_or x.name []; of = x.of; length = None; array_param = x.array; block = 0 }

abbrev pub param_entry : ℕ → Slot → Entry
param_entry number x = record { name = x.name; thing = variable (ASlot number) x.of x.array_param }

abbrev pub param_entries : ℕ → List Slot → List Entry
param_entries number [] = []
param_entries number (x ∷ xs) = param_entry number x ∷ param_entries (number + 1) xs

-- a name among those of earlier parameters, or of a built-in function
abbrev pub is_taken_param : List ℕ → List Slot → Bool
is_taken_param name before = is_built_in (built_in name) || list_any (λ x. bytes_eq x.name name) before

-- Every parameter of a definition that is spelled has a name.
abbrev pub param_name_faults : Bool → List Slot → Option (List ℕ) → ℕ → List CheckFault
param_name_faults defines before None line = unless (not defines) (TooMany line)
param_name_faults defines before (Some name) line =
    unless (is_name name) (TooMany line) ++ unless (not (is_taken_param name before)) (Twice line)

abbrev pub param_faults : Bool → List Slot → Param → List CheckFault
param_faults defines before x =
    param_name_faults defines before x.name x.line ++ unless (nat_lt (length before) 31) (TooMany x.line)

-- what is visible in the size of a parameter: the parameters before it, too
abbrev pub visible_params : File → List Slot → ScopeNames
visible_params s before = names_of (s.entries ++ param_entries 0 before) s.headings

module _ (names : List Slot → ScopeNames) (defines : Bool) where
  -- the parameters after those before them, of a definition or not
  abbrev pub params : List Slot → List Param → Found (Unit {0}) (List Slot)
  params before [] = fine before tt
  params before (x ∷ more) = (do
    note (param_faults defines before x)
    n ← (λ _. size (names before) x.size x.line)
    (λ _. params (before ++ slot_of_param x ∷ []) more)) tt

abbrev pub same_kind : Slot → Slot → Bool
same_kind a b = same_type a.of b.of && (if a.array_param then b.array_param else not b.array_param)

abbrev pub same_kinds : List Slot → List Slot → Bool
same_kinds [] [] = true
same_kinds [] (y ∷ ys) = false
same_kinds (x ∷ xs) [] = false
same_kinds (x ∷ xs) (y ∷ ys) = same_kind x y && same_kinds xs ys

abbrev pub same_result : Option Ctype → Option Ctype → Bool
same_result None b = is_none b
same_result (Some a) b = is_typed b a

-- a later head of a function
abbrev pub later_faults : Option Heading → Head → List Slot → Bool → List CheckFault
later_faults None h xs defines = []
later_faults (Some f) h xs defines =
    unless (same_result f.result h.result && same_kinds f.params xs) (Mismatch h.line)
    ++ unless (not (defines && is_some f.body)) (Twice h.line)

-- its number
abbrev pub later_head : ℕ → Head → List Slot → Bool → Files ℕ
later_head f h xs defines =
    λ s. record { value = f; state = s; faults = later_faults (slice_get s.headings f) h xs defines }

abbrev pub heading_of : Head → List Slot → Heading
heading_of h xs = record { name = h.name; result = h.result; params = xs; line = h.line; body = None }

abbrev pub first_faults : Head → File → List CheckFault
first_faults h s =
    unless (is_name h.name) (TooMany h.line) ++ unless (not (is_taken h.name s.entries)) (Twice h.line)
    ++ unless (nat_lt (length s.headings) 512) (TooMany h.line)

-- the number of a function with its first head
abbrev pub first_head : Head → List Slot → Files ℕ
first_head h xs = λ s. record {
  value = length s.headings;
  state = record s {
    headings = s.headings ++ heading_of h xs ∷ [];
    entries = s.entries ++ record { name = h.name; thing = AFunction (length s.headings) h.result } ∷ [];
  };
  faults = first_faults h s;
}

abbrev pub head_of : Thing → Head → List Slot → Bool → Files ℕ
head_of (AFunction f result) h xs defines = later_head f h xs defines
head_of other h xs defines = first_head h xs

abbrev pub head : Head → Bool → Files (ℕ × List Slot)
head h defines = do
  s ← get
  xs ← lift (params (visible_params s) defines [] h.params)
  f ← head_of (find s.entries h.name) h xs defines
  pure (f, xs)

-- ---- functions

abbrev pub with_body_of : List Heading → ℕ → Function → Option Heading → List Heading
with_body_of headings f made None = headings
with_body_of headings f made (Some x) = slice_set headings f (record x { body = Some made })

abbrev pub with_body : List Heading → ℕ → Function → List Heading
with_body headings f made = with_body_of headings f made (slice_get headings f)

-- what is known at the beginning of a function's body
abbrev pub body_begin : File → List Slot → Body
body_begin s xs =
    record { texts = s.texts; params = length xs; locals = []; entries = s.entries ++ param_entries 0 xs; blocks = 0 }

-- The names of the outermost block begin with the parameters.
abbrev pub body_of : File → Head → List Slot → Stmt → Found Body Function
body_of s h xs body =
    let b = (stmt_of s.headings h.result body).body (length s.entries) (body_begin s xs) in
    record {
      value = record {
        name = h.name;
        result = h.result;
        params = xs;
        locals = b.state.locals;
        body = b.value;
        line = h.line;
      };
      state = b.state;
      faults = b.faults;
    }

abbrev pub function_of : ℕ → Head → List Slot → Stmt → Files (Unit {0})
function_of f h xs body = λ s.
    let b = body_of s h xs body in
    record {
      value = tt;
      state = record s { texts = b.state.texts; headings = with_body s.headings f b.value };
      faults = b.faults;
    }

abbrev pub declare : Head → Files (Unit {0})
declare h = head h false >> pure tt

abbrev pub define : Head → Stmt → Files (Unit {0})
define h body = head h true >>= (λ x. function_of x.0 h x.1 body)

abbrev pub item : Item → Files (Unit {0})
item (i.Vars v) = globals v.of v.list
item (i.Proto h) = declare h
item (i.Function h body) = define h body

abbrev pub items : List Item → Files (Unit {0})
items [] = pure tt
items (x ∷ more) = item x >> items more

-- ---- trees

-- a program's fields
pub record Parts : Type 0 where
  pub globals : List Global
  pub functions : List Function
  pub main : ℕ
  pub texts : List (List ℕ)

abbrev pub functions_of : List Heading → List Function
functions_of [] = []
functions_of (f ∷ more) = elim f.body [ None ↦ functions_of more | Some made ↦ made ∷ functions_of more ]

abbrev pub missing : List Heading → List CheckFault
missing [] = []
missing (f ∷ more) = unless (is_some f.body) (NoBody f.line) ++ missing more

abbrev pub main_faults : Option Function → List CheckFault
main_faults None = NoMain 1 ∷ []
main_faults (Some f) = unless (is_typed f.result Int && length f.params == 0) (NoMain f.line)

abbrev pub number_of : Thing → Option ℕ
number_of (AFunction f result) = Some f
number_of other = None

abbrev pub body_at : List Heading → Option ℕ → Option Function
body_at headings number = option_and_then (λ f. option_and_then (λ (x : Heading). x.body) (slice_get headings f)) number

abbrev pub whole : File → Found (Unit {0}) Parts
whole s =
    let main = number_of (find s.entries (codes "main")) in
    record {
      value =
          record { globals = s.globals; functions = functions_of s.headings; main = unwrap_or main 0; texts = s.texts };
      state = tt;
      faults = missing s.headings ++ main_faults (body_at s.headings main);
    }

abbrev pub empty_file : File
empty_file = record { texts = []; globals = []; words = 0; headings = []; entries = [] }

-- what a tree stands for, and each rule that it breaks
abbrev pub checks : Tree → Found (Unit {0}) Parts
checks tree =
    let a = items tree.items empty_file in
    let b = whole a.state in
    record { value = b.value; state = tt; faults = a.faults ++ b.faults }

abbrev pub parts_of : Program → Parts
parts_of p = record { globals = p.globals; functions = p.functions; main = p.main; texts = p.texts }

-- No rule is broken, and the program is what the tree stands for.
pub record Checked (tree : Tree) (program : Program) : Type 0 where
  pub unbroken : (checks tree).faults ≡ []
  pub same : parts_of program ≡ (checks tree).value

-- a rule is broken, by its kind and line
abbrev pub Breaks : Tree → CheckFault → Type 0
Breaks tree f = IsIn f (checks tree).faults
