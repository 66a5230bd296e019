-- What names stand for.
use Rattle.std.specs.Prelude.{ℕ, Bool, true, false, ◌||◌, if◌then◌else◌, List, [], ◌∷◌, Option, Some, None, slice_get, codes}
use Rattle.std.specs.Str.{bytes_eq}
use Rattle.nm_base.specs.declared.operator.Ctype.{Ctype}
use Rattle.c_tree.specs.declared.program.Slot.{Slot}
use Rattle.c_tree.specs.declared.program.Target.{Target}
use Rattle.c_tree.specs.declared.program.BuiltIn.TheVariants as b
use Rattle.c_checker.specs.declared.headings.Heading.{Heading}
use Rattle.c_checker.specs.declared.entries.Entry.{Entry}
use Rattle.c_checker.specs.declared.entries.Thing.{Thing}
use Rattle.c_checker.specs.declared.entries.Thing.TheVariants.{Scalar, Array, BuiltIn, Unknown}

-- what names stand for, and the parameters of each function
pub record ScopeNames : Type 0 where
  pub find : List ℕ → Thing
  pub params : ℕ → List Slot

abbrev pub variable : Target → Ctype → Bool → Thing
variable what of false = Scalar what of
variable what of true = Array what of

abbrev pub built_in : List ℕ → Thing
built_in name =
    if bytes_eq name (codes "self") then BuiltIn b.SelfNo else
    if bytes_eq name (codes "nprocs") then BuiltIn b.Nprocs else
    if bytes_eq name (codes "send") then BuiltIn b.Send else
    if bytes_eq name (codes "receive") then BuiltIn b.Receive else
    if bytes_eq name (codes "word") then BuiltIn b.Word else
    if bytes_eq name (codes "words") then BuiltIn b.Words else
    if bytes_eq name (codes "from") then BuiltIn b.From else
    if bytes_eq name (codes "via") then BuiltIn b.Via else
    if bytes_eq name (codes "printf") then BuiltIn b.Printf else Unknown

-- the last of the entries with the name, or what was found before
abbrev pub latest : List ℕ → Thing → List Entry → Thing
latest name found [] = found
latest name found (e ∷ es) = latest name (if bytes_eq e.name name then e.thing else found) es

abbrev pub find : List Entry → List ℕ → Thing
find entries name = latest name (built_in name) entries

abbrev pub params_of_heading : Option Heading → List Slot
params_of_heading None = []
params_of_heading (Some f) = f.params

abbrev pub params_of : List Heading → ℕ → List Slot
params_of functions f = params_of_heading (slice_get functions f)

abbrev pub names_of : List Entry → List Heading → ScopeNames
names_of entries functions = record { find = find entries; params = params_of functions }

-- ---- names that are declared again

abbrev pub is_built_in : Thing → Bool
is_built_in (BuiltIn b) = true
is_built_in other = false

abbrev pub has_name : List ℕ → List Entry → Bool
has_name name [] = false
has_name name (e ∷ es) = bytes_eq e.name name || has_name name es

-- the name is one of these, or a built-in function's
abbrev pub is_taken : List ℕ → List Entry → Bool
is_taken name entries = is_built_in (built_in name) || has_name name entries
