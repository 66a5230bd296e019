-- Code keeps the names that its program declares.
use Rattle.std.specs.Prelude.{◌≡◌, ℕ, List, [], Option, Some, None, map, option_map, slice_get, if◌then◌else◌}
use Rattle.nm_base.specs.declared.operator.Ctype.{Ctype}
use Rattle.c_tree.specs.declared.program.Global.{Global}
use Rattle.c_tree.specs.declared.program.Slot.{Slot}
use Rattle.c_tree.specs.declared.program.Program.{Program}
use Rattle.c_tree.specs.declared.program.Target.{Target}
use Rattle.c_tree.specs.declared.program.Target.TheVariants.{Global as AGlobal, Slot as ASlot}
use Rattle.c_tree.specs.NameLookup.{Variable, or_else, in_globals, in_function, slots_of_function}
use Rattle.c_tree.specs.Storage.{words_of_global, words_of_slot, words_before}
use Rattle.stack_code.specs.declared.seek.CodePlace.{CodePlace}
use Rattle.stack_code.specs.declared.seek.Found.{Found}
use Rattle.stack_code.specs.declared.seek.Home.TheVariants as home
use Rattle.stack_code.specs.Code.{Code, entered_at}
use Rattle.stack_code.specs.Seek.{found}

abbrev pub as_global : ℕ → Ctype → Global → Found
as_global place of g = record { home = home.Global; slot = place; of = of; length = g.length }

-- an array parameter keeps the place and the length of the caller's array
abbrev pub as_slot : ℕ → Ctype → Slot → Found
as_slot place of x =
    if x.array_param
    then record { home = home.ArrayParam; slot = place; of = of; length = None }
    else record { home = home.Local; slot = place; of = of; length = x.length }

module _ (globals : List Global) (slots : List Slot) where
  -- a variable with its place among the globals or in the frame, and its length
  abbrev pub found_of : Target → Ctype → Option Found
  found_of (AGlobal i) of = option_map (as_global (words_before words_of_global globals i) of) (slice_get globals i)
  found_of (ASlot i) of = option_map (as_slot (words_before words_of_slot slots i) of) (slice_get slots i)

  abbrev pub found_by : Option Variable → Option Found
  found_by None = None
  found_by (Some x) = found_of x.what x.of

-- The functions have their names, `main` its line, and a name denotes at each instruction what it denotes in the
-- program, where the same blocks are entered.
pub record KeepsNames (p : Program) (code : Code) : Type 0 where
  pub functions : map (λ f. f.name) code.functions ≡ map (λ f. f.name) p.functions
  pub main_line : option_map (λ f. f.line) (slice_get code.functions code.main)
      ≡ option_map (λ f. f.line) (slice_get p.functions p.main)
  pub globals : (name : List ℕ) → found code None name ≡ found_by p.globals [] (in_globals name 0 p.globals)
  pub locals :
      (at : CodePlace) (name : List ℕ)
      → found code (Some at) name ≡ found_by p.globals (slots_of_function (slice_get p.functions at.function))
      (or_else (in_function name (entered_at code at.function at.place) (slice_get p.functions at.function))
      (in_globals name 0 p.globals))
