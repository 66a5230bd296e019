-- What a name denotes at a place of the code.
use Rattle.std.specs.Prelude.{ℕ, ◌<◌, Bool, true, false, List, [], ◌∷◌, length, Option, Some, None, option_map, take, slice_get, if◌then◌else◌}
use Rattle.std.specs.Str.{bytes_eq}
use Rattle.stack_code.specs.declared.code.Variable.{Variable}
use Rattle.stack_code.specs.declared.seek.CodePlace.{CodePlace}
use Rattle.stack_code.specs.declared.seek.Found.{Found}
use Rattle.stack_code.specs.declared.seek.Home.TheVariants.{Global, Local, ArrayParam}
use Rattle.stack_code.specs.Code.{FunctionCode, Code, entered_by, steps_of}

-- the first of these with the name
abbrev pub first_named : List ℕ → List Variable → Option Variable
first_named name [] = None
first_named name (x ∷ xs) = elim (bytes_eq x.name name) [ true ↦ Some x | false ↦ first_named name xs ]

abbrev pub is_named : List ℕ → Option Variable → Bool
is_named name None = false
is_named name (Some x) = bytes_eq x.name name

-- a block's local
abbrev pub in_block : List ℕ → List Variable → List ℕ → Option Variable
in_block name slots [] = None
in_block name slots (i ∷ is) =
    elim (is_named name (slice_get slots i)) [ true ↦ slice_get slots i | false ↦ in_block name slots is ]

-- from the innermost block on
abbrev pub in_blocks : List ℕ → List Variable → List (List ℕ) → Option Variable
in_blocks name slots [] = None
in_blocks name slots (b ∷ bs) = elim (in_block name slots b) [ Some x ↦ Some x | None ↦ in_blocks name slots bs ]

abbrev pub as_global : Variable → Found
as_global x = record { home = Global; slot = x.place; of = x.of; length = x.length }

abbrev pub as_local : Variable → Found
as_local x =
    if x.array_param then record { home = ArrayParam; slot = x.place; of = x.of; length = None }
    else record { home = Local; slot = x.place; of = x.of; length = x.length }

abbrev pub or_else : Option Found → Option Found → Option Found
or_else None b = b
or_else (Some x) b = Some x

-- in these blocks, and then among the parameters, which are so many of the slots
abbrev pub found_among : List Variable → ℕ → List (List ℕ) → List ℕ → Option Found
found_among slots params blocks name = or_else (option_map as_local (in_blocks name slots blocks))
    (option_map as_local (first_named name (take params slots)))

-- in the blocks that are entered there, and then among the parameters
abbrev pub found_in : FunctionCode → ℕ → List ℕ → Option Found
found_in f place name = found_among f.slots f.param_count (entered_by (slice_get f.steps place)) name

abbrev pub found_by : Option FunctionCode → ℕ → List ℕ → Option Found
found_by None place name = None
found_by (Some f) place name = found_in f place name

module _ (code : Code) where
  abbrev pub found_global : List ℕ → Option Found
  found_global name = option_map as_global (first_named name code.variables)

  -- in the function, where there is a place
  abbrev pub found_at : Option CodePlace → List ℕ → Option Found
  found_at None name = None
  found_at (Some at) name = found_by (slice_get code.functions at.function) at.place name

  -- and then among the globals
  abbrev pub found : Option CodePlace → List ℕ → Option Found
  found at name = or_else (found_at at name) (found_global name)

  -- the place is that of an instruction
  abbrev pub IsPlaceIn : Option CodePlace → Type 0
  IsPlaceIn None = Unit {0}
  IsPlaceIn (Some at) = (at.function < length code.functions) × (at.place < length (steps_of code at.function))
