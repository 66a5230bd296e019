-- What a name stands for in a state of a process, and what is seen of it.
use Rattle.std.specs.Prelude.{ℕ, ◌+◌, nat_lt, if◌then◌else◌, List, [], ◌∷◌, Option, Some, None, slice_get, slice_index}
use Rattle.std.specs.Str.{bytes_eq}
use Rattle.nm_base.specs.declared.operator.Ctype.{Ctype}
use Rattle.c_tree.specs.declared.program.Global.{Global}
use Rattle.c_tree.specs.declared.program.Function.{Function}
use Rattle.c_tree.specs.declared.program.Slot.{Slot}
use Rattle.c_tree.specs.declared.program.Target.{Target}
use Rattle.c_tree.specs.declared.program.Target.TheVariants.{Global as AGlobal, Slot as ASlot}
use Rattle.c_tree.specs.State.{Frame, State}
use Rattle.c_tree.specs.Storage.{place_of, array_of}
use Rattle.c_tree.specs.Expr.{slots_of}
use Rattle.c_tree.specs.Play.{PlaySetting}

-- a variable and the type of it or of its elements
pub record Variable : Type 0 where
  pub what : Target
  pub of : Ctype

-- the first, or else the second
abbrev pub or_else : Option Variable → Option Variable → Option Variable
or_else None other = other
or_else (Some x) other = Some x

-- ---- names

abbrev pub slot_if : List ℕ → ℕ → Option Slot → Option Variable
slot_if name slot None = None
slot_if name slot (Some x) = if bytes_eq name x.name then Some (record { what = ASlot slot; of = x.of }) else None

module _ (slots : List Slot) (name : List ℕ) where
  -- among the locals of a block
  abbrev pub in_block : List ℕ → Option Variable
  in_block [] = None
  in_block (slot ∷ more) = or_else (slot_if name slot (slice_get slots slot)) (in_block more)

  -- among those of blocks, the innermost first
  abbrev pub in_blocks : List (List ℕ) → Option Variable
  in_blocks [] = None
  in_blocks (b ∷ more) = or_else (in_block b) (in_blocks more)

-- among parameters, from this slot on
abbrev pub in_params : List ℕ → ℕ → List Slot → Option Variable
in_params name slot [] = None
in_params name slot (x ∷ xs) = or_else (slot_if name slot (Some x)) (in_params name (slot + 1) xs)

-- among globals, from this number on
abbrev pub in_globals : List ℕ → ℕ → List Global → Option Variable
in_globals name number [] = None
in_globals name number (g ∷ gs) =
    if bytes_eq name g.name then Some (record { what = AGlobal number; of = g.of }) else in_globals name (number + 1) gs

-- in the blocks that a frame has entered, then among its parameters
abbrev pub in_function : List ℕ → List (List ℕ) → Option Function → Option Variable
in_function name entered None = None
in_function name entered (Some f) = or_else (in_blocks (slots_of f) name entered) (in_params name 0 f.params)

abbrev pub in_frame : List Function → List ℕ → List Frame → Option Variable
in_frame functions name [] = None
in_frame functions name (frame ∷ more) = in_function name frame.entered (slice_get functions frame.function)

abbrev pub slots_of_function : Option Function → List Slot
slots_of_function None = []
slots_of_function (Some f) = slots_of f

-- the slots of the function that runs
abbrev pub top_slots : List Function → List Frame → List Slot
top_slots functions [] = []
top_slots functions (frame ∷ more) = slots_of_function (slice_get functions frame.function)

-- ---- what is seen

-- nothing has the name; it is an array, and no index is given; it is a scalar with an index, or the index isn't below
-- the length; a value
pub data Seen : Type 0 where
  NoName : Seen
  NeedsIndex : Seen
  NoIndex : Seen
  Sees : (bits : ℕ) (of : Ctype) → Seen

-- a scalar at its place
abbrev pub seen_scalar : List ℕ → ℕ → Ctype → Option ℕ → Seen
seen_scalar words place of None = Sees (slice_index words place) of
seen_scalar words place of (Some i) = NoIndex

-- an array by its place and its length
abbrev pub seen_array : List ℕ → ℕ → ℕ → Ctype → Option ℕ → Seen
seen_array words place size of None = NeedsIndex
seen_array words place size of (Some i) = if nat_lt i size then Sees (slice_index words (place + i)) of else NoIndex

abbrev pub seen_at : List ℕ → ℕ → Option (ℕ × ℕ) → Ctype → Option ℕ → Seen
seen_at words place None of index = seen_scalar words place of index
seen_at words place (Some a) of index = seen_array words a.0 a.1 of index

module _ (set : PlaySetting) (s : State) where
  -- The innermost block that has the name decides, then the parameters, then the globals.
  abbrev pub variable_named : List ℕ → Option Variable
  variable_named name = or_else (in_frame set.functions name s.frames) (in_globals name 0 set.globals)

  abbrev pub seen_of : Option Variable → Option ℕ → Seen
  seen_of None index = NoName
  seen_of (Some x) index =
      let slots = top_slots set.functions s.frames in
      seen_at s.words (place_of set.globals slots x.what s) (array_of set.globals slots x.what s) x.of index

  -- the value of a scalar, or of an element of an array
  abbrev pub value_named : List ℕ → Option ℕ → Seen
  value_named name index = seen_of (variable_named name) index
