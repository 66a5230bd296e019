-- The places for breakpoints.
use Rattle.std.specs.Prelude.{ℕ, ◌==◌, ◌&&◌, Bool, true, false, List, Option, Some, None, slice_set}
use Rattle.nm_base.specs.declared.kind.Kind.{Kind}
use Rattle.nm_base.specs.declared.kind.Kind.TheVariants.{Accepted}
use Rattle.report.specs.declared.replies.Spot.{Spot}
use Rattle.report.specs.declared.replies.Spot.TheVariants as spot
use Rattle.debugger.specs.declared.breakpoints.Break.{Break}

abbrev pub is_free : Option Break → Bool
is_free None = true
is_free (Some b) = false

-- the places with a breakpoint in this place
abbrev pub set_in : List (Option Break) → Break → Option ℕ → List (Option Break)
set_in breaks b None = breaks
set_in breaks b (Some k) = slice_set breaks k (Some b)

-- whether a place is taken
abbrev pub is_taken : Option (Option Break) → Bool
is_taken (Some (Some b)) = true
is_taken other = false

-- the places without the breakpoint of this place, if it is taken
abbrev pub cleared_in : List (Option Break) → ℕ → Option (Option Break) → List (Option Break)
cleared_in breaks k (Some (Some b)) = slice_set breaks k None
cleared_in breaks k other = breaks

-- whether it fits after an event of this kind, where the next event of the process is a Line of this line
abbrev pub fits_next : Spot → Option ℕ → Kind → Bool
fits_next spot.Receive next (Accepted set id) = true
fits_next (spot.Line line) (Some at) kind = line == at
fits_next at next kind = false

-- whether the breakpoint of a place fits after an event of process p
abbrev pub fits_after : ℕ → Kind → Option ℕ → Option Break → Bool
fits_after p kind next None = false
fits_after p kind next (Some b) = (b.proc.no == p) && fits_next b.at next kind
