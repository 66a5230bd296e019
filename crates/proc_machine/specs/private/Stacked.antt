-- Operands of calls that stand one on the other.
use Rattle.std.specs.Prelude.{ℕ, ◌<◌, ◌≤◌, List, [], ◌∷◌, ◌++◌, length}
use Rattle.proc_machine.specs.declared.callers.Caller.{Caller}
use Rattle.proc_machine.specs.declared.callers.Frame.{Frame}
use Rattle.proc_machine.specs.Divided.{upper, lower}

-- the operands of the function that runs and those of its callers, the topmost first, and how many there may be
pub record OperandStack : Type 0 where
  pub own : List ℕ
  pub outer : List ℕ
  pub limit : ℕ

-- the operands, and the callers, the innermost first; each function has at most so many operands
pub record Calls : Type 0 where
  pub own : List ℕ
  pub outer : List ℕ
  pub callers : List Caller
  pub height : ℕ

-- The operands of the callers stand one on the other with nothing below them, and each has room for one more.
abbrev pub Fits : ℕ → List Caller → List ℕ → Type 0
Fits height [] outer = length outer ≤ 0
Fits height (k ∷ ks) outer = (length (upper k.below outer) < height) × Fits height ks (lower k.below outer)

-- the function with this frame calls: its operands are now a caller's
abbrev pub entered : Frame → Calls → Calls
entered frame c = record c {
  own = [];
  outer = c.own ++ c.outer;
  callers = record { frame = frame; below = length c.outer } ∷ c.callers;
}

-- this caller goes on, after those round it
abbrev pub left_to : Caller → List Caller → Calls → Calls
left_to k ks c = record c { own = upper k.below c.outer; outer = lower k.below c.outer; callers = ks }
