-- A run of the machine that stopped stays as it is, and one with more events and letters is the first, run on.
use Rattle.std.specs.Prelude.{◌≡◌, ℕ, ◌+◌, List, ◌++◌}
use Rattle.nm_base.specs.Message.{Message}
use Rattle.c_tree.specs.State.{State, Status, Done, Stopped}
use Rattle.stack_code.specs.Code.{Code}
use Rattle.stack_code.specs.Machine.{Control, step, exec}

-- the same data with more events and letters to come
abbrev pub more : ℕ → List Message → State → State
more extra letters t = record t { left = t.left + extra; inputs = t.inputs ++ letters }

-- the place and the data where a run stopped, from which the longer run goes on
pub record RunsOn (code : Code) (count me extra : ℕ) (letters : List Message) (c : Control) (t : State)
    (status : Status) (s : State) : Type 0 where
  pub steps : ℕ
  pub place : Control
  pub before : State
  pub comes : exec code count me steps c t ≡ Done place before
  pub stops : step code count me place before ≡ Stopped status s
  pub goes_on : (j : ℕ) → exec code count me (steps + j) c (more extra letters t)
      ≡ exec code count me j place (more extra letters before)

-- of every run that stopped
pub record RunLaw : Type 0 where
  pub stays : (code : Code) (count me n j : ℕ) (c : Control) (t : State) (status : Status) (s : State)
      → exec code count me n c t ≡ Stopped status s → exec code count me (n + j) c t ≡ Stopped status s
  pub runs_on : (code : Code) (count me extra : ℕ) (letters : List Message) (n : ℕ) (c : Control) (t : State)
      (status : Status) (s : State) → exec code count me n c t ≡ Stopped status s
      → RunsOn code count me extra letters c t status s
