-- The watchers of a call: what they are told of, and the lines that they say.
use Rattle.std.specs.Prelude.{◌≡◌, ℕ, ◌+◌, List, [], ◌∷◌, ◌++◌, Option}
use Rattle.event_list.specs.declared.Event.{Event}
use Rattle.watchers.specs.Watched.{Watched, Told}
use Rattle.report.specs.Texts.{watched_line}

-- the watchers that a call was given, and what they are after it
pub record Given : Type 0 where
  pub watch : List Watched
  pub told : List Watched

abbrev pub given : List Watched → List Watched → Given
given watch told = record { watch = watch; told = told }

-- They were told of these events, each once and in order: those that lacked memory, none of them steady, are out, and
-- the others noted all. Where there was no event they are as before.
abbrev pub Hear : List Event → Given → Type 0
Hear [] x = x.told ≡ x.watch
Hear (e ∷ events) x = (out : ℕ) × Told (e ∷ events) x.watch x.told out

-- what a call is given beside words and files: the bytes of the input, where they are told, and the watchers
pub record Call : Type 0 where
  pub input : Option (List ℕ)
  pub watchers : Given

abbrev pub call : Option (List ℕ) → Given → Call
call input watchers = record { input = input; watchers = watchers }

-- a line for each, with its number from k on
abbrev pub watch_lines : ℕ → List Watched → List ℕ
watch_lines k [] = []
watch_lines k (w ∷ ws) = watched_line k (w.kind.said w.notes) ++ watch_lines (k + 1) ws
