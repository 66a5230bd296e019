-- What is seen of a process of a program after so many events, in which it accepted these letters.
use Rattle.std.specs.Prelude.{ℕ, List, [], ◌∷◌, pos}
use Rattle.nm_base.specs.declared.kind.Kind.{Kind}
use Rattle.nm_base.specs.declared.kind.Kind.TheVariants.{Line, Ended, Faulted}
use Rattle.nm_base.specs.Message.{Message}
use Rattle.nm_base.specs.Scripts.{Next, Goes}
use Rattle.c_tree.specs.declared.program.Program.{Program}
use Rattle.c_tree.specs.State.{Frame, Status, Able, Wants, Over}
use Rattle.c_tree.specs.Play.{Played, play_setting, play, next}
use Rattle.processes.specs.declared.proc.Look.{Look}
use Rattle.processes.specs.declared.proc.Look.TheVariants as look
use Rattle.c_process.specs.Standing.{main_line}

-- how a process that is over ended, by its events, the last one first
abbrev pub end_of : List Kind → Look
end_of (Ended value ∷ events) = look.Ended value
end_of (Faulted cause ∷ events) = look.Faulted cause
end_of events = look.Ended (pos 0)

abbrev pub look_of : Status → List Kind → Look
look_of Able events = look.Able
look_of (Wants set) events = look.Waiting set
look_of Over events = end_of events

-- the line of the innermost frame, or without a frame this one
abbrev pub line_in : List Frame → ℕ → ℕ
line_in [] without = without
line_in (f ∷ fs) without = f.line

-- the line of the next event where that is a Line, or else of the innermost frame
abbrev pub line_of : Next → List Frame → ℕ → ℕ
line_of (Goes (Line line)) frames without = line
line_of next frames without = line_in frames without

module _ (p : Program) (n me : ℕ) (letters : List Message) (k : ℕ) where
  -- its state
  abbrev pub played_after : Played
  played_after = play (play_setting p n me) letters k

  -- what it printed
  abbrev pub output_after : List ℕ
  output_after = played_after.state.output

  -- what it does next, or how it ended
  abbrev pub look_after : Look
  look_after = look_of played_after.status played_after.state.events

  -- the line at which it is: of its next event where that is a Line, or else of the innermost frame, or without one of
  -- main's name
  abbrev pub line_after : ℕ
  line_after = line_of (next (play_setting p n me) letters k) played_after.state.frames (main_line p)
