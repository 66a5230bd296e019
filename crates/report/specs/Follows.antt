-- What a replay keeps of the recorded run, process by process.
use Rattle.std.specs.Prelude.{◌≡◌, ℕ, ◌≤◌, List, ◌++◌, take, filter_map}
use Rattle.nm_base.specs.Message.{Message}
use Rattle.c_tree.specs.declared.program.Program.{Program}
use Rattle.c_tree.specs.Play.{Played, script_of}
use Rattle.event_list.specs.declared.Event.{Event}
use Rattle.event_list.specs.Events.{entries, count, messages, letter_named, taken}
use Rattle.event_list.specs.Order.{IsConsistent}
use Rattle.event_list.specs.Cuts.{cut_list}
use Rattle.event_list.specs.Traces.{Trace, IsReplay, Agrees}
use Rattle.event_list.specs.Laws.{IsRecorded}
use Rattle.processes.specs.declared.proc.Look.{Look}
use Rattle.c_process.specs.Shown.{played_after, look_after, line_after, output_after}
use Rattle.report.specs.Runs.{blocks}

-- the one list is the other's beginning
abbrev pub IsFront : {A : Type 0} → List A → List A → Type 0
IsFront {A = A} xs ys = (rest : List A) × (xs ++ rest ≡ ys)

-- the letters that p accepted in its first k events
abbrev pub letters_after : List Event → ℕ → ℕ → List Message
letters_after E p k = filter_map (letter_named E) (taken (take k (entries E p)))

-- where a process stands: its state, and what is printed of it
pub record Standing : Type 0 where
  pub played : Played
  pub look : Look
  pub line : ℕ
  pub output : List ℕ

-- where process p among n stood in E after its first k events
abbrev pub stood_after : Program → ℕ → List Event → ℕ → ℕ → Standing
stood_after program n E p k = record {
  played = played_after program n p (letters_after E p k) k;
  look = look_after program n p (letters_after E p k) k;
  line = line_after program n p (letters_after E p k) k;
  output = output_after program n p (letters_after E p k) k;
}

-- what process p among n printed in E
abbrev pub output_in : Program → ℕ → List Event → ℕ → List ℕ
output_in program n E p = output_after program n p (messages E p) (count E p)

-- In R each process of the program does a front of what it did in E.
pub record Follows (program : Program) (n : ℕ) (E R : List Event) : Type 0 where
  -- its events, and with them the letter that each of its receives accepted
  pub agrees : Agrees E R
  -- the counts of R are a consistent cut of E
  pub consistent : IsConsistent E (count R)
  pub letters : (p : ℕ) → IsFront (messages R p) (messages E p)
  -- after each number of events that it made in R it stood there as it stood in E
  pub stands : (p k : ℕ) → k ≤ count R p → stood_after program n R p k ≡ stood_after program n E p k
  pub output : (p : ℕ) → IsFront (output_in program n R p) (output_in program n E p)
  -- R is printed as this cut of E is
  pub printed : blocks program n R ≡ blocks program n (cut_list (count R) E)

-- each replay under the trace of a recorded run follows this run
abbrev pub FollowsLaw : Type 0
FollowsLaw =
    (program : Program) (n : ℕ) (T : Trace) (E R : List Event) → IsRecorded (script_of program n) T E
    → IsReplay (script_of program n) T R → Follows program n E R

-- a replay that came to all recorded counts prints what the recorded run prints
abbrev pub FullLaw : Type 0
FullLaw =
    (program : Program) (n : ℕ) (T : Trace) (E F : List Event) → IsRecorded (script_of program n) T E
    → IsReplay (script_of program n) T F → ((p : ℕ) → count F p ≡ T.counts p)
    → blocks program n F ≡ blocks program n E
