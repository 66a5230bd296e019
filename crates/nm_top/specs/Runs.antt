-- The command `run`.
use Rattle.std.specs.Prelude.{◌≡◌, ℕ, List, [], ◌∷◌, map}
use Rattle.nm_outside.specs.Files.{Files}
use Rattle.c_tree.specs.declared.program.Program.{Program}
use Rattle.c_tree.specs.Play.{script_of}
use Rattle.schedules.specs.declared.schedule.Turn.{Turn}
use Rattle.event_list.specs.declared.Event.{Event}
use Rattle.event_list.specs.Turns.{run_of}
use Rattle.report.specs.Runs.{blocks}
use Rattle.nm_top.specs.Programs.{Reads}
use Rattle.nm_top.specs.Schedules.{IsSchedule, seen_turn}
use Rattle.nm_top.specs.Demands.{Demand, ProgramText, ScheduleText, HoldsIn, program_file, schedule_file}

abbrev pub run_demands : List ℕ → ℕ → List ℕ → List Demand
run_demands program n schedule = ProgramText program ∷ ScheduleText schedule n ∷ []

-- the run of a program as n processes under these turns; the channels of the mask are ordered
abbrev pub run_of_program : Program → ℕ → ℕ → List Turn → List Event
run_of_program program n mask turns = run_of (script_of program n) mask (map seen_turn turns)

-- What is printed are the blocks and the summary of the run of the program in the one file under the schedule in the
-- other.
pub record RunPrints (program : List ℕ) (n : ℕ) (schedule : List ℕ) (mask : ℕ) (files : Files)
    (printed : List ℕ) : Type 0 where
  pub of_program : Program
  pub turns : List Turn
  pub has_program : HoldsIn files (λ text. Reads text of_program) (program_file program)
  pub has_schedule : HoldsIn files (λ text. IsSchedule n text turns) (schedule_file schedule)
  pub is : printed ≡ blocks of_program n (run_of_program of_program n mask turns)
