-- Where a machine is in the scripts of the programs whose code it runs.
use Rattle.std.specs.Prelude.{◌≡◌, ℕ, List, length, Bool, true, false, ◌==◌}
use Rattle.nm_base.specs.declared.kind.Kind.{Kind}
use Rattle.nm_base.specs.Message.{Message}
use Rattle.nm_base.specs.Scripts.{Script}
use Rattle.c_tree.specs.declared.program.Program.{Program}
use Rattle.c_tree.specs.Play.{script_of}
use Rattle.processes.specs.declared.proc.Look.{Look}
use Rattle.processes.specs.declared.proc.Look.TheVariants as look
use Rattle.proc_machine.specs.declared.machine.Machine.{Machine}
use Rattle.proc_machine.specs.declared.pause.Pause.{Pause}
use Rattle.proc_machine.specs.declared.pause.Pause.TheVariants as pause
use Rattle.proc_machine.specs.Machines.{MachineStandsFor, machine_setting, next_of}
use Rattle.proc_machine.specs.Pauses.{status_of}
use Rattle.c_process.specs.Standing.{IsCodeOf}
use Rattle.c_process.specs.Shown.{look_of}

-- whether a process shows what its machine does next
abbrev pub looks_at : Look → Pause → Bool
looks_at (look.Waiting set) (pause.Receive other) = set == other
looks_at (look.Ended value) pause.Done = true
looks_at (look.Faulted cause) pause.Done = true
looks_at look.Able (pause.Line line) = true
looks_at look.Able pause.Send = true
looks_at look.Able pause.Print = true
looks_at look.Able (pause.End value) = true
looks_at look.Able (pause.Fault cause) = true
looks_at l p = false

-- the machine is where the run of its code is after so many events, in which it accepted these letters
pub record IsAfter (m : Machine) (look : Look) (letters : List Message) (k : ℕ) : Type 0 where
  -- the events made, the last one first
  pub events : List Kind
  pub count : length events ≡ k
  pub stands : MachineStandsFor m letters events
  pub looks : look ≡ look_of (status_of (next_of m)) events

-- the machine is at this point of the script of a program whose code it runs
pub record Follows (m : Machine) (look : Look) (s : Script) (letters : List Message) (k : ℕ) : Type 0 where
  pub program : Program
  pub script : s ≡ script_of program (machine_setting m).count (machine_setting m).me.no
  pub code : IsCodeOf program (machine_setting m).code
  pub after : IsAfter m look letters k
