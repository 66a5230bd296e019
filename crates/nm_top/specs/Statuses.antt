-- The statuses, with their exit codes and with the lines of refusals.
use Rattle.std.specs.Prelude.{ℕ, List, Bool, true, false, ⊤}
use Rattle.report.specs.declared.cause.Refusal.{Refusal}
use Rattle.report.specs.declared.cause.Refusal.TheVariants as refusals
use Rattle.nm_top.specs.declared.status.Status.{Status}
use Rattle.nm_top.specs.declared.status.Status.TheVariants.{
  Done,
  Usage,
  Absent,
  ReadFault,
  WriteFault,
  TooLong,
  ProgramRefused,
  ScheduleRefused,
  TraceDamaged,
  OtherProgram,
  Stuck,
  WantOfMemory,
  NotItsTrace,
  InputFull,
}

abbrev pub exit_code : Status → ℕ
exit_code Done = 0
exit_code Usage = 1
exit_code Absent = 2
exit_code ReadFault = 3
exit_code WriteFault = 4
exit_code TooLong = 5
exit_code ProgramRefused = 6
exit_code ScheduleRefused = 7
exit_code TraceDamaged = 8
exit_code OtherProgram = 9
exit_code Stuck = 10
exit_code WantOfMemory = 11
exit_code NotItsTrace = 12
exit_code InputFull = 13

-- the status that a refusal ends with
abbrev pub status_of : Refusal → Status
status_of refusals.Usage = Usage
status_of (refusals.Absent name) = Absent
status_of (refusals.ReadFault name) = ReadFault
status_of refusals.InputFault = ReadFault
status_of (refusals.TooLong name) = TooLong
status_of (refusals.ProgramRefused kind line) = ProgramRefused
status_of (refusals.ScheduleRefused kind place) = ScheduleRefused
status_of (refusals.TraceDamaged kind place) = TraceDamaged
status_of (refusals.OtherProgram of_trace of_file) = OtherProgram
status_of (refusals.Stuck n events counts) = Stuck
status_of (refusals.Stopped turns) = WantOfMemory
status_of (refusals.NotItsTrace letter) = NotItsTrace
status_of refusals.InputFull = InputFull

-- whether the status refuses what files hold: one is absent, or too long, or something that is demanded of them isn't
-- met
abbrev pub is_of_files : Status → Bool
is_of_files Done = false
is_of_files Usage = false
is_of_files ReadFault = false
is_of_files WriteFault = false
is_of_files WantOfMemory = false
is_of_files InputFull = false
is_of_files status = true

-- It is of the input of a debugger.
abbrev pub IsOfInput : Refusal → Type 0
IsOfInput refusals.InputFault = ⊤
IsOfInput refusals.InputFull = ⊤
IsOfInput refusal = ⊥

-- The refusal is one of a command's demands: it names no file, or one of which this holds.
abbrev pub IsOf : (List ℕ → Type 0) → Refusal → Type 0
IsOf P refusals.Usage = ⊥
IsOf P (refusals.Stopped turns) = ⊥
IsOf P refusals.InputFault = ⊥
IsOf P refusals.InputFull = ⊥
IsOf P (refusals.Absent name) = P name.now
IsOf P (refusals.ReadFault name) = P name.now
IsOf P (refusals.TooLong name) = P name.now
IsOf P refusal = ⊤
