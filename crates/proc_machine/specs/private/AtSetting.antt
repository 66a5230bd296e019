-- What an execution does by a setting: its code, its number of processes and its own.
use Rattle.std.specs.Prelude.{ℕ, List, Option}
use Rattle.nm_base.specs.declared.kind.Kind.{Kind}
use Rattle.nm_base.specs.declared.letter.Letter.{Letter}
use Rattle.stack_code.specs.declared.instr.Instr.{Instr}
use Rattle.stack_code.specs.View.{seen_code}
use Rattle.proc_machine.specs.declared.execution.Execution.{Execution}
use Rattle.proc_machine.specs.declared.execution.Setting.{Setting}
use Rattle.proc_machine.specs.declared.pause.Pause.{Pause}
use Rattle.proc_machine.specs.private.Moves.{Moves, Makes, Takes}
use Rattle.proc_machine.specs.private.Run.{RunsOn, StandsBefore, Steps, After, Accepts}

module _ (at : Setting) where
  abbrev pub MovesAt : Instr → Execution → Execution → Option Pause → Type 0
  MovesAt i old new next = Moves (seen_code at.code.now) at.count at.me.no i old new next

  abbrev pub MakesAt : Instr → Execution → Execution → Kind → Type 0
  MakesAt i old new made = Makes (seen_code at.code.now) at.count at.me.no i old new made

  abbrev pub TakesAt : Execution → Execution → ℕ → Letter → Type 0
  TakesAt old new set letter = Takes (seen_code at.code.now) at.count at.me.no old new set letter

  abbrev pub StepsAt : Execution → Execution → Option Pause → Type 0
  StepsAt old new next = Steps (seen_code at.code.now) at.count at.me.no old new next

  abbrev pub RunsOnAt : Execution → Execution → List Kind → Type 0
  RunsOnAt old new events = RunsOn (seen_code at.code.now) at.count at.me.no old new events

  abbrev pub StandsBeforeAt : Execution → Pause → Type 0
  StandsBeforeAt e next = StandsBefore (seen_code at.code.now) at.count at.me.no e next

  abbrev pub AfterAt : Execution → Execution → Kind → Pause → Type 0
  AfterAt old new made next = After (seen_code at.code.now) at.count at.me.no old new made next

  abbrev pub AcceptsAt : Execution → Execution → ℕ → Letter → Pause → Type 0
  AcceptsAt old new set letter next = Accepts (seen_code at.code.now) at.count at.me.no old new set letter next
