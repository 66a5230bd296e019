-- All that the top call does with the words of the command line.
use Rattle.std.specs.Prelude.{◌≡◌, ◌≢◌, ◌⊎◌, ℕ, List, None, Some, IfSome, IsTrue}
use Rattle.nm_outside.specs.Causes.{Rose}
use Rattle.nm_top.specs.declared.status.Status.{Status}
use Rattle.nm_top.specs.declared.status.Status.TheVariants.{Usage, Absent, ReadFault, WriteFault, InputFull}
use Rattle.nm_top.specs.Commands.{command_of}
use Rattle.nm_top.specs.Statuses.{is_of_files}
use Rattle.nm_top.specs.Lines.{ReadFails, PrintsLine}
use Rattle.nm_top.specs.Replies.{Answers, Breaks, KeepsOthers, Owed}
use Rattle.nm_top.specs.Answers.{Answer, MayBreak, Due, Ready, EndsWith, Overfills, RefusesOwn, Suffices, written_by}
use Rattle.nm_top.specs.Headline.{Headline}
use Rattle.nm_top.specs.Watches.{Call}
use Rattle.nm_top.specs.Heard.{AreTold}
use Rattle.nm_top.specs.private.Works.{Outside}

pub record Does (x : Call) (words : List (List ℕ)) (before after : Outside) (takes takes' : ℕ)
    (status : Status) : Type 0 where
  pub answer : Answers (Answer x words) before.files after.files before.given after.given status
  pub usage : status ≡ Usage → command_of words ≡ None
  pub no_command : command_of words ≡ None → (status ≡ Usage) ⊎ (status ≡ WriteFault)
  pub absent : status ≡ Absent → Rose before.absents after.absents
  pub no_absent : status ≢ Absent → status ≢ WriteFault → after.absents ≡ before.absents
  pub read_fault : status ≡ ReadFault → ReadFails words before.reads after.reads takes takes' before.given after.given
  pub no_read_fault : status ≢ ReadFault → status ≢ WriteFault → after.reads ≡ before.reads
  pub no_take_fault : status ≢ ReadFault → status ≢ WriteFault → takes' ≡ takes
  pub refused : IsTrue (is_of_files status) → IfSome before.files (Due status words)
  pub own : RefusesOwn words status
  pub overfull : status ≡ InputFull → IfSome before.files (λ held. IfSome x.input (Overfills words held))
  pub owed : IfSome before.files (λ held. (due : Status) → Due due words held → Owed (λ s. s ≡ due)
      before.reads after.reads takes takes' before.writes after.writes before.faults after.faults status)
  pub write_fault : status ≡ WriteFault
      → Rose before.writes after.writes ⊎ Rose before.faults after.faults
  pub no_file_fault : status ≢ WriteFault → after.writes ≡ before.writes
  pub no_write_fault : status ≢ WriteFault → after.faults ≡ before.faults
  pub sure : IfSome before.files (λ held. (room : ℕ) → before.room ≡ Some room → Suffices words held room
      → after.writes ≡ before.writes)
  pub breaks : status ≡ WriteFault → Breaks (Answer x words)
      (MayBreak words) before.reads after.reads takes takes' before.files after.files before.given after.given
  pub line : PrintsLine words status before.given after.given
  pub complete : IfSome before.files (λ held. Ready words held → Owed (EndsWith x words held)
      before.reads after.reads takes takes' before.writes after.writes before.faults after.faults status)
  pub keeps : KeepsOthers (written_by words) before.files after.files
  pub headline : IfSome before.files (λ held. Headline x words held
      before.reads after.reads takes takes' before.writes after.writes before.faults after.faults
      before.given after.given status)
  pub told : IfSome before.files (λ held. AreTold words held status x.watchers)
