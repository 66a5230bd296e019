-- What is looked at one by one: the frames of a process, and the letters that wait for it.
use Rattle.std.specs.Prelude.{◌≡◌, ℕ, ◌==◌, nat_le, Bool, List, [], filter, Option, Some, None}
use Rattle.nm_base.specs.declared.letter.Letter.{Letter}
use Rattle.nm_base.specs.Message.{Message}
use Rattle.nm_base.specs.Scripts.{Script}
use Rattle.c_tree.specs.declared.program.Program.{Program}
use Rattle.stack_code.specs.Code.{Code}
use Rattle.c_process.specs.Standing.{IsCodeOf}
use Rattle.c_process.specs.Values.{frames_after}
use Rattle.c_process.specs.contracts.script.CProcProc.TheImpl as process
use Rattle.c_process.specs.declared.answers.FrameSeen.{FrameSeen}
use Rattle.c_process.specs.declared.answers.LookFault.{LookFault}
use Rattle.c_process.specs.declared.answers.LookFault.TheVariants as fault
use Rattle.c_process.specs.declared.process.CProc.{CProc}
use Rattle.report.specs.declared.replies.Notice.{Notice}
use Rattle.report.specs.declared.replies.Notice.TheVariants as notice

-- what is replied where a name shows no value
abbrev pub notice_of : LookFault → Notice
notice_of fault.NoName = notice.NoName
notice_of fault.NeedsIndex = notice.NeedsIndex
notice_of fault.NoIndex = notice.NoIndex

-- the process of the program has these frames, the innermost first, and the code is that of the program
pub record HasFrames (p : Program) (code : Code) (x : CProc) (frames : List FrameSeen) : Type 0 where
  pub compiled : IsCodeOf p code
  pub own : IsCodeOf p (process.origin_of-value.it x).0
  pub script : Script
  pub letters : List Message
  pub events : ℕ
  pub stands : process.stands_for-value.it x script letters events
  pub is : frames_after p (process.origin_of-value.it x).1 (process.name_of-value.it x).no letters events ≡ frames

-- the text of an element, if there is one
abbrev pub text_if : {A : Type 0} → (A → List ℕ) → Option A → List ℕ
text_if text_of None = []
text_if text_of (Some x) = text_of x

-- the letters to a process
abbrev pub letters_to : ℕ → List Letter → List Letter
letters_to q letters = filter (λ l. l.dest.no == q) letters

-- whether a letter was posted at this number or later
abbrev pub is_from : ℕ → Letter → Bool
is_from from l = nat_le from l.posted
