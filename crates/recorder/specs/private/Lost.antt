-- The waiting letters, as they are gone through.
use Rattle.std.specs.Prelude.{◌≡◌, ℕ, ◌<◌, List, ◌++◌, length, map, Option, Contains}
use Rattle.nm_base.specs.declared.letter.LetterId.{LetterId}
use Rattle.nm_base.specs.declared.letter.AcceptNote.{AcceptNote}
use Rattle.nm_base.specs.declared.letter.Letter.{Letter}
use Rattle.nm_outside.specs.Files.{Files}
use Rattle.event_list.specs.declared.Event.{Event}
use Rattle.event_list.specs.Traces.{Keeps, IsLoggedName}
use Rattle.mailboxes.specs.Letters.{Rises}
use Rattle.trace_file.specs.declared.writer.TraceWriter.{TraceWriter}
use Rattle.trace_file.specs.Bytes.{front}
use Rattle.trace_file.specs.Writing.{Writes}
use Rattle.recorder.specs.Recording.{Form}
use Rattle.recorder.specs.private.Stages.{Place, IsHeld, AreNotes, AreLost, content_in}

-- of the letters these are gone, since they were posted before this number, and the rest is left
pub record IsFrom (letters : List Letter) (from : ℕ) (gone rest : List Letter) : Type 0 where
  pub split : letters ≡ gone ++ rest
  pub earlier : (l : Letter) → Contains gone l → l.posted < from
  pub later : Rises from rest

-- the names of those that are logged
abbrev pub AreLogged : ℕ → List Event → List Letter → List LetterId → Type 0
AreLogged mask E letters names = Keeps (IsLoggedName mask E) (map (λ l. l.id) letters) names

-- so many letters of E were written as lost, and these letters are left to look at
pub record IsGoing (f : Form) (at : Place) (w : TraceWriter) (files : Option Files) (open_name : List ℕ)
    (notes lost : ℕ) (E : List Event) (rest : List Letter) : Type 0 where
  pub list : List AcceptNote
  pub written : List LetterId
  pub left : List LetterId
  pub are_notes : AreNotes f.mask E list
  pub are_lost : AreLost f.mask E (written ++ left)
  pub logged : AreLogged f.mask E rest left
  pub notes_count : notes ≡ length list
  pub lost_count : lost ≡ length written
  pub writes : Writes w (front (content_in f list written))
  pub held : IsHeld at files open_name (front (content_in f list written))
