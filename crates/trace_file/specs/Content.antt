-- What a trace file says.
use Rattle.std.specs.Prelude.{ℕ, List, [], ◌∷◌, ◌++◌, slice_index}
use Rattle.nm_base.specs.declared.letter.LetterId.{LetterId}
use Rattle.nm_base.specs.declared.letter.AcceptNote.{AcceptNote}

-- The digest is that of the program file.
pub record Content : Type 0 where
  pub version : ℕ
  -- the channels that keep order
  pub mask : ℕ
  -- the number of processes
  pub n : ℕ
  -- of the program file
  pub digest : List ℕ
  pub notes : List AcceptNote
  pub lost : List LetterId
  -- each process's number of events
  pub counts : List ℕ

-- p's number of events, and 0 where p isn't one of the processes
abbrev pub count_of : Content → ℕ → ℕ
count_of t p = slice_index t.counts p

-- a trace with no entries and no counts yet
abbrev pub begun : ℕ → ℕ → ℕ → List ℕ → Content
begun version mask n digest =
    record { version = version; mask = mask; n = n; digest = digest; notes = []; lost = []; counts = [] }

-- t with one note more
abbrev pub with_note : Content → AcceptNote → Content
with_note t a = record t { notes = t.notes ++ a ∷ [] }

-- t with one lost letter more
abbrev pub with_lost : Content → LetterId → Content
with_lost t id = record t { lost = t.lost ++ id ∷ [] }
