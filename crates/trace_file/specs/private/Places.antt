-- How far a file was read.
use Rattle.std.specs.Prelude.{◌≡◌, ℕ, List, [], ◌++◌, length, drop, Ok}
use Rattle.nm_base.specs.declared.letter.LetterId.{LetterId}
use Rattle.nm_base.specs.declared.letter.AcceptNote.{AcceptNote}
use Rattle.trace_file.specs.declared.item.Item.TheVariants.{End}
use Rattle.trace_file.specs.Content.{Content}
use Rattle.trace_file.specs.Bytes.{front}
use Rattle.trace_file.specs.Rules.{IsFront}
use Rattle.trace_file.specs.Reading.{item_at}

-- t with these entries and no counts
abbrev pub with_entries : Content → List AcceptNote → List LetterId → Content
with_entries t notes lost = record t { notes = notes; lost = lost; counts = [] }

-- the bytes before this place are the front of t, and no rule is broken there
pub record Reaches (t : Content) (place : ℕ) (bytes : List ℕ) : Type 0 where
  pub rules : IsFront t
  pub place_is : place ≡ length (front t)
  pub split : bytes ≡ front t ++ drop place bytes

-- the tag of the end stands at this place
pub record EndsAt (t : Content) (place : ℕ) (bytes : List ℕ) : Type 0 where
  pub before : Reaches t place bytes
  pub tag : item_at t (drop place bytes) ≡ Ok End
