-- How the entries of a list of events are listed, and how entries are looked up.
use Rattle.std.specs.Prelude.{◌≡◌, ◌==◌, ◌&&◌, ◌⊎◌, ◌↔◌, Bool, true, if◌then◌else◌, List, Option, None, Some, Contains}
use Rattle.std.specs.List.{list_any}
use Rattle.nm_base.specs.declared.letter.LetterId.{LetterId}
use Rattle.nm_base.specs.declared.letter.AcceptNote.{AcceptNote}
use Rattle.nm_base.specs.Message.{Message, same_name}
use Rattle.event_list.specs.declared.Event.{Event}
use Rattle.event_list.specs.Events.{letter_of}
use Rattle.event_list.specs.Traces.{is_taken}
use Rattle.cut_witness.specs.declared.lookups.NoteKey.{NoteKey}
use Rattle.cut_witness.specs.Comparisons.{Entry, Noted, Missed, FirstNames}

-- x itself where P holds of it
abbrev pub PassesOn : {X : Type 0} → (X → Type 0) → Option X → Option X → Type 0
PassesOn P None r = r ≡ None
PassesOn P (Some x) r = (P x × (r ≡ Some x)) ⊎ ((P x → ⊥) × (r ≡ None))

-- the name of a letter, unless it was received in E
abbrev pub waiting_name : List Event → Option Message → Option LetterId
waiting_name E None = None
waiting_name E (Some m) = if is_taken E m.id then None else Some m.id

-- the name of the letter that an event sends, unless it was received
abbrev pub lost_of : List Event → Event → Option LetterId
lost_of E e = waiting_name E (letter_of e)

abbrev pub key_of : AcceptNote → NoteKey
key_of note = record { receiver = note.receiver; receive = note.receive; id = note.id }

abbrev pub same_key : NoteKey → NoteKey → Bool
same_key a b = (a.receiver.no == b.receiver.no) && ((a.receive == b.receive) && same_name a.id b.id)

-- what a contract sees of a set of entries
pub record Sets : Type 0 where
  pub noted : List NoteKey
  pub lost : List LetterId

-- whether the set has the entry
abbrev pub has_note : Sets → AcceptNote → Bool
has_note sets note = list_any (same_key (key_of note)) sets.noted

abbrev pub has_lost : Sets → LetterId → Bool
has_lost sets id = list_any (same_name id) sets.lost

abbrev pub has : Sets → Entry → Bool
has sets (Noted note) = has_note sets note
has sets (Missed id) = has_lost sets id

-- the set has the notes and the letters, and nothing else
pub record Holds (sets : Sets) (notes : List AcceptNote) (lost : List LetterId) : Type 0 where
  pub notes_are : (note : AcceptNote) → (has_note sets note ≡ true) ↔ Contains notes note
  pub lost_are : (id : LetterId) → (has_lost sets id ≡ true) ↔ Contains lost id

-- the letter of the first entry of which P holds, if it holds of one
abbrev pub FindsFirst : (Entry → Type 0) → List Entry → Option LetterId → Type 0
FindsFirst P xs None = (x : Entry) → Contains xs x → P x → ⊥
FindsFirst P xs (Some id) = FirstNames P xs id

-- the letter of the first entry of xs that ys lacks, if ys lacks one
abbrev pub FindsLacking : List Entry → List Entry → Option LetterId → Type 0
FindsLacking xs ys None = (x : Entry) → Contains xs x → Contains ys x
FindsLacking xs ys (Some id) = FirstNames (λ x. Contains ys x → ⊥) xs id

-- whether the set has the name after another is added, if there is one
abbrev pub with_name : Option LetterId → LetterId → Bool → Bool
with_name None q had = had
with_name (Some id) q had = if same_name id q then true else had
