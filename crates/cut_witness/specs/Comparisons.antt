-- The entries of a trace, and what comes of comparing them with those of a list of events.
use Rattle.std.specs.Prelude.{◌≡◌, ℕ, ◌↔◌, ◌⊎◌, List, ◌∷◌, ◌++◌, map, Contains}
use Rattle.nm_base.specs.declared.letter.LetterId.{LetterId}
use Rattle.nm_base.specs.declared.letter.AcceptNote.{AcceptNote}
use Rattle.event_list.specs.declared.Event.{Event}
use Rattle.event_list.specs.Traces.{IsLoggedName, all_notes, waiting}
use Rattle.cut_witness.specs.declared.comparisons.Compared.{Compared}
use Rattle.cut_witness.specs.declared.comparisons.Compared.TheVariants.{Same, Differs}

-- an entry of a trace: the note of a receive, or the name of a letter that was never received
pub data Entry : Type 0 where
  Noted : AcceptNote → Entry
  Missed : LetterId → Entry

-- the letter that an entry names
abbrev pub letter_in : Entry → LetterId
letter_in (Noted note) = note.id
letter_in (Missed id) = id

-- a trace's entries, the notes first
abbrev pub trace_entries : List AcceptNote → List LetterId → List Entry
trace_entries notes lost = map Noted notes ++ map Missed lost

-- what would be E's entries if each letter were logged: the notes of all receives, in order, and then the letters that
-- wait, in the order of their sends
abbrev pub all_entries : List Event → List Entry
all_entries E = trace_entries (all_notes E) (map (λ m. m.id) (waiting E))

-- the entry is one of E's trace under the mask M
pub record IsEntryOf (M : ℕ) (E : List Event) (x : Entry) : Type 0 where
  pub in_list : Contains (all_entries E) x
  pub logged : IsLoggedName M E (letter_in x)

-- the notes and the lost entries are, as sets, those of E's trace
abbrev pub HasEntries : ℕ → List AcceptNote → List LetterId → List Event → Type 0
HasEntries M notes lost E = (x : Entry) → Contains (trace_entries notes lost) x ↔ IsEntryOf M E x

-- the first of xs of which P holds names the letter
pub record FirstNames (P : Entry → Type 0) (xs : List Entry) (id : LetterId) : Type 0 where
  pub before : List Entry
  pub entry : Entry
  pub after : List Entry
  pub whole : xs ≡ before ++ (entry ∷ after)
  pub holds : P entry
  pub none_before : (x : Entry) → Contains before x → P x → ⊥
  pub named : letter_in entry ≡ id

-- what comes of comparing a trace with E: the letter of the trace's first entry that E lacks, else of E's first entry
-- that the trace lacks
abbrev pub IsCompared : ℕ → List AcceptNote → List LetterId → List Event → Compared → Type 0
IsCompared M notes lost E Same = HasEntries M notes lost E
IsCompared M notes lost E (Differs first) =
    FirstNames (λ x. IsEntryOf M E x → ⊥) (trace_entries notes lost) first
    ⊎ (((x : Entry) → Contains (trace_entries notes lost) x → IsEntryOf M E x)
    × FirstNames (λ x. IsEntryOf M E x × (Contains (trace_entries notes lost) x → ⊥)) (all_entries E) first)
