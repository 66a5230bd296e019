-- What holds of a trace's entries, of certificates in a full replay, and of comparisons.
use Rattle.std.specs.Prelude.{◌≡◌, ℕ, ◌↔◌, List, ◌∷◌, ◌++◌, Contains}
use Rattle.nm_base.specs.declared.letter.LetterId.{LetterId}
use Rattle.nm_base.specs.declared.letter.AcceptNote.{AcceptNote}
use Rattle.nm_base.specs.Message.{Message}
use Rattle.nm_base.specs.Scripts.{Script}
use Rattle.event_list.specs.declared.Event.{Event}
use Rattle.event_list.specs.Events.{count}
use Rattle.event_list.specs.Races.{IsLogged}
use Rattle.event_list.specs.Runs.{Sound}
use Rattle.event_list.specs.Traces.{Trace, IsLoggedName, IsTraceOf, IsReplay}
use Rattle.event_list.specs.Witnesses.{IsWitness, IsWitnessOf}
use Rattle.event_list.specs.Laws.{IsRecorded}
use Rattle.cut_witness.specs.declared.comparisons.Compared.{Compared}
use Rattle.cut_witness.specs.Comparisons.{Entry, letter_in, trace_entries, HasEntries, IsCompared}

-- E is a run of lawful scripts with the trace T, and F a replay of it that has all recorded counts
pub record IsFullReplay (s : ℕ → Script) (T : Trace) (E F : List Event) : Type 0 where
  pub recorded : IsRecorded s T E
  pub replay : IsReplay s T F
  pub reached : (p : ℕ) → count F p ≡ T.counts p

-- exactly one of the entries names the letter
pub record NamesOnce (xs : List Entry) (id : LetterId) : Type 0 where
  pub before : List Entry
  pub entry : Entry
  pub after : List Entry
  pub whole : xs ≡ before ++ (entry ∷ after)
  pub named : letter_in entry ≡ id
  pub none_before : (x : Entry) → Contains before x → letter_in x ≡ id → ⊥
  pub none_after : (x : Entry) → Contains after x → letter_in x ≡ id → ⊥

-- a full replay has the entries of the trace
abbrev pub SameLaw : Type 0
SameLaw = (s : ℕ → Script) (T : Trace) (E F : List Event) → IsFullReplay s T E F → HasEntries T.mask T.notes T.lost F

-- what a trace with F's entries names is logged in F
pub record LoggedLaw : Type 0 where
  pub note : (M : ℕ) (notes : List AcceptNote) (lost : List LetterId) (F : List Event) (note : AcceptNote)
      → HasEntries M notes lost F → Contains notes note → IsLoggedName M F note.id
  pub lost : (M : ℕ) (notes : List AcceptNote) (lost : List LetterId) (F : List Event) (id : LetterId)
      → HasEntries M notes lost F → Contains lost id → IsLoggedName M F id

-- the trace of a sound list names each logged letter once, and no other
pub record NamesLaw : Type 0 where
  pub once : (E : List Event) (T : Trace) (m : Message) → Sound T.mask E → IsTraceOf E T → IsLogged T.mask E m
      → NamesOnce (trace_entries T.notes T.lost) m.id
  pub only : (E : List Event) (T : Trace) (x : Entry) → IsTraceOf E T → Contains (trace_entries T.notes T.lost) x
      → IsLoggedName T.mask E (letter_in x)

-- in a full replay the letters of the recorded run are logged, and its witnesses are the recorded run's
pub record CarriedLaw : Type 0 where
  pub logged : (s : ℕ → Script) (T : Trace) (E F : List Event) (m : Message) → IsFullReplay s T E F
      → IsLogged T.mask E m ↔ IsLogged T.mask F m
  pub named : (s : ℕ → Script) (T : Trace) (E F : List Event) (id : LetterId) → IsFullReplay s T E F
      → IsLoggedName T.mask E id ↔ IsLoggedName T.mask F id
  pub witness : (s : ℕ → Script) (T : Trace) (E F : List Event) (m : Message) (W : List Event) → IsFullReplay s T E F
      → IsWitnessOf s T.mask F m W → IsWitness s T.mask E m W

-- what comes of comparing a trace with a list of events is one thing
abbrev pub OneComparisonLaw : Type 0
OneComparisonLaw = (M : ℕ) (notes : List AcceptNote) (lost : List LetterId) (E : List Event) (a b : Compared)
    → IsCompared M notes lost E a → IsCompared M notes lost E b → a ≡ b
