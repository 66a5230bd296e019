-- The trace of a list of events, and replays of a trace.
use Rattle.std.specs.Prelude.{◌≡◌, ℕ, ◌<◌, ◌≤◌, ◌==◌, ◌&&◌, ◌||◌, Bool, true, not, take, ◌-◌, List, [], ◌∷◌, ◌++◌, length, map, Option, Some, None, filter, filter_map, find, option_map, Contains}
use Rattle.std.specs.List.{list_any}
use Rattle.nm_base.specs.declared.letter.LetterId.{LetterId}
use Rattle.nm_base.specs.declared.letter.AcceptNote.{AcceptNote}
use Rattle.nm_base.specs.declared.kind.Kind.TheVariants.{Accepted}
use Rattle.nm_base.specs.Fitting.{EachFits}
use Rattle.nm_base.specs.Message.{Message, same_name}
use Rattle.nm_base.specs.Scripts.{Script}
use Rattle.event_list.specs.declared.Event.{Event}
use Rattle.event_list.specs.Events.{entries, count, receives, letters, taken, taken_of}
use Rattle.event_list.specs.Runs.{IsRun}
use Rattle.event_list.specs.Races.{IsLogged}

-- ys are the elements of xs of which P holds, in their order
pub data Keeps {X : Type 0} (P : X → Type 0) : List X → List X → Type 0 where
  nothing : Keeps P [] []
  kept : {x : X} {xs ys : List X} → P x → Keeps P xs ys → Keeps P (x ∷ xs) (x ∷ ys)
  left_out : {x : X} {xs ys : List X} → (P x → ⊥) → Keeps P xs ys → Keeps P (x ∷ xs) ys

-- whether the letter of this name was accepted
abbrev pub is_taken : List Event → LetterId → Bool
is_taken E id = list_any (same_name id) (taken E)

-- the letters sent and not accepted, in the order of their sends
abbrev pub waiting : List Event → List Message
waiting E = filter (λ m. not (is_taken E m.id)) (letters E)

-- the number of an entry among its process's receives, from 0, if it is one
abbrev pub receive_number : List Event → Event → ℕ
receive_number E b = length (taken (take (b.number - 1) (entries E b.proc.no)))

-- the note of an entry, if it is a receive
abbrev pub note_of : List Event → Event → Option AcceptNote
note_of E b = option_map (λ id. record { receiver = b.proc; receive = receive_number E b; id = id }) (taken_of b)

-- the notes of all receives, in order
abbrev pub all_notes : List Event → List AcceptNote
all_notes E = filter_map (note_of E) E

pub record Trace : Type 0 where
  pub version : ℕ
  pub mask : ℕ
  pub n : ℕ
  pub notes : List AcceptNote
  pub lost : List LetterId
  pub counts : ℕ → ℕ

-- the letter of this name is logged
abbrev pub IsLoggedName : ℕ → List Event → LetterId → Type 0
IsLoggedName M E id = (m : Message) × (m.id ≡ id) × IsLogged M E m

-- these are a note for each logged letter that was received, in the order of the receives
abbrev pub AreNotesOf : ℕ → List Event → List AcceptNote → Type 0
AreNotesOf M E notes = Keeps (λ (note : AcceptNote). IsLoggedName M E note.id) (all_notes E) notes

-- these are the logged letters that were never received, in the order of the sends
abbrev pub AreLostOf : ℕ → List Event → List LetterId → Type 0
AreLostOf M E lost = Keeps (IsLoggedName M E) (map (λ m. m.id) (waiting E)) lost

-- T is the trace of E under its mask
pub record IsTraceOf (E : List Event) (T : Trace) : Type 0 where
  -- E's processes are those below n
  pub processes : (a : Event) → Contains E a → a.proc.no < T.n
  pub notes : AreNotesOf T.mask E T.notes
  pub lost : AreLostOf T.mask E T.lost
  -- each process's count
  pub counts : (p : ℕ) → T.counts p ≡ count E p

-- the trace's note for p's j-th receive, if it has one
abbrev pub note_for : Trace → ℕ → ℕ → Option AcceptNote
note_for T p j = find (λ note. (note.receiver.no == p) && (note.receive == j)) T.notes

-- whether a note or a lost entry names the letter
abbrev pub names : Trace → LetterId → Bool
names T id = list_any (λ note. same_name note.id id) T.notes || list_any (λ l. same_name l id) T.lost

-- whether p's j-th receive may accept the letter: its note's letter, or without a note a letter that nothing names
abbrev pub permits_by : Option AcceptNote → Trace → LetterId → Bool
permits_by (Some note) T id = same_name note.id id
permits_by None T id = not (names T id)

abbrev pub permits : Trace → ℕ → ℕ → LetterId → Bool
permits T p j id = permits_by (note_for T p j) T id

-- the entry is no receive, or accepts a letter that the trace permits
pub record IsPermitted (T : Trace) (E : List Event) (e : Event) : Type 0 where
  pub permitted : (set : ℕ) (id : LetterId) → e.kind ≡ Accepted set id
      → permits T e.proc.no (receives E e.proc.no) id ≡ true

-- R is a replay of the scripts under the trace
pub record IsReplay (s : ℕ → Script) (T : Trace) (R : List Event) : Type 0 where
  pub run : IsRun s T.mask R
  pub permitted : EachFits (IsPermitted T) R
  pub within : (p : ℕ) → count R p ≤ T.counts p

-- in R each process makes a prefix of its entries in E
abbrev pub Agrees : List Event → List Event → Type 0
Agrees E R = (p : ℕ) → (rest : List Event) × (entries R p ++ rest ≡ entries E p)
