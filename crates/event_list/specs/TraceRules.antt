-- The rules that the trace of a run keeps: whose its entries are, their order, and that no letter is named twice.
use Rattle.std.specs.Prelude.{◌≡◌, ℕ, ◌<◌, ◌≤◌, List, Contains}
use Rattle.nm_base.specs.declared.letter.LetterId.{LetterId}
use Rattle.nm_base.specs.declared.letter.AcceptNote.{AcceptNote}
use Rattle.nm_base.specs.Fitting.{EachFits}
use Rattle.nm_base.specs.declared.limits.TheConstants.{MAX_EVENTS}
use Rattle.event_list.specs.Traces.{Trace}
use Rattle.event_list.specs.Turns.{sum_below}

-- after these notes, the note is of a later receive of its receiver, and of another letter
pub record NoteFits (notes : List AcceptNote) (note : AcceptNote) : Type 0 where
  pub later : (a : AcceptNote) → Contains notes a → a.receiver.no ≡ note.receiver.no → a.receive < note.receive
  pub other : (a : AcceptNote) → Contains notes a → a.id ≡ note.id → ⊥

-- after these names, the name is of a later send of its sender
pub record LostFits (names : List LetterId) (id : LetterId) : Type 0 where
  pub later : (a : LetterId) → Contains names a → a.sender.no ≡ id.sender.no → a.number < id.number

-- the trace keeps the rules
pub record IsOrderly (T : Trace) : Type 0 where
  -- receivers and senders are processes of the run
  pub receivers : (note : AcceptNote) → Contains T.notes note → note.receiver.no < T.n
  pub senders : (note : AcceptNote) → Contains T.notes note → note.id.sender.no < T.n
  pub lost_senders : (id : LetterId) → Contains T.lost id → id.sender.no < T.n
  -- the receive numbers of one receiver rise, and so do the lost numbers of one sender; no letter is named twice
  pub notes : EachFits NoteFits T.notes
  pub lost : EachFits LostFits T.lost
  pub apart : (note : AcceptNote) (id : LetterId) → Contains T.notes note → Contains T.lost id → note.id ≡ id → ⊥

-- the trace keeps the rules, its counts are no more than a run's events and 0 for processes that there aren't, and
-- its numbers are below the greatest number of events
pub record IsFormed (T : Trace) : Type 0 where
  pub orderly : IsOrderly T
  pub sum : sum_below T.n T.counts ≤ MAX_EVENTS
  pub no_more : (p : ℕ) → T.n ≤ p → T.counts p ≡ 0
  pub receives : (note : AcceptNote) → Contains T.notes note → note.receive < MAX_EVENTS
  pub sends : (note : AcceptNote) → Contains T.notes note → note.id.number < MAX_EVENTS
  pub lost_sends : (id : LetterId) → Contains T.lost id → id.number < MAX_EVENTS
