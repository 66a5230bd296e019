-- How the queues of an ordered mail lie in its slots. Words of private contracts: no public clause rests on them.
use Rattle.std.specs.Prelude.{◌≡◌, ℕ, ◌+◌, ◌*◌, ◌%◌, ◌<◌, ◌≤◌, ◌⊎◌, ◌&&◌, Bool, true, false, List, length, map, filter, Some, slice_get, slice_index_or}
use Rattle.nm_base.specs.declared.letter.LetterId.{LetterId}
use Rattle.nm_base.specs.declared.letter.Letter.{Letter}
use Rattle.mailboxes.specs.declared.queues.Slot.{Slot}
use Rattle.mailboxes.specs.Letters.{Rises, is_allowed, is_named}

-- no place: the end of a queue
abbrev pub no_place : ℕ
no_place = 18446744073709551615

-- the queue of a letter, one for each process and channel
unfoldable pub queue_of : Letter → ℕ
queue_of l = (l.dest.no % 32) * 32 + l.chan % 32

abbrev pub at : List ℕ → ℕ → ℕ
at xs i = slice_index_or xs i no_place

-- the letters that wait
abbrev pub waiting_in : List Slot → List Letter
waiting_in slots = map (λ s. s.letter) (filter (λ s. s.waits) slots)

-- what contracts see of the queues: the slots, and how many more they take in without memory
pub record Kept : Type 0 where
  pub slots : List Slot
  pub room : ℕ

-- each slot leads to the next of its queue, or to none
pub record Chain (slots : List Slot) (next : List ℕ) : Type 0 where
  pub many : length next ≡ length slots
  pub forward : (i : ℕ) → i < length slots → i < at next i
  pub ends : (i : ℕ) → i < length slots → (at next i < length slots) ⊎ (no_place ≤ at next i)
  pub same : (i : ℕ) (s t : Slot) → slice_get slots i ≡ Some s → slice_get slots (at next i) ≡ Some t
      → queue_of t.letter ≡ queue_of s.letter
  pub between : (i j : ℕ) (s t : Slot) → slice_get slots i ≡ Some s → i < j → j < at next i
      → slice_get slots j ≡ Some t → queue_of t.letter ≡ queue_of s.letter → ⊥

-- the place i of the queue was reached, or its end, and all its slots before i fail the test
pub record Reached (slots : List Slot) (test : Slot → Bool) (queue i : ℕ) : Type 0 where
  pub ends : (i < length slots) ⊎ (no_place ≤ i)
  pub here : (s : Slot) → slice_get slots i ≡ Some s → queue_of s.letter ≡ queue
  pub before : (j : ℕ) (s : Slot) → j < i → slice_get slots j ≡ Some s → queue_of s.letter ≡ queue → test s ≡ false

-- the last slot of each queue
pub record Tails (slots : List Slot) (next tails : List ℕ) : Type 0 where
  pub ends : (q : ℕ) → (at tails q < length slots) ⊎ (no_place ≤ at tails q)
  pub here : (q : ℕ) (s : Slot) → slice_get slots (at tails q) ≡ Some s → queue_of s.letter ≡ q
  pub end : (q : ℕ) → at tails q < length slots → no_place ≤ at next (at tails q)
  pub last : (i : ℕ) (s : Slot) → slice_get slots i ≡ Some s
      → (at tails (queue_of s.letter) ≡ i) ⊎ (at next i < length slots)

pub record Linked (slots : List Slot) (next heads tails : List ℕ) : Type 0 where
  pub chain : Chain slots next
  pub fronts : (q : ℕ) → Reached slots (λ s. s.waits) q (at heads q)
  pub lasts : Tails slots next tails

-- the slots with the first place of each queue
pub record Queued (slots : List Slot) (next heads : List ℕ) : Type 0 where
  pub chain : Chain slots next
  pub fronts : (q : ℕ) → Reached slots (λ s. s.waits) q (at heads q)
  pub rising : Rises 0 (waiting_in slots)

-- whether a slot's letter waits and may be accepted
abbrev pub is_ready : ℕ → (LetterId → Bool) → ℕ → ℕ → List Slot → Slot → Bool
is_ready mask lets dest set slots s = s.waits && is_allowed mask lets dest set (waiting_in slots) s.letter

-- the letter of this name waits at the place
pub record IsPlaceOf (slots : List Slot) (id : LetterId) (i : ℕ) : Type 0 where
  pub within : i < length slots
  pub here : (s : Slot) → slice_get slots i ≡ Some s → (s.waits && is_named id s.letter) ≡ true

-- the place is the first whose slot passes the test, or is past the end where none does
pub record IsLeast (slots : List Slot) (test : Slot → Bool) (i : ℕ) : Type 0 where
  pub here : (s : Slot) → slice_get slots i ≡ Some s → test s ≡ true
  pub before : (j : ℕ) (s : Slot) → j < i → slice_get slots j ≡ Some s → test s ≡ false

-- the same among the slots of the channels below chan
pub record IsLeastBelow (slots : List Slot) (test : Slot → Bool) (chan i : ℕ) : Type 0 where
  pub here : (s : Slot) → slice_get slots i ≡ Some s → test s ≡ true
  pub before : (j : ℕ) (s : Slot) → j < i → slice_get slots j ≡ Some s → s.letter.chan < chan → test s ≡ false
