-- Lists in which each process makes the same entries: only the interleaving differs.
use Rattle.std.specs.Prelude.{◌≡◌, ℕ, ◌↔◌, List, Contains}
use Rattle.nm_base.specs.declared.letter.LetterId.{LetterId}
use Rattle.nm_base.specs.declared.letter.AcceptNote.{AcceptNote}
use Rattle.nm_base.specs.Message.{Message}
use Rattle.nm_base.specs.Scripts.{Script}
use Rattle.event_list.specs.declared.Event.{Event}
use Rattle.event_list.specs.Events.{entries, Sends, Accepts}
use Rattle.event_list.specs.Order.{Before, Cut, IsConsistent}
use Rattle.event_list.specs.Races.{CouldTake, Race, IsEarlier, IsLogged}
use Rattle.event_list.specs.Clocks.{IsCounts}
use Rattle.event_list.specs.Traces.{Trace, receive_number}
use Rattle.event_list.specs.Witnesses.{IsWitness}

-- each process has the same entries, in its own order
pub record SameEntries (E F : List Event) : Type 0 where
  pub same : (p : ℕ) → entries E p ≡ entries F p

-- what holds in the one list holds in the other
pub record SameMeaning (E F : List Event) : Type 0 where
  pub member : (e : Event) → Contains E e ↔ Contains F e
  pub sends : (a : Event) (m : Message) → Sends E a m ↔ Sends F a m
  pub accepts : (b : Event) (set : ℕ) (id : LetterId) → Accepts E b set id ↔ Accepts F b set id
  pub before : (a b : Event) → Before E a b ↔ Before F a b
  pub consistent : (c : Cut) → IsConsistent E c ↔ IsConsistent F c
  pub counts : (a : Event) (v : ℕ → ℕ) → IsCounts E a v ↔ IsCounts F a v
  pub could_take : (M : ℕ) (q : Event) (m : Message) → CouldTake M E q m ↔ CouldTake M F q m
  pub race : (M : ℕ) (q : Event) (m : Message) → Race M E q m ↔ Race M F q m
  pub earlier : (M : ℕ) (m : Message) (q : Event) → IsEarlier M E m q ↔ IsEarlier M F m q
  pub logged : (M : ℕ) (m : Message) → IsLogged M E m ↔ IsLogged M F m
  pub numbers : (b : Event) → receive_number E b ≡ receive_number F b
  pub witness : (s : ℕ → Script) (M : ℕ) (m : Message) (W : List Event) → IsWitness s M E m W ↔ IsWitness s M F m W

-- the two traces have the same notes and the same lost entries
pub record SameRecord (T U : Trace) : Type 0 where
  pub notes : (note : AcceptNote) → Contains T.notes note ↔ Contains U.notes note
  pub lost : (id : LetterId) → Contains T.lost id ↔ Contains U.lost id
  pub counts : (p : ℕ) → T.counts p ≡ U.counts p
