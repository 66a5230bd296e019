-- The receive that a turn made, if it made one, and what a tracer may be told of it.
use Rattle.std.specs.Prelude.{◌≡◌, ℕ, ◌<◌, List, Option, Some, None, Contains}
use Rattle.nm_base.specs.declared.letter.LetterId.{LetterId}
use Rattle.nm_base.specs.declared.letter.Letter.{Letter}
use Rattle.nm_base.specs.declared.kind.Kind.TheVariants.{Accepted}
use Rattle.event_list.specs.declared.Event.{Event}
use Rattle.event_list.specs.Events.{taken_of}
use Rattle.event_list.specs.Turns as turns
use Rattle.race_tracer.specs.Tracing.{IsLawfulRun}
use Rattle.world.specs.declared.world.Turned.{Turned}
use Rattle.world.specs.declared.world.Turned.TheVariants.{Idle, Went}
use Rattle.world.specs.Outcomes.{outcome, CarriesIt}
use Rattle.recorder.specs.declared.receive.Receive.{Receive}

-- the event accepted a letter, and the receive tells of it
pub record TellsOf (e : Event) (l : Letter) (r : Receive) : Type 0 where
  pub letter : l ≡ r.letter
  pub proc : e.proc ≡ r.proc
  pub number : e.number ≡ r.number
  pub id : LetterId
  pub kind : e.kind ≡ Accepted r.set id

-- the receive of an event that sent or accepted this letter
abbrev pub IsReceiveBy : Event → Option Letter → Option Receive → Type 0
IsReceiveBy e None r = r ≡ None
IsReceiveBy e (Some l) None = taken_of e ≡ None
IsReceiveBy e (Some l) (Some r) = TellsOf e l r

-- the receive of a turn
abbrev pub IsReceiveIn : Turned → Option Receive → Type 0
IsReceiveIn (Idle why) r = r ≡ None
IsReceiveIn (Went e l) r = IsReceiveBy e l r

-- the turn was made behind E, in a run of lawful scripts of n processes
pub record IsMade (mask n : ℕ) (E : List Event) (what : Turned) : Type 0 where
  pub run : IsLawfulRun mask (turns.after E (outcome what))
  pub below : (e : Event) → Contains (turns.after E (outcome what)) e → e.proc.no < n
  pub carries : CarriesIt (turns.after E (outcome what)) what
