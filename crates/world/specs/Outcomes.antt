-- What a turn of a world gives.
use Rattle.std.specs.Prelude.{◌≡◌, ℕ, ◌%◌, ◌⊎◌, List, [], length, Option, Some, None, slice_get}
use Rattle.nm_base.specs.declared.letter.Letter.{Letter}
use Rattle.nm_base.specs.declared.kind.Kind.{Kind}
use Rattle.nm_base.specs.Message.{message_of}
use Rattle.nm_base.specs.Scripts.{Script, Goes, Wants}
use Rattle.processes.specs.Standing.{Standing}
use Rattle.event_list.specs.declared.Event.{Event}
use Rattle.event_list.specs.Events.{count, messages, letter_of, taken_of}
use Rattle.event_list.specs.Laws.{AreLawful}
use Rattle.event_list.specs.Turns as turns
use Rattle.event_list.specs.Rules.{Rule, allowed_under, go_under}
use Rattle.world.specs.declared.world.Idle.{Idle}
use Rattle.world.specs.declared.world.Idle.TheVariants.{Over, AtCount, NoLetter}
use Rattle.world.specs.declared.world.Turned.{Turned}
use Rattle.world.specs.declared.world.Turned.TheVariants as turned
use Rattle.world.specs.Worlds.{Parts, IsPosted, IsWorldOf}

abbrev pub reason : Idle → turns.Idle
reason Over = turns.IsOver
reason AtCount = turns.AtCount
reason NoLetter = turns.NoLetter

-- the turn as the definitions see it
abbrev pub outcome : Turned → turns.Turned
outcome (turned.Idle why) = turns.Stays (reason why)
outcome (turned.Went event letter) = turns.Went event

-- the letter is the one that the event sent or accepted, as it was posted
abbrev pub Carries : List Event → Event → Option Letter → Type 0
Carries E e None = (letter_of e ≡ None) × (taken_of e ≡ None)
Carries E e (Some l) = IsPosted E l × ((letter_of e ≡ Some (message_of l)) ⊎ (taken_of e ≡ Some l.id))

abbrev pub CarriesIt : List Event → Turned → Type 0
CarriesIt E (turned.Idle why) = Unit {0}
CarriesIt E (turned.Went event letter) = Carries E event letter

-- the turn that it took is that of the definitions under the mask and the rule, and it stands for the events with
-- what happened
pub record HasTurned {P M : Type 0} (stands_for : P → Standing) (mask : ℕ) (rule : Rule) (w : Parts P M)
    (s : ℕ → Script) (E : List Event) (t : turns.Turn) (what : Turned) : Type 0 where
  pub is : go_under s mask rule E t ≡ outcome what
  pub stands : IsWorldOf stands_for w s (turns.after E (outcome what))
  pub carries : CarriesIt (turns.after E (outcome what)) what

-- the process p made its next event
pub record HasMade {P M : Type 0} (stands_for : P → Standing) (w : Parts P M) (s : ℕ → Script) (E : List Event)
    (p : ℕ) (what : Turned) : Type 0 where
  pub kind : Kind
  pub next : (s p).next (messages E p) (count E p) ≡ Goes kind
  pub is : turns.Went (turns.next_event E p kind) ≡ outcome what
  pub stands : IsWorldOf stands_for w s (turns.after E (outcome what))
  pub carries : CarriesIt (turns.after E (outcome what)) what

-- the process p, which wants a letter on a channel of the set, accepted the one that the pick names, if any is allowed
pub record HasAccepted {P M : Type 0} (stands_for : P → Standing) (mask : ℕ) (rule : Rule) (w : Parts P M)
    (s : ℕ → Script) (E : List Event) (p set pick : ℕ) (what : Turned) : Type 0 where
  pub next : (s p).next (messages E p) (count E p) ≡ Wants set
  pub is : turns.taking E p set
      (slice_get (allowed_under mask rule E p set) (pick % length (allowed_under mask rule E p set))) ≡ outcome what
  pub stands : IsWorldOf stands_for w s (turns.after E (outcome what))
  pub carries : CarriesIt (turns.after E (outcome what)) what

-- processes at the beginning of their scripts
pub record Begins {P : Type 0} (stands_for : P → Standing) (processes : List P) (s : ℕ → Script) : Type 0 where
  pub lawful : AreLawful s
  pub stands : (p : ℕ) (x : P) → slice_get processes p ≡ Some x → stands_for x (s p) [] 0
