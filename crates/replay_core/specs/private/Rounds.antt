-- Finishing, turn by turn.
use Rattle.std.specs.Prelude.{◌≡◌, ℕ, ◌-◌, ◌<◌, ◌≤◌, Bool, false, List, length}
use Rattle.nm_base.specs.Scripts.{Script}
use Rattle.processes.specs.Standing.{Standing}
use Rattle.event_list.specs.declared.Event.{Event}
use Rattle.event_list.specs.Traces.{Trace}
use Rattle.event_list.specs.Turns.{Finishing, all_reached, finish_within, to_finish}
use Rattle.replay_core.specs.declared.round.Round.{Round}
use Rattle.replay_core.specs.Replaying.{Replaying, IsReplayOf, IsSameRun}
use Rattle.replay_core.specs.private.Sleeping.{AreAsleep}

-- the round robin stands there
pub record IsRoundOf (round : Round) (f : Finishing) : Type 0 where
  pub next : round.next ≡ f.next
  pub idle_now : round.idle_now ≡ f.idle_now
  pub turns : round.turns ≡ f.turns
  pub idle : round.idle ≡ f.idle

-- finishing came so far
pub record HasRounded {P M : Type 0} (stands_for : P → Standing) (now : Replaying P M) (round : Round)
    (s : ℕ → Script) (T : Trace) (f : Finishing) : Type 0 where
  pub stands : IsReplayOf stands_for now s T f.events
  pub place : IsRoundOf round f

-- k turns from f on the round robin stands there, and they made no event
pub record SleptTo (round : Round) (s : ℕ → Script) (T : Trace) (f : Finishing) (k : ℕ) : Type 0 where
  pub place : IsRoundOf round (finish_within k s T f)
  pub events : (finish_within k s T f).events ≡ f.events

-- some turns of marked processes were made
pub record HasSlept (old new : Round) (marks : List Bool) (n most : ℕ) : Type 0 where
  pub run : (s : ℕ → Script) (T : Trace) (f : Finishing) → T.n ≡ n → all_reached T f.events ≡ false
      → AreAsleep marks s T f.events → IsRoundOf old f → SleptTo new s T f (new.turns - old.turns)
  pub next : new.next < n
  pub idle : new.idle ≤ new.turns
  pub later : old.turns < new.turns
  pub few : new.turns ≤ most

-- after turns of the round robin, with these processes marked as asleep
pub record AfterRounds {P M O : Type 0} (stands_for : P → Standing) (origin_of : P → O)
    (start now : Replaying P M) (round : Round) (marks : List Bool) (most : ℕ) : Type 0 where
  pub run : (s : ℕ → Script) (T : Trace) (R : List Event) → IsReplayOf stands_for start s T R
      → HasRounded stands_for now round s T (finish_within round.turns s T (to_finish R))
  pub asleep : (s : ℕ → Script) (T : Trace) (R : List Event) → IsReplayOf stands_for start s T R
      → AreAsleep marks s T (finish_within round.turns s T (to_finish R)).events
  pub same : IsSameRun origin_of start now
  pub next : round.next < length now.world.processes
  pub idle : round.idle ≤ round.turns
  pub few : round.turns ≤ most
