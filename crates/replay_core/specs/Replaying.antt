-- What a replay stands for, and what its turns and its finishing give.
use Rattle.std.specs.Prelude.{◌≡◌, ℕ, ◌<◌, ◌≤◌, true, false, List, Some, length, map, slice_index}
use Rattle.nm_base.specs.declared.limits.TheConstants.{MAX_EVENTS, MAX_PROCESSES}
use Rattle.nm_base.specs.Scripts.{Script}
use Rattle.processes.specs.Standing.{Standing}
use Rattle.event_list.specs.declared.Event.{Event}
use Rattle.event_list.specs.Events.{count}
use Rattle.event_list.specs.Traces.{Trace, IsReplay}
use Rattle.event_list.specs.Turns as turns
use Rattle.event_list.specs.Turns.{go, after, sum_below, all_reached, finish_within, to_finish, enough_turns, finish_of}
use Rattle.world.specs.declared.world.Turned.{Turned}
use Rattle.world.specs.Worlds.{Parts, IsWorldOf}
use Rattle.world.specs.Outcomes.{outcome, CarriesIt}
use Rattle.replay_core.specs.declared.finish.Finished.{Finished}
use Rattle.replay_core.specs.declared.finish.ReplayFault.{ReplayFault}
use Rattle.replay_core.specs.declared.finish.ReplayFault.TheVariants.{Stuck, Memory}
use Rattle.replay_core.specs.Gates.{Gating, IsGateOf}

-- what a contract sees of a replay
pub record Replaying (P M : Type 0) : Type 0 where
  pub world : Parts P M
  pub gate : Gating
  pub events : List Event

-- the trace is of few processes and events, and of no events of processes that there aren't
pub record IsSmall (T : Trace) : Type 0 where
  pub some : 0 < T.n
  pub few : T.n ≤ MAX_PROCESSES
  pub sum : sum_below T.n T.counts ≤ MAX_EVENTS
  pub none : (p : ℕ) → T.n ≤ p → T.counts p ≡ 0

-- the scripts s are replayed under the trace T, and came to R
pub record IsReplayOf {P M : Type 0} (stands_for : P → Standing) (r : Replaying P M)
    (s : ℕ → Script) (T : Trace) (R : List Event) : Type 0 where
  pub world : IsWorldOf stands_for r.world s R
  pub replay : IsReplay s T R
  pub events : r.events ≡ R
  pub gate : IsGateOf r.gate T
  pub mask : r.world.mask ≡ T.mask
  pub size : length r.world.processes ≡ T.n
  pub small : IsSmall T

-- some scripts are replayed under some trace
abbrev pub IsSomeReplay : {P M : Type 0} → (P → Standing) → Replaying P M → Type 0
IsSomeReplay stands_for r =
    (s : ℕ → Script) × (T : Trace) × (R : List Event) × IsReplayOf stands_for r s T R

-- whatever the first replays, the second replays
abbrev pub ReplaysAll : {P M : Type 0} → (P → Standing) → Replaying P M → Replaying P M → Type 0
ReplaysAll stands_for r v =
    (s : ℕ → Script) (T : Trace) (R : List Event) → IsReplayOf stands_for r s T R → IsReplayOf stands_for v s T R

-- as many processes of the same origins, and the same ordered channels
pub record IsSameRun {P M O : Type 0} (origin_of : P → O) (old new : Replaying P M) : Type 0 where
  pub size : length new.world.processes ≡ length old.world.processes
  pub origins : map origin_of new.world.processes ≡ map origin_of old.world.processes
  pub mask : new.world.mask ≡ old.world.mask

-- the turn was that of the definitions under the trace
pub record HasGone {P M : Type 0} (stands_for : P → Standing) (new : Replaying P M)
    (s : ℕ → Script) (T : Trace) (R : List Event) (t : turns.Turn) (what : Turned) : Type 0 where
  pub is : go s T.mask (Some T) R t ≡ outcome what
  pub stands : IsReplayOf stands_for new s T (after R (outcome what))
  pub carries : CarriesIt (after R (outcome what)) what

-- the replay R was finished: all recorded counts are reached
pub record HasFinished {P M : Type 0} (stands_for : P → Standing) (new : Replaying P M)
    (s : ℕ → Script) (T : Trace) (R : List Event) (f : Finished) : Type 0 where
  pub stands : IsReplayOf stands_for new s T (finish_of s T R).events
  pub reached : all_reached T (finish_of s T R).events ≡ true
  pub turns : f.turns ≡ (finish_of s T R).turns
  pub idle : f.idle ≡ (finish_of s T R).idle
  pub few : f.turns ≤ enough_turns T

-- n turns in succession were idle, and a process is below its recorded count
pub record IsStuck {P M : Type 0} (stands_for : P → Standing) (new : Replaying P M)
    (s : ℕ → Script) (T : Trace) (R : List Event) (counts : List ℕ) : Type 0 where
  pub stands : IsReplayOf stands_for new s T (finish_of s T R).events
  pub below : all_reached T (finish_of s T R).events ≡ false
  pub idle : T.n ≤ (finish_of s T R).idle_now
  pub told : (p : ℕ) → slice_index counts p ≡ count (finish_of s T R).events p

-- the replay R is stuck; or memory was refused, after some of the turns of finishing
abbrev pub HasFailed : {P M : Type 0} → (P → Standing) → Replaying P M → (ℕ → Script) → Trace → List Event
    → ReplayFault → Type 0
HasFailed stands_for new s T R (Stuck counts) = IsStuck stands_for new s T R counts
HasFailed stands_for new s T R Memory =
    (k : ℕ) × IsReplayOf stands_for new s T (finish_within k s T (to_finish R)).events
