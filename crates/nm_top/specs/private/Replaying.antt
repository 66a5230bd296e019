-- A program that is replayed under a trace.
use Rattle.std.specs.Prelude.{◌≡◌, ℕ, ◌+◌, ◌-◌, ◌≤◌, List, [], length, take, true, false, Result, Ok, Err, slice_index, ⊤}
use Rattle.c_tree.specs.declared.program.Program.{Program}
use Rattle.c_tree.specs.Play.{script_of}
use Rattle.schedules.specs.declared.schedule.Turn.{Turn}
use Rattle.event_list.specs.declared.Event.{Event}
use Rattle.event_list.specs.Events.{count}
use Rattle.event_list.specs.Turns.{all_reached}
use Rattle.trace_file.specs.Content.{Content}
use Rattle.replay_core.specs.declared.finish.Finished.{Finished}
use Rattle.replay_core.specs.declared.finish.ReplayFault.{ReplayFault}
use Rattle.replay_core.specs.declared.finish.ReplayFault.TheVariants.{Stuck, Memory}
use Rattle.replay_core.specs.Gates.{seen_trace}
use Rattle.replay_core.specs.Replaying.{Replaying, IsReplayOf, IsSameRun}
use Rattle.c_process.specs.contracts.script.CProcProc.TheImpl as process
use Rattle.c_process.specs.declared.process.CProc.{CProc}
use Rattle.report.specs.Runs.{RunsProgram}
use Rattle.nm_top.specs.Finishing.{replayed, finished}
use Rattle.nm_top.specs.declared.stop.Stop.{Stop}
use Rattle.nm_top.specs.Watches.{Given, Hear}
use Rattle.nm_top.specs.private.Tellings.{IsStuckStop, finished_within}

-- the program's processes are replayed under the trace, and came to R
pub record ReplaysProgram {M : Type 0} (r : Replaying CProc M) (p : Program) (t : Content)
    (R : List Event) : Type 0 where
  pub replays : IsReplayOf process.stands_for-value.it r (script_of p t.n) (seen_trace t) R
  pub runs : RunsProgram r.world p R

-- what a replay keeps while the turns of a schedule are made: it came to the replay by the first i turns, of which so
-- many made no event
pub record AfterReplay {M : Type 0} (start now : Replaying CProc M) (turns : List Turn) (i idle : ℕ) : Type 0 where
  pub run : (p : Program) (t : Content) → ReplaysProgram start p t []
      → ReplaysProgram now p t (replayed p t (take i turns)) × (idle + length (replayed p t (take i turns)) ≡ i)
  pub same : IsSameRun process.origin_of-value.it start now
  pub few : idle ≤ i
  pub within : i ≤ length turns

-- the turns of a schedule were made, of which so many made no event; or memory was refused after the first of them
abbrev pub HasReplayed : {M E : Type 0} → Replaying CProc M → Program → Content → List Turn → Result ℕ E → Type 0
HasReplayed now p t turns (Ok idle) =
    ReplaysProgram now p t (replayed p t turns) × (idle ≡ length turns - length (replayed p t turns))
HasReplayed now p t turns (Err e) = (many : ℕ) × ReplaysProgram now p t (replayed p t (take many turns))

-- the replay was finished; or it is stuck; or memory was refused after some of the turns of finishing
abbrev pub HasFinishedRun : {M : Type 0} → Replaying CProc M → Program → Content → Result Finished ReplayFault → Type 0
HasFinishedRun now p t (Ok round) =
    ReplaysProgram now p t (finished p t).events
    × (all_reached (seen_trace t) (finished p t).events ≡ true)
    × (round.turns ≡ (finished p t).turns)
    × (round.idle ≡ (finished p t).idle)
HasFinishedRun now p t (Err (Stuck counts)) =
    ReplaysProgram now p t (finished p t).events
    × (all_reached (seen_trace t) (finished p t).events ≡ false)
    × ((q : ℕ) → slice_index counts q ≡ count (finished p t).events q)
HasFinishedRun now p t (Err Memory) = (many : ℕ) × ReplaysProgram now p t (finished_within many p t)

-- finishing is stuck, and this holds of the numbers of events
abbrev pub IfStuck : Result Finished ReplayFault → (List ℕ → Type 0) → Type 0
IfStuck (Err (Stuck counts)) P = P counts
IfStuck round P = ⊤

-- why a replay wasn't finished: it is stuck, which is what stops the command, or memory was refused; the watchers were
-- told of what was made
abbrev pub WasUnfinished : Program → Content → Given → Stop → ReplayFault → Type 0
WasUnfinished p t x stop (Stuck counts) =
    IsStuckStop t counts stop
    × (all_reached (seen_trace t) (finished p t).events ≡ false)
    × ((q : ℕ) → slice_index counts q ≡ count (finished p t).events q)
    × Hear (finished p t).events x
WasUnfinished p t x stop Memory = (many : ℕ) × Hear (finished_within many p t) x
