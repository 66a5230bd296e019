-- Work that is told to a sink.
use Rattle.std.proofs.Common.{◌≡◌, ℕ, ◌-◌, List, [], ◌++◌, length, true, false, Option, Ok, Err, Result, refl, ap, ◌∙◌, subst, inl, inr}
use Rattle.std.specs.Prelude.{⊤, slice_index}
use Rattle.c_tree.specs.declared.program.Program.{Program}
use Rattle.schedules.specs.declared.schedule.Turn.{Turn}
use Rattle.event_list.specs.declared.Event.{Event}
use Rattle.event_list.specs.Events.{count}
use Rattle.event_list.specs.Turns.{all_reached}
use Rattle.trace_file.specs.Content.{Content}
use Rattle.world.specs.Worlds.{Parts}
use Rattle.replay_core.specs.Gates.{seen_trace}
use Rattle.replay_core.specs.Replaying.{Replaying}
use Rattle.c_process.specs.declared.process.CProc.{CProc}
use Rattle.report.specs.declared.cause.Refusal.TheVariants as refusals
use Rattle.report.specs.Runs.{RunsProgram, blocks}
use Rattle.report.specs.Texts.{turns_line}
use Rattle.nm_outside.specs.declared.cabinet.Failed.{Failed}
use Rattle.report.specs.Printing.{Prints}
use Rattle.nm_top.specs.declared.status.Status.{Status}
use Rattle.nm_top.specs.declared.status.Status.TheVariants as statuses
use Rattle.nm_top.specs.declared.stop.Stop.{Stop}
use Rattle.nm_top.specs.declared.stop.Stop.TheVariants.{Refused, Memory}
use Rattle.nm_top.specs.Finishing.{replayed, replay_text, finished, finish_text}
use Rattle.nm_top.specs.Watches.{Given, Hear, watch_lines}
use Rattle.nm_top.specs.private.Works.{Work, Whole, Refusing, Short, Tells, work_of, work_status, work_text}
use Rattle.nm_top.specs.private.Replaying.{ReplaysProgram}
use Rattle.nm_top.specs.private.Tellings.{Told, IsReplayWork, IsStuckWork, IsStuckStop, IsFinishWork}
use Rattle.nm_top.proofs.CarryLaws.{appends_none}

module _ (work : Work) (before after : Option (List ℕ)) (was now : ℕ) (status : Status) where
  -- its text was printed
  pub tells_ok : (r : Result ⊤ Failed) (x : ⊤) → r ≡ Ok x → Prints before after was now (work_text work) r → status ≡ work_status work → Tells work before after was now status
  tells_ok (Ok y) x is h e = inr (e, h.cause.still, h.ok)
  tells_ok (Err f) x is h e = absurd cc

  -- the sink failed
  pub tells_err : (r : Result ⊤ Failed) (f : Failed) → r ≡ Err f → Prints before after was now (work_text work) r → status ≡ statuses.WriteFault → Tells work before after was now status
  tells_err (Err k) f is h e = inl (e, h.cause.rose, h.err)
  tells_err (Ok y) f is h e = absurd cc

-- the blocks of the same world, and what is printed behind them
pub at_world : {M : Type 0} (w v : Parts CProc M) → w ≡ v → (p : Program) (E : List Event) (line lines : List ℕ) (before after : Option (List ℕ)) (was now : ℕ) (r : Result ⊤ Failed)
    → (RunsProgram w p E → Prints before after was now (blocks p (length w.processes) E ++ line ++ lines) r) → RunsProgram v p E
    → Prints before after was now (blocks p (length v.processes) E ++ line ++ lines) r
at_world {M = M} w v e p E line lines before after was now r f =
    subst (λ (w : Parts CProc M). RunsProgram w p E → Prints before after was now (blocks p (length w.processes) E ++ line ++ lines) r) e f

-- the text of a replay
pub replay_same : {M : Type 0} (r : Replaying CProc M) (p : Program) (t : Content) (ts : List Turn) (turns idle : ℕ) → ReplaysProgram r p t (replayed p t ts) → turns ≡ length ts
    → idle ≡ length ts - length (replayed p t ts) → blocks p (length r.world.processes) (replayed p t ts) ++ turns_line turns idle ≡ replay_text p t ts
replay_same r p t ts turns idle h a b =
    ap (λ (k : ℕ). blocks p k (replayed p t ts) ++ turns_line turns idle) h.replays.size ∙ ap (λ (k : ℕ). blocks p t.n (replayed p t ts) ++ turns_line k idle) a
    ∙ ap (λ (k : ℕ). blocks p t.n (replayed p t ts) ++ turns_line (length ts) k) b

-- a replay by turns
module _ (p : Program) (t : Content) (ts : List Turn) (x : Given) where
  pub replay_nothing : (given : Option (List ℕ)) (faults : ℕ) → Told (IsReplayWork p t ts x) given given faults faults statuses.WantOfMemory
  replay_nothing given faults = record { work = Short []; is = refl; tells = inr (refl, refl, appends_none given) }

  module _ (before after : Option (List ℕ)) (was now : ℕ) (res : Result ⊤ Failed) (text : List ℕ) (hear : Hear (replayed p t ts) x) (same : text ≡ replay_text p t ts)
      (prints : Prints before after was now (text ++ watch_lines 0 x.told) res) where
    abbrev whole : List ℕ
    whole = text ++ watch_lines 0 x.told

    is_whole : whole ≡ replay_text p t ts ++ watch_lines 0 x.told
    is_whole = ap (λ (u : List ℕ). u ++ watch_lines 0 x.told) same

    pub replay_ok : (u : ⊤) → res ≡ Ok u → Told (IsReplayWork p t ts x) before after was now statuses.Done
    replay_ok u is = record { work = Whole whole; is = (hear, is_whole); tells = tells_ok (Whole whole) before after was now statuses.Done res u is prints refl }

    pub replay_err : (f : Failed) → res ≡ Err f → Told (IsReplayWork p t ts x) before after was now statuses.WriteFault
    replay_err f is = record { work = Whole whole; is = (hear, is_whole); tells = tells_err (Whole whole) before after was now statuses.WriteFault res f is prints refl }

-- a finished replay
module _ (p : Program) (t : Content) (x : Given) where
  pub finish_nothing : (given : Option (List ℕ)) (faults : ℕ) → Told (IsFinishWork p t x) given given faults faults statuses.WantOfMemory
  finish_nothing given faults = record { work = Short []; is = refl; tells = inr (refl, refl, appends_none given) }

  -- the text that was printed is that of the finished replay
  finish_same : {M : Type 0} (r : Replaying CProc M) (turns idle : ℕ) → ReplaysProgram r p t (finished p t).events → turns ≡ (finished p t).turns → idle ≡ (finished p t).idle
      → blocks p (length r.world.processes) (finished p t).events ++ turns_line turns idle ++ watch_lines 0 x.told ≡ finish_text p t ++ watch_lines 0 x.told
  finish_same r turns idle h a b =
      ap (λ (k : ℕ). blocks p k (finished p t).events ++ turns_line turns idle ++ watch_lines 0 x.told) h.replays.size
      ∙ ap (λ (k : ℕ). blocks p t.n (finished p t).events ++ turns_line k idle ++ watch_lines 0 x.told) a
      ∙ ap (λ (k : ℕ). blocks p t.n (finished p t).events ++ turns_line (finished p t).turns k ++ watch_lines 0 x.told) b

  module _ (before after : Option (List ℕ)) (was now : ℕ) where
    pub finish_ok : {M : Type 0} (res : Result ⊤ Failed) (u : ⊤) → res ≡ Ok u → (r : Replaying CProc M) (turns idle : ℕ) → ReplaysProgram r p t (finished p t).events
        → all_reached (seen_trace t) (finished p t).events ≡ true → turns ≡ (finished p t).turns → idle ≡ (finished p t).idle → Hear (finished p t).events x
        → Prints before after was now (blocks p (length r.world.processes) (finished p t).events ++ turns_line turns idle ++ watch_lines 0 x.told) res
        → Told (IsFinishWork p t x) before after was now statuses.Done
    finish_ok res u is r turns idle h reached a b hear prints =
        let text = blocks p (length r.world.processes) (finished p t).events ++ turns_line turns idle ++ watch_lines 0 x.told in
        record { work = Whole text; is = (reached, hear, finish_same r turns idle h a b); tells = tells_ok (Whole text) before after was now statuses.Done res u is prints refl }

    pub finish_err : {M : Type 0} (res : Result ⊤ Failed) (f : Failed) → res ≡ Err f → (r : Replaying CProc M) (turns idle : ℕ) → ReplaysProgram r p t (finished p t).events
        → all_reached (seen_trace t) (finished p t).events ≡ true → turns ≡ (finished p t).turns → idle ≡ (finished p t).idle → Hear (finished p t).events x
        → Prints before after was now (blocks p (length r.world.processes) (finished p t).events ++ turns_line turns idle ++ watch_lines 0 x.told) res
        → Told (IsFinishWork p t x) before after was now statuses.WriteFault
    finish_err res f is r turns idle h reached a b hear prints =
        let text = blocks p (length r.world.processes) (finished p t).events ++ turns_line turns idle ++ watch_lines 0 x.told in
        record { work = Whole text; is = (reached, hear, finish_same r turns idle h a b); tells = tells_err (Whole text) before after was now statuses.WriteFault res f is prints refl }

    -- the replay is stuck, and that was told
    pub stuck_told : (stop : Stop) (events : List ℕ) (status : Status) → IsStuckStop t events stop → all_reached (seen_trace t) (finished p t).events ≡ false
        → ((q : ℕ) → slice_index events q ≡ count (finished p t).events q) → Tells (work_of stop) before after was now status
        → (n : ℕ) × (made : List ℕ) × (counts : List ℕ) × IsStuckWork p t n made counts × Tells (Refusing (refusals.Stuck n made counts)) before after was now status
    stuck_told (Refused (refusals.Stuck n made counts)) events status is below events_are tells = (
      n,
      made,
      counts,
      record {
        below = below;
        n_is = is.0;
        events_are = λ q. ap (λ (xs : List ℕ). slice_index xs q) is.1 ∙ events_are q;
        counts_are = is.2;
      },
      tells,
    )
    stuck_told Memory events status is below events_are tells = absurd is
    stuck_told (Refused refusals.Usage) events status is below events_are tells = absurd is
    stuck_told (Refused (refusals.Absent name)) events status is below events_are tells = absurd is
    stuck_told (Refused (refusals.ReadFault name)) events status is below events_are tells = absurd is
    stuck_told (Refused (refusals.TooLong name)) events status is below events_are tells = absurd is
    stuck_told (Refused (refusals.ProgramRefused kind line)) events status is below events_are tells = absurd is
    stuck_told (Refused (refusals.ScheduleRefused kind place)) events status is below events_are tells = absurd is
    stuck_told (Refused (refusals.TraceDamaged kind place)) events status is below events_are tells = absurd is
    stuck_told (Refused (refusals.OtherProgram of_trace of_file)) events status is below events_are tells = absurd is
    stuck_told (Refused (refusals.Stopped turns)) events status is below events_are tells = absurd is
    stuck_told (Refused (refusals.NotItsTrace letter)) events status is below events_are tells = absurd is
    stuck_told (Refused refusals.InputFault) events status is below events_are tells = absurd is
    stuck_told (Refused refusals.InputFull) events status is below events_are tells = absurd is

    pub finish_stuck : (stop : Stop) (events : List ℕ) (status : Status) → IsStuckStop t events stop → all_reached (seen_trace t) (finished p t).events ≡ false
        → ((q : ℕ) → slice_index events q ≡ count (finished p t).events q) → Tells (work_of stop) before after was now status → Told (IsFinishWork p t x) before after was now status
    finish_stuck stop events status is below events_are tells =
        let k = stuck_told stop events status is below events_are tells in record { work = Refusing (refusals.Stuck k.0 k.1 k.2); is = k.3; tells = k.4 }
