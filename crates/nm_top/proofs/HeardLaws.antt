-- What the watchers of a command were told of.
use Rattle.std.proofs.Common.{◌≡◌, ◌≢◌, ℕ, List, [], ◌∷◌, Option, None, Some, Err, IfSome, inl, inr, refl, sym, ◌∙◌, subst}
use Rattle.std.specs.Prelude.{⊤, take}
use Rattle.std.proofs.lemmas.Option.{IfSome_then}
use Rattle.nm_outside.specs.Files.{Files}
use Rattle.c_tree.specs.declared.program.Program.{Program}
use Rattle.schedules.specs.declared.schedule.Turn.{Turn}
use Rattle.trace_file.specs.Content.{Content}
use Rattle.report.specs.Texts.{refusal_line}
use Rattle.nm_top.specs.declared.status.Status.{Status}
use Rattle.nm_top.specs.declared.status.Status.TheVariants as statuses
use Rattle.nm_top.specs.declared.stop.Stop.{Stop}
use Rattle.nm_top.specs.declared.stop.Stop.TheVariants.{Refused, Memory}
use Rattle.nm_top.specs.Commands.{Command, Run, Record, Replay, Finish, Certify, Debug, Upgrade, Soak}
use Rattle.nm_top.specs.Schedules.{IsSchedule}
use Rattle.nm_top.specs.Statuses.{status_of}
use Rattle.nm_top.specs.Demands.{Demand, AreReplayed, HoldsIn, schedule_file, refusal_of, FailsAs, missing, too_long, refused}
use Rattle.nm_top.specs.Finishing.{replayed, finished}
use Rattle.nm_top.specs.Replies.{Reply, reply}
use Rattle.nm_top.specs.Answers.{Demanding, pair_demands, demands_of}
use Rattle.nm_top.specs.Watches.{Given, Hear}
use Rattle.nm_top.specs.Heard.{Makes, Hears}
use Rattle.nm_top.specs.private.Works.{Stops, Nothing, Tells, work_of, work_status, stop_status}
use Rattle.nm_top.specs.private.Tellings.{IsStuckStop, HearsReplay, HearsFinish, finished_within}
use Rattle.report.specs.declared.cause.Refusal.TheVariants as refusals
use Rattle.event_list.specs.declared.Event.{Event}
use Rattle.c_process.specs.declared.process.CProc.{CProc}
use Rattle.replay_core.specs.Replaying.{Replaying}
use Rattle.replay_core.specs.declared.finish.ReplayFault.{ReplayFault}
use Rattle.replay_core.specs.declared.finish.ReplayFault.TheVariants as faults
use Rattle.nm_top.specs.private.Replaying.{HasFinishedRun, IfStuck, WasUnfinished}
use Rattle.nm_top.proofs.DueLaws.{fails, read_status}
use Rattle.nm_top.proofs.CarryLaws.{stop_status_is}

-- ---- where a command refused before its work

-- nothing was replayed
pub none_made : (command : Command) (held : Files) (status : Status) → status ≢ statuses.Done → status ≢ statuses.Stuck → Makes command held status []
none_made (Run program n schedule mask) held status d s = refl
none_made (Record program n schedule trace version mask) held status d s = refl
none_made (Certify program trace) held status d s = refl
none_made (Debug program trace) held status d s = refl
none_made (Upgrade trace new) held status d s = refl
none_made (Soak seed) held status d s = refl
none_made (Replay program trace schedule) held statuses.Done d s = absurd (d refl)
none_made (Replay program trace schedule) held statuses.WriteFault d s = inl refl
none_made (Replay program trace schedule) held statuses.WantOfMemory d s = inl refl
none_made (Replay program trace schedule) held statuses.Usage d s = refl
none_made (Replay program trace schedule) held statuses.Absent d s = refl
none_made (Replay program trace schedule) held statuses.ReadFault d s = refl
none_made (Replay program trace schedule) held statuses.TooLong d s = refl
none_made (Replay program trace schedule) held statuses.ProgramRefused d s = refl
none_made (Replay program trace schedule) held statuses.ScheduleRefused d s = refl
none_made (Replay program trace schedule) held statuses.TraceDamaged d s = refl
none_made (Replay program trace schedule) held statuses.OtherProgram d s = refl
none_made (Replay program trace schedule) held statuses.Stuck d s = refl
none_made (Replay program trace schedule) held statuses.NotItsTrace d s = refl
none_made (Replay program trace schedule) held statuses.InputFull d s = refl
none_made (Finish program trace) held statuses.Done d s = absurd (d refl)
none_made (Finish program trace) held statuses.Stuck d s = absurd (s refl)
none_made (Finish program trace) held statuses.WriteFault d s = inl refl
none_made (Finish program trace) held statuses.WantOfMemory d s = inl refl
none_made (Finish program trace) held statuses.Usage d s = refl
none_made (Finish program trace) held statuses.Absent d s = refl
none_made (Finish program trace) held statuses.ReadFault d s = refl
none_made (Finish program trace) held statuses.TooLong d s = refl
none_made (Finish program trace) held statuses.ProgramRefused d s = refl
none_made (Finish program trace) held statuses.ScheduleRefused d s = refl
none_made (Finish program trace) held statuses.TraceDamaged d s = refl
none_made (Finish program trace) held statuses.OtherProgram d s = refl
none_made (Finish program trace) held statuses.NotItsTrace d s = refl
none_made (Finish program trace) held statuses.InputFull d s = refl

-- these are demanded before anything is replayed
abbrev pub AreEarly : List Demand → Type 0
AreEarly [] = ⊤
AreEarly (demand ∷ demands) = ((refusal_of demand ≢ statuses.Done) × (refusal_of demand ≢ statuses.Stuck)) × AreEarly demands

pub early_pair : (program trace : List ℕ) → AreEarly (pair_demands program trace)
early_pair program trace = (
  (λ e. absurd cc, λ e. absurd cc),
  ((λ e. absurd cc, λ e. absurd cc), ((λ e. absurd cc, λ e. absurd cc), tt)),
)

pub early_replay : (program trace schedule : List ℕ) → AreEarly (demands_of (Replay program trace schedule))
early_replay program trace schedule = (
  (λ e. absurd cc, λ e. absurd cc),
  ((λ e. absurd cc, λ e. absurd cc), ((λ e. absurd cc, λ e. absurd cc), ((λ e. absurd cc, λ e. absurd cc), tt))),
)

module _ (held : Files) where
  is_early : (status : Status) (demand : Demand) → (refusal_of demand ≢ statuses.Done) × (refusal_of demand ≢ statuses.Stuck) → FailsAs status demand held
      → (status ≢ statuses.Done) × (status ≢ statuses.Stuck)
  is_early status demand early (missing k m) = (λ e. (let a = sym k ∙ e in absurd cc), λ e. (let a = sym k ∙ e in absurd cc))
  is_early status demand early (too_long k m) = (λ e. (let a = sym k ∙ e in absurd cc), λ e. (let a = sym k ∙ e in absurd cc))
  is_early status demand early (refused k m) = (λ e. early.0 (sym k ∙ e), λ e. early.1 (sym k ∙ e))

  reply_early : (demands : List Demand) → AreEarly demands → (r : Reply) → Demanding demands Nothing held r → (r.status ≢ statuses.Done) × (r.status ≢ statuses.Stuck)
  reply_early [] early r h = absurd h
  reply_early (demand ∷ demands) early r (inl h) =
      let k = read_status held r demand h in (λ e. (let a = sym k ∙ e in absurd cc), λ e. (let a = sym k ∙ e in absurd cc))
  reply_early (demand ∷ demands) early r (inr (inl h)) = is_early r.status demand early.0 (fails held demand r h)
  reply_early (demand ∷ demands) early r (inr (inr h)) = reply_early demands early.1 r h.1

  stop_early : (demands : List Demand) → AreEarly demands → (stop : Stop) → Stops (Demanding demands Nothing held) held stop
      → (stop_status stop ≢ statuses.Done) × (stop_status stop ≢ statuses.Stuck)
  stop_early demands early (Refused r) h = reply_early demands early (reply (status_of r) (refusal_line r) held) h
  stop_early demands early Memory h = (λ e. absurd cc, λ e. absurd cc)

  stop_hears : (x : Given) → x.told ≡ x.watch → (command : Command) (demands : List Demand) → AreEarly demands → (stop : Stop) → Stops (Demanding demands Nothing held) held stop
      → (before after : Option (List ℕ)) (was now : ℕ) (status : Status) → Tells (work_of stop) before after was now status → Hears command held status x
  stop_hears x same command demands early stop h before after was now status (inl k) =
      ([], none_made command held status (λ e. (let a = sym k.0 ∙ e in absurd cc)) (λ e. (let a = sym k.0 ∙ e in absurd cc)), same)
  stop_hears x same command demands early stop h before after was now status (inr k) =
      let s = stop_early demands early stop h in
      let is = sym (stop_status_is stop) ∙ sym k.0 in
      ([], none_made command held status (λ e. s.0 (is ∙ e)) (λ e. s.1 (is ∙ e)), same)

-- what stopped a command was told, and no watcher was told of anything
pub stopped_hears : (F : Option Files) (x : Given) → x.told ≡ x.watch → (command : Command) (demands : List Demand) → AreEarly demands → (stop : Stop)
    → IfSome F (λ held. Stops (Demanding demands Nothing held) held stop)
    → (before after : Option (List ℕ)) (was now : ℕ) (status : Status) → Tells (work_of stop) before after was now status → IfSome F (λ held. Hears command held status x)
stopped_hears F x same command demands early stop h before after was now status tells =
    IfSome_then F h (λ held k. stop_hears held x same command demands early stop k before after was now status tells)

-- a command that replays nothing
pub quiet_hears : (F : Option Files) (x : Given) (command : Command) (status : Status) → x.told ≡ x.watch → ((held : Files) → Makes command held status [])
    → IfSome F (λ held. Hears command held status x)
quiet_hears None x command status same none = tt
quiet_hears (Some held) x command status same none = ([], none held, same)

-- ---- replays

module _ (held : Files) (program trace schedule : List ℕ) (p : Program) (t : Content) (ts : List Turn) (x : Given) (has : AreReplayed held program trace p t)
    (has_schedule : HoldsIn held (λ text. IsSchedule t.n text ts) (schedule_file schedule)) where
  pub replay_hears : (status : Status) → HearsReplay p t ts x status → Hears (Replay program trace schedule) held status x
  replay_hears statuses.Done h = (replayed p t ts, record { of_program = p; content = t; has = has; turns = ts; has_schedule = has_schedule; is = refl }, h)
  replay_hears statuses.WriteFault h = (replayed p t ts, inr (record { of_program = p; content = t; has = has; turns = ts; has_schedule = has_schedule; is = refl }), h)
  replay_hears statuses.WantOfMemory h =
      (replayed p t (take h.0 ts), inr (record { of_program = p; content = t; has = has; turns = ts; has_schedule = has_schedule; many = h.0; is = refl }), h.1)
  replay_hears statuses.Usage h = absurd h
  replay_hears statuses.Absent h = absurd h
  replay_hears statuses.ReadFault h = absurd h
  replay_hears statuses.TooLong h = absurd h
  replay_hears statuses.ProgramRefused h = absurd h
  replay_hears statuses.ScheduleRefused h = absurd h
  replay_hears statuses.TraceDamaged h = absurd h
  replay_hears statuses.OtherProgram h = absurd h
  replay_hears statuses.Stuck h = absurd h
  replay_hears statuses.NotItsTrace h = absurd h
  replay_hears statuses.InputFull h = absurd h

module _ (held : Files) (program trace : List ℕ) (p : Program) (t : Content) (x : Given) (has : AreReplayed held program trace p t) where
  pub finish_hears : (status : Status) → HearsFinish p t x status → Hears (Finish program trace) held status x
  finish_hears statuses.Done h = ((finished p t).events, record { of_program = p; content = t; has = has; is = refl }, h)
  finish_hears statuses.Stuck h = ((finished p t).events, record { of_program = p; content = t; has = has; is = refl }, h)
  finish_hears statuses.WriteFault h = ((finished p t).events, inr (record { of_program = p; content = t; has = has; is = refl }), h)
  finish_hears statuses.WantOfMemory h = (finished_within h.0 p t, inr (record { of_program = p; content = t; has = has; many = h.0; is = refl }), h.1)
  finish_hears statuses.Usage h = absurd h
  finish_hears statuses.Absent h = absurd h
  finish_hears statuses.ReadFault h = absurd h
  finish_hears statuses.TooLong h = absurd h
  finish_hears statuses.ProgramRefused h = absurd h
  finish_hears statuses.ScheduleRefused h = absurd h
  finish_hears statuses.TraceDamaged h = absurd h
  finish_hears statuses.OtherProgram h = absurd h
  finish_hears statuses.NotItsTrace h = absurd h
  finish_hears statuses.InputFull h = absurd h

-- a stuck replay was told
pub stuck_hears : (p : Program) (t : Content) (x : Given) (events : List ℕ) (stop : Stop) → IsStuckStop t events stop → Hear (finished p t).events x
    → (before after : Option (List ℕ)) (was now : ℕ) (status : Status) → Tells (work_of stop) before after was now status → HearsFinish p t x status
stuck_hears p t x events stop is hear before after was now status (inl k) = subst (HearsFinish p t x) (sym k.0) hear
stuck_hears p t x events stop is hear before after was now status (inr k) = subst (HearsFinish p t x) (sym (k.0 ∙ by stop is)) hear
  where
    by : (stop : Stop) → IsStuckStop t events stop → work_status (work_of stop) ≡ statuses.Stuck
    by (Refused (refusals.Stuck n made counts)) is = refl
    by Memory is = absurd is
    by (Refused refusals.Usage) is = absurd is
    by (Refused (refusals.Absent name)) is = absurd is
    by (Refused (refusals.ReadFault name)) is = absurd is
    by (Refused (refusals.TooLong name)) is = absurd is
    by (Refused (refusals.ProgramRefused kind line)) is = absurd is
    by (Refused (refusals.ScheduleRefused kind place)) is = absurd is
    by (Refused (refusals.TraceDamaged kind place)) is = absurd is
    by (Refused (refusals.OtherProgram of_trace of_file)) is = absurd is
    by (Refused (refusals.Stopped turns)) is = absurd is
    by (Refused (refusals.NotItsTrace letter)) is = absurd is
    by (Refused refusals.InputFault) is = absurd is
    by (Refused refusals.InputFull) is = absurd is

-- the replay isn't finished
pub was_unfinished : {M : Type 0} (now : Replaying CProc M) (p : Program) (t : Content) (x : Given) (stop : Stop) (fault : ReplayFault) → HasFinishedRun now p t (Err fault)
    → IfStuck (Err fault) (λ events. IsStuckStop t events stop) → Hear now.events x → WasUnfinished p t x stop fault
was_unfinished now p t x stop (faults.Stuck counts) h s hear = (s, h.1, h.2, subst (λ (E : List Event). Hear E x) h.0.replays.events hear)
was_unfinished now p t x stop faults.Memory h s hear = (h.0, subst (λ (E : List Event). Hear E x) h.1.replays.events hear)
