-- Replays of a program, turn by turn and finished.
use Rattle.std.proofs.Common.{◌≡◌, ℕ, ◌+◌, ◌-◌, ◌≤◌, ◌<◌, List, [], ◌∷◌, length, take, Some, refl, sym, ap, ◌∙◌, subst, arith, length-append}
use Rattle.std.specs.Prelude.{map, slice_get, Result, Ok, Err, IfOk, IfErr, OnErr}
use Rattle.std.proofs.lemmas.List.{take_all}
use Rattle.std.proofs.lemmas.Option.{slice_get_within}
use Rattle.nm_base.specs.Scripts.{Script}
use Rattle.processes.specs.declared.states.Seat.{Seat}
use Rattle.processes.specs.Seats.{process_in}
use Rattle.c_tree.specs.declared.program.Program.{Program}
use Rattle.c_tree.specs.Play.{script_of}
use Rattle.c_tree.proofs.Histories.{scripts_are_lawful}
use Rattle.stack_code.specs.Code.{Code}
use Rattle.schedules.specs.declared.schedule.Turn.{Turn}
use Rattle.schedules.specs.Bounds.{AreFewTurns}
use Rattle.event_list.specs.declared.Event.{Event}
use Rattle.event_list.specs.Traces.{Trace}
use Rattle.event_list.specs.Turns as turns
use Rattle.event_list.specs.Turns.{Stays, Went, after}
use Rattle.trace_file.specs.Content.{Content}
use Rattle.world.specs.declared.world.Turned.{Turned}
use Rattle.world.specs.Worlds.{Parts, IsWorldOf}
use Rattle.world.specs.Outcomes.{Begins, outcome}
use Rattle.replay_core.specs.Gates.{seen_trace}
use Rattle.replay_core.specs.Replaying.{Replaying, IsReplayOf, IsSameRun, ReplaysAll, HasGone, HasFinished, HasFailed}
use Rattle.replay_core.specs.declared.finish.Finished.{Finished}
use Rattle.replay_core.specs.declared.finish.ReplayFault.{ReplayFault}
use Rattle.replay_core.specs.declared.finish.ReplayFault.TheVariants.{Stuck, Memory}
use Rattle.c_process.specs.Standing.{IsCodeOf}
use Rattle.c_process.specs.contracts.script.CProcProc.TheImpl as process
use Rattle.c_process.specs.declared.process.CProc.{CProc}
use Rattle.report.specs.Runs.{RunsProgram}
use Rattle.nm_top.specs.Schedules.{seen_turn}
use Rattle.nm_top.specs.Finishing.{replayed, finished}
use Rattle.c_process.specs.Begun.{AreBegun}
use Rattle.nm_top.specs.private.Replaying.{ReplaysProgram, AfterReplay, HasReplayed, HasFinishedRun}
use Rattle.nm_top.specs.private.Tellings.{finished_within}
use Rattle.nm_top.proofs.StartLaws.{begins, runs_program, get_mapped}
use Rattle.nm_top.proofs.TurnLaws.{replay_more}

module _ {M : Type 0} where
  -- the same processes after more events run the same program
  same_program : (w v : Parts CProc M) (p : Program) (n : ℕ) (E F : List Event) → RunsProgram w p E → length v.processes ≡ n → length v.processes ≡ length w.processes
      → map process.origin_of-value.it v.processes ≡ map process.origin_of-value.it w.processes → IsWorldOf process.stands_for-value.it v (script_of p n) F → RunsProgram v p F
  same_program w v p n E F h many size origins stands = record {
    stands = subst (λ k. IsWorldOf process.stands_for-value.it v (script_of p k) F) (sym many) stands;
    code = h.code;
    compiled = h.compiled;
    runs = λ q x at.
        let y = get_mapped process.origin_of-value.it v.processes w.processes q x origins at in
        y.2 ∙ h.runs q y.0 y.1 ∙ ap (λ (k : ℕ). (h.code, k)) (sym size);
  }

  -- a replay before its first event
  pub replay_begins : (code : Code) (seats : List (Seat CProc)) (r : Replaying CProc M) (p : Program) (t : Content) → AreBegun code t.n t.n seats → IsCodeOf p code
      → r.world.processes ≡ map process_in seats
      → ((s : ℕ → Script) → Begins process.stands_for-value.it (map process_in seats) s → IsReplayOf process.stands_for-value.it r s (seen_trace t) [])
      → ReplaysProgram r p t []
  replay_begins code seats r p t begun is_code first stands =
      let h = stands (script_of p t.n) (begins code t.n p seats (scripts_are_lawful p t.n) is_code begun) in
      record { replays = h; runs = runs_program code t.n r.world r.world p [] seats begun first refl refl is_code h.world }

  -- a replay went on
  pub replay_goes_on : (r v : Replaying CProc M) (p : Program) (t : Content) (R S : List Event) → ReplaysProgram r p t R → IsSameRun process.origin_of-value.it r v
      → IsReplayOf process.stands_for-value.it v (script_of p t.n) (seen_trace t) S → ReplaysProgram v p t S
  replay_goes_on r v p t R S h same went = record {
    replays = went;
    runs = same_program r.world v.world p t.n R S h.runs went.size same.size same.origins went.world;
  }

  same_again : (r : Replaying CProc M) → IsSameRun process.origin_of-value.it r r
  same_again r = record { size = refl; origins = refl; mask = refl }

  -- the loop over the turns
  pub replay_first : (r : Replaying CProc M) (ts : List Turn) → AfterReplay r r ts 0 0
  replay_first r ts = record { run = λ p t h. (h, refl); same = same_again r; few = omega arith; within = omega arith }

  pub replay_next : (start now new : Replaying CProc M) (ts : List Turn) (i idle more : ℕ) (u : Turn) (what : Turned) → AfterReplay start now ts i idle → slice_get ts i ≡ Some u
      → ((s : ℕ → Script) (T : Trace) (R : List Event) → IsReplayOf process.stands_for-value.it now s T R → HasGone process.stands_for-value.it new s T R (seen_turn u) what)
      → IsSameRun process.origin_of-value.it now new → more ≤ 1 → ((E : List Event) → more + length (after E (outcome what)) ≡ length E + 1)
      → AfterReplay start new ts (i + 1) (idle + more)
  replay_next start now new ts i idle more u what a at gone same few counts = record {
    run = λ p t h.
        let k = a.run p t h in
        let R = replayed p t (take i ts) in
        let g = gone (script_of p t.n) (seen_trace t) R k.0.replays in
        let next : replayed p t (take (i + 1) ts) ≡ after R (outcome what) =
        replay_more (script_of p t.n) (seen_trace t) ts i u at ∙ ap (after R) g.is in (
          subst (ReplaysProgram new p t) (sym next) (replay_goes_on now new p t R (after R (outcome what)) k.0 same g.stands),
          omega (arith, k.1, counts R, ap length next),
        );
    same = record { size = same.size ∙ a.same.size; origins = same.origins ∙ a.same.origins; mask = same.mask ∙ a.same.mask };
    few = omega (arith, a.few, few);
    within = omega (arith, slice_get_within ts i u at);
  }

  -- memory was refused at a turn
  pub replay_refused : (start now new : Replaying CProc M) (ts : List Turn) (i idle : ℕ) → AfterReplay start now ts i idle → ReplaysAll process.stands_for-value.it now new
      → IsSameRun process.origin_of-value.it now new → (p : Program) (t : Content) → ReplaysProgram start p t [] → (many : ℕ) × ReplaysProgram new p t (replayed p t (take many ts))
  replay_refused start now new ts i idle a refused same p t h =
      let R = replayed p t (take i ts) in
      let k = a.run p t h in
      (i, replay_goes_on now new p t R R k.0 same (refused (script_of p t.n) (seen_trace t) R k.0.replays))

  -- the turns were made, or the first of them
  pub has_replayed : {E : Type 0} (start now : Replaying CProc M) (ts : List Turn) (r : Result ℕ E)
      → IfOk r (λ idle. (p : Program) (t : Content) → ReplaysProgram start p t [] → ReplaysProgram now p t (replayed p t ts) × (idle ≡ length ts - length (replayed p t ts)))
      → OnErr r ((p : Program) (t : Content) → ReplaysProgram start p t [] → (many : ℕ) × ReplaysProgram now p t (replayed p t (take many ts)))
      → (p : Program) (t : Content) → ReplaysProgram start p t [] → HasReplayed now p t ts r
  has_replayed start now ts (Ok idle) made began p t h = made p t h
  has_replayed start now ts (Err e) made began p t h = began p t h

  -- it was finished, or some of that
  pub has_finished : (start now : Replaying CProc M) (r : Result Finished ReplayFault) → IsSameRun process.origin_of-value.it start now
      → IfOk r (λ f. (s : ℕ → Script) (T : Trace) (R : List Event) → IsReplayOf process.stands_for-value.it start s T R → HasFinished process.stands_for-value.it now s T R f)
      → IfErr r (λ fault. (s : ℕ → Script) (T : Trace) (R : List Event) → IsReplayOf process.stands_for-value.it start s T R → HasFailed process.stands_for-value.it now s T R fault)
      → (p : Program) (t : Content) → ReplaysProgram start p t [] → HasFinishedRun now p t r
  has_finished start now (Ok round) same ok err p t h =
      let f = ok (script_of p t.n) (seen_trace t) [] h.replays in
      (replay_goes_on start now p t [] (finished p t).events h same f.stands, f.reached, f.turns, f.idle)
  has_finished start now (Err (Stuck counts)) same ok err p t h =
      let f = err (script_of p t.n) (seen_trace t) [] h.replays in
      (replay_goes_on start now p t [] (finished p t).events h same f.stands, f.below, f.told)
  has_finished start now (Err Memory) same ok err p t h =
      let f = err (script_of p t.n) (seen_trace t) [] h.replays in
      (f.0, replay_goes_on start now p t [] (finished_within f.0 p t) h same f.1)

  -- all turns were made
  pub replay_all : (start now : Replaying CProc M) (ts : List Turn) (i idle : ℕ) → AfterReplay start now ts i idle → i ≡ length ts → (p : Program) (t : Content) → ReplaysProgram start p t []
      → ReplaysProgram now p t (replayed p t ts) × (idle ≡ length ts - length (replayed p t ts))
  replay_all start now ts i idle a all p t h =
      let k = a.run p t h in
      let whole : take i ts ≡ ts = ap (λ j. take j ts) all ∙ take_all (length ts) ts (omega arith) in
      (subst (λ us. ReplaysProgram now p t (replayed p t us)) whole k.0, omega (arith, k.1, all, ap (λ us. length (replayed p t us)) whole))

-- a turn of a schedule names one of its processes
pub of_turn : (n : ℕ) (ts : List Turn) → AreFewTurns n ts → (i : ℕ) (t : Turn) → slice_get ts i ≡ Some t → t.proc.no < n
of_turn n ts few i t at = few.below i t at

-- what a turn adds to the number of idle turns
pub counted : (E : List Event) (t : turns.Turned) (more : ℕ) → ((why : turns.Idle) → t ≡ Stays why → more ≡ 1) → ((e : Event) → t ≡ Went e → more ≡ 0) → more + length (after E t) ≡ length E + 1
counted E (Stays why) more f g = omega (arith, f why refl)
counted E (Went e) more f g = omega (arith, g e refl, length-append E (e ∷ []))
