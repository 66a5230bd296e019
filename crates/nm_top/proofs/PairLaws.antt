-- A program and a trace of it, as commands demand them.
use Rattle.std.proofs.Common.{◌≡◌, ℕ, List, [], ◌∷◌, ◌++◌, Option, None, Some, IfSome, refl, ◌∙◌, subst, inl, inr}
use Rattle.sha2.specs.Sha256.{sha256}
use Rattle.nm_outside.specs.Files.{Files}
use Rattle.c_tree.specs.declared.program.Program.{Program}
use Rattle.schedules.specs.declared.schedule.Turn.{Turn}
use Rattle.trace_file.specs.Content.{Content}
use Rattle.trace_file.specs.Outcomes.{IsSpelling}
use Rattle.nm_top.specs.declared.status.Status.TheVariants.{Done}
use Rattle.nm_top.specs.declared.stop.Stop.{Stop}
use Rattle.nm_top.specs.declared.stop.Stop.TheVariants.{Refused, Memory}
use Rattle.nm_top.specs.Commands.{Replay}
use Rattle.nm_top.specs.Programs.{Reads}
use Rattle.nm_top.specs.Schedules.{IsSchedule}
use Rattle.nm_top.specs.Replies.{Reply, reply}
use Rattle.nm_top.specs.Demands.{Demand, ProgramText, ScheduleText, TraceText, SameProgram, TraceSchedule, HoldsIn, HasTrace, HasDigest, AreReplayed, program_file, schedule_file, trace_file, AreMet, Admits}
use Rattle.nm_top.specs.Finishing.{replayed, replay_text}
use Rattle.nm_top.specs.Watches.{Call, Hear, watch_lines}
use Rattle.nm_top.specs.Answers.{CommandAnswer, Demanding, Refuses, missing, too_long, refused, IsReason, IsDone, pair_demands}
use Rattle.nm_top.specs.private.Works.{Stops, Nothing, IsUnmet}
use Rattle.nm_top.proofs.FileLaws.{held_more, later_stops, unmet_at_once, same_trace}

-- ---- what a program and its trace meet

module _ (held : Files) (program trace : List ℕ) (p : Program) (t : Content) (h : AreReplayed held program trace p t) where
  pub has_digest : HasDigest held program trace t t.digest
  has_digest = record {
    has_trace = h.has_trace;
    of_file = held_more held (program_file program) (λ text. Reads text p × (t.digest ≡ sha256 text)) (λ text. t.digest ≡ sha256 text) (λ text r. r.1) h.has_program;
  }

  -- what replies to what is demanded behind them
  pub behind_pair : (demands : List Demand) (done : Reply → Type 0) (r : Reply) → Demanding demands done held r → Demanding (pair_demands program trace ++ demands) done held r
  behind_pair demands done r k = inr (inr (
    held_more held (program_file program) (λ text. Reads text p × (t.digest ≡ sha256 text)) (Admits (ProgramText program) held) (λ text r. (p, r.0)) h.has_program,
    inr (inr (
      held_more held (trace_file trace) (λ bytes. IsSpelling t bytes) (Admits (TraceText trace) held) (λ bytes r. (t, r)) h.has_trace,
      inr (inr ((t, has_digest), k)),
    )),
  ))

  -- what is demanded behind them is met
  pub pair_met : (demands : List Demand) → AreMet demands held → AreMet (pair_demands program trace ++ demands) held
  pair_met demands k = (
    held_more held (program_file program) (λ text. Reads text p × (t.digest ≡ sha256 text)) (Admits (ProgramText program) held) (λ text r. (p, r.0)) h.has_program,
    (held_more held (trace_file trace) (λ bytes. IsSpelling t bytes) (Admits (TraceText trace) held) (λ bytes r. (t, r)) h.has_trace, ((t, has_digest), k)),
  )

  -- what stopped a command behind them
  pub pair_stops_later : (demands : List Demand) (stop : Stop) → Stops (Demanding demands Nothing held) held stop → Stops (Demanding (pair_demands program trace ++ demands) Nothing held) held stop
  pair_stops_later demands (Refused r) k = behind_pair demands Nothing _ k
  pair_stops_later demands Memory k = tt

  -- a replay by a schedule was made
  pub replay_done : (x : Call) (schedule : List ℕ) (turns : List Turn) → HoldsIn held (λ text. IsSchedule t.n text turns) (schedule_file schedule) → Hear (replayed p t turns) x.watchers
      → CommandAnswer x (Replay program trace schedule) held (reply Done (replay_text p t turns ++ watch_lines 0 x.watchers.told) held)
  replay_done x schedule turns k heard = inl (behind_pair (TraceSchedule trace schedule ∷ []) (IsDone x (Replay program trace schedule) held) _ (inr (inr (
    held_more held (schedule_file schedule) (λ text. IsSchedule t.n text turns) (Admits (TraceSchedule trace schedule) held) (λ text r. (t, turns, h.has_trace, r)) k,
    (
      replay_text p t turns ++ watch_lines 0 x.watchers.told,
      held,
      (record { of_program = p; content = t; has = h; turns = turns; has_schedule = k; hear = heard; is = refl }, refl),
      refl,
    ),
  ))))

-- the pair that was read
module _ (F : Option Files) (program trace : List ℕ) (p : Program) (t : Content) where
  pub pair_read : (digest : List ℕ) → IfSome F (λ held. HoldsIn held (λ text. Reads text p × (digest ≡ sha256 text)) (program_file program)) → (G : Option Files) → G ≡ F
      → IfSome G (λ held. HasTrace held trace t) → t.digest ≡ digest → IfSome F (λ held. AreReplayed held program trace p t)
  pair_read digest a G same b e = by F a (subst (λ (o : Option Files). IfSome o (λ held. HasTrace held trace t)) same b)
    where
      by : (o : Option Files) → IfSome o (λ held. HoldsIn held (λ text. Reads text p × (digest ≡ sha256 text)) (program_file program)) → IfSome o (λ held. HasTrace held trace t)
          → IfSome o (λ held. AreReplayed held program trace p t)
      by None a b = tt
      by (Some held) a b = record {
        has_program = held_more held (program_file program) (λ text. Reads text p × (digest ≡ sha256 text)) (λ text. Reads text p × (t.digest ≡ sha256 text)) (λ text r. (r.0, e ∙ r.1)) a;
        has_trace = b;
      }

-- ---- a schedule for as many processes as the trace has

module _ (held : Files) (trace schedule : List ℕ) (t : Content) (has : HasTrace held trace t) where
  abbrev Old : List ℕ → List ℕ → Type 0
  Old line bytes = (Admits (ScheduleText schedule t.n) held bytes → ⊥) × IsReason (ScheduleText schedule t.n) held bytes line

  abbrev New : List ℕ → List ℕ → Type 0
  New line bytes = (Admits (TraceSchedule trace schedule) held bytes → ⊥) × IsReason (TraceSchedule trace schedule) held bytes line

  bad_for : (line bytes : List ℕ) → Old line bytes → New line bytes
  bad_for line bytes k = (
    λ a. k.0 (a.1, subst (λ (u : Content). IsSchedule u.n bytes a.1) (same_trace held trace a.0 t a.2 has) a.3),
    record { content = t; has_trace = has; bad = k.1.0; is_first = k.1.1; is = k.1.2 },
  )

  refuses_for : (r : Reply) → Refuses (ScheduleText schedule t.n) held r → Refuses (TraceSchedule trace schedule) held r
  refuses_for r (missing m) = missing m
  refuses_for r (too_long m) = too_long m
  refuses_for r (refused line h says) = refused line (held_more held (schedule_file schedule) (Old line) (New line) (bad_for line) h) says

  pub schedule_stops_for : (stop : Stop) → Stops (Demanding (ScheduleText schedule t.n ∷ []) Nothing held) held stop → Stops (Demanding (TraceSchedule trace schedule ∷ []) Nothing held) held stop
  schedule_stops_for Memory h = tt
  schedule_stops_for (Refused r) (inl h) = inl h
  schedule_stops_for (Refused r) (inr (inl h)) = inr (inl (refuses_for _ h))
  schedule_stops_for (Refused r) (inr (inr h)) = absurd h.1

-- ---- what was read

module _ (F G : Option Files) (program trace : List ℕ) (p : Program) (t : Content) (digest : List ℕ)
    (a : IfSome F (λ held. HoldsIn held (λ text. Reads text p × (digest ≡ sha256 text)) (program_file program))) (same : G ≡ F) (b : IfSome G (λ held. HasTrace held trace t)) where
  -- its digest is another one
  pub other_stops : (stop : Stop) → ((held : Files) (q name : List ℕ) → HasDigest held q name t digest → IsUnmet (SameProgram q name) held [] stop)
      → IfSome F (λ held. Stops (Demanding (pair_demands program trace) Nothing held) held stop)
  other_stops stop unmet = by F a (subst (λ (o : Option Files). IfSome o (λ held. HasTrace held trace t)) same b)
    where
      by : (o : Option Files) → IfSome o (λ held. HoldsIn held (λ text. Reads text p × (digest ≡ sha256 text)) (program_file program)) → IfSome o (λ held. HasTrace held trace t)
          → IfSome o (λ held. Stops (Demanding (pair_demands program trace) Nothing held) held stop)
      by None a b = tt
      by (Some held) a b =
          let has : HasDigest held program trace t digest = record { has_trace = b; of_file = held_more held (program_file program) (λ text. Reads text p × (digest ≡ sha256 text)) (λ text. digest ≡ sha256 text) (λ text r. r.1) a } in
          later_stops (ProgramText program) held
          (held_more held (program_file program) (λ text. Reads text p × (digest ≡ sha256 text)) (Admits (ProgramText program) held) (λ text r. (p, r.0)) a)
          (TraceText trace ∷ SameProgram program trace ∷ []) stop
          (later_stops (TraceText trace) held (held_more held (trace_file trace) (λ bytes. IsSpelling t bytes) (Admits (TraceText trace) held) (λ bytes r. (t, r)) b)
          (SameProgram program trace ∷ []) stop (unmet_at_once (SameProgram program trace) held refl stop (unmet held program trace has)))

module _ (F : Option Files) (program trace schedule : List ℕ) (p : Program) (t : Content) (h : IfSome F (λ held. AreReplayed held program trace p t)) where
  -- its schedule stopped it
  pub bad_schedule_stops : (G : Option Files) → G ≡ F → (stop : Stop) → IfSome G (λ held. Stops (Demanding (ScheduleText schedule t.n ∷ []) Nothing held) held stop)
      → IfSome F (λ held. Stops (Demanding (pair_demands program trace ++ TraceSchedule trace schedule ∷ []) Nothing held) held stop)
  bad_schedule_stops G same stop g =
      by F h (subst (λ (o : Option Files). IfSome o (λ held. Stops (Demanding (ScheduleText schedule t.n ∷ []) Nothing held) held stop)) same g)
    where
      by : (o : Option Files) → IfSome o (λ held. AreReplayed held program trace p t) → IfSome o (λ held. Stops (Demanding (ScheduleText schedule t.n ∷ []) Nothing held) held stop)
          → IfSome o (λ held. Stops (Demanding (pair_demands program trace ++ TraceSchedule trace schedule ∷ []) Nothing held) held stop)
      by None a b = tt
      by (Some held) a b =
          pair_stops_later held program trace p t a (TraceSchedule trace schedule ∷ []) stop (schedule_stops_for held trace schedule t a.has_trace stop b)
