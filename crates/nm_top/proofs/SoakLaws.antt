-- The command `soak`.
use Rattle.std.proofs.Common.{◌≡◌, ℕ, zero, suc, ◌+◌, ◌-◌, ◌*◌, ◌≤◌, List, [], ◌∷◌, ◌++◌, length, map, take, drop, true, false, Option, None, Some, Ok, Err, Result, refl, sym, ap, ◌∙◌, subst, inl, inr, arith, append_assoc, append-nil, length-append}
use Rattle.std.specs.Prelude.{⊤, IfErr, is_err}
use Rattle.std.specs.FinMap.{empty, get, insert}
use Rattle.std.specs.Io.KnownBytes.{Appends}
use Rattle.std.proofs.KnownBytes.{Appends-trans}
use Rattle.std.proofs.lemmas.List.{take-append-drop, take_all}
use Rattle.sha2.specs.Sha256.{sha256}
use Rattle.nm_base.specs.declared.limits.TheConstants.{MAX_PROGRAM_BYTES, MAX_TRACE_BYTES}
use Rattle.nm_base.specs.Scripts.{Script}
use Rattle.nm_outside.specs.Causes.{Rose}
use Rattle.nm_outside.specs.Files.{Files, AppendsPart}
use Rattle.nm_outside.specs.declared.cabinet.Failed.{Failed}
use Rattle.nm_outside.proofs.Kept.{get_inserted}
use Rattle.nm_outside.proofs.Parts.{part_given}
use Rattle.c_tree.specs.declared.program.Program.{Program}
use Rattle.c_tree.specs.Play.{script_of}
use Rattle.c_tree.proofs.Histories.{scripts_are_lawful}
use Rattle.c_process.specs.declared.process.CProc.{CProc}
use Rattle.c_process.specs.contracts.script.CProcProc.TheImpl as process
use Rattle.schedules.specs.declared.schedule.Turn.{Turn}
use Rattle.world.specs.Worlds.{Parts}
use Rattle.schedules.specs.Bounds.{AreFewTurns}
use Rattle.schedules.specs.Generated.{next_number, generated_turns}
use Rattle.event_list.specs.declared.Event.{Event}
use Rattle.event_list.specs.Laws.{AreLawful}
use Rattle.event_list.specs.Runs.{Sound, IsRun}
use Rattle.event_list.specs.Traces.{IsReplay}
use Rattle.event_list.specs.Turns.{run_of}
use Rattle.event_list.specs.Events.{count}
use Rattle.event_list.proofs.OrderlyFacts.{trace_size}
use Rattle.event_list.proofs.RunsSound.{runs_sound}
use Rattle.event_list.proofs.TurnFacts.{run_of_runs, replay_of_replays}
use Rattle.event_list.proofs.FinishFacts.{finish_replays, finish_reaches}
use Rattle.trace_file.specs.Content.{Content}
use Rattle.trace_file.specs.Bytes.{spelling, front, header, counts_part, end_part}
use Rattle.trace_file.specs.Rules.{IsTrace, IsHeader}
use Rattle.cut_witness.specs.Comparisons.{HasEntries}
use Rattle.cut_witness.proofs.LawFacts.{same_entries_of}
use Rattle.recorder.specs.Recording.{Form, IsContentOf}
use Rattle.recorder.specs.Recording as recording
use Rattle.recorder.specs.Outcomes.{run_of_first, turns_made}
use Rattle.recorder.specs.declared.recording.Recorded.{Recorded}
use Rattle.recorder.proofs.EndLaws.{end_length}
use Rattle.recorder.proofs.RuleLaws.{content_rules}
use Rattle.recorder.proofs.StartLaws.{header_few}
use Rattle.recorder.proofs.TurnLaws.{first_length}
use Rattle.replay_core.specs.Gates.{seen_trace}
use Rattle.replay_core.specs.Replaying.{Replaying, IsSameRun, HasFinished}
use Rattle.replay_core.specs.declared.finish.Finished.{Finished}
use Rattle.replay_core.specs.declared.finish.ReplayFault.{ReplayFault}
use Rattle.replay_core.specs.declared.finish.ReplayFault.TheVariants as faults
use Rattle.report.specs.Printing.{Prints}
use Rattle.report.specs.Runs.{RunsProgram, summary_of}
use Rattle.report.specs.Texts.{trace_line, turns_line, certificates_line}
use Rattle.nm_top.specs.declared.soak.TheConstants.{SOAK_PROCESSES, SOAK_TURNS}
use Rattle.nm_top.specs.declared.status.Status.{Status}
use Rattle.nm_top.specs.declared.status.Status.TheVariants as statuses
use Rattle.nm_top.specs.declared.stop.Stop.{Stop}
use Rattle.nm_top.specs.declared.stop.Stop.TheVariants.{Refused, Memory}
use Rattle.nm_top.specs.Demands.{ProgramText}
use Rattle.nm_top.specs.Schedules.{seen_turn}
use Rattle.nm_top.specs.Finishing.{replayed, entries_of}
use Rattle.nm_top.specs.SoakText.{soak_text}
use Rattle.nm_top.specs.Soaking.{Soaks, soak_form, soak_turns, next_seed, soak_run, soak_replay, soak_finished, soak_parts, begun_text, recorded_text, replayed_text}
use Rattle.nm_top.specs.private.Works.{Work, Whole, Refusing, Ending, Short, Broken, Tells, IsUnmet, work_of, work_status, work_text}
use Rattle.nm_top.specs.private.Tellings.{Told}
use Rattle.nm_top.specs.private.Replaying.{ReplaysProgram}
use Rattle.nm_top.specs.private.Rewriting.{entries}
use Rattle.nm_top.specs.private.Soaked.{IsOwnStop, HasSoaked, IsOfRecording, ReplaysSoaked, IsUpTo, IsBehind, IsSoakWork}
use Rattle.nm_top.proofs.CarryLaws.{appends_none}
use Rattle.nm_top.proofs.ReplayLaws.{replay_goes_on}
use Rattle.nm_top.proofs.RewritePieces.{length_entries}

-- ---- what is told, part by part

-- a text was given, and behind it a part of another
part_both : (before mid after : Option (List ℕ)) (x y : List ℕ) → Appends before mid x → AppendsPart mid after y → AppendsPart before after (x ++ y)
part_both before mid after x y g h =
    let all : x ++ y ≡ (x ++ take h.0 y) ++ drop h.0 y = ap (λ (xs : List ℕ). x ++ xs) (sym (take-append-drop h.0 y)) ∙ sym (append_assoc x (take h.0 y) (drop h.0 y)) in
    part_given before after (x ++ y) (x ++ take h.0 y) (drop h.0 y) all (Appends-trans before mid after x (take h.0 y) g h.2)

module _ (before mid after : Option (List ℕ)) (was at now : ℕ) (status : Status) (part : List ℕ) (given : Appends before mid part) (still : at ≡ was) where
  -- a text was given, and work was told behind it
  tells_behind : (work whole : Work) → work_text whole ≡ part ++ work_text work → work_status whole ≡ work_status work → Tells work mid after at now status → Tells whole before after was now status
  tells_behind work whole text same (inl t) =
      inl (t.0, subst (λ k. Rose k now) still t.1, subst (AppendsPart before after) (sym text) (part_both before mid after part (work_text work) given t.2))
  tells_behind work whole text same (inr t) =
      inr (t.0 ∙ sym same, t.1 ∙ still, subst (Appends before after) (sym text) (Appends-trans before mid after part (work_text work) given t.2))

  -- the next parts were told
  up_given : (parts : List (List ℕ)) (work : Work) → IsUpTo parts work → Tells work mid after at now status → Told (IsUpTo (part ∷ parts)) before after was now status
  up_given parts (Whole text) is tells = record {
    work = Whole (part ++ text);
    is = ap (λ (xs : List ℕ). part ++ xs) is;
    tells = tells_behind (Whole text) (Whole (part ++ text)) refl refl tells;
  }
  up_given parts (Short text) is tells = record {
    work = Short (part ++ text);
    is = (suc is.0, ap (λ (xs : List ℕ). part ++ xs) is.1);
    tells = tells_behind (Short text) (Short (part ++ text)) refl refl tells;
  }
  up_given parts (Refusing r) is tells = absurd is
  up_given parts (Ending text r) is tells = absurd is
  up_given parts Broken is tells = absurd is

-- nothing was told
pub up_none : (parts : List (List ℕ)) (a : Option (List ℕ)) (k : ℕ) → Told (IsUpTo parts) a a k k statuses.WantOfMemory
up_none parts a k = record { work = Short []; is = (0, refl); tells = inr (refl, refl, appends_none a) }

-- a part was told, and then the next ones
pub up_next : (before mid after : Option (List ℕ)) (was at now : ℕ) (status : Status) (part : List ℕ) (parts : List (List ℕ)) (r : Result ⊤ Failed) (x : ⊤) → r ≡ Ok x
    → Prints before mid was at part r → Told (IsUpTo parts) mid after at now status → Told (IsUpTo (part ∷ parts)) before after was now status
up_next before mid after was at now status part parts (Ok y) x is h told = up_given before mid after was at now status part h.ok h.cause.still parts told.work told.is told.tells
up_next before mid after was at now status part parts (Err f) x is h told = absurd cc

-- the sink failed at a part
pub up_failed : (before after : Option (List ℕ)) (was now : ℕ) (part : List ℕ) (parts : List (List ℕ)) (r : Result ⊤ Failed) (f : Failed) → r ≡ Err f → Prints before after was now part r
    → Told (IsUpTo (part ∷ parts)) before after was now statuses.WriteFault
up_failed before after was now part parts (Err k) f is h = record { work = Short part; is = (1, sym (append-nil part)); tells = inl (refl, h.cause.rose, h.err) }
up_failed before after was now part parts (Ok y) f is h = absurd cc

-- the same, by a test of what a call answered
pub up_next_if : (before mid after : Option (List ℕ)) (was at now : ℕ) (status : Status) (part : List ℕ) (parts : List (List ℕ)) (r : Result ⊤ Failed) → is_err r ≡ false
    → Prints before mid was at part r → Told (IsUpTo parts) mid after at now status → Told (IsUpTo (part ∷ parts)) before after was now status
up_next_if before mid after was at now status part parts (Ok y) is h told = up_next before mid after was at now status part parts (Ok y) y refl h told
up_next_if before mid after was at now status part parts (Err f) is h told = absurd cc

pub up_failed_if : (before after : Option (List ℕ)) (was now : ℕ) (part : List ℕ) (parts : List (List ℕ)) (r : Result ⊤ Failed) → is_err r ≡ true → Prints before after was now part r
    → Told (IsUpTo (part ∷ parts)) before after was now statuses.WriteFault
up_failed_if before after was now part parts (Err f) is h = up_failed before after was now part parts (Err f) f refl h
up_failed_if before after was now part parts (Ok y) is h = absurd cc

-- the last part was told
pub up_last : (before after : Option (List ℕ)) (was now : ℕ) (part : List ℕ) (r : Result ⊤ Failed) (x : ⊤) → r ≡ Ok x → Prints before after was now part r
    → Told (IsUpTo (part ∷ [])) before after was now statuses.Done
up_last before after was now part (Ok y) x is h = record { work = Whole part; is = sym (append-nil part); tells = inr (refl, h.cause.still, h.ok) }
up_last before after was now part (Err f) x is h = absurd cc

module _ (seed : ℕ) (p : Program) where
  pub behind_none : (a : Option (List ℕ)) (k : ℕ) → Told (IsBehind seed p) a a k k statuses.WantOfMemory
  behind_none a k = record { work = Short []; is = inl refl; tells = inr (refl, refl, appends_none a) }

  pub behind : (t : Content) → Soaks seed p t → (before after : Option (List ℕ)) (was now : ℕ) (status : Status) → Told (IsUpTo (soak_parts p t seed)) before after was now status
      → Told (IsBehind seed p) before after was now status
  behind t has before after was now status told = record { work = told.work; is = inr (t, has, told.is); tells = told.tells }

  module _ (before mid after : Option (List ℕ)) (was at now : ℕ) (status : Status) (given : Appends before mid (begun_text seed)) (still : at ≡ was) where
    by_parts : (t : Content) → Soaks seed p t → (work : Work) → IsUpTo (soak_parts p t seed) work → Tells work mid after at now status → Told (IsSoakWork seed) before after was now status
    by_parts t has (Whole text) is tells = record {
      work = Whole (begun_text seed ++ text);
      is = record { of_program = p; content = t; has = has; is = ap (λ (xs : List ℕ). begun_text seed ++ xs) is };
      tells = tells_behind before mid after was at now status (begun_text seed) given still (Whole text) (Whole (begun_text seed ++ text)) refl refl tells;
    }
    by_parts t has (Short text) is tells = record {
      work = Short (begun_text seed ++ text);
      is = inr (inr (record { of_program = p; content = t; has = has; many = is.0; is = ap (λ (xs : List ℕ). begun_text seed ++ xs) is.1 }));
      tells = tells_behind before mid after was at now status (begun_text seed) given still (Short text) (Short (begun_text seed ++ text)) refl refl tells;
    }
    by_parts t has (Refusing r) is tells = absurd is
    by_parts t has (Ending text r) is tells = absurd is
    by_parts t has Broken is tells = absurd is

    by_all : (work : Work) → IsBehind seed p work → Tells work mid after at now status → Told (IsSoakWork seed) before after was now status
    by_all work (inl none) tells = record {
      work = Short (begun_text seed);
      is = inr (inl refl);
      tells = tells_behind before mid after was at now status (begun_text seed) given still work (Short (begun_text seed))
          (sym (append-nil (begun_text seed)) ∙ ap (λ (w : Work). begun_text seed ++ work_text w) (sym none)) (ap work_status (sym none)) tells;
    }
    by_all work (inr k) tells = by_parts k.0 k.1 work k.2 tells

  -- the first line was told, and then the others
  pub soaked : (before mid after : Option (List ℕ)) (was at now : ℕ) (status : Status) (r : Result ⊤ Failed) (x : ⊤) → r ≡ Ok x → Prints before mid was at (begun_text seed) r
      → Told (IsBehind seed p) mid after at now status → Told (IsSoakWork seed) before after was now status
  soaked before mid after was at now status (Ok y) x is h told = by_all before mid after was at now status h.ok h.cause.still told.work told.is told.tells
  soaked before mid after was at now status (Err f) x is h told = absurd cc

-- memory was refused before the first line
pub soak_none : (seed : ℕ) (a : Option (List ℕ)) (k : ℕ) → Told (IsSoakWork seed) a a k k statuses.WantOfMemory
soak_none seed a k = record { work = Short []; is = inl refl; tells = inr (refl, refl, appends_none a) }

-- the sink failed at the first line
pub soak_failed : (seed : ℕ) (before after : Option (List ℕ)) (was now : ℕ) (r : Result ⊤ Failed) (f : Failed) → r ≡ Err f → Prints before after was now (begun_text seed) r
    → Told (IsSoakWork seed) before after was now statuses.WriteFault
soak_failed seed before after was now (Err k) f is h = record { work = Short (begun_text seed); is = inr (inl refl); tells = inl (refl, h.cause.rose, h.err) }
soak_failed seed before after was now (Ok y) f is h = absurd cc

-- there is no program, and that was told
pub soak_stopped : (seed : ℕ) (before after : Option (List ℕ)) (was now : ℕ) (status : Status) (stop : Stop) → IsOwnStop stop → Tells (work_of stop) before after was now status
    → Told (IsSoakWork seed) before after was now status
soak_stopped seed before after was now status (Refused r) h tells = record { work = Refusing r; is = h; tells = tells }
soak_stopped seed before after was now status Memory h tells = record { work = Short []; is = inl refl; tells = tells }

-- the text is within the limit of programs
pub text_few : length soak_text ≤ MAX_PROGRAM_BYTES
unfolding soak_text
text_few = omega arith

-- why its text is none
pub own_stop : (stop : Stop) → ((held : Files) → IsUnmet (ProgramText []) held soak_text stop) → IsOwnStop stop
own_stop (Refused r) h = ((h empty).0, λ files. (h files).1)
own_stop Memory h = tt

-- the same text was printed
pub same_text : (before after : Option (List ℕ)) (was now : ℕ) (x y : List ℕ) (r : Result ⊤ Failed) → x ≡ y → Prints before after was now x r → Prints before after was now y r
same_text before after was now x y r same h = subst (λ (text : List ℕ). Prints before after was now text r) same h

-- the world of which it is said is the same
pub same_world : {M : Type 0} (w v : Parts CProc M) (p : Program) (E : List Event) → v ≡ w → RunsProgram w p E → RunsProgram v p E
same_world {M = M} w v p E same h = subst (λ (u : Parts CProc M). RunsProgram u p E) (sym same) h

-- ---- the recording

pub turns_are : (seed : ℕ) → soak_turns seed ≡ generated_turns SOAK_PROCESSES seed SOAK_TURNS
unfolding soak_turns
turns_are seed = refl

many_turns : (n x k : ℕ) → length (generated_turns n x k) ≡ k
many_turns n x zero = refl
many_turns n x (suc k) = omega (arith, many_turns n (next_number x) k)

pub generated_many : (ts : List Turn) (seed : ℕ) → ts ≡ generated_turns SOAK_PROCESSES seed SOAK_TURNS → length ts ≡ SOAK_TURNS
generated_many ts seed is = ap length is ∙ many_turns SOAK_PROCESSES seed SOAK_TURNS

pub turns_many : (seed : ℕ) → length (soak_turns seed) ≡ SOAK_TURNS
turns_many seed = ap length (turns_are seed) ∙ many_turns SOAK_PROCESSES seed SOAK_TURNS

same_some : (m n : Files) → Some m ≡ Some n → m ≡ n
same_some m n e = cc

module _ (p : Program) (seed : ℕ) (ts : List Turn) (is : ts ≡ generated_turns SOAK_PROCESSES seed SOAK_TURNS) where
  -- a recording that wasn't stopped is of the whole run
  whole_run : (stopped : Option ℕ) → stopped ≡ None → run_of_first (script_of p SOAK_PROCESSES) 0 (turns_made stopped ts) ts ≡ soak_run p seed
  whole_run stopped none =
      ap (λ (o : Option ℕ). run_of_first (script_of p SOAK_PROCESSES) 0 (turns_made o ts) ts) none
      ∙ ap (λ (us : List Turn). run_of (script_of p SOAK_PROCESSES) 0 (map seen_turn us)) (take_all (length ts) ts (omega arith) ∙ is ∙ sym (turns_are seed))

  pub has_soaked : {M : Type 0} (r : Recorded CProc M) (digest name : List ℕ) (old new : Files) (k : ℕ) → r.stopped ≡ None → k ≡ SOAK_PROCESSES
      → recording.IsRecorded (record { version = 1; mask = 0; n = k; digest = digest }) (run_of_first (script_of p SOAK_PROCESSES) 0 (turns_made r.stopped ts) ts) name (Some old) (Some new) r.notes r.lost r.bytes
      → RunsProgram r.world p (run_of_first (script_of p SOAK_PROCESSES) 0 (turns_made r.stopped ts) ts) → HasSoaked p digest seed r name new
  has_soaked r digest name old new k none many made runs =
      let same = whole_run r.stopped none in
      record {
        runs = subst (RunsProgram r.world p) same runs;
        content = made.content;
        is_trace = subst (λ (E : List Event). IsContentOf (record { version = 1; mask = 0; n = SOAK_PROCESSES; digest = digest }) E made.content) same
            (subst (λ (n : ℕ). IsContentOf (record { version = 1; mask = 0; n = n; digest = digest }) (run_of_first (script_of p SOAK_PROCESSES) 0 (turns_made r.stopped ts) ts) made.content) many made.is);
        notes_are = made.notes_are;
        lost_are = made.lost_are;
        bytes_are = made.bytes_are;
        file = ap (λ (m : Files). get m name) (same_some new (insert old name (spelling made.content)) made.file) ∙ get_inserted old name (spelling made.content);
      }

-- ---- its trace

module _ (p : Program) (seed : ℕ) (t : Content) (is : IsContentOf soak_form (soak_run p seed) t) where
  abbrev s : ℕ → Script
  s = script_of p SOAK_PROCESSES

  lawful : AreLawful s
  lawful = scripts_are_lawful p SOAK_PROCESSES

  is_run : IsRun s 0 (soak_run p seed)
  is_run = run_of_runs s lawful 0 (map seen_turn (soak_turns seed))

  mask_is : t.mask ≡ 0
  mask_is = ap (λ (f : Form). f.mask) is.form

  pub processes_are : t.n ≡ SOAK_PROCESSES
  processes_are = ap (λ (f : Form). f.n) is.form

  few_events : length (soak_run p seed) ≤ SOAK_TURNS
  few_events = subst (λ (us : List Turn). length (run_of s 0 (map seen_turn us)) ≤ SOAK_TURNS) (take_all SOAK_TURNS (soak_turns seed) (omega (arith, turns_many seed))) (first_length s 0 SOAK_TURNS (soak_turns seed))

  sound : Sound 0 (soak_run p seed)
  sound = runs_sound s lawful is_run

  module _ (long : length (sha256 soak_text) ≡ 32) where
    digest_long : length t.digest ≡ 32
    digest_long = ap (λ (f : Form). length f.digest) is.form ∙ long

    is_header : IsHeader t
    is_header = record {
      version = inl (ap (λ (f : Form). f.version) is.form, mask_is);
      some = omega (arith, processes_are);
      few = omega (arith, processes_are);
      digest = digest_long;
    }

    pub rules : IsTrace t
    rules = content_rules soak_form (soak_run p seed) t is is_header sound (omega (arith, few_events))

    few_entries : 2 * length t.notes + length t.lost ≤ SOAK_TURNS
    few_entries = omega (arith, few_events, trace_size (soak_run p seed) (seen_trace t) (subst (λ (m : ℕ). Sound m (soak_run p seed)) (sym mask_is) sound) is.trace)

    pub few_named : length t.notes + length t.lost ≤ MAX_TRACE_BYTES
    few_named = omega (arith, few_entries)

    pub small : length (spelling t) ≤ MAX_TRACE_BYTES
    unfolding front
    small = omega (
      arith,
      length-append (header t ++ entries t) (end_part (front t) t.counts),
      ap length (sym (append_assoc (header t ++ entries t) (counts_part t.counts) (sha256 (front t ++ counts_part t.counts)))),
      end_length (front t) t.counts,
      length-append (header t) (entries t),
      length_entries t,
      header_few t.version t.mask t.n t.digest digest_long,
      is.each,
      processes_are,
      few_entries,
    )

  pub of_recording : IsOfRecording p t seed
  of_recording = record {
    processes = processes_are;
    recorded = record {
      lawful = scripts_are_lawful p t.n;
      run = subst (λ (n : ℕ). IsRun (script_of p n) t.mask (soak_run p seed)) (sym processes_are) (subst (λ (m : ℕ). IsRun s m (soak_run p seed)) (sym mask_is) is_run);
      trace = is.trace;
    };
  }

-- the digest of the program's text is that of its code
pub soaks : (p : Program) (seed : ℕ) (t : Content) (digest : List ℕ) → digest ≡ sha256 soak_text
    → IsContentOf (record { version = 1; mask = 0; n = SOAK_PROCESSES; digest = digest }) (soak_run p seed) t → IsContentOf soak_form (soak_run p seed) t
soaks p seed t digest same is = subst (λ (d : List ℕ). IsContentOf (record { version = 1; mask = 0; n = SOAK_PROCESSES; digest = d }) (soak_run p seed) t) same is

-- what is printed of the recording
pub recorded_same : (p : Program) (seed : ℕ) (t : Content) (notes lost bytes : ℕ) → notes ≡ length t.notes → lost ≡ length t.lost → bytes ≡ length (spelling t)
    → summary_of (soak_run p seed) ++ trace_line notes lost bytes ≡ recorded_text p t seed
recorded_same p seed t notes lost bytes a b c =
    ap (λ (k : ℕ). summary_of (soak_run p seed) ++ trace_line k lost bytes) a
    ∙ ap (λ (k : ℕ). summary_of (soak_run p seed) ++ trace_line (length t.notes) k bytes) b
    ∙ ap (λ (k : ℕ). summary_of (soak_run p seed) ++ trace_line (length t.notes) (length t.lost) k) c

-- ---- its replay

pub few_turns : (ts : List Turn) (n : ℕ) → n ≡ SOAK_PROCESSES → AreFewTurns SOAK_PROCESSES ts → AreFewTurns n ts
few_turns ts n same few = subst (λ (k : ℕ). AreFewTurns k ts) (sym same) few

-- no replay of a recording is stuck
pub never_stuck : (r : Result Finished ReplayFault) (counts : List ℕ) → r ≡ Err (faults.Stuck counts) → IfErr r (λ fault. fault ≡ faults.Memory) → ⊥
never_stuck r counts is h = not_memory (subst (λ (r : Result Finished ReplayFault). IfErr r (λ fault. fault ≡ faults.Memory)) is h)
  where
    not_memory : faults.Stuck counts ≡ faults.Memory → ⊥
    not_memory e = cc

module _ (p : Program) (seed : ℕ) (t : Content) (h : IsOfRecording p t seed) where
  replay_is : IsReplay (script_of p t.n) (seen_trace t) (soak_replay p t seed)
  replay_is = replay_of_replays (script_of p t.n) h.recorded.lawful (seen_trace t) (map seen_turn (soak_turns (next_seed seed)))

  finish_is : IsReplay (script_of p t.n) (seen_trace t) (soak_finished p t seed).events
  finish_is = finish_replays (script_of p t.n) (seen_trace t) h.recorded.lawful (soak_replay p t seed) replay_is

  counts_reached : (q : ℕ) → count (soak_finished p t seed).events q ≡ (seen_trace t).counts q
  counts_reached q =
      finish_reaches (script_of p t.n) (seen_trace t) h.recorded.lawful (soak_run p seed) (soak_replay p t seed) h.recorded.run h.recorded.trace replay_is q

  -- it has the entries of the trace
  pub soaked_entries : (E : List Event) → E ≡ (soak_finished p t seed).events → HasEntries t.mask t.notes t.lost E
  soaked_entries E same =
      subst (HasEntries t.mask t.notes t.lost) (sym same)
      (same_entries_of (script_of p t.n) (seen_trace t) (soak_run p seed) (soak_finished p t seed).events
      (record { recorded = h.recorded; replay = finish_is; reached = counts_reached }))

  -- and is a run
  pub soaked_run : (E : List Event) → E ≡ (soak_finished p t seed).events → IsRun (script_of p t.n) t.mask E
  soaked_run E same = subst (λ (F : List Event). IsRun (script_of p t.n) t.mask F) (sym same) finish_is.run

-- the turns of the next seed were made, and the replay was finished
pub replays_soaked : {M : Type 0} (made new : Replaying CProc M) (p : Program) (t : Content) (seed idle : ℕ) (ts : List Turn) (f : Finished) → ts ≡ generated_turns SOAK_PROCESSES (next_seed seed) SOAK_TURNS
    → ReplaysProgram made p t (replayed p t ts) → idle ≡ length ts - length (replayed p t ts) → IsSameRun process.origin_of-value.it made new
    → HasFinished process.stands_for-value.it new (script_of p t.n) (seen_trace t) (replayed p t ts) f → ReplaysSoaked new p t seed idle
replays_soaked made new p t seed idle ts f is h idle_are same done =
    let turns : ts ≡ soak_turns (next_seed seed) = is ∙ sym (turns_are (next_seed seed)) in
    let R = replayed p t ts in
    record {
      replays = replay_goes_on made new p t (soak_replay p t seed) (soak_finished p t seed).events
          (subst (λ (us : List Turn). ReplaysProgram made p t (replayed p t us)) turns h) same
          (subst (λ (us : List Turn). HasFinished process.stands_for-value.it new (script_of p t.n) (seen_trace t) (replayed p t us) f) turns done).stands;
      idle_are = idle_are ∙ ap (λ (us : List Turn). length us - length (replayed p t us)) turns ∙ ap (λ (k : ℕ). k - length (soak_replay p t seed)) (turns_many (next_seed seed));
    }

-- what is printed of it
pub replayed_same : (p : Program) (seed : ℕ) (t : Content) (idle : ℕ) → idle ≡ SOAK_TURNS - length (soak_replay p t seed)
    → summary_of (soak_finished p t seed).events ++ turns_line SOAK_TURNS idle ≡ replayed_text p t seed
replayed_same p seed t idle is = ap (λ (k : ℕ). summary_of (soak_finished p t seed).events ++ turns_line SOAK_TURNS k) is

-- what is told of the same trace
pub told_same : (p : Program) (seed : ℕ) (x t : Content) → x ≡ t → (before after : Option (List ℕ)) (was now : ℕ) (status : Status)
    → Told (IsUpTo (replayed_text p x seed ∷ certificates_line (length (entries_of x)) ∷ [])) before after was now status
    → Told (IsUpTo (replayed_text p t seed ∷ certificates_line (length (entries_of t)) ∷ [])) before after was now status
told_same p seed x t same before after was now status told =
    subst (λ (u : Content). Told (IsUpTo (replayed_text p u seed ∷ certificates_line (length (entries_of u)) ∷ [])) before after was now status) same told
