-- The command `record`.
use Rattle.std.proofs.Common.{◌≡◌, ◌≤◌, ◌+◌, ◌*◌, ℕ, List, [], ◌++◌, length, Bool, true, false, Option, None, Some, Ok, Err, Result, IfSome, IsSome, refl, sym, ap, ◌∙◌, subst, inl, inr}
use Rattle.std.specs.Prelude.{◌⊎◌}
use Rattle.std.specs.FinMap.{insert}
use Rattle.sha2.specs.Sha256.{sha256}
use Rattle.nm_outside.specs.Causes.{BelongsTo}
use Rattle.nm_outside.specs.Files.{Files}
use Rattle.c_tree.specs.declared.program.Program.{Program}
use Rattle.schedules.specs.declared.schedule.Turn.{Turn}
use Rattle.schedules.specs.declared.reader.ScheduleFault.{ScheduleFault}
use Rattle.c_tree.specs.Play.{script_of}
use Rattle.trace_file.specs.Bytes.{spelling}
use Rattle.nm_base.specs.Scripts.{Script}
use Rattle.processes.specs.Standing.{Standing}
use Rattle.world.specs.Outcomes.{Begins}
use Rattle.recorder.specs.declared.fault.RecordFault.{RecordFault}
use Rattle.recorder.specs.declared.fault.RecordFault.TheVariants as RecordFaults
use Rattle.recorder.specs.Recording.{Form, IsContentOf, IsRecorded}
use Rattle.recorder.specs.Outcomes.{is_write, run_of_first, turns_made, IsStopped, IsCutOff}
use Rattle.report.specs.Runs.{blocks}
use Rattle.report.specs.Texts.{trace_line, stopped_line}
use Rattle.nm_top.specs.declared.status.Status.{Status}
use Rattle.nm_top.specs.declared.status.Status.TheVariants as statuses
use Rattle.nm_top.specs.Commands.{Command, Record}
use Rattle.nm_top.specs.Programs.{Reads}
use Rattle.nm_top.specs.Schedules.{IsSchedule}
use Rattle.nm_top.specs.Replies.{reply, KeepsOthers}
use Rattle.nm_top.specs.Demands.{ProgramText, ScheduleText, HoldsIn, program_file, schedule_file, Admits}
use Rattle.nm_top.specs.Recordings.{ToRecord, IsToRecord, recorded_run}
use Rattle.nm_top.specs.Watches.{Call}
use Rattle.nm_top.specs.Answers.{CommandAnswer, IsBroken, IsEnough, to_record}
use Rattle.nm_top.specs.private.Works.{Work, Whole, Refusing, Ending, Short, Broken, Works, Counts, IsWorkOf, Tells, Outside, outside, Carries, is_absence, is_read_fault, is_broken, work_status}
use Rattle.nm_top.specs.private.Recorded.{IsRecordWork, HasRecorded, recorded_work}
use Rattle.nm_top.proofs.FileLaws.{held_more, one_text}
use Rattle.nm_top.proofs.CarryLaws.{nothing_short, stands_still, appends_none}

-- a file has the turns of one schedule
pub one_schedule : (held : Files) (n : ℕ) (schedule : List ℕ) (a b : List Turn) → HoldsIn held (λ text. IsSchedule n text a) (schedule_file schedule)
    → HoldsIn held (λ text. IsSchedule n text b) (schedule_file schedule) → a ≡ b
one_schedule held n schedule a b h k =
    let t = one_text held (schedule_file schedule) (λ text. IsSchedule n text a) (λ text. IsSchedule n text b) h k in
    let e : read_as a ≡ read_as b = sym t.1 ∙ t.2 in cc
  where
    read_as : List Turn → Result (List Turn) ScheduleFault
    read_as ts = Ok ts

-- ---- faults of a recording

pub still_memory : {X : Type 0} (w v : ℕ) (r : Result X RecordFault) → r ≡ Err RecordFaults.Memory → BelongsTo (is_write r) w v → v ≡ w
still_memory w v r is b = (subst (λ r. BelongsTo (is_write r) w v) is b).still

pub failed_write : {X : Type 0} (w v : ℕ) (r : Result X RecordFault) → r ≡ Err RecordFaults.Write → BelongsTo (is_write r) w v → BelongsTo true w v
failed_write w v r is b = subst (λ r. BelongsTo (is_write r) w v) is b

pub sure_write : {X : Type 0} (r : Result X RecordFault) → r ≡ Err RecordFaults.Write → is_write r ≡ false → true ≡ false
sure_write r is e = ap is_write (sym is) ∙ e

-- a cut-off trace of whatever the processes stand for
pub cut_for : {P : Type 0} (stands_for : P → Standing) (processes : List P) (F G : Option Files) (s : ℕ → Script) (f : Form) (turns : List Turn) (name : List ℕ)
    → (G ≡ F) ⊎ ((s : ℕ → Script) → Begins stands_for processes s → IsCutOff s f turns name F G) → Begins stands_for processes s → (G ≡ F) ⊎ IsCutOff s f turns name F G
cut_for stands_for processes F G s f turns name (inl same) b = inl same
cut_for stands_for processes F G s f turns name (inr cut) b = inr (cut s b)

-- the counts of absent files and of read faults stand still where the reads were done
pub still_at : (given : Bool) (was mid now : ℕ) → given ≡ false → BelongsTo false was mid → now ≡ mid → BelongsTo given was now
still_at false was mid now e b same = subst (BelongsTo false was) (sym same) b
still_at true was mid now e b same = absurd cc

module _ (program : List ℕ) (n : ℕ) (schedule trace : List ℕ) (version mask : ℕ) where
  abbrev command : Command
  command = Record program n schedule trace version mask

  abbrev words : ToRecord
  words = to_record program n schedule trace version mask

  module _ (p : Program) (digest : List ℕ) (turns : List Turn) where
    -- what was recorded is an answer
    record_works : (x : Call) (F G : Option Files) (work : Work) → IfSome F (λ held. IsToRecord held words p digest turns) → IsRecordWork words p digest turns F G work
        → IfSome F (λ held. Works (CommandAnswer x command held) (IsBroken command held) G work)
    record_works x None G work has is = tt
    record_works x (Some held) G (Whole text) has is = (
      insert held trace (spelling is.content),
      is.leaves,
      inl (inr (inr (
        held_more held (program_file program) (λ text. Reads text p × (digest ≡ sha256 text)) (Admits (ProgramText program) held) (λ text r. (p, r.0)) has.has_program,
        inr (inr (
          held_more held (schedule_file schedule) (λ text. IsSchedule n text turns) (Admits (ScheduleText schedule n) held) (λ text r. (turns, r)) has.has_schedule,
          (
            text,
            insert held trace (spelling is.content),
            record {
              of_program = p;
              digest = digest;
              turns = turns;
              has = has;
              content = is.content;
              is_trace = is.is_trace;
              is = is.is;
              leaves = refl;
            },
            refl,
          ),
        )),
      ))),
    )
    record_works x (Some held) G (Short text) has (inl is) =
        (held, is.1, subst (λ (t : List ℕ). CommandAnswer x command held (reply statuses.WantOfMemory t held)) (sym is.0) (nothing_short x command held))
    record_works x (Some held) G (Short text) has (inr is) = (
      insert held trace (spelling is.content),
      is.leaves,
      inr (inl (
        text,
        insert held trace (spelling is.content),
        inr (record {
          of_program = p;
          digest = digest;
          turns = turns;
          has = has;
          many = is.many;
          within = is.within;
          content = is.content;
          is_trace = is.is_trace;
          is = is.is;
          leaves = refl;
        }),
        refl,
      )),
    )
    record_works x (Some held) G Broken has (inl is) = (held, is, inl refl)
    record_works x (Some held) G Broken has (inr is) = (
      insert held trace _,
      is.leaves,
      inr (record {
        of_program = p;
        digest = digest;
        turns = turns;
        has = has;
        many = is.many;
        within = is.within;
        content = is.content;
        is_trace = is.is_trace;
        bytes = is.bytes;
        leaves = refl;
      }),
    )
    record_works x (Some held) G (Refusing r) has is = absurd is
    record_works x (Some held) G (Ending text r) has is = absurd is

    record_is_work : (F G : Option Files) (work : Work) → IsRecordWork words p digest turns F G work
        → IsWorkOf command work × (is_absence (work_status work) ≡ false) × (is_read_fault work ≡ false)
    record_is_work F G (Whole text) is = (tt, refl, refl)
    record_is_work F G (Short text) (inl is) = (inl is.0, refl, refl)
    record_is_work F G (Short text) (inr is) = (inr (is.many, is.is), refl, refl)
    record_is_work F G Broken is = (tt, refl, refl)
    record_is_work F G (Refusing r) is = absurd is
    record_is_work F G (Ending text r) is = absurd is

    record_keeps : (F G : Option Files) (work : Work) → IsRecordWork words p digest turns F G work → KeepsOthers (Some trace) F G
    record_keeps F G (Whole text) is = inr (spelling is.content, is.leaves)
    record_keeps F G (Short text) (inl is) = inl is.1
    record_keeps F G (Short text) (inr is) = inr (spelling is.content, is.leaves)
    record_keeps F G Broken (inl is) = inl is
    record_keeps F G Broken (inr is) = inr (_, is.leaves)
    record_keeps F G (Refusing r) is = absurd is
    record_keeps F G (Ending text r) is = absurd is

    record_sure : (F : Option Files) (room : Option ℕ) (broken : Bool) → IfSome F (λ held. IsToRecord held words p digest turns)
        → ((k : ℕ) → IsSome F → room ≡ Some k → 6 * length turns + 256 ≤ k → broken ≡ false)
        → IfSome F (λ held. (k : ℕ) → room ≡ Some k → IsEnough command held k → broken ≡ false)
    record_sure None room broken has sure = tt
    record_sure (Some held) room broken has sure = λ k is fits.
        let same = one_schedule held n schedule fits.turns turns fits.has_schedule has.has_schedule in
        sure k refl is (subst (λ (ts : List Turn). 6 * length ts + 256 ≤ k) same fits.enough)

    -- what its files hold was read, and it was recorded and told
    pub recorded : {X : Type 0} (x : Call) (Q : List ℕ → Type 0) (found : X) (before mid after : Outside) (status : Status) → IfSome before.files (λ held. IsToRecord held words p digest turns)
        → Counts {X = X} Q before.absents mid.absents before.reads mid.reads (Ok found) → mid.files ≡ before.files → mid.writes ≡ before.writes → mid.room ≡ before.room
        → mid.given ≡ before.given → mid.faults ≡ before.faults → HasRecorded words p digest turns mid after status → Carries x command before after status
    recorded x Q found before mid after status has counts files writes room given faults made =
        let h = subst (λ (o : Outside). HasRecorded words p digest turns o after status) moved made in
        let k = record_is_work before.files after.files h.work h.is in
        record {
          work = h.work;
          works = record_works x before.files after.files h.work has h.is;
          keeps = record_keeps before.files after.files h.work h.is;
          is_work = k.0;
          absent = still_at (is_absence (work_status h.work)) before.absents mid.absents after.absents k.1 counts.absent h.same_absents;
          failed = still_at (is_read_fault h.work) before.reads mid.reads after.reads k.2 counts.failed h.same_reads;
          writes = record { failed = h.failed; sure = record_sure before.files before.room (is_broken h.work) has h.sure };
          tells = h.tells;
        }
      where
        moved : mid ≡ outside before.files mid.absents mid.reads before.writes before.room before.given before.faults
        moved = λ i. outside (files i) mid.absents mid.reads (writes i) (room i) (given i) (faults i)

  -- ---- what a recording of the program gives

  module _ (p : Program) (digest : List ℕ) (turns : List Turn) (F G : Option Files) (a b r s w v : ℕ) (room room' : Option ℕ) (absents : b ≡ a) (reads : s ≡ r) where
    -- nothing was recorded
    pub none_recorded : (given : Option (List ℕ)) (faults : ℕ) → G ≡ F → v ≡ w
        → HasRecorded words p digest turns (outside F a r w room given faults) (outside G b s v room' given faults) statuses.WantOfMemory
    none_recorded given faults files writes = record {
      work = Short [];
      is = inl (refl, files);
      tells = inr (refl, refl, appends_none given);
      failed = subst (λ k. BelongsTo false w k) (sym writes) (stands_still false w refl);
      sure = λ k f is fits. refl;
      same_absents = absents;
      same_reads = reads;
    }

    -- a write failed
    pub front_recorded : (given : Option (List ℕ)) (faults : ℕ) (k : ℕ) → k ≡ n
        → (G ≡ F) ⊎ IsCutOff (script_of p n) (record { version = version; mask = mask; n = k; digest = digest }) turns trace F G → BelongsTo true w v
        → ((m : ℕ) → IsSome F → room ≡ Some m → 6 * length turns + 256 ≤ m → true ≡ false)
        → HasRecorded words p digest turns (outside F a r w room given faults) (outside G b s v room' given faults) statuses.WriteFault
    front_recorded given faults k many cut failed sure = record {
      work = Broken;
      is = by cut;
      tells = inr (refl, refl, appends_none given);
      failed = failed;
      sure = sure;
      same_absents = absents;
      same_reads = reads;
    }
      where
        by : (G ≡ F) ⊎ IsCutOff (script_of p n) (record { version = version; mask = mask; n = k; digest = digest }) turns trace F G → IsRecordWork words p digest turns F G Broken
        by (inl same) = inl same
        by (inr c) = inr (record {
          many = c.turns;
          within = c.within;
          content = c.front.content;
          is_trace = subst (λ m. IsContentOf (record { version = version; mask = mask; n = m; digest = digest }) (recorded_run words p turns c.turns) c.front.content) many c.front.is;
          bytes = c.front.many;
          leaves = c.front.file;
        })

    -- the trace was written
    pub made_recorded : (given given' : Option (List ℕ)) (faults faults' : ℕ) (status : Status) (stopped : Option ℕ) (notes lost bytes k m : ℕ) → k ≡ n → m ≡ n
        → IsRecorded (record { version = version; mask = mask; n = k; digest = digest }) (run_of_first (script_of p n) mask (turns_made stopped turns) turns) trace F G notes lost bytes
        → IsStopped stopped turns
        → Tells (recorded_work stopped (blocks p m (run_of_first (script_of p n) mask (turns_made stopped turns) turns) ++ trace_line notes lost bytes)) given given' faults faults' status
        → BelongsTo false w v → HasRecorded words p digest turns (outside F a r w room given faults) (outside G b s v room' given' faults') status
    made_recorded given given' faults faults' status None notes lost bytes k m many size made stopped tells failed =
        let E = recorded_run words p turns (length turns) in
        record {
          work = Whole (blocks p m E ++ trace_line notes lost bytes);
          is = record {
            content = made.content;
            is_trace = subst (λ m. IsContentOf (record { version = version; mask = mask; n = m; digest = digest }) E made.content) many made.is;
            is = ap (λ (q : ℕ). blocks p q E ++ trace_line notes lost bytes) size ∙ ap (λ (q : ℕ). blocks p n E ++ trace_line q lost bytes) made.notes_are
                ∙ ap (λ (q : ℕ). blocks p n E ++ trace_line (length made.content.notes) q bytes) made.lost_are
                ∙ ap (λ (q : ℕ). blocks p n E ++ trace_line (length made.content.notes) (length made.content.lost) q) made.bytes_are;
            leaves = made.file;
          };
          tells = tells;
          failed = failed;
          sure = λ k f is fits. refl;
          same_absents = absents;
          same_reads = reads;
        }
    made_recorded given given' faults faults' status (Some many) notes lost bytes k m size same made stopped tells failed = record {
      work = Short (stopped_line many);
      is = inr (record {
        many = many;
        within = stopped;
        content = made.content;
        is_trace = subst (λ m. IsContentOf (record { version = version; mask = mask; n = m; digest = digest }) (recorded_run words p turns many) made.content) size made.is;
        is = refl;
        leaves = made.file;
      });
      tells = tells;
      failed = failed;
      sure = λ k f is fits. refl;
      same_absents = absents;
      same_reads = reads;
    }
