-- The command `upgrade`.
use Rattle.std.proofs.Common.{◌≡◌, ◌≤◌, ◌+◌, ℕ, List, [], ◌++◌, length, arith, length-append, Err, Result, Bool, false, Option, None, Some, Ok, IfSome, IsSome, refl, sym, ap, ◌∙◌, subst, inl, inr}
use Rattle.std.specs.FinMap.{insert}
use Rattle.sha2.specs.Sha256.{sha256}
use Rattle.nm_outside.specs.declared.cabinet.BeginFault.{BeginFault}
use Rattle.nm_outside.specs.declared.cabinet.BeginFault.TheVariants as faults
use Rattle.nm_outside.specs.Begun.{has_failed}
use Rattle.nm_outside.specs.Causes.{BelongsTo}
use Rattle.nm_outside.specs.Files.{Files}
use Rattle.nm_base.specs.declared.letter.AcceptNote.{AcceptNote}
use Rattle.nm_base.specs.declared.letter.LetterId.{LetterId}
use Rattle.trace_file.specs.Content.{Content}
use Rattle.trace_file.specs.Bytes.{spelling, front, header, counts_part}
use Rattle.recorder.specs.Recording.{holding}
use Rattle.report.specs.Texts.{upgraded_line}
use Rattle.trace_file.specs.Outcomes.{IsSpelling}
use Rattle.nm_top.specs.declared.status.Status.{Status}
use Rattle.nm_top.specs.declared.status.Status.TheVariants as statuses
use Rattle.nm_top.specs.Commands.{Command, Upgrade}
use Rattle.nm_top.specs.Replies.{reply, KeepsOthers}
use Rattle.nm_top.specs.Demands.{TraceText, HasTrace, trace_file, Admits}
use Rattle.nm_top.specs.Upgrades.{upgraded}
use Rattle.nm_top.specs.Watches.{Call}
use Rattle.nm_top.specs.Answers.{CommandAnswer, IsBroken, IsEnough}
use Rattle.nm_top.specs.private.Works.{Work, Whole, Refusing, Ending, Short, Broken, Works, Counts, IsWorkOf, Tells, Outside, outside, Carries, is_absence, is_read_fault, is_broken, work_status}
use Rattle.nm_top.specs.private.Rewriting.{entries}
use Rattle.nm_top.specs.private.Upgraded.{IsUpgradeWork, HasUpgraded}
use Rattle.nm_top.proofs.FileLaws.{held_more, same_trace}
use Rattle.nm_top.proofs.CarryLaws.{nothing_short, stands_still, appends_none}
use Rattle.nm_top.proofs.RecordLaws.{still_at}
use Rattle.nm_top.proofs.RewritePieces.{length_entries}

module _ (trace new : List ℕ) (t : Content) where
  abbrev command : Command
  command = Upgrade trace new

  -- what was written is an answer
  upgrade_works : (x : Call) (F G : Option Files) (work : Work) → IfSome F (λ held. HasTrace held trace t) → IsUpgradeWork t new F G work
      → IfSome F (λ held. Works (CommandAnswer x command held) (IsBroken command held) G work)
  upgrade_works x None G work has is = tt
  upgrade_works x (Some held) G (Whole text) has is = (
    insert held new (spelling (upgraded t)),
    is.1,
    inl (inr (inr (
      held_more held (trace_file trace) (λ bytes. IsSpelling t bytes) (Admits (TraceText trace) held) (λ bytes r. (t, r)) has,
      (text, insert held new (spelling (upgraded t)), record { content = t; has_trace = has; is = is.0; leaves = refl }, refl),
    ))),
  )
  upgrade_works x (Some held) G (Short text) has is =
      (held, is.1, subst (λ (u : List ℕ). CommandAnswer x command held (reply statuses.WantOfMemory u held)) (sym is.0) (nothing_short x command held))
  upgrade_works x (Some held) G Broken has (inl is) = (held, is, inl refl)
  upgrade_works x (Some held) G Broken has (inr is) = (insert held new _, is.1, inr (record { content = t; has_trace = has; bytes = is.0; leaves = refl }))
  upgrade_works x (Some held) G (Refusing r) has is = absurd is
  upgrade_works x (Some held) G (Ending text r) has is = absurd is

  upgrade_is_work : (F G : Option Files) (work : Work) → IsUpgradeWork t new F G work
      → IsWorkOf command work × (is_absence (work_status work) ≡ false) × (is_read_fault work ≡ false)
  upgrade_is_work F G (Whole text) is = (tt, refl, refl)
  upgrade_is_work F G (Short text) is = (is.0, refl, refl)
  upgrade_is_work F G Broken is = (tt, refl, refl)
  upgrade_is_work F G (Refusing r) is = absurd is
  upgrade_is_work F G (Ending text r) is = absurd is

  upgrade_keeps : (F G : Option Files) (work : Work) → IsUpgradeWork t new F G work → KeepsOthers (Some new) F G
  upgrade_keeps F G (Whole text) is = inr (spelling (upgraded t), is.1)
  upgrade_keeps F G (Short text) is = inl is.1
  upgrade_keeps F G Broken (inl is) = inl is
  upgrade_keeps F G Broken (inr is) = inr (_, is.1)
  upgrade_keeps F G (Refusing r) is = absurd is
  upgrade_keeps F G (Ending text r) is = absurd is

  upgrade_sure : (F : Option Files) (room : Option ℕ) (broken : Bool) → IfSome F (λ held. HasTrace held trace t)
      → ((k : ℕ) → IsSome F → room ≡ Some k → length (spelling (upgraded t)) ≤ k → broken ≡ false)
      → IfSome F (λ held. (k : ℕ) → room ≡ Some k → IsEnough command held k → broken ≡ false)
  upgrade_sure None room broken has sure = tt
  upgrade_sure (Some held) room broken has sure = λ k is fits.
      let same = same_trace held trace fits.content t fits.has_trace has in
      sure k refl is (subst (λ (u : Content). length (spelling (upgraded u)) ≤ k) same fits.enough)

  -- what its file holds was read, and it was written and told
  pub wrote : {X : Type 0} (x : Call) (Q : List ℕ → Type 0) (found : X) (before mid after : Outside) (status : Status) → IfSome before.files (λ held. HasTrace held trace t)
      → Counts {X = X} Q before.absents mid.absents before.reads mid.reads (Ok found) → mid.files ≡ before.files → mid.writes ≡ before.writes → mid.room ≡ before.room
      → mid.given ≡ before.given → mid.faults ≡ before.faults → HasUpgraded t new mid after status → Carries x command before after status
  wrote x Q found before mid after status has counts files writes room given faults made =
      let h = subst (λ (o : Outside). HasUpgraded t new o after status) moved made in
      let k = upgrade_is_work before.files after.files h.work h.is in
      record {
        work = h.work;
        works = upgrade_works x before.files after.files h.work has h.is;
        keeps = upgrade_keeps before.files after.files h.work h.is;
        is_work = k.0;
        absent = still_at (is_absence (work_status h.work)) before.absents mid.absents after.absents k.1 counts.absent h.same_absents;
        failed = still_at (is_read_fault h.work) before.reads mid.reads after.reads k.2 counts.failed h.same_reads;
        writes = record { failed = h.failed; sure = upgrade_sure before.files before.room (is_broken h.work) has h.sure };
        tells = h.tells;
      }
    where
      moved : mid ≡ outside before.files mid.absents mid.reads before.writes before.room before.given before.faults
      moved = λ i. outside (files i) mid.absents mid.reads (writes i) (room i) (given i) (faults i)

-- ---- how many entries a trace has

-- each entry has a byte of its own in the spelling
pub few_entries : (t : Content) → length t.notes + length t.lost ≤ length (spelling t)
unfolding front
few_entries t = omega (
  arith,
  length_entries t,
  length-append (header t) (entries t),
  length-append (front t) (counts_part t.counts),
  length-append (front t ++ counts_part t.counts) (sha256 (front t ++ counts_part t.counts)),
)

-- its line, with the numbers that were found
pub same_line : (t : Content) (notes : List AcceptNote) (lost : List LetterId) (bytes : ℕ) → notes ≡ t.notes → lost ≡ t.lost → bytes ≡ length (spelling (upgraded t))
    → upgraded_line (length notes) (length lost) bytes ≡ upgraded_line (length t.notes) (length t.lost) (length (spelling (upgraded t)))
same_line t notes lost bytes a b k =
    ap (λ (xs : List AcceptNote). upgraded_line (length xs) (length lost) bytes) a ∙ ap (λ (xs : List LetterId). upgraded_line (length t.notes) (length xs) bytes) b
    ∙ ap (λ (n : ℕ). upgraded_line (length t.notes) (length t.lost) n) k

-- ---- what writing it gives

pub still_begin : {X : Type 0} (w v : ℕ) (r : Result X BeginFault) → r ≡ Err faults.Memory → BelongsTo (has_failed r) w v → v ≡ w
still_begin w v r is b = (subst (λ r. BelongsTo (has_failed r) w v) is b).still

module _ (t : Content) (new : List ℕ) (F G : Option Files) (a b r s w v : ℕ) (room room' : Option ℕ) (absents : b ≡ a) (reads : s ≡ r) where
  pub none_upgraded : (given : Option (List ℕ)) (faults : ℕ) → G ≡ F → v ≡ w → HasUpgraded t new (outside F a r w room given faults) (outside G b s v room' given faults) statuses.WantOfMemory
  none_upgraded given faults files writes = record {
    work = Short [];
    is = (refl, files);
    tells = inr (refl, refl, appends_none given);
    failed = subst (λ k. BelongsTo false w k) (sym writes) (stands_still false w refl);
    sure = λ k f is fits. refl;
    same_absents = absents;
    same_reads = reads;
  }

  pub wrote_upgraded : (given given' : Option (List ℕ)) (faults faults' : ℕ) (status : Status) (text : List ℕ)
      → text ≡ upgraded_line (length t.notes) (length t.lost) (length (spelling (upgraded t))) → G ≡ holding F new (spelling (upgraded t)) → BelongsTo false w v
      → Tells (Whole text) given given' faults faults' status → HasUpgraded t new (outside F a r w room given faults) (outside G b s v room' given' faults') status
  wrote_upgraded given given' faults faults' status text is files failed tells = record {
    work = Whole text;
    is = (is, files);
    tells = tells;
    failed = failed;
    sure = λ k f is fits. refl;
    same_absents = absents;
    same_reads = reads;
  }
