-- What the command `debug` answers.
use Rattle.std.proofs.Common.{◌≡◌, ℕ, Bool, false, List, [], ◌++◌, Option, None, Some, Ok, IfSome, inl, inr, refl, sym, ap, ◌∙◌, subst, append_assoc}
use Rattle.std.specs.Prelude.{◌≤◌, length, take, drop}
use Rattle.std.specs.Io.KnownBytes.{Appends}
use Rattle.std.proofs.KnownBytes.{Appends-trans}
use Rattle.std.proofs.lemmas.List.{take-append-drop}
use Rattle.std.proofs.lemmas.Option.{IfSome_then}
use Rattle.nm_outside.specs.Causes.{BelongsTo, Rose}
use Rattle.nm_outside.specs.Files.{Files, AppendsPart}
use Rattle.nm_outside.proofs.Parts.{part_given}
use Rattle.c_tree.specs.declared.program.Program.{Program}
use Rattle.trace_file.specs.Content.{Content}
use Rattle.watchers.specs.Watched.{Watched}
use Rattle.replay_core.specs.Gates.{seen_trace}
use Rattle.debugger.specs.Sessions.{first_session}
use Rattle.debugger.specs.Sittings.{Sitting}
use Rattle.report.specs.declared.cause.Refusal.{Refusal}
use Rattle.report.specs.declared.cause.Refusal.TheVariants as refusals
use Rattle.report.specs.Texts.{refusal_line}
use Rattle.nm_top.specs.declared.status.Status.{Status}
use Rattle.nm_top.specs.declared.status.Status.TheVariants as statuses
use Rattle.nm_top.specs.declared.talk.End.{End}
use Rattle.nm_top.specs.declared.talk.End.TheVariants as ends
use Rattle.nm_top.specs.Commands.{Debug}
use Rattle.nm_top.specs.Replies.{reply}
use Rattle.nm_top.specs.Demands.{AreReplayed}
use Rattle.nm_top.specs.Answers.{CommandAnswer, IsDone}
use Rattle.nm_top.specs.Debugging.{Talked, Talks, EndsAfter, IsFront, PrintsUntil, before_quit, lines_of, read_of, is_write_end, is_fault_end}
use Rattle.nm_top.specs.Debugs.{Debugged}
use Rattle.nm_top.specs.Watches.{Call, call, given}
use Rattle.nm_top.specs.private.DebugWork.{end_work, IsDebugWork, TellsDebug}
use Rattle.nm_top.specs.private.Works.{Work, Whole, Refusing, Ending, Short, Broken, Tells, Counts, Outside, CarriesOut, is_take_fault}
use Rattle.nm_top.proofs.CarryLaws.{Bears, carried_out, nothing_short, appends_none, stands_still}
use Rattle.nm_top.proofs.PairLaws.{behind_pair}

-- ---- the line of the input, after the replies

module _ (text line : List ℕ) (before mid after : Option (List ℕ)) (replied : Appends before mid text) where
  part_after : AppendsPart mid after line → AppendsPart before after (text ++ line)
  part_after part =
      part_given before after (text ++ line) (text ++ take part.0 line) (drop part.0 line)
      (ap (λ (xs : List ℕ). text ++ xs) (sym (take-append-drop part.0 line)) ∙ sym (append_assoc text (take part.0 line) (drop part.0 line)))
      (Appends-trans before mid after text (take part.0 line) replied part.2)

  whole_after : Appends mid after line → Appends before after (text ++ line)
  whole_after = Appends-trans before mid after text line replied

pub ends_line : (text : List ℕ) (r : Refusal) (before mid after : Option (List ℕ)) (was at now : ℕ) (status : Status)
    → Appends before mid text → BelongsTo false was at → Tells (Refusing r) mid after at now status
    → Tells (Ending text r) before after was now status
ends_line text r before mid after was at now status replied still (inl h) =
    inl (h.0, subst (λ (k : ℕ). Rose k now) still.still h.1, part_after text (refusal_line r) before mid after replied h.2)
ends_line text r before mid after was at now status replied still (inr h) =
    inr (h.0, h.1 ∙ still.still, whole_after text (refusal_line r) before mid after replied h.2)

-- ---- a session that came to its end

module _ {M : Type 0} (p : Program) (t : Content) (left : Option (List ℕ)) (watch told : List Watched) (new : Sitting M)
    (before mid after : Option (List ℕ)) (end : End) where
  abbrev x : Call
  x = call left (given watch told)

  -- the session talked over these bytes, which are the input where it is told
  module _ (bytes : List ℕ) (rest : Option (List ℕ)) (k : Talked p t first_session watch bytes rest new told before mid end) where
    debug_work : IfSome left (λ input. input ≡ bytes) → IsDebugWork p t x (end_work end k.text)
    debug_work input = by end k
      where
        ended : (e : End) (k : Talked p t first_session watch bytes rest new told before mid e) → told ≡ k.watch → Debugged p t x e k.text
        ended e k same = record {
          taken = k.k;
          lines = k.lines;
          last = k.next;
          ends = IfSome_then left input (λ input is. subst (λ (bytes : List ℕ). (k.k ≤ length bytes) × EndsAfter t.n bytes k.k k.lines e) (sym is) (k.within, k.ends));
          talks = subst (λ (w : List Watched). Talks p (seen_trace t) first_session watch k.lines k.text k.next w) (sym same) k.talks;
        }

        by : (e : End) (k : Talked p t first_session watch bytes rest new told before mid e) → IsDebugWork p t x (end_work e k.text)
        by ends.Over k = ended ends.Over k k.stands.1
        by ends.InputFault k = ended ends.InputFault k k.stands.1
        by ends.InputFull k = ended ends.InputFull k k.stands.1
        by ends.Write k = inr (record {
          lines = k.lines;
          last = k.next;
          watch = k.watch;
          first = IfSome_then left input (λ input is. subst (λ (bytes : List ℕ). IsFront k.lines (before_quit t.n (lines_of (read_of bytes)))) (sym is) k.ends);
          talks = k.talks;
        })
        by ends.Memory k = inr (record {
          lines = k.lines;
          last = k.next;
          watch = k.watch;
          first = IfSome_then left input (λ input is. subst (λ (bytes : List ℕ). IsFront k.lines (before_quit t.n (lines_of (read_of bytes)))) (sym is) k.ends);
          talks = k.talks;
        })

    took_by : (e : End) (text : List ℕ) → is_take_fault (end_work e text) ≡ is_fault_end e
    took_by ends.Over text = refl
    took_by ends.InputFault text = refl
    took_by ends.InputFull text = refl
    took_by ends.Write text = refl
    took_by ends.Memory text = refl

    told_by : IfSome left (λ input. input ≡ bytes) → (was at now takes takes' : ℕ) (status : Status)
        → BelongsTo (is_fault_end end) takes takes' → BelongsTo (is_write_end end) was at
        → ((text : List ℕ) (before : Option (List ℕ)) (was : ℕ) → PrintsUntil end before mid text → BelongsTo (is_write_end end) was at
        → Tells (end_work end text) before after was now status)
        → TellsDebug p t x before after was now takes takes' status
    told_by input was at now takes takes' status took cause tells = record {
      work = end_work end k.text;
      is = debug_work input;
      took = subst (λ (b : Bool). BelongsTo b takes takes') (sym (took_by end k.text)) took;
      tells = tells k.text before was k.printed cause;
    }

  -- over a source that tells its bytes, and over any other
  pub debug_told : (rest : Option (List ℕ)) → IfSome left (λ bytes. Talked p t first_session watch bytes rest new told before mid end)
      → (bytes : List ℕ) × Talked p t first_session watch bytes (Some []) new told before mid end
      → (was at now takes takes' : ℕ) (status : Status) → BelongsTo (is_fault_end end) takes takes' → BelongsTo (is_write_end end) was at
      → ((text : List ℕ) (before : Option (List ℕ)) (was : ℕ) → PrintsUntil end before mid text → BelongsTo (is_write_end end) was at
      → Tells (end_work end text) before after was now status)
      → TellsDebug p t x before after was now takes takes' status
  debug_told rest of_input of_taken was at now takes takes' status took cause tells = by left refl of_input
    where
      by : (o : Option (List ℕ)) → left ≡ o → IfSome o (λ bytes. Talked p t first_session watch bytes rest new told before mid end)
          → TellsDebug p t x before after was now takes takes' status
      by None is h =
          told_by of_taken.0 (Some []) of_taken.1 (subst (λ (o : Option (List ℕ)). IfSome o (λ input. input ≡ of_taken.0)) (sym is) tt)
          was at now takes takes' status took cause tells
      by (Some bytes) is h =
          told_by bytes rest h (subst (λ (o : Option (List ℕ)). IfSome o (λ input. input ≡ bytes)) (sym is) refl)
          was at now takes takes' status took cause tells

-- there was want of memory before the first line
pub debug_nothing : (p : Program) (t : Content) (x : Call) (before : Option (List ℕ)) (was takes : ℕ)
    → TellsDebug p t x before before was was takes takes statuses.WantOfMemory
debug_nothing p t x before was takes = record {
  work = Short [];
  is = inl refl;
  took = stands_still false takes refl;
  tells = inr (refl, refl, appends_none before);
}

-- ---- the command

module _ (F : Option Files) (program trace : List ℕ) (p : Program) (t : Content) (h : IfSome F (λ held. AreReplayed held program trace p t))
    (x : Call) where
  done : (held : Files) (text : List ℕ) → AreReplayed held program trace p t → Debugged p t x ends.Over text
      → CommandAnswer x (Debug program trace) held (reply statuses.Done text held)
  done held text k session = inl (behind_pair held program trace p t k [] (IsDone x (Debug program trace) held) _
      (text, held, (record { of_program = p; content = t; has = k; session = session }, refl), refl))

  pub debug_bears : (work : Work) → IsDebugWork p t x work → Bears x (Debug program trace) F work
  debug_bears (Whole text) is = record {
    works = IfSome_then F h (λ held k. (held, refl, done held text k is));
    is_work = tt;
    absent = refl;
    fault = refl;
    unbroken = refl;
  }
  debug_bears (Ending text refusals.InputFault) is = record {
    works = IfSome_then F h (λ held k.
        (held, refl, inr (inr (inl (record { replies = text; debugs = record { of_program = p; content = t; has = k; session = is }; is = refl })))));
    is_work = tt;
    absent = refl;
    fault = refl;
    unbroken = refl;
  }
  debug_bears (Ending text refusals.InputFull) is = record {
    works = IfSome_then F h (λ held k.
        (held, refl, inr (inr (inr (record { replies = text; debugs = record { of_program = p; content = t; has = k; session = is }; is = refl })))));
    is_work = tt;
    absent = refl;
    fault = refl;
    unbroken = refl;
  }
  debug_bears (Short text) (inl is) = record {
    works = IfSome_then F h (λ held k.
        (held, refl, subst (λ (u : List ℕ). CommandAnswer x (Debug program trace) held (reply statuses.WantOfMemory u held)) (sym is) (nothing_short x (Debug program trace) held)));
    is_work = tt;
    absent = refl;
    fault = refl;
    unbroken = refl;
  }
  debug_bears (Short text) (inr is) = record {
    works = IfSome_then F h (λ held k.
        (held, refl, inr (inl (text, held, inr (record { of_program = p; content = t; has = k; session = is }, refl), refl))));
    is_work = tt;
    absent = refl;
    fault = refl;
    unbroken = refl;
  }
  debug_bears (Refusing r) is = absurd is
  debug_bears Broken is = absurd is
  debug_bears (Ending text refusals.Usage) is = absurd is
  debug_bears (Ending text (refusals.Absent name)) is = absurd is
  debug_bears (Ending text (refusals.ReadFault name)) is = absurd is
  debug_bears (Ending text (refusals.TooLong name)) is = absurd is
  debug_bears (Ending text (refusals.ProgramRefused kind line)) is = absurd is
  debug_bears (Ending text (refusals.ScheduleRefused kind place)) is = absurd is
  debug_bears (Ending text (refusals.TraceDamaged kind place)) is = absurd is
  debug_bears (Ending text (refusals.OtherProgram of_trace of_file)) is = absurd is
  debug_bears (Ending text (refusals.Stuck n events counts)) is = absurd is
  debug_bears (Ending text (refusals.Stopped turns)) is = absurd is
  debug_bears (Ending text (refusals.NotItsTrace letter)) is = absurd is

-- such work of a program and a trace that the files hold was told
pub debug_carries : {X : Type 0} (program trace : List ℕ) (p : Program) (t : Content) (x : Call) (Q : List ℕ → Type 0) (found : X) (before after : Outside)
    (takes takes' : ℕ) (status : Status) → IfSome before.files (λ held. AreReplayed held program trace p t)
    → TellsDebug p t x before.given after.given before.faults after.faults takes takes' status
    → Counts {X = X} Q before.absents after.absents before.reads after.reads (Ok found) → after.files ≡ before.files → after.writes ≡ before.writes
    → CarriesOut x (Debug program trace) before after takes takes' status
debug_carries program trace p t x Q found before after takes takes' status h d counts same writes =
    carried_out x Q found (Debug program trace) before after takes takes' status (IsDebugWork p t x)
    (record { work = d.work; is = d.is; tells = d.tells }) d.took (debug_bears before.files program trace p t h x) counts same writes
