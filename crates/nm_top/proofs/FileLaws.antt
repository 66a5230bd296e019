-- What a file that is demanded gives, and the replies that follow from it.
use Rattle.std.proofs.Common.{◌≡◌, ◌≤◌, ℕ, List, [], ◌∷◌, ◌++◌, length, true, false, Option, None, Some, Ok, Err, MatchOption, ap, sym, ◌∙◌, subst, inl, inr}
use Rattle.std.specs.Prelude.{◌⊎◌, IsSomeAnd}
use Rattle.std.specs.FinMap.{get}
use Rattle.nm_outside.specs.Files.{Files}
use Rattle.c_tree.specs.declared.program.Program.{Program}
use Rattle.schedules.specs.declared.reader.ScheduleFault.{ScheduleFault}
use Rattle.schedules.specs.declared.reader.ScheduleFault.TheVariants as faults
use Rattle.schedules.specs.Texts.{text_turns}
use Rattle.report.specs.declared.cause.Refusal.TheVariants as refusals
use Rattle.report.specs.Texts.{refusal_line, absent_line, read_fault_line, too_long_line}
use Rattle.nm_top.specs.declared.status.Status.TheVariants.{Absent, ReadFault, TooLong}
use Rattle.nm_top.specs.declared.stop.Stop.{Stop}
use Rattle.nm_top.specs.declared.stop.Stop.TheVariants.{Refused, Memory}
use Rattle.nm_top.specs.Schedules.{IsFirstBad, BadPlace, schedule_cause}
use Rattle.nm_top.specs.Replies.{Reply, reply, Says}
use Rattle.nm_top.specs.Finishing.{finished}
use Rattle.nm_top.specs.Demands.{Demand, ProgramText, ScheduleText, TraceText, SameProgram, TraceSchedule, Finishes, Matches, OwnProgram, Fetch, program_file, trace_file, fetch_of, Admits, Holds, HoldsIn, HasTrace, HasDigest, AreReplayed, IsMissing, IsPastLimit, IsMet}
use Rattle.nm_top.specs.Answers.{IsReason, missing, too_long, refused, Demanding}
use Rattle.nm_top.specs.private.Works.{Stops, Nothing, IsUnfetched, IsUnmet}
use Rattle.sha2.specs.Sha256.{sha256}
use Rattle.event_list.specs.Turns.{all_reached}
use Rattle.trace_file.specs.Content.{Content}
use Rattle.trace_file.specs.Outcomes.{IsSpelling}
use Rattle.trace_file.proofs.Walk.{one_trace, no_damage}
use Rattle.replay_core.specs.Gates.{seen_trace}
use Rattle.cut_witness.specs.declared.comparisons.Compared.TheVariants.{Same, Differs}
use Rattle.cut_witness.specs.Comparisons.{HasEntries}
use Rattle.cut_witness.proofs.EntryFacts.{one_comparison}
use Rattle.nm_top.specs.Programs.{Reads}
use Rattle.nm_top.specs.SoakText.{soak_text}
use Rattle.nm_top.proofs.ProgramLaws.{only_program}

same_reached : (p q : Program) (t u : Content) → p ≡ q → t ≡ u → all_reached (seen_trace t) (finished p t).events ≡ all_reached (seen_trace u) (finished q u).events
same_reached p q t u e f =
    ap (λ (v : Content). all_reached (seen_trace v) (finished p v).events) f ∙ ap (λ (q : Program). all_reached (seen_trace u) (finished q u).events) e

-- ---- what tells why a demand isn't met is told of nothing that meets it

module _ (held : Files) where
  pub one_text : (fetch : Fetch) (P Q : List ℕ → Type 0) → HoldsIn held P fetch → HoldsIn held Q fetch → (bytes : List ℕ) × P bytes × Q bytes
  one_text fetch P Q p q = by (get held fetch.name) p q
    where
      by : (o : Option (List ℕ)) → IsSomeAnd o (λ bytes. (length bytes ≤ fetch.limit) × P bytes) → IsSomeAnd o (λ bytes. (length bytes ≤ fetch.limit) × Q bytes)
          → (bytes : List ℕ) × P bytes × Q bytes
      by None p q = absurd p
      by (Some bytes) p q = (bytes, p.1, q.1)

  -- a file has one trace, and one program
  pub same_trace : (trace : List ℕ) (t u : Content) → HasTrace held trace t → HasTrace held trace u → t ≡ u
  same_trace trace t u a b = let k = one_text (trace_file trace) (λ bytes. IsSpelling t bytes) (λ bytes. IsSpelling u bytes) a b in one_trace t u k.0 k.1 k.2

  pub one_replay : (program trace : List ℕ) (p q : Program) (t u : Content) → AreReplayed held program trace p t → AreReplayed held program trace q u → (p ≡ q) × (t ≡ u)
  one_replay program trace p q t u a b =
      let k = one_text (program_file program) (λ text. Reads text p × (t.digest ≡ sha256 text)) (λ text. Reads text q × (u.digest ≡ sha256 text)) a.has_program b.has_program in
      ((only_program k.0).one p q k.1.0 k.2.0, same_trace trace t u a.has_trace b.has_trace)

  same_digest : (program trace : List ℕ) (t u : Content) (digest : List ℕ) → HasDigest held program trace t t.digest → HasDigest held program trace u digest → u.digest ≡ digest
  same_digest program trace t u digest a b =
      let k = one_text (program_file program) (λ text. t.digest ≡ sha256 text) (λ text. digest ≡ sha256 text) a.of_file b.of_file in
      sym (ap (λ (v : Content). v.digest) (same_trace trace t u a.has_trace b.has_trace)) ∙ (k.1 ∙ sym k.2)

  reason_refuses : (demand : Demand) (text line : List ℕ) → IsReason demand held text line → Admits demand held text → ⊥
  reason_refuses (ProgramText name) text line why meets = (only_program text).apart meets.0 why.0 meets.1 why.1
  reason_refuses (ScheduleText name n) text line why meets =
      let bad = why.1 in let e : Err bad.fault ≡ text_turns n text = sym bad.is in let k = e ∙ meets.1 in absurd cc
  reason_refuses (TraceText name) text line why meets = no_damage meets.0 why.0 text meets.1 why.1
  reason_refuses (SameProgram program trace) text line why meets = why.differs (same_digest program trace meets.0 why.content why.digest meets.1 why.has)
  reason_refuses (TraceSchedule trace name) text line why meets =
      let bad = why.is_first in
      let same = same_trace trace meets.0 why.content meets.2 why.has_trace in
      let reads : text_turns why.content.n text ≡ Ok meets.1 = subst (λ (t : Content). text_turns t.n text ≡ Ok meets.1) same meets.3 in
      let e : Err bad.fault ≡ Ok meets.1 = sym bad.is ∙ reads in absurd cc
  reason_refuses (Finishes program trace) text line why meets =
      let same = one_replay program trace meets.0 why.of_program meets.1 why.content meets.2 why.has in
      let e : true ≡ false = sym meets.3 ∙ (same_reached meets.0 why.of_program meets.1 why.content same.0 same.1 ∙ why.below) in absurd cc
  reason_refuses (Matches program trace) text line why meets =
      let same = one_replay program trace meets.0 why.of_program meets.1 why.content meets.2 why.has in
      let entries = subst (λ (p : Program). HasEntries why.content.mask why.content.notes why.content.lost (finished p why.content).events) same.0
      (subst (λ (t : Content). HasEntries t.mask t.notes t.lost (finished meets.0 t).events) same.1 meets.3) in
      let e : Differs why.first ≡ Same = one_comparison why.content.mask why.content.notes why.content.lost (finished why.of_program why.content).events (Differs why.first) Same why.is_first entries in
      absurd cc
  reason_refuses OwnProgram text line why meets = (only_program soak_text).apart meets.0 why.0 meets.1 why.1

-- ---- what stopped a command at a demand

module _ (demand : Demand) (held : Files) (fetch : Fetch) (is : fetch_of demand ≡ Some fetch) where
  -- this holds of the demand's file
  fetched : (P : Fetch → Type 0) → P fetch → IsSomeAnd (fetch_of demand) P
  fetched P p = subst (λ (o : Option Fetch). IsSomeAnd o P) (sym is) p

  holds : (P : List ℕ → Type 0) → HoldsIn held P fetch → Holds demand P held
  holds P p = subst (λ (o : Option Fetch). MatchOption o (P []) (HoldsIn held P)) (sym is) p

  -- its file wasn't fetched
  pub unfetched_stops : (stop : Stop) → IsUnfetched held fetch stop → Stops (Demanding (demand ∷ []) Nothing held) held stop
  unfetched_stops (Refused refusals.Usage) h = absurd h
  unfetched_stops (Refused (refusals.Absent name)) h =
      inr (inl (missing (fetched (λ f. IsMissing held f × Says held Absent (absent_line f.name) (reply Absent (absent_line name.now) held))
      (h.1, ap (λ n. reply Absent (absent_line n) held) h.0))))
  unfetched_stops (Refused (refusals.ReadFault name)) h =
      inl (fetched (λ f. Says held ReadFault (read_fault_line f.name) (reply ReadFault (read_fault_line name.now) held))
      (ap (λ n. reply ReadFault (read_fault_line n) held) h))
  unfetched_stops (Refused (refusals.TooLong name)) h =
      inr (inl (too_long (fetched (λ f. IsPastLimit held f × Says held TooLong (too_long_line f.name) (reply TooLong (too_long_line name.now) held))
      (h.1, ap (λ n. reply TooLong (too_long_line n) held) h.0))))
  unfetched_stops (Refused (refusals.ProgramRefused kind line)) h = absurd h
  unfetched_stops (Refused (refusals.ScheduleRefused kind place)) h = absurd h
  unfetched_stops (Refused (refusals.TraceDamaged kind place)) h = absurd h
  unfetched_stops (Refused (refusals.OtherProgram of_trace of_file)) h = absurd h
  unfetched_stops (Refused (refusals.Stuck n events counts)) h = absurd h
  unfetched_stops (Refused (refusals.Stopped turns)) h = absurd h
  unfetched_stops (Refused (refusals.NotItsTrace letter)) h = absurd h
  unfetched_stops (Refused refusals.InputFault) h = absurd h
  unfetched_stops (Refused refusals.InputFull) h = absurd h
  unfetched_stops Memory h = tt

  -- its bytes don't meet it
  pub unmet_stops : (text : List ℕ) → HoldsIn held (λ bytes. text ≡ bytes) fetch → (stop : Stop) → IsUnmet demand held text stop → Stops (Demanding (demand ∷ []) Nothing held) held stop
  unmet_stops text there Memory h = tt
  unmet_stops text there (Refused r) h =
      inr (inl (refused (refusal_line r) (holds (λ bytes. (Admits demand held bytes → ⊥) × IsReason demand held bytes (refusal_line r)) (by (get held fetch.name) there))
      (ap (λ s. reply s (refusal_line r) held) h.0)))
    where
      by : (o : Option (List ℕ)) → IsSomeAnd o (λ bytes. (length bytes ≤ fetch.limit) × (text ≡ bytes))
          → IsSomeAnd o (λ bytes. (length bytes ≤ fetch.limit) × ((Admits demand held bytes → ⊥) × IsReason demand held bytes (refusal_line r)))
      by None k = absurd k
      by (Some bytes) k =
          (k.0, subst (λ (b : List ℕ). (Admits demand held b → ⊥) × IsReason demand held b (refusal_line r)) k.1 (reason_refuses held demand text (refusal_line r) h.1, h.1))

-- a demand that fetches no file isn't met
pub unmet_at_once : (demand : Demand) (held : Files) → fetch_of demand ≡ None → (stop : Stop) → IsUnmet demand held [] stop → Stops (Demanding (demand ∷ []) Nothing held) held stop
unmet_at_once demand held none Memory h = tt
unmet_at_once demand held none (Refused r) h =
    inr (inl (refused (refusal_line r) (subst (λ (o : Option Fetch). MatchOption o (P []) (HoldsIn held P)) (sym none) (reason_refuses held demand [] (refusal_line r) h.1, h.1))
    (ap (λ s. reply s (refusal_line r) held) h.0)))
  where
    P : List ℕ → Type 0
    P bytes = (Admits demand held bytes → ⊥) × IsReason demand held bytes (refusal_line r)

-- what replies to the first demands replies to all
demands_on : (some more : List Demand) (done : Reply → Type 0) (held : Files) (reply : Reply) → Demanding some Nothing held reply → Demanding (some ++ more) done held reply
demands_on [] more done held reply h = absurd h
demands_on (demand ∷ some) more done held reply (inl h) = inl h
demands_on (demand ∷ some) more done held reply (inr (inl h)) = inr (inl h)
demands_on (demand ∷ some) more done held reply (inr (inr h)) = inr (inr (h.0, demands_on some more done held reply h.1))

-- what stopped a command at the first demands stopped it
pub stops_on : (some more : List Demand) (done : Reply → Type 0) (held : Files) (stop : Stop) → Stops (Demanding some Nothing held) held stop → Stops (Demanding (some ++ more) done held) held stop
stops_on some more done held (Refused r) h = demands_on some more done held _ h
stops_on some more done held Memory h = tt

-- a demand that is met leaves what follows it to stop the command
pub later_stops : (demand : Demand) (held : Files) → IsMet demand held → (demands : List Demand) (stop : Stop) → Stops (Demanding demands Nothing held) held stop
    → Stops (Demanding (demand ∷ demands) Nothing held) held stop
later_stops demand held met demands (Refused r) h = inr (inr (met, h))
later_stops demand held met demands Memory h = tt

-- ---- what was read

-- what was read tells its first bad word
pub first_bad : (n : ℕ) (text : List ℕ) (fault : ScheduleFault) (bad : BadPlace) → schedule_cause fault ≡ Some bad → (fault ≡ faults.Memory) ⊎ (text_turns n text ≡ Err fault) → IsFirstBad n text bad
first_bad n text fault bad told (inl memory) = let none = sym (ap schedule_cause memory) ∙ told in absurd cc
first_bad n text fault bad told (inr is) = record { fault = fault; is = is; told = told }

-- bytes that are held and of which more is known
pub held_more : (held : Files) (fetch : Fetch) (P Q : List ℕ → Type 0) → ((bytes : List ℕ) → P bytes → Q bytes) → HoldsIn held P fetch → HoldsIn held Q fetch
held_more held fetch P Q f h = by (get held fetch.name) h
  where
    by : (o : Option (List ℕ)) → IsSomeAnd o (λ bytes. (length bytes ≤ fetch.limit) × P bytes) → IsSomeAnd o (λ bytes. (length bytes ≤ fetch.limit) × Q bytes)
    by None k = absurd k
    by (Some bytes) k = (k.0, f bytes k.1)

-- bytes that were read through a reference are those that are held
pub held_read : (held : Files) (fetch : Fetch) (got shown : List ℕ) → shown ≡ got → HoldsIn held (λ bytes. got ≡ bytes) fetch → HoldsIn held (λ bytes. shown ≡ bytes) fetch
held_read held fetch got shown same h = held_more held fetch (λ bytes. got ≡ bytes) (λ bytes. shown ≡ bytes) (λ bytes e. same ∙ e) h
