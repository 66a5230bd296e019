-- Which demand of a command decides its status.
use Rattle.std.proofs.Common.{◌≡◌, ◌≢◌, ◌≤◌, ◌<◌, ℕ, List, [], ◌∷◌, length, true, Option, None, Some, IfSome, MatchOption, inl, inr, refl, ap, sym, ◌∙◌, subst, arith}
use Rattle.std.specs.Prelude.{◌⊎◌, if◌then◌else◌, IsNone, IsSomeAnd}
use Rattle.std.specs.FinMap.{get}
use Rattle.std.proofs.lemmas.Bool.{false≢true}
use Rattle.std.proofs.lemmas.Option.{IfSome_then}
use Rattle.nm_outside.specs.Files.{Files}
use Rattle.report.specs.Texts.{usage_line, absent_line, read_fault_line, too_long_line}
use Rattle.nm_top.specs.declared.status.Status.{Status}
use Rattle.nm_top.specs.declared.status.Status.TheVariants.{Done, Usage, Absent, ReadFault, WriteFault, TooLong, WantOfMemory, InputFull}
use Rattle.nm_top.specs.Commands.{Command, command_of}
use Rattle.nm_top.specs.Commands as commands
use Rattle.nm_top.specs.Statuses.{is_of_files}
use Rattle.nm_top.specs.Replies.{Reply, Says, Answers, Owed}
use Rattle.nm_top.specs.Demands.{Demand, ProgramText, ScheduleText, TraceText, SameProgram, TraceSchedule, Finishes, Matches, OwnProgram, Fetch, fetch_of, Admits, HoldsIn, IsMissing, IsPastLimit, IsMet, AreMet, FailsAs, missing, too_long, refused, FirstFailsAs, refusal_of}
use Rattle.nm_top.specs.Answers as answers
use Rattle.nm_top.specs.Watches.{Call}
use Rattle.nm_top.specs.Answers.{IsReason, Refuses, FailsToRead, Demanding, IsDone, IsShort, EndsBehind, CommandAnswer, Answer, demands_of, Due, Ready, InputEnd, IsEnd, EndsWith, IsOverfull, Overfills}
use Rattle.nm_outside.specs.Causes.{Rose}
use Rattle.nm_top.proofs.PairLaws.{pair_met}
use Rattle.nm_top.specs.declared.talk.End.TheVariants as ends
use Rattle.nm_top.specs.Debugging.{EndsAfter}
use Rattle.nm_top.proofs.LawFacts.{over_law, full_law}

-- ---- how one demand fails

module _ (held : Files) where
  missing_holds : (P : List ℕ → Type 0) (o : Option Fetch) → IsSomeAnd o (IsMissing held) → MatchOption o (P []) (HoldsIn held P) → ⊥
  missing_holds P None m h = m
  missing_holds P (Some fetch) m h = by (get held fetch.name) m h
    where
      by : (o : Option (List ℕ)) → IsNone o → IsSomeAnd o (λ bytes. (length bytes ≤ fetch.limit) × P bytes) → ⊥
      by None m h = h
      by (Some bytes) m h = absurd cc

  long_holds : (P : List ℕ → Type 0) (o : Option Fetch) → IsSomeAnd o (IsPastLimit held) → MatchOption o (P []) (HoldsIn held P) → ⊥
  long_holds P None m h = m
  long_holds P (Some fetch) m h = by (get held fetch.name) m h
    where
      by : (o : Option (List ℕ)) → IsSomeAnd o (λ bytes. fetch.limit < length bytes) → IsSomeAnd o (λ bytes. (length bytes ≤ fetch.limit) × P bytes) → ⊥
      by None m h = m
      by (Some bytes) m h = omega (arith, m, h.0)

  missing_long : (o : Option Fetch) → IsSomeAnd o (IsMissing held) → IsSomeAnd o (IsPastLimit held) → ⊥
  missing_long None m h = m
  missing_long (Some fetch) m h = by (get held fetch.name) m h
    where
      by : (o : Option (List ℕ)) → IsNone o → IsSomeAnd o (λ bytes. fetch.limit < length bytes) → ⊥
      by None m h = h
      by (Some bytes) m h = absurd cc

  both_hold : (P Q : List ℕ → Type 0) → ((bytes : List ℕ) → P bytes → Q bytes → ⊥) → (o : Option Fetch) → MatchOption o (P []) (HoldsIn held P) → MatchOption o (Q []) (HoldsIn held Q) → ⊥
  both_hold P Q f None p q = f [] p q
  both_hold P Q f (Some fetch) p q = by (get held fetch.name) p q
    where
      by : (o : Option (List ℕ)) → IsSomeAnd o (λ bytes. (length bytes ≤ fetch.limit) × P bytes) → IsSomeAnd o (λ bytes. (length bytes ≤ fetch.limit) × Q bytes) → ⊥
      by None p q = p
      by (Some bytes) p q = f bytes p.1 q.1

  -- what fails isn't met
  unmet : (demand : Demand) (status : Status) → FailsAs status demand held → IsMet demand held → ⊥
  unmet demand status (missing e m) met = missing_holds (Admits demand held) (fetch_of demand) m met
  unmet demand status (too_long e l) met = long_holds (Admits demand held) (fetch_of demand) l met
  unmet demand status (refused e r) met = both_hold (λ bytes. Admits demand held bytes → ⊥) (Admits demand held) (λ bytes n a. n a) (fetch_of demand) r met

  -- it fails in one way
  one_status : (demand : Demand) (s t : Status) → FailsAs s demand held → FailsAs t demand held → s ≡ t
  one_status demand s t (missing e m) (missing k n) = e ∙ sym k
  one_status demand s t (missing e m) (too_long k n) = absurd (missing_long (fetch_of demand) m n)
  one_status demand s t (missing e m) (refused k n) = absurd (missing_holds (λ bytes. Admits demand held bytes → ⊥) (fetch_of demand) m n)
  one_status demand s t (too_long e m) (missing k n) = absurd (missing_long (fetch_of demand) n m)
  one_status demand s t (too_long e m) (too_long k n) = e ∙ sym k
  one_status demand s t (too_long e m) (refused k n) = absurd (long_holds (λ bytes. Admits demand held bytes → ⊥) (fetch_of demand) m n)
  one_status demand s t (refused e m) (missing k n) = absurd (missing_holds (λ bytes. Admits demand held bytes → ⊥) (fetch_of demand) n m)
  one_status demand s t (refused e m) (too_long k n) = absurd (long_holds (λ bytes. Admits demand held bytes → ⊥) (fetch_of demand) n m)
  one_status demand s t (refused e m) (refused k n) = e ∙ sym k

  some_both : (P : Fetch → Type 0) (S : Fetch → Type 0) (A : Type 0) → ((f : Fetch) → S f → A) → (o : Option Fetch) → IsSomeAnd o (λ f. P f × S f) → A × IsSomeAnd o P
  some_both P S A g None h = absurd h
  some_both P S A g (Some f) h = (g f h.1, h.0)

  holds_less : (P Q : List ℕ → Type 0) → ((bytes : List ℕ) → P bytes → Q bytes) → (o : Option Fetch) → MatchOption o (P []) (HoldsIn held P) → MatchOption o (Q []) (HoldsIn held Q)
  holds_less P Q f None h = f [] h
  holds_less P Q f (Some fetch) h = by (get held fetch.name) h
    where
      by : (o : Option (List ℕ)) → IsSomeAnd o (λ bytes. (length bytes ≤ fetch.limit) × P bytes) → IsSomeAnd o (λ bytes. (length bytes ≤ fetch.limit) × Q bytes)
      by None k = absurd k
      by (Some bytes) k = (k.0, f bytes k.1)

  -- a refusal of a demand is its failing
  pub fails : (demand : Demand) (reply : Reply) → Refuses demand held reply → FailsAs reply.status demand held
  fails demand reply (answers.missing h) =
      let b = some_both (IsMissing held) (λ f. Says held Absent (absent_line f.name) reply) (reply.status ≡ Absent) (λ f says. ap (λ (r : Reply). r.status) says) (fetch_of demand) h in missing b.0 b.1
  fails demand reply (answers.too_long h) =
      let b = some_both (IsPastLimit held) (λ f. Says held TooLong (too_long_line f.name) reply) (reply.status ≡ TooLong) (λ f says. ap (λ (r : Reply). r.status) says) (fetch_of demand) h in too_long b.0 b.1
  fails demand reply (answers.refused line h says) =
      refused (ap (λ (r : Reply). r.status) says) (holds_less (λ bytes. (Admits demand held bytes → ⊥) × IsReason demand held bytes line) (λ bytes. Admits demand held bytes → ⊥) (λ bytes k. k.0) (fetch_of demand) h)

  pub read_status : (reply : Reply) (demand : Demand) → FailsToRead demand held reply → reply.status ≡ ReadFault
  read_status reply demand h = by (fetch_of demand) h
    where
      by : (o : Option Fetch) → IsSomeAnd o (λ fetch. Says held ReadFault (read_fault_line fetch.name) reply) → reply.status ≡ ReadFault
      by None k = absurd k
      by (Some fetch) says = ap (λ (r : Reply). r.status) says

-- a demand's refusal is of files
refusal_of_files : (demand : Demand) → is_of_files (refusal_of demand) ≡ true
refusal_of_files (ProgramText name) = refl
refusal_of_files (ScheduleText name n) = refl
refusal_of_files (TraceText name) = refl
refusal_of_files (SameProgram program trace) = refl
refusal_of_files (TraceSchedule trace name) = refl
refusal_of_files (Finishes program trace) = refl
refusal_of_files (Matches program trace) = refl
refusal_of_files OwnProgram = refl

pub fails_of_files : (held : Files) (demand : Demand) (status : Status) → FailsAs status demand held → is_of_files status ≡ true
fails_of_files held demand status (missing e m) = ap is_of_files e
fails_of_files held demand status (too_long e m) = ap is_of_files e
fails_of_files held demand status (refused e m) = ap is_of_files e ∙ refusal_of_files demand

-- ---- demands in their order

module _ (held : Files) (done : Reply → Type 0) (ends : (reply : Reply) → done reply → reply.status ≡ Done) where
  -- a status that refuses files is that of the first demand that isn't met
  first_fails : (demands : List Demand) (reply : Reply) → Demanding demands done held reply → is_of_files reply.status ≡ true → FirstFailsAs reply.status demands held
  first_fails [] reply h e = absurd (false≢true (sym (ap is_of_files (ends reply h)) ∙ e))
  first_fails (demand ∷ demands) reply (inl h) e = absurd (false≢true (sym (ap is_of_files (read_status held reply demand h)) ∙ e))
  first_fails (demand ∷ demands) reply (inr (inl h)) e = inl (fails held demand reply h)
  first_fails (demand ∷ demands) reply (inr (inr h)) e = inr (h.0, first_fails demands reply h.1 e)

  -- where no read fails, the first demand that isn't met decides
  decided : (demands : List Demand) (reply : Reply) (status : Status) → Demanding demands done held reply → reply.status ≢ ReadFault → FirstFailsAs status demands held → reply.status ≡ status
  decided [] reply status h n first = absurd first
  decided (demand ∷ demands) reply status (inl h) n first = absurd (n (read_status held reply demand h))
  decided (demand ∷ demands) reply status (inr (inl h)) n (inl first) = one_status held demand reply.status status (fails held demand reply h) first
  decided (demand ∷ demands) reply status (inr (inl h)) n (inr first) = absurd (unmet held demand reply.status (fails held demand reply h) first.0)
  decided (demand ∷ demands) reply status (inr (inr h)) n (inl first) = absurd (unmet held demand status first h.0)
  decided (demand ∷ demands) reply status (inr (inr h)) n (inr first) = decided demands reply status h.1 n first.1

  -- where all are met, the command is done
  all_met : (demands : List Demand) (reply : Reply) → Demanding demands done held reply → reply.status ≢ ReadFault → AreMet demands held → done reply
  all_met [] reply h n met = h
  all_met (demand ∷ demands) reply (inl h) n met = absurd (n (read_status held reply demand h))
  all_met (demand ∷ demands) reply (inr (inl h)) n met = absurd (unmet held demand reply.status (fails held demand reply h) met.0)
  all_met (demand ∷ demands) reply (inr (inr h)) n met = all_met demands reply h.1 n met.1

  -- no demand finds an input full
  pub never_full : (demands : List Demand) (reply : Reply) → Demanding demands done held reply → reply.status ≢ InputFull
  never_full [] reply h e = let k = sym (ends reply h) ∙ e in absurd cc
  never_full (demand ∷ demands) reply (inl h) e = let k = sym (read_status held reply demand h) ∙ e in absurd cc
  never_full (demand ∷ demands) reply (inr (inl h)) e =
      absurd (false≢true (ap is_of_files (sym e) ∙ fails_of_files held demand reply.status (fails held demand reply h)))
  never_full (demand ∷ demands) reply (inr (inr h)) e = never_full demands reply h.1 e

done_ends : (x : Call) (command : Command) (held : Files) (r : Reply) → IsDone x command held r → r.status ≡ Done
done_ends x command held r h = ap (λ (r : Reply). r.status) h.3

pub short_ends : (x : Call) (command : Command) (held : Files) (r : Reply) → IsShort x command held r → r.status ≡ WantOfMemory
short_ends x command held r h = ap (λ (r : Reply). r.status) h.3

-- where the input of a debugger ended it, a take failed or the input is full
pub ended_status : (x : Call) (command : Command) (held : Files) (r : Reply) → EndsBehind x command held r → (r.status ≡ ReadFault) ⊎ (r.status ≡ InputFull)
ended_status x (commands.Debug program trace) held r (inl h) = inl (ap (λ (r : Reply). r.status) h.is)
ended_status x (commands.Debug program trace) held r (inr h) = inr (ap (λ (r : Reply). r.status) h.is)
ended_status x (commands.Run program n schedule mask) held r h = absurd h
ended_status x (commands.Record program n schedule trace version mask) held r h = absurd h
ended_status x (commands.Replay program trace schedule) held r h = absurd h
ended_status x (commands.Finish program trace) held r h = absurd h
ended_status x (commands.Certify program trace) held r h = absurd h
ended_status x (commands.Upgrade trace new) held r h = absurd h
ended_status x (commands.Soak seed) held r h = absurd h

-- its demands are met
ended_met : (x : Call) (command : Command) (held : Files) (r : Reply) → EndsBehind x command held r → AreMet (demands_of command) held
ended_met x (commands.Debug program trace) held r (inl h) = pair_met held program trace h.debugs.of_program h.debugs.content h.debugs.has [] tt
ended_met x (commands.Debug program trace) held r (inr h) = pair_met held program trace h.debugs.of_program h.debugs.content h.debugs.has [] tt
ended_met x (commands.Run program n schedule mask) held r h = absurd h
ended_met x (commands.Record program n schedule trace version mask) held r h = absurd h
ended_met x (commands.Replay program trace schedule) held r h = absurd h
ended_met x (commands.Finish program trace) held r h = absurd h
ended_met x (commands.Certify program trace) held r h = absurd h
ended_met x (commands.Upgrade trace new) held r h = absurd h
ended_met x (commands.Soak seed) held r h = absurd h

-- ---- the end of an input

module _ (n k : ℕ) (lines : List (List ℕ)) where
  full_input : (o : Option (List ℕ)) (status : Status) → status ≡ InputFull → IfSome o (λ input. (k ≤ length input) × EndsAfter n input k lines ends.InputFull) → InputEnd n o status
  full_input None status e h = inr e
  full_input (Some input) status e h = e ∙ sym (ap (λ b. if b then InputFull else Done) (full_law n input k lines h.0 h.1))

  over_input : (o : Option (List ℕ)) (status : Status) → status ≡ Done → IfSome o (λ input. (k ≤ length input) × EndsAfter n input k lines ends.Over) → InputEnd n o status
  over_input None status e h = inl e
  over_input (Some input) status e h = e ∙ sym (ap (λ b. if b then InputFull else Done) (over_law n input k lines h.1))

-- a debugger whose input is full
full_end : (x : Call) (command : Command) (held : Files) (r : Reply) → EndsBehind x command held r → r.status ≡ InputFull → IsEnd x held command r.status
full_end x (commands.Debug program trace) held r (inl h) e = let k = sym (ap (λ (r : Reply). r.status) h.is) ∙ e in absurd cc
full_end x (commands.Debug program trace) held r (inr h) e =
    (h.debugs.content, h.debugs.has.has_trace, full_input h.debugs.content.n h.debugs.session.taken h.debugs.session.lines x.input r.status e h.debugs.session.ends)
full_end x (commands.Run program n schedule mask) held r h e = absurd h
full_end x (commands.Record program n schedule trace version mask) held r h e = absurd h
full_end x (commands.Replay program trace schedule) held r h e = absurd h
full_end x (commands.Finish program trace) held r h e = absurd h
full_end x (commands.Certify program trace) held r h e = absurd h
full_end x (commands.Upgrade trace new) held r h e = absurd h
full_end x (commands.Soak seed) held r h e = absurd h

-- it passes its limit
overfull : (x : Call) (command : Command) (held : Files) (r : Reply) → EndsBehind x command held r → r.status ≡ InputFull → IfSome x.input (IsOverfull command held)
overfull x (commands.Debug program trace) held r (inl h) e = let k = sym (ap (λ (r : Reply). r.status) h.is) ∙ e in absurd cc
overfull x (commands.Debug program trace) held r (inr h) e =
    let t = h.debugs.content in
    IfSome_then x.input h.debugs.session.ends (λ input k. (t, h.debugs.has.has_trace, full_law t.n input h.debugs.session.taken h.debugs.session.lines k.0 k.1))
overfull x (commands.Run program n schedule mask) held r h e = absurd h
overfull x (commands.Record program n schedule trace version mask) held r h e = absurd h
overfull x (commands.Replay program trace schedule) held r h e = absurd h
overfull x (commands.Finish program trace) held r h e = absurd h
overfull x (commands.Certify program trace) held r h e = absurd h
overfull x (commands.Upgrade trace new) held r h e = absurd h
overfull x (commands.Soak seed) held r h e = absurd h

-- a command that was carried out
done_end : (x : Call) (command : Command) (held : Files) (r : Reply) → IsDone x command held r → IsEnd x held command r.status
done_end x (commands.Debug program trace) held r h =
    let d = h.2.0 in
    (d.content, d.has.has_trace, over_input d.content.n d.session.taken d.session.lines x.input r.status (ap (λ (r : Reply). r.status) h.3) d.session.ends)
done_end x (commands.Run program n schedule mask) held r h = ap (λ (r : Reply). r.status) h.3
done_end x (commands.Record program n schedule trace version mask) held r h = ap (λ (r : Reply). r.status) h.3
done_end x (commands.Replay program trace schedule) held r h = ap (λ (r : Reply). r.status) h.3
done_end x (commands.Finish program trace) held r h = ap (λ (r : Reply). r.status) h.3
done_end x (commands.Certify program trace) held r h = ap (λ (r : Reply). r.status) h.3
done_end x (commands.Upgrade trace new) held r h = ap (λ (r : Reply). r.status) h.3
done_end x (commands.Soak seed) held r h = ap (λ (r : Reply). r.status) h.3

-- where all demands are met, none fails first
met_no_fail : (held : Files) (status : Status) (demands : List Demand) → AreMet demands held → FirstFailsAs status demands held → ⊥
met_no_fail held status [] met first = first
met_no_fail held status (demand ∷ demands) met (inl fails) = unmet held demand status fails met.0
met_no_fail held status (demand ∷ demands) met (inr first) = met_no_fail held status demands met.1 first.1

-- ---- the answer to words

module _ (x : Call) (words : List (List ℕ)) (told left : Option Files) (before after : Option (List ℕ)) (status : Status) (answer : Answers (Answer x words) told left before after status) where
  -- a status that refuses files is due
  pub refused_due : is_of_files status ≡ true → IfSome told (Due status words)
  refused_due e = by told answer
    where
      of_answer : (held : Files) (c : Command) (r : Reply) → r.status ≡ status → CommandAnswer x c held r → FirstFailsAs status (demands_of c) held
      of_answer held c r is (inl h) = subst (λ (s : Status). FirstFailsAs s (demands_of c) held) is (first_fails held (IsDone x c held) (done_ends x c held) (demands_of c) r h (ap is_of_files is ∙ e))
      of_answer held c r is (inr (inl h)) = absurd (false≢true (ap is_of_files (sym (short_ends x c held r h) ∙ is) ∙ e))
      of_answer held c r is (inr (inr h)) = absurd (no_file (ended_status x c held r h))
        where
          no_file : (r.status ≡ ReadFault) ⊎ (r.status ≡ InputFull) → ⊥
          no_file (inl k) = false≢true (ap is_of_files (sym k ∙ is) ∙ e)
          no_file (inr k) = false≢true (ap is_of_files (sym k ∙ is) ∙ e)

      of_reply : (held : Files) (o : Option Command) (r : Reply) → r.status ≡ status → MatchOption o (Says held Usage usage_line r) (λ c. CommandAnswer x c held r)
          → IsSomeAnd o (λ c. FirstFailsAs status (demands_of c) held)
      of_reply held None r is says = absurd (false≢true (ap is_of_files (sym (ap (λ (r : Reply). r.status) says) ∙ is) ∙ e))
      of_reply held (Some c) r is h = of_answer held c r is h

      by : (o : Option Files) → Answers (Answer x words) o left before after status → IfSome o (Due status words)
      by None h = tt
      by (Some held) (inl k) = absurd (false≢true (sym (ap is_of_files k) ∙ e))
      by (Some held) (inr h) = of_reply held (command_of words) h.0 (sym h.2.answered) h.1

  -- an input is found full where it passes its limit
  pub overfull_input : status ≡ InputFull → IfSome told (λ held. IfSome x.input (Overfills words held))
  overfull_input e = by told answer
    where
      of_answer : (held : Files) (c : Command) (r : Reply) → r.status ≡ InputFull → CommandAnswer x c held r → IfSome x.input (IsOverfull c held)
      of_answer held c r is (inl h) = absurd (never_full held (IsDone x c held) (done_ends x c held) (demands_of c) r h is)
      of_answer held c r is (inr (inl h)) = let k = sym (short_ends x c held r h) ∙ is in absurd cc
      of_answer held c r is (inr (inr h)) = overfull x c held r h is

      of_reply : (held : Files) (o : Option Command) (r : Reply) → r.status ≡ InputFull → MatchOption o (Says held Usage usage_line r) (λ c. CommandAnswer x c held r)
          → IfSome x.input (λ input. IsSomeAnd o (λ c. IsOverfull c held input))
      of_reply held None r is says = let k = sym (ap (λ (r : Reply). r.status) says) ∙ is in absurd cc
      of_reply held (Some c) r is h = of_answer held c r is h

      by : (o : Option Files) → Answers (Answer x words) o left before after status → IfSome o (λ held. IfSome x.input (Overfills words held))
      by None h = tt
      by (Some held) (inl k) = let k = sym k ∙ e in absurd cc
      by (Some held) (inr h) = of_reply held (command_of words) h.0 (sym h.2.answered ∙ e) h.1

  module _ (reads reads' takes takes' writes writes' faults faults' : ℕ) (read_fault : status ≡ ReadFault → Rose reads reads' ⊎ Rose takes takes')
      (write_fault : status ≡ WriteFault → Rose writes writes' ⊎ Rose faults faults') where
    -- what is decided where no read and no take fails is owed
    owed_by : (Q : Command → Files → Type 0) (P : Files → Command → Status → Type 0)
        → ((c : Command) (held : Files) (r : Reply) → Demanding (demands_of c) (IsDone x c held) held r → r.status ≢ ReadFault → Q c held → P held c r.status)
        → ((c : Command) (held : Files) (r : Reply) → EndsBehind x c held r → r.status ≡ InputFull → Q c held → P held c r.status)
        → IfSome told (λ held. IsSomeAnd (command_of words) (λ c. Q c held)
        → Owed (λ s. IsSomeAnd (command_of words) (λ c. P held c s)) reads reads' takes takes' writes writes' faults faults' status)
    owed_by Q P f g = by told answer
      where
        of_answer : (held : Files) (c : Command) (r : Reply) → r.status ≢ ReadFault → Q c held → CommandAnswer x c held r → P held c r.status ⊎ (r.status ≡ WantOfMemory)
        of_answer held c r n q (inl h) = inl (f c held r h n q)
        of_answer held c r n q (inr (inl h)) = inr (short_ends x c held r h)
        of_answer held c r n q (inr (inr h)) = by_input (ended_status x c held r h)
          where
            by_input : (r.status ≡ ReadFault) ⊎ (r.status ≡ InputFull) → P held c r.status ⊎ (r.status ≡ WantOfMemory)
            by_input (inl k) = absurd (n k)
            by_input (inr k) = inl (g c held r h k q)

        of_reply : (held : Files) (o : Option Command) (r : Reply) → r.status ≢ ReadFault → IsSomeAnd o (λ c. Q c held)
            → MatchOption o (Says held Usage usage_line r) (λ c. CommandAnswer x c held r)
            → IsSomeAnd o (λ c. P held c r.status) ⊎ (r.status ≡ WantOfMemory)
        of_reply held None r n q h = absurd q
        of_reply held (Some c) r n q h = of_answer held c r n q h

        at : (held : Files) (r : Reply) → status ≡ r.status → IsSomeAnd (command_of words) (λ c. P held c r.status) ⊎ (r.status ≡ WantOfMemory)
            → IsSomeAnd (command_of words) (λ c. P held c status) ⊎ (status ≡ WantOfMemory)
        at held r e (inl k) = inl (subst (λ (s : Status). IsSomeAnd (command_of words) (λ c. P held c s)) (sym e) k)
        at held r e (inr k) = inr (e ∙ k)

        no_read : Rose reads reads' ⊎ Rose takes takes' → ¬ Rose reads reads' → ¬ Rose takes takes' → ⊥
        no_read (inl k) n m = n k
        no_read (inr k) n m = m k

        no_write : Rose writes writes' ⊎ Rose faults faults' → ¬ Rose writes writes' → ¬ Rose faults faults' → ⊥
        no_write (inl k) n m = n k
        no_write (inr k) n m = m k

        by : (o : Option Files) → Answers (Answer x words) o left before after status
            → IfSome o (λ held. IsSomeAnd (command_of words) (λ c. Q c held)
            → Owed (λ s. IsSomeAnd (command_of words) (λ c. P held c s)) reads reads' takes takes' writes writes' faults faults' status)
        by None a = tt
        by (Some held) (inl k) = λ q r t w m. absurd (no_write (write_fault k) w m)
        by (Some held) (inr h) = λ q r t w m.
            at held h.0 h.2.answered (of_reply held (command_of words) h.0 (λ e. no_read (read_fault (h.2.answered ∙ e)) r t) q h.1)

    owed_some : (due : Status) → IfSome told (λ held. Due due words held
        → Owed (λ s. IsSomeAnd (command_of words) (λ c. s ≡ due)) reads reads' takes takes' writes writes' faults faults' status)
    owed_some due = owed_by (λ c held. FirstFailsAs due (demands_of c) held) (λ held c s. s ≡ due)
        (λ c held r h n first. decided held (IsDone x c held) (done_ends x c held) (demands_of c) r due h n first)
        (λ c held r h full first. absurd (met_no_fail held due (demands_of c) (ended_met x c held r h) first))

    is_some : (A : Type 0) (o : Option Command) → IsSomeAnd o (λ c. A) → A
    is_some A None h = absurd h
    is_some A (Some c) h = h

    owed_at : (due : Status) → IfSome told (λ held. Due due words held
        → Owed (λ s. s ≡ due) reads reads' takes takes' writes writes' faults faults' status)
    owed_at due = IfSome_then told (owed_some due) (λ held f q r t w m. by (f q r t w m))
      where
        by : IsSomeAnd (command_of words) (λ c. status ≡ due) ⊎ (status ≡ WantOfMemory) → (status ≡ due) ⊎ (status ≡ WantOfMemory)
        by (inl k) = inl (is_some (status ≡ due) (command_of words) k)
        by (inr k) = inr k

    -- what is due is owed
    pub owed : IfSome told (λ held. (due : Status) → Due due words held
        → Owed (λ s. s ≡ due) reads reads' takes takes' writes writes' faults faults' status)
    owed = by told owed_at
      where
        by : (o : Option Files) → ((due : Status) → IfSome o (λ held. Due due words held
            → Owed (λ s. s ≡ due) reads reads' takes takes' writes writes' faults faults' status))
            → IfSome o (λ held. (due : Status) → Due due words held
            → Owed (λ s. s ≡ due) reads reads' takes takes' writes writes' faults faults' status)
        by None f = tt
        by (Some held) f = f

    pub complete : IfSome told (λ held. Ready words held
        → Owed (EndsWith x words held) reads reads' takes takes' writes writes' faults faults' status)
    complete = owed_by (λ c held. AreMet (demands_of c) held) (λ held c s. IsEnd x held c s)
        (λ c held r h n met. done_end x c held r (all_met held (IsDone x c held) (done_ends x c held) (demands_of c) r h n met))
        (λ c held r h full met. full_end x c held r h full)
