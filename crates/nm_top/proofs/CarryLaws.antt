-- What a command that was carried out answers.
use Rattle.std.proofs.Common.{◌≡◌, ◌≢◌, ◌⊎◌, ℕ, zero, suc, List, [], ◌∷◌, ◌++◌, Bool, true, false, Option, None, Some, Ok, Err, IfSome, MatchOption, inl, inr, refl, sym, ap, ◌∙◌, subst, arith, append-nil}
use Rattle.std.specs.Prelude.{take}
use Rattle.std.proofs.lemmas.Option.{IfSome_then}
use Rattle.std.specs.Io.KnownBytes.{Appends}
use Rattle.std.specs.Option.{IsSomeAnd, option_and_then}
use Rattle.nm_outside.specs.Causes.{BelongsTo, Rose}
use Rattle.nm_outside.specs.Files.{Files, AppendsPart}
use Rattle.report.specs.declared.cause.Refusal.{Refusal}
use Rattle.report.specs.declared.cause.Refusal.TheVariants as refusals
use Rattle.report.specs.Texts.{usage_line, refusal_line, read_fault_line, input_fault_line}
use Rattle.nm_top.specs.declared.status.Status.{Status}
use Rattle.nm_top.specs.declared.status.Status.TheVariants as statuses
use Rattle.nm_top.specs.declared.stop.Stop.{Stop}
use Rattle.nm_top.specs.declared.stop.Stop.TheVariants.{Refused, Memory}
use Rattle.nm_top.specs.Commands.{Command, TakesInput, command_of}
use Rattle.nm_top.specs.Commands as commands
use Rattle.nm_top.specs.Statuses.{status_of, IsOf, IsOfInput}
use Rattle.nm_top.specs.Lines.{EndsInLine, ReadFails, IsLineOf, MayStopAt, PrintsLine}
use Rattle.nm_top.specs.Lines as lines
use Rattle.nm_top.specs.Replies.{Reply, reply, Says, Answers, CutShort, Breaks, KeepsOthers}
use Rattle.nm_top.specs.Demands.{Demand, Fetch, fetch_of, IsFetched}
use Rattle.nm_top.specs.Answers.{CommandAnswer, Demanding, IsDone, Answer, Fetches, IsBroken, IsEnough, IsOwnRefusal, MayBreak, Suffices, demands_of, written_of}
use Rattle.nm_top.specs.Watches.{Call}
use Rattle.nm_top.specs.Heard.{AreTold, HearsAny}
use Rattle.nm_top.specs.private.Works.{
  Work,
  Whole,
  Refusing,
  Ending,
  Short,
  Broken,
  Works,
  Stops,
  StopBlames,
  is_absence,
  is_fault,
  is_read_fault,
  is_take_fault,
  MayEnd,
  CarriesOut,
  is_broken,
  Counts,
  Nothing,
  Tries,
  Tells,
  Outside,
  outside,
  Writes,
  IsWorkOf,
  Carries,
  stop_status,
  work_of,
  work_status,
  work_text,
}
use Rattle.nm_top.specs.private.Tellings.{IsText, Told}
use Rattle.nm_top.specs.private.Top.{Does}
use Rattle.nm_top.proofs.FileLaws.{stops_on}
use Rattle.nm_top.proofs.DueLaws.{refused_due, overfull_input, owed, complete}
use Rattle.nm_top.proofs.HeadlineLaws.{says_all}

-- ---- a command that stopped

-- what stopped a command is its work
pub stop_works : (allowed : Reply → Type 0) (broken : Files → Type 0) (held : Files) (stop : Stop) → Stops allowed held stop → allowed (reply statuses.WantOfMemory [] held)
    → Works allowed broken (Some held) (work_of stop)
stop_works allowed broken held (Refused r) h short = (held, refl, h)
stop_works allowed broken held Memory h short = (held, refl, short)

-- where nothing was carried out, want of memory is an answer
pub nothing_short : (x : Call) (command : Command) (held : Files) → CommandAnswer x command held (reply statuses.WantOfMemory [] held)
nothing_short x command held = inr (inl ([], held, inl (refl, refl), refl))

pub stop_is_work : (command : Command) (stop : Stop) → StopBlames (IsFetched (demands_of command)) stop → MayStopAt (Some command) [] → IsWorkOf command (work_of stop)
stop_is_work command (Refused r) blamed short = blamed
stop_is_work command Memory blamed short = short

pub stop_status_is : (stop : Stop) → work_status (work_of stop) ≡ stop_status stop
stop_status_is (Refused r) = refl
stop_status_is Memory = refl

-- what stopped it failed to read where its status says so
pub stop_fault : (stop : Stop) → is_read_fault (work_of stop) ≡ is_fault (stop_status stop)
stop_fault (Refused r) = refl
stop_fault Memory = refl

-- and no take
stop_take : (stop : Stop) → is_take_fault (work_of stop) ≡ false
stop_take (Refused r) = refl
stop_take Memory = refl

pub stop_unbroken : (stop : Stop) → is_broken (work_of stop) ≡ false
stop_unbroken (Refused r) = refl
stop_unbroken Memory = refl

pub stands_still : (given : Bool) (n : ℕ) → given ≡ false → BelongsTo given n n
stands_still false n e = record { later = omega (arith); rose = tt; still = refl }
stands_still true n e = absurd cc

pub appends_none : (a : Option (List ℕ)) → Appends a a []
appends_none None = tt
appends_none (Some xs) = sym (append-nil xs)

-- what is not broken fails no write
pub no_writes : (enough : Files → ℕ → Type 0) (before after : Outside) (work : Work) → is_broken work ≡ false → after.writes ≡ before.writes → Writes enough before after work
no_writes enough before after work e same = record {
  failed = subst (λ k. BelongsTo (is_broken work) before.writes k) (sym same) (stands_still (is_broken work) before.writes e);
  sure = by before.files;
}
  where
    by : (o : Option Files) → IfSome o (λ held. (room : ℕ) → before.room ≡ Some room → enough held room → is_broken work ≡ false)
    by None = tt
    by (Some held) = λ room k f. e

-- what stopped a command was told
abbrev pub stopped : {X : Type 0} (x : Call) (command : Command) (before after : Outside) (status : Status) (stop : Stop)
    → IfSome before.files (λ held. Stops (CommandAnswer x command held) held stop)
    → Counts {X = X} (IsFetched (demands_of command)) before.absents after.absents before.reads after.reads (Err stop)
    → MayStopAt (Some command) [] → after.files ≡ before.files → after.writes ≡ before.writes
    → Tells (work_of stop) before.given after.given before.faults after.faults status → Carries x command before after status
stopped x command before after status stop stops counts short same writes told = record {
  work = work_of stop;
  works = subst (λ (o : Option Files). IfSome before.files (λ held. Works (CommandAnswer x command held) (IsBroken command held) o (work_of stop))) (sym same) (by before.files stops);
  keeps = kept (written_of command);
  is_work = stop_is_work command stop counts.blames short;
  absent = subst (λ s. BelongsTo (is_absence s) before.absents after.absents) (sym (stop_status_is stop)) counts.absent;
  failed = subst (λ b. BelongsTo b before.reads after.reads) (sym (stop_fault stop)) counts.failed;
  writes = no_writes (IsEnough command) before after (work_of stop) (stop_unbroken stop) writes;
  tells = told;
}
  where
    by : (o : Option Files) → IfSome o (λ held. Stops (CommandAnswer x command held) held stop)
        → IfSome o (λ held. Works (CommandAnswer x command held) (IsBroken command held) o (work_of stop))
    by None h = tt
    by (Some held) h = stop_works (CommandAnswer x command held) (IsBroken command held) held stop h (nothing_short x command held)

    kept : (o : Option (List ℕ)) → KeepsOthers o before.files after.files
    kept None = same
    kept (Some name) = inl same

-- before any input was taken
pub stopped_out : {X : Type 0} (x : Call) (command : Command) (before after : Outside) (takes : ℕ) (status : Status) (stop : Stop)
    → IfSome before.files (λ held. Stops (CommandAnswer x command held) held stop)
    → Counts {X = X} (IsFetched (demands_of command)) before.absents after.absents before.reads after.reads (Err stop)
    → MayStopAt (Some command) [] → after.files ≡ before.files → after.writes ≡ before.writes
    → Tells (work_of stop) before.given after.given before.faults after.faults status → CarriesOut x command before after takes takes status
stopped_out {X = X} x command before after takes status stop stops counts short same writes told = record {
  carries = stopped {X = X} x command before after status stop stops counts short same writes told;
  took = subst (λ b. BelongsTo b takes takes) (sym (stop_take stop)) (stands_still false takes refl);
}

-- what stopped a command at its demands stopped it
pub command_stops : (x : Call) (command : Command) (F : Option Files) (stop : Stop) → IfSome F (λ held. Stops (Demanding (demands_of command) Nothing held) held stop)
    → IfSome F (λ held. Stops (CommandAnswer x command held) held stop)
command_stops x command F stop h = IfSome_then F h (λ held k. by held stop k)
  where
    by : (held : Files) (stop : Stop) → Stops (Demanding (demands_of command) Nothing held) held stop → Stops (CommandAnswer x command held) held stop
    by held (Refused r) k =
        inl (subst (λ (ds : List Demand). Demanding ds (IsDone x command held) held (reply (status_of r) (refusal_line r) held)) (append-nil (demands_of command))
        (stops_on (demands_of command) [] (IsDone x command held) held (Refused r) k))
    by held Memory k = tt

-- a text, or nothing
pub told_text : (text : List ℕ) (before after : Option (List ℕ)) (was now : ℕ) (status : Status) → Tries text before after was now status → Told (IsText text) before after was now status
told_text text before after was now status (inl h) = record { work = Whole text; is = refl; tells = h }
told_text text before after was now status (inr h) = record { work = Short []; is = refl; tells = h }

-- What a command does with work that wrote no file.
pub record Bears (x : Call) (command : Command) (files : Option Files) (work : Work) : Type 0 where
  pub works : IfSome files (λ held. Works (CommandAnswer x command held) (IsBroken command held) (Some held) work)
  pub is_work : IsWorkOf command work
  pub absent : is_absence (work_status work) ≡ false
  pub fault : is_read_fault work ≡ false
  pub unbroken : is_broken work ≡ false

pub counted_still : {X : Type 0} (P : List ℕ → Type 0) (x : X) (a b r s : ℕ) → Counts {X = X} P a b r s (Ok x) → (given : Bool) → given ≡ false → BelongsTo given a b × BelongsTo given r s
counted_still P x a b r s c false e = (c.absent, c.failed)
counted_still P x a b r s c true e = absurd cc

-- what files hold was read, and such work was told
abbrev pub carried : {X : Type 0} (x : Call) (Q : List ℕ → Type 0) (found : X) (command : Command) (before after : Outside) (status : Status) (P : Work → Type 0)
    → Told P before.given after.given before.faults after.faults status → ((work : Work) → P work → Bears x command before.files work)
    → Counts {X = X} Q before.absents after.absents before.reads after.reads (Ok found) → after.files ≡ before.files → after.writes ≡ before.writes
    → Carries x command before after status
carried x Q found command before after status P told bears counts same writes =
    let b = bears told.work told.is in
    record {
      work = told.work;
      works = subst (λ (o : Option Files). IfSome before.files (λ held. Works (CommandAnswer x command held) (IsBroken command held) o told.work)) (sym same)
          (by before.files (CommandAnswer x command) (IsBroken command) told.work b.works);
      keeps = kept (written_of command);
      is_work = b.is_work;
      absent = (counted_still Q found before.absents after.absents before.reads after.reads counts (is_absence (work_status told.work)) b.absent).0;
      failed = (counted_still Q found before.absents after.absents before.reads after.reads counts (is_read_fault told.work) b.fault).1;
      writes = no_writes (IsEnough command) before after told.work b.unbroken writes;
      tells = told.tells;
    }
  where
    by : (o : Option Files) (allowed : Files → Reply → Type 0) (broken : Files → Files → Type 0) (work : Work) → IfSome o (λ held. Works (allowed held) (broken held) (Some held) work)
        → IfSome o (λ held. Works (allowed held) (broken held) o work)
    by None allowed broken work h = tt
    by (Some held) allowed broken work h = h

    kept : (o : Option (List ℕ)) → KeepsOthers o before.files after.files
    kept None = same
    kept (Some name) = inl same

-- such work was told of which a take failed where it says so
pub carried_out : {X : Type 0} (x : Call) (Q : List ℕ → Type 0) (found : X) (command : Command) (before after : Outside) (takes takes' : ℕ) (status : Status) (P : Work → Type 0)
    → (told : Told P before.given after.given before.faults after.faults status) → BelongsTo (is_take_fault told.work) takes takes'
    → ((work : Work) → P work → Bears x command before.files work)
    → Counts {X = X} Q before.absents after.absents before.reads after.reads (Ok found) → after.files ≡ before.files → after.writes ≡ before.writes
    → CarriesOut x command before after takes takes' status
carried_out {X = X} x Q found command before after takes takes' status P told took bears counts same writes =
    record { carries = carried {X = X} x Q found command before after status P told bears counts same writes; took = took }

-- a text that is the answer, or want of memory
pub text_bears : (x : Call) (command : Command) (files : Option Files) (text : List ℕ) → IfSome files (λ held. CommandAnswer x command held (reply statuses.Done text held)) → MayStopAt (Some command) []
    → (work : Work) → IsText text work → Bears x command files work
text_bears x command files text done stops (Whole t) is = record {
  works = IfSome_then files done (λ held h. (held, refl, subst (λ (u : List ℕ). CommandAnswer x command held (reply statuses.Done u held)) (sym is) h));
  is_work = tt;
  absent = refl;
  fault = refl;
  unbroken = refl;
}
text_bears x command files text done stops (Short t) is = record {
  works = by files;
  is_work = subst (MayStopAt (Some command)) (sym is) stops;
  absent = refl;
  fault = refl;
  unbroken = refl;
}
  where
    by : (o : Option Files) → IfSome o (λ held. Works (CommandAnswer x command held) (IsBroken command held) (Some held) (Short t))
    by None = tt
    by (Some held) = (held, refl, subst (λ (u : List ℕ). CommandAnswer x command held (reply statuses.WantOfMemory u held)) (sym is) (nothing_short x command held))
text_bears x command files text done stops (Refusing r) is = absurd is
text_bears x command files text done stops (Ending t r) is = absurd is
text_bears x command files text done stops Broken is = absurd is

-- ---- the status of work

no_write : (P : List ℕ → Type 0) (r : Refusal) → IsOf P r
    → (status_of r ≢ statuses.WriteFault) × (status_of r ≢ statuses.Usage) × (status_of r ≢ statuses.InputFull)
no_write P refusals.Usage h = absurd h
no_write P (refusals.Stopped turns) h = absurd h
no_write P (refusals.Absent name) h = (λ e. absurd cc, λ e. absurd cc, λ e. absurd cc)
no_write P (refusals.ReadFault name) h = (λ e. absurd cc, λ e. absurd cc, λ e. absurd cc)
no_write P (refusals.TooLong name) h = (λ e. absurd cc, λ e. absurd cc, λ e. absurd cc)
no_write P (refusals.ProgramRefused kind line) h = (λ e. absurd cc, λ e. absurd cc, λ e. absurd cc)
no_write P (refusals.ScheduleRefused kind place) h = (λ e. absurd cc, λ e. absurd cc, λ e. absurd cc)
no_write P (refusals.TraceDamaged kind place) h = (λ e. absurd cc, λ e. absurd cc, λ e. absurd cc)
no_write P (refusals.OtherProgram of_trace of_file) h = (λ e. absurd cc, λ e. absurd cc, λ e. absurd cc)
no_write P (refusals.Stuck n events counts) h = (λ e. absurd cc, λ e. absurd cc, λ e. absurd cc)
no_write P (refusals.NotItsTrace letter) h = (λ e. absurd cc, λ e. absurd cc, λ e. absurd cc)
no_write P refusals.InputFault h = absurd h
no_write P refusals.InputFull h = absurd h

is_of_more : (P Q : List ℕ → Type 0) → ((name : List ℕ) → P name → Q name) → (r : Refusal) → IsOf P r → IsOf Q r
is_of_more P Q f refusals.Usage h = h
is_of_more P Q f (refusals.Stopped turns) h = h
is_of_more P Q f (refusals.Absent name) h = f name.now h
is_of_more P Q f (refusals.ReadFault name) h = f name.now h
is_of_more P Q f (refusals.TooLong name) h = f name.now h
is_of_more P Q f (refusals.ProgramRefused kind line) h = tt
is_of_more P Q f (refusals.ScheduleRefused kind place) h = tt
is_of_more P Q f (refusals.TraceDamaged kind place) h = tt
is_of_more P Q f (refusals.OtherProgram of_trace of_file) h = tt
is_of_more P Q f (refusals.Stuck n events counts) h = tt
is_of_more P Q f (refusals.NotItsTrace letter) h = tt
is_of_more P Q f refusals.InputFault h = h
is_of_more P Q f refusals.InputFull h = h

-- what is fetched at first is fetched
pub fetched_more : (some more : List Demand) (name : List ℕ) → IsFetched some name → IsFetched (some ++ more) name
fetched_more [] more name h = absurd h
fetched_more (demand ∷ some) more name (inl h) = inl h
fetched_more (demand ∷ some) more name (inr h) = inr (fetched_more some more name h)

-- what is blamed on some files is blamed on more
pub counts_more : {X : Type 0} (P Q : List ℕ → Type 0) → ((name : List ℕ) → P name → Q name) → (stop : Stop) (a b r s : ℕ) → Counts {X = X} P a b r s (Err stop) → Counts {X = X} Q a b r s (Err stop)
counts_more P Q f (Refused refusal) a b r s c = record { blames = is_of_more P Q f refusal c.blames; absent = c.absent; failed = c.failed }
counts_more P Q f Memory a b r s c = record { blames = tt; absent = c.absent; failed = c.failed }

-- the one file that is fetched
pub fetched_one : (demand : Demand) (fetch : Fetch) → fetch_of demand ≡ Some fetch → (name : List ℕ) → name ≡ fetch.name → IsFetched (demand ∷ []) name
fetched_one demand fetch is name e = inl (subst (λ (o : Option Fetch). IsSomeAnd o (λ fetch. name ≡ fetch.name)) (sym is) e)

module _ (words : List (List ℕ)) where
  refusal_has_line : (r : Refusal) → IsOf (Fetches words) r → IsLineOf words (status_of r) (refusal_line r)
  refusal_has_line refusals.Usage h = absurd h
  refusal_has_line (refusals.Stopped turns) h = absurd h
  refusal_has_line (refusals.Absent name) h = inl (refusals.Absent name, refl, h, refl)
  refusal_has_line (refusals.ReadFault name) h = inl (refusals.ReadFault name, refl, h, refl)
  refusal_has_line (refusals.TooLong name) h = inl (refusals.TooLong name, refl, h, refl)
  refusal_has_line (refusals.ProgramRefused kind line) h = inl (refusals.ProgramRefused kind line, refl, h, refl)
  refusal_has_line (refusals.ScheduleRefused kind place) h = inl (refusals.ScheduleRefused kind place, refl, h, refl)
  refusal_has_line (refusals.TraceDamaged kind place) h = inl (refusals.TraceDamaged kind place, refl, h, refl)
  refusal_has_line (refusals.OtherProgram of_trace of_file) h = inl (refusals.OtherProgram of_trace of_file, refl, h, refl)
  refusal_has_line (refusals.Stuck n events counts) h = inl (refusals.Stuck n events counts, refl, h, refl)
  refusal_has_line (refusals.NotItsTrace letter) h = inl (refusals.NotItsTrace letter, refl, h, refl)
  refusal_has_line refusals.InputFault h = absurd h
  refusal_has_line refusals.InputFull h = absurd h

no_absence : (s : Status) → s ≢ statuses.Absent → is_absence s ≡ false
no_absence statuses.Absent n = absurd (n refl)
no_absence statuses.Done n = refl
no_absence statuses.Usage n = refl
no_absence statuses.ReadFault n = refl
no_absence statuses.WriteFault n = refl
no_absence statuses.TooLong n = refl
no_absence statuses.ProgramRefused n = refl
no_absence statuses.ScheduleRefused n = refl
no_absence statuses.TraceDamaged n = refl
no_absence statuses.OtherProgram n = refl
no_absence statuses.Stuck n = refl
no_absence statuses.WantOfMemory n = refl
no_absence statuses.NotItsTrace n = refl
no_absence statuses.InputFull n = refl

no_fault : (s : Status) → s ≢ statuses.ReadFault → is_fault s ≡ false
no_fault statuses.ReadFault n = absurd (n refl)
no_fault statuses.Done n = refl
no_fault statuses.Usage n = refl
no_fault statuses.Absent n = refl
no_fault statuses.WriteFault n = refl
no_fault statuses.TooLong n = refl
no_fault statuses.ProgramRefused n = refl
no_fault statuses.ScheduleRefused n = refl
no_fault statuses.TraceDamaged n = refl
no_fault statuses.OtherProgram n = refl
no_fault statuses.Stuck n = refl
no_fault statuses.WantOfMemory n = refl
no_fault statuses.NotItsTrace n = refl
no_fault statuses.InputFull n = refl

-- a refusal of the input is no other, and is that of a debugger
input_no_write : (r : Refusal) → IsOfInput r → (status_of r ≢ statuses.WriteFault) × (status_of r ≢ statuses.Usage)
input_no_write refusals.InputFault h = (λ e. absurd cc, λ e. absurd cc)
input_no_write refusals.InputFull h = (λ e. absurd cc, λ e. absurd cc)
input_no_write refusals.Usage h = absurd h
input_no_write (refusals.Stopped turns) h = absurd h
input_no_write (refusals.Absent name) h = absurd h
input_no_write (refusals.ReadFault name) h = absurd h
input_no_write (refusals.TooLong name) h = absurd h
input_no_write (refusals.ProgramRefused kind line) h = absurd h
input_no_write (refusals.ScheduleRefused kind place) h = absurd h
input_no_write (refusals.TraceDamaged kind place) h = absurd h
input_no_write (refusals.OtherProgram of_trace of_file) h = absurd h
input_no_write (refusals.Stuck n events counts) h = absurd h
input_no_write (refusals.NotItsTrace letter) h = absurd h

-- only a debugger ends behind a text
of_input : (command : Command) (r : Refusal) → MayEnd command r → IsOfInput r
of_input (commands.Debug program trace) r h = h
of_input (commands.Run program n schedule mask) r h = absurd h
of_input (commands.Record program n schedule trace version mask) r h = absurd h
of_input (commands.Replay program trace schedule) r h = absurd h
of_input (commands.Finish program trace) r h = absurd h
of_input (commands.Certify program trace) r h = absurd h
of_input (commands.Upgrade trace new) r h = absurd h
of_input (commands.Soak seed) r h = absurd h

line_in_words : (words : List (List ℕ)) (text : List ℕ) (r : Refusal) → IsOfInput r
    → EndsInLine (command_of words) (status_of r) (text ++ refusal_line r) → IsLineOf words (status_of r) (text ++ refusal_line r)
line_in_words words text refusals.InputFault h k = inr k
line_in_words words text refusals.InputFull h k = inr k
line_in_words words text refusals.Usage h k = absurd h
line_in_words words text (refusals.Stopped turns) h k = absurd h
line_in_words words text (refusals.Absent name) h k = absurd h
line_in_words words text (refusals.ReadFault name) h k = absurd h
line_in_words words text (refusals.TooLong name) h k = absurd h
line_in_words words text (refusals.ProgramRefused kind line) h k = absurd h
line_in_words words text (refusals.ScheduleRefused kind place) h k = absurd h
line_in_words words text (refusals.TraceDamaged kind place) h k = absurd h
line_in_words words text (refusals.OtherProgram of_trace of_file) h k = absurd h
line_in_words words text (refusals.Stuck n events counts) h k = absurd h
line_in_words words text (refusals.NotItsTrace letter) h k = absurd h

ends_in : (command : Command) (text : List ℕ) (r : Refusal) → MayEnd command r
    → EndsInLine (Some command) (status_of r) (text ++ refusal_line r)
ends_in (commands.Debug program trace) text r h = (text, r, h, refl, refl)
ends_in (commands.Run program n schedule mask) text r h = absurd h
ends_in (commands.Record program n schedule trace version mask) text r h = absurd h
ends_in (commands.Replay program trace schedule) text r h = absurd h
ends_in (commands.Finish program trace) text r h = absurd h
ends_in (commands.Certify program trace) text r h = absurd h
ends_in (commands.Upgrade trace new) text r h = absurd h
ends_in (commands.Soak seed) text r h = absurd h

ends_in_line : (words : List (List ℕ)) (command : Command) → command_of words ≡ Some command → (text : List ℕ) (r : Refusal)
    → MayEnd command r → IsLineOf words (status_of r) (text ++ refusal_line r)
ends_in_line words command is text r h =
    line_in_words words text r (of_input command r h)
    (subst (λ (o : Option Command). EndsInLine o (status_of r) (text ++ refusal_line r)) (sym is) (ends_in command text r h))

-- the line of work
has_line : (words : List (List ℕ)) (command : Command) → command_of words ≡ Some command → (work : Work) → IsWorkOf command work → IsLineOf words (work_status work) (work_text work)
has_line words command is (Whole text) h = tt
has_line words command is (Refusing r) h =
    refusal_has_line words r (is_of_more (IsFetched (demands_of command)) (Fetches words)
    (λ name n. subst (λ (o : Option Command). IsSomeAnd o (λ c. IsFetched (demands_of c) name)) (sym is) n) r h)
has_line words command is (Ending text r) h = ends_in_line words command is text r h
has_line words command is (Short text) h = subst (λ (o : Option Command). MayStopAt o text) (sym is) h
has_line words command is Broken h = tt

-- a command's work has no usage, and where its status is that of a failed write, it is broken
no_usage : (command : Command) (work : Work) → IsWorkOf command work → work_status work ≢ statuses.Usage
no_usage command (Whole text) h e = absurd cc
no_usage command (Refusing r) h e = (no_write (IsFetched (demands_of command)) r h).1 e
no_usage command (Ending text r) h e = (input_no_write r (of_input command r h)).1 e
no_usage command (Short text) h e = absurd cc
no_usage command Broken h e = absurd cc

broken_of : (command : Command) (work : Work) → IsWorkOf command work → work_status work ≡ statuses.WriteFault → is_broken work ≡ true
broken_of command (Whole text) h e = absurd cc
broken_of command (Refusing r) h e = absurd ((no_write (IsFetched (demands_of command)) r h).0 e)
broken_of command (Ending text r) h e = absurd ((input_no_write r (of_input command r h)).0 e)
broken_of command (Short text) h e = absurd cc
broken_of command Broken h e = refl

unbroken_of : (work : Work) → work_status work ≢ statuses.WriteFault → is_broken work ≡ false
unbroken_of (Whole text) n = refl
unbroken_of (Refusing r) n = refl
unbroken_of (Ending text r) n = refl
unbroken_of (Short text) n = refl
unbroken_of Broken n = absurd (n refl)

rises : (given : Bool) (was now : ℕ) → BelongsTo given was now → given ≡ true → Rose was now
rises true was now b e = b.rose
rises false was now b e = absurd cc

rests : (given : Bool) (was now : ℕ) → BelongsTo given was now → given ≡ false → now ≡ was
rests true was now b e = absurd cc
rests false was now b e = b.still

-- where its status is that of a failed read, a file's read failed, or a take
fault_rises : (work : Work) (reads reads' takes takes' : ℕ) → BelongsTo (is_read_fault work) reads reads' → BelongsTo (is_take_fault work) takes takes'
    → is_fault (work_status work) ≡ true → Rose reads reads' ⊎ Rose takes takes'
fault_rises (Whole text) reads reads' takes takes' read take e = inl (rises (is_read_fault (Whole text)) reads reads' read e)
fault_rises (Refusing r) reads reads' takes takes' read take e = inl (rises (is_read_fault (Refusing r)) reads reads' read e)
fault_rises (Ending text r) reads reads' takes takes' read take e = inr (rises (is_take_fault (Ending text r)) takes takes' take e)
fault_rises (Short text) reads reads' takes takes' read take e = inl (rises (is_read_fault (Short text)) reads reads' read e)
fault_rises Broken reads reads' takes takes' read take e = inl (rises (is_read_fault Broken) reads reads' read e)

-- and else neither did
fault_rests : (work : Work) (reads reads' takes takes' : ℕ) → BelongsTo (is_read_fault work) reads reads' → BelongsTo (is_take_fault work) takes takes'
    → is_fault (work_status work) ≡ false → (reads' ≡ reads) × (takes' ≡ takes)
fault_rests (Whole text) reads reads' takes takes' read take e = (rests (is_read_fault (Whole text)) reads reads' read e, rests false takes takes' take refl)
fault_rests (Refusing r) reads reads' takes takes' read take e = (rests (is_read_fault (Refusing r)) reads reads' read e, rests false takes takes' take refl)
fault_rests (Ending text r) reads reads' takes takes' read take e = (rests false reads reads' read refl, rests (is_take_fault (Ending text r)) takes takes' take e)
fault_rests (Short text) reads reads' takes takes' read take e = (rests (is_read_fault (Short text)) reads reads' read e, rests false takes takes' take refl)
fault_rests Broken reads reads' takes takes' read take e = (rests (is_read_fault Broken) reads reads' read e, rests false takes takes' take refl)

-- a command that is no debugger takes no input
pub takes_none : (x : Call) (command : Command) → ((r : Refusal) → MayEnd command r → ⊥) → (before after : Outside) (takes : ℕ) (status : Status)
    → Carries x command before after status → CarriesOut x command before after takes takes status
takes_none x command none before after takes status h = record { carries = h; took = by h.work h.is_work }
  where
    by : (work : Work) → IsWorkOf command work → BelongsTo (is_take_fault work) takes takes
    by (Whole text) ok = stands_still false takes refl
    by (Refusing r) ok = stands_still false takes refl
    by (Ending text r) ok = absurd (none r ok)
    by (Short text) ok = stands_still false takes refl
    by Broken ok = stands_still false takes refl

-- ---- what was told of work that is allowed

-- a part of nothing is nothing
nothing_part : (before after : Option (List ℕ)) → AppendsPart before after [] → Appends before after []
nothing_part before after part = subst (Appends before after) (take_nothing part.0) part.2
  where
    nothing : List ℕ
    nothing = []

    take_nothing : (n : ℕ) → take n nothing ≡ []
    take_nothing zero = refl
    take_nothing (suc n) = refl

module _ (allowed : Files → Reply → Type 0) (broken : Files → Files → Type 0) (left : Option Files) (before after : Option (List ℕ)) (was now : ℕ) (status : Status) where
  -- it is an answer
  gives : (told : Option Files) (work : Work) → IfSome told (λ held. Works (allowed held) (broken held) left work) → Tells work before after was now status → Answers allowed told left before after status
  gives None work works told = tt
  gives (Some held) work works (inl failed) = inl failed.0
  gives (Some held) (Whole text) works (inr told) = inr (_, works.2, record { answered = told.0; printed = told.2; leaves = works.1 })
  gives (Some held) (Refusing r) works (inr told) = inr (_, works.2, record { answered = told.0; printed = told.2; leaves = works.1 })
  gives (Some held) (Ending text r) works (inr told) = inr (_, works.2, record { answered = told.0; printed = told.2; leaves = works.1 })
  gives (Some held) (Short text) works (inr told) = inr (_, works.2, record { answered = told.0; printed = told.2; leaves = works.1 })
  gives (Some held) Broken works (inr told) = inl told.0

  module _ (reads reads' takes takes' : ℕ) where
    short_of : (work : Work) (held files : Files) → left ≡ Some files → allowed held (reply (work_status work) (work_text work) files)
        → BelongsTo (is_read_fault work) reads reads' → BelongsTo (is_take_fault work) takes takes' → AppendsPart before after (work_text work)
        → CutShort allowed reads reads' takes takes' held left before after
    short_of work held files is ok read take part = record {
      reply = reply (work_status work) (work_text work) files;
      is_allowed = ok;
      part = part;
      leaves = is;
      failed = λ e. fault_rises work reads reads' takes takes' read take (ap is_fault e);
      read = λ n. fault_rests work reads reads' takes takes' read take (no_fault (work_status work) n);
    }

    -- a write failed
    breaks : (told : Option Files) (command : Command) (work : Work) → IsWorkOf command work → IfSome told (λ held. Works (allowed held) (broken held) left work)
        → BelongsTo (is_read_fault work) reads reads' → BelongsTo (is_take_fault work) takes takes' → Tells work before after was now status → status ≡ statuses.WriteFault
        → Breaks allowed broken reads reads' takes takes' told left before after
    breaks None command work ok works read take told e = tt
    breaks (Some held) command (Whole text) ok works read take (inl failed) e = inl (short_of (Whole text) held works.0 works.1 works.2 read take failed.2)
    breaks (Some held) command (Refusing r) ok works read take (inl failed) e = inl (short_of (Refusing r) held works.0 works.1 works.2 read take failed.2)
    breaks (Some held) command (Ending text r) ok works read take (inl failed) e = inl (short_of (Ending text r) held works.0 works.1 works.2 read take failed.2)
    breaks (Some held) command (Short text) ok works read take (inl failed) e = inl (short_of (Short text) held works.0 works.1 works.2 read take failed.2)
    breaks (Some held) command Broken ok works read take (inl failed) e =
        inr (record { files = works.0; is_broken = works.2; leaves = works.1; printed = nothing_part before after failed.2 })
    breaks (Some held) command Broken ok works read take (inr told) e =
        inr (record { files = works.0; is_broken = works.2; leaves = works.1; printed = told.2 })
    breaks (Some held) command (Whole text) ok works read take (inr told) e = let k = sym told.0 ∙ e in absurd cc
    breaks (Some held) command (Refusing r) ok works read take (inr told) e = absurd ((no_write (IsFetched (demands_of command)) r ok).0 (sym told.0 ∙ e))
    breaks (Some held) command (Ending text r) ok works read take (inr told) e = absurd ((input_no_write r (of_input command r ok)).0 (sym told.0 ∙ e))
    breaks (Some held) command (Short text) ok works read take (inr told) e = let k = sym told.0 ∙ e in absurd cc

module _ (work : Work) (before after : Option (List ℕ)) (was now : ℕ) (status : Status) where
  pub told_of : (S : Status) → S ≢ statuses.WriteFault → Tells work before after was now status → status ≡ S → (work_status work ≡ S) × Appends before after (work_text work)
  told_of S n (inl failed) e = absurd (n (sym e ∙ failed.0))
  told_of S n (inr told) e = (sym told.0 ∙ e, told.2)

  unwritten : Tells work before after was now status → status ≢ statuses.WriteFault → now ≡ was
  unwritten (inl failed) n = absurd (n failed.0)
  unwritten (inr told) n = told.1

  prints_line : (words : List (List ℕ)) → IsLineOf words (work_status work) (work_text work) → Tells work before after was now status → PrintsLine words status before after
  prints_line words line (inl failed) =
      let part = failed.2 in (take part.0 (work_text work), subst (λ (s : Status). IsLineOf words s (take part.0 (work_text work))) (sym failed.0) tt, part.2)
  prints_line words line (inr told) = (work_text work, subst (λ (s : Status). IsLineOf words s (work_text work)) (sym told.0) line, told.2)

  answered : Tells work before after was now status → status ≢ statuses.WriteFault → status ≡ work_status work
  answered (inl failed) n = absurd (n failed.0)
  answered (inr told) n = told.0

-- work of one status is told with no other, but that of a failed write
pub told_other : (work : Work) (S : Status) → S ≢ statuses.WriteFault → work_status work ≢ S → (before after : Option (List ℕ)) (was now : ℕ) (status : Status)
    → Tells work before after was now status → status ≢ S
told_other work S n other before after was now status told e = other (told_of work before after was now status S n told e).0

-- ---- an input that is full

-- what stopped a command at its demands, and a command that is no debugger, find no input full
pub stop_not_full : (P : List ℕ → Type 0) (stop : Stop) → StopBlames P stop → (before after : Option (List ℕ)) (was now : ℕ) (status : Status)
    → Tells (work_of stop) before after was now status → status ≢ statuses.InputFull
stop_not_full P (Refused r) blamed before after was now status told e =
    (no_write P r blamed).2 (told_of (Refusing r) before after was now status statuses.InputFull (λ k. absurd cc) told e).0
stop_not_full P Memory blamed before after was now status told e =
    let k = (told_of (Short []) before after was now status statuses.InputFull (λ k. absurd cc) told e).0 in absurd cc

pub never_full : (x : Call) (command : Command) → ((r : Refusal) → MayEnd command r → ⊥) → (before after : Outside) (status : Status)
    → Carries x command before after status → status ≢ statuses.InputFull
never_full x command none before after status h e =
    by h.work h.is_work (told_of h.work before.given after.given before.faults after.faults status statuses.InputFull (λ k. absurd cc) h.tells e).0
  where
    by : (work : Work) → IsWorkOf command work → work_status work ≢ statuses.InputFull
    by (Whole text) ok e = absurd cc
    by (Refusing r) ok e = (no_write (IsFetched (demands_of command)) r ok).2 e
    by (Ending text r) ok e = none r ok
    by (Short text) ok e = absurd cc
    by Broken ok e = absurd cc

-- ---- which read failed

-- where a refusal says that a read failed, it is of a file that is fetched
refused_file : (P : List ℕ → Type 0) (r : Refusal) → IsOf P r → status_of r ≡ statuses.ReadFault → (name : List ℕ) × P name × (refusal_line r ≡ read_fault_line name)
refused_file P (refusals.ReadFault name) h e = (name.now, h, refl)
refused_file P refusals.Usage h e = absurd h
refused_file P (refusals.Stopped turns) h e = absurd h
refused_file P (refusals.Absent name) h e = absurd cc
refused_file P (refusals.TooLong name) h e = absurd cc
refused_file P (refusals.ProgramRefused kind line) h e = absurd cc
refused_file P (refusals.ScheduleRefused kind place) h e = absurd cc
refused_file P (refusals.TraceDamaged kind place) h e = absurd cc
refused_file P (refusals.OtherProgram of_trace of_file) h e = absurd cc
refused_file P (refusals.Stuck n events counts) h e = absurd cc
refused_file P (refusals.NotItsTrace letter) h e = absurd cc
refused_file P refusals.InputFault h e = absurd h
refused_file P refusals.InputFull h e = absurd h

-- and behind replies it is the input's
refused_input : (r : Refusal) → IsOfInput r → status_of r ≡ statuses.ReadFault → refusal_line r ≡ input_fault_line
refused_input refusals.InputFault h e = refl
refused_input refusals.InputFull h e = absurd cc
refused_input refusals.Usage h e = absurd h
refused_input (refusals.Stopped turns) h e = absurd h
refused_input (refusals.Absent name) h e = absurd h
refused_input (refusals.ReadFault name) h e = absurd h
refused_input (refusals.TooLong name) h e = absurd h
refused_input (refusals.ProgramRefused kind line) h e = absurd h
refused_input (refusals.ScheduleRefused kind place) h e = absurd h
refused_input (refusals.TraceDamaged kind place) h e = absurd h
refused_input (refusals.OtherProgram of_trace of_file) h e = absurd h
refused_input (refusals.Stuck n events counts) h e = absurd h
refused_input (refusals.NotItsTrace letter) h e = absurd h

-- only a debugger takes input
of_debugger : (command : Command) (r : Refusal) → MayEnd command r → TakesInput command
of_debugger (commands.Debug program trace) r h = tt
of_debugger (commands.Run program n schedule mask) r h = absurd h
of_debugger (commands.Record program n schedule trace version mask) r h = absurd h
of_debugger (commands.Replay program trace schedule) r h = absurd h
of_debugger (commands.Finish program trace) r h = absurd h
of_debugger (commands.Certify program trace) r h = absurd h
of_debugger (commands.Upgrade trace new) r h = absurd h
of_debugger (commands.Soak seed) r h = absurd h

module _ (words : List (List ℕ)) (command : Command) (is : command_of words ≡ Some command) (reads reads' takes takes' : ℕ) (before after : Option (List ℕ)) where
  failed_read : (work : Work) → IsWorkOf command work → BelongsTo (is_read_fault work) reads reads' → BelongsTo (is_take_fault work) takes takes'
      → work_status work ≡ statuses.ReadFault → Appends before after (work_text work) → ReadFails words reads reads' takes takes' before after
  failed_read (Whole text) ok read take e given = absurd cc
  failed_read (Refusing r) ok read take e given =
      let f = refused_file (IsFetched (demands_of command)) r ok e in
      lines.file f.0 (subst (λ (o : Option Command). IsSomeAnd o (λ c. IsFetched (demands_of c) f.0)) (sym is) f.1)
      (rises (is_read_fault (Refusing r)) reads reads' read (ap is_fault e)) (rests false takes takes' take refl)
      (subst (Appends before after) f.2 given)
  failed_read (Ending text r) ok read take e given =
      lines.input text (subst (λ (o : Option Command). IsSomeAnd o TakesInput) (sym is) (of_debugger command r ok))
      (rises (is_take_fault (Ending text r)) takes takes' take (ap is_fault e)) (rests false reads reads' read refl)
      (subst (λ (line : List ℕ). Appends before after (text ++ line)) (refused_input r (of_input command r ok) e) given)
  failed_read (Short text) ok read take e given = absurd cc
  failed_read Broken ok read take e given = absurd cc

-- ---- all that the top call does

module _ (x : Call) (words : List (List ℕ)) (before after : Outside) (takes takes' : ℕ) (status : Status) where
  some_none : (command : Command) → command_of words ≡ Some command → command_of words ≡ None → ⊥
  some_none command is none = let e : Some command ≡ None = sym is ∙ none in absurd cc

  -- the words name a command, which was carried out
  pub does_command : (command : Command) → command_of words ≡ Some command → CarriesOut x command before after takes takes' status
      → IfSome before.files (λ held. HearsAny command held status x.watchers) → IsOwnRefusal command status → Does x words before after takes takes' status
  does_command command is out heard own =
      let h = out.carries in
      let tells = h.tells in
      let told : (S : Status) → S ≢ statuses.WriteFault → status ≡ S → work_status h.work ≡ S =
      λ S n e. (told_of h.work before.given after.given before.faults after.faults status S n tells e).0 in
      let same : status ≢ statuses.WriteFault → status ≡ work_status h.work = answered h.work before.given after.given before.faults after.faults status tells in
      let answers = gives (Answer x words) (MayBreak words) after.files before.given after.given before.faults after.faults status before.files h.work works tells in
      let fault : status ≡ statuses.ReadFault → Rose before.reads after.reads ⊎ Rose takes takes' =
      λ e. fault_rises h.work before.reads after.reads takes takes' h.failed out.took (ap is_fault (told statuses.ReadFault (λ k. absurd cc) e)) in
      let rested : status ≢ statuses.ReadFault → status ≢ statuses.WriteFault → (after.reads ≡ before.reads) × (takes' ≡ takes) =
      λ n m. fault_rests h.work before.reads after.reads takes takes' h.failed out.took (no_fault (work_status h.work) (λ e. n (same m ∙ e))) in
      let write : status ≡ statuses.WriteFault → Rose before.writes after.writes ⊎ Rose before.faults after.faults = written tells in
      record {
        answer = answers;
        usage = λ e. absurd (no_usage command h.work h.is_work (told statuses.Usage (λ k. absurd cc) e));
        no_command = λ none. absurd (some_none command is none);
        absent = λ e. rises (is_absence (work_status h.work)) before.absents after.absents h.absent (ap is_absence (told statuses.Absent (λ k. absurd cc) e));
        no_absent = λ n m. rests (is_absence (work_status h.work)) before.absents after.absents h.absent (no_absence (work_status h.work) (λ e. n (same m ∙ e)));
        read_fault = λ e.
            let t = told_of h.work before.given after.given before.faults after.faults status statuses.ReadFault (λ k. absurd cc) tells e in
            failed_read words command is before.reads after.reads takes takes' before.given after.given h.work h.is_work h.failed out.took t.0 t.1;
        no_read_fault = λ n m. (rested n m).0;
        no_take_fault = λ n m. (rested n m).1;
        refused = refused_due x words before.files after.files before.given after.given status answers;
        own = subst (λ (o : Option Command). IfSome o (λ c. IsOwnRefusal c status)) (sym is) own;
        overfull = overfull_input x words before.files after.files before.given after.given status answers;
        owed = owed x words before.files after.files before.given after.given status answers before.reads after.reads takes takes' before.writes after.writes before.faults after.faults fault write;
        write_fault = write;
        no_file_fault = λ n. rests (is_broken h.work) before.writes after.writes h.writes.failed (unbroken_of h.work (λ e. n (same n ∙ e)));
        no_write_fault = unwritten h.work before.given after.given before.faults after.faults status tells;
        sure = sure before.files h.writes.sure;
        breaks = λ e. breaks (Answer x words) (MayBreak words) after.files before.given after.given before.faults after.faults status before.reads after.reads takes takes' before.files command h.work h.is_work
            works h.failed out.took tells e;
        line = prints_line h.work before.given after.given before.faults after.faults status words (has_line words command is h.work h.is_work) tells;
        complete = complete x words before.files after.files before.given after.given status answers before.reads after.reads takes takes' before.writes after.writes before.faults after.faults fault write;
        keeps = subst (λ (o : Option Command). KeepsOthers (option_and_then written_of o) before.files after.files) (sym is) h.keeps;
        headline = says_all x words before.files after.files before.reads after.reads takes takes' before.writes after.writes before.faults after.faults before.given after.given status answers
            (complete x words before.files after.files before.given after.given status answers before.reads after.reads takes takes' before.writes after.writes before.faults after.faults fault write);
        told = subst (λ (o : Option Command). IfSome before.files (λ held. MatchOption o (x.watchers.told ≡ x.watchers.watch) (λ c. HearsAny c held status x.watchers))) (sym is) heard;
      }
    where
      h : Carries x command before after status
      h = out.carries

      works : IfSome before.files (λ held. Works (Answer x words held) (MayBreak words held) after.files h.work)
      works = subst (λ (o : Option Command). IfSome before.files (λ held. Works (λ r. MatchOption o (Says held statuses.Usage usage_line r)
          (λ c. CommandAnswer x c held r)) (λ left. IsSomeAnd o (λ c. IsBroken c held left)) after.files h.work)) (sym is) h.works

      written : Tells h.work before.given after.given before.faults after.faults status → status ≡ statuses.WriteFault
          → Rose before.writes after.writes ⊎ Rose before.faults after.faults
      written (inl failed) e = inr failed.1
      written (inr t) e = inl (rises (is_broken h.work) before.writes after.writes h.writes.failed (broken_of command h.work h.is_work (sym t.0 ∙ e)))

      sure : (o : Option Files) → IfSome o (λ held. (room : ℕ) → before.room ≡ Some room → IsEnough command held room → is_broken h.work ≡ false)
          → IfSome o (λ held. (room : ℕ) → before.room ≡ Some room → Suffices words held room → after.writes ≡ before.writes)
      sure None f = tt
      sure (Some held) f = λ room k enough. rests (is_broken h.work) before.writes after.writes h.writes.failed
          (f room k (subst (λ (o : Option Command). IsSomeAnd o (λ c. IsEnough c held room)) is enough))

-- no command has the words, and that was told
module _ (x : Call) (words : List (List ℕ)) (F : Option Files) (a r w : ℕ) (room : Option ℕ) (before after : Option (List ℕ)) (was now takes : ℕ) (status : Status) (none : command_of words ≡ None) where
  abbrev usage : Work
  usage = Refusing refusals.Usage

  abbrev said : Files → Reply
  said held = reply statuses.Usage usage_line held

  is_answer : (held : Files) → Answer x words held (said held)
  is_answer held = subst (λ (o : Option Command). MatchOption o (Says held statuses.Usage usage_line (said held)) (λ c. CommandAnswer x c held (said held))) (sym none) refl

  usage_breaks : (o : Option Files) → Tells usage before after was now status → status ≡ statuses.WriteFault → Breaks (Answer x words) (MayBreak words) r r takes takes o o before after
  usage_breaks None t e = tt
  usage_breaks (Some held) (inl failed) e =
      inl (record { reply = said held; is_allowed = is_answer held; part = failed.2; leaves = refl; failed = λ e. absurd cc; read = λ n. (refl, refl) })
  usage_breaks (Some held) (inr t) e = let k = sym t.0 ∙ e in absurd cc

  answers : (o : Option Files) → Tells usage before after was now status → Answers (Answer x words) o o before after status
  answers None t = tt
  answers (Some held) (inl failed) = inl failed.0
  answers (Some held) (inr t) = inr (said held, is_answer held, record { answered = t.0; printed = t.2; leaves = refl })

  all_sure : (o : Option Files) → IfSome o (λ held. (k : ℕ) → room ≡ Some k → Suffices words held k → w ≡ w)
  all_sure None = tt
  all_sure (Some held) = λ k e f. refl

  untold : (o : Option Files) → x.watchers.told ≡ x.watchers.watch → IfSome o (λ held. AreTold words held status x.watchers)
  untold None same = tt
  untold (Some held) same = subst (λ (o : Option Command). MatchOption o (x.watchers.told ≡ x.watchers.watch) (λ c. HearsAny c held status x.watchers)) (sym none) same

  pub does_usage : Tells usage before after was now status → x.watchers.told ≡ x.watchers.watch → Does x words (outside F a r w room before was) (outside F a r w room after now) takes takes status
  does_usage told same =
      let fault : status ≡ statuses.ReadFault → Rose r r ⊎ Rose takes takes = λ e. (let t = (told_of usage before after was now status statuses.ReadFault (λ k. absurd cc) told e).0 in absurd cc) in
      let write : status ≡ statuses.WriteFault → Rose w w ⊎ Rose was now = written told in
      record {
        answer = answers F told;
        usage = λ e. none;
        no_command = λ n. elim told [ inl failed ↦ inr failed.0 | inr t ↦ inl t.0 ];
        absent = λ e. let t = (told_of usage before after was now status statuses.Absent (λ k. absurd cc) told e).0 in absurd cc;
        no_absent = λ n m. refl;
        read_fault = λ e. (let t = (told_of usage before after was now status statuses.ReadFault (λ k. absurd cc) told e).0 in absurd cc);
        no_read_fault = λ n m. refl;
        no_take_fault = λ n m. refl;
        refused = refused_due x words F F before after status (answers F told);
        own = subst (λ (o : Option Command). IfSome o (λ c. IsOwnRefusal c status)) (sym none) tt;
        overfull = overfull_input x words F F before after status (answers F told);
        owed = owed x words F F before after status (answers F told) r r takes takes w w was now fault write;
        write_fault = write;
        no_file_fault = λ n. refl;
        no_write_fault = unwritten usage before after was now status told;
        sure = all_sure F;
        breaks = usage_breaks F told;
        line = prints_line usage before after was now status words refl told;
        complete = complete x words F F before after status (answers F told) r r takes takes w w was now fault write;
        keeps = subst (λ (o : Option Command). KeepsOthers (option_and_then written_of o) F F) (sym none) refl;
        headline = says_all x words F F r r takes takes w w was now before after status (answers F told) (complete x words F F before after status (answers F told) r r takes takes w w was now fault write);
        told = untold F same;
      }
    where
      written : Tells usage before after was now status → status ≡ statuses.WriteFault → Rose w w ⊎ Rose was now
      written (inl failed) e = inr failed.1
      written (inr t) e = let k = sym t.0 ∙ e in absurd cc
