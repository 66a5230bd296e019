-- What the work of `soak` answers.
use Rattle.std.proofs.Common.{◌≡◌, ℕ, List, false, Option, None, Some, IfSome, refl, ap, inl, inr}
use Rattle.std.specs.FinMap.{empty}
use Rattle.nm_outside.specs.Files.{Files}
use Rattle.c_tree.specs.declared.program.Program.{Program}
use Rattle.report.specs.declared.cause.Refusal.{Refusal}
use Rattle.report.specs.declared.cause.Refusal.TheVariants as refusals
use Rattle.nm_top.specs.declared.status.Status.{Status}
use Rattle.nm_top.specs.declared.status.Status.TheVariants as statuses
use Rattle.nm_top.specs.declared.stop.Stop.TheVariants.{Refused}
use Rattle.nm_top.specs.Commands.{Command, Soak}
use Rattle.nm_top.specs.Statuses.{status_of, IsOf}
use Rattle.nm_top.specs.Programs.{Reads}
use Rattle.nm_top.specs.Demands.{OwnProgram, IsFetched}
use Rattle.nm_top.specs.Answers.{CommandAnswer, IsBroken, IsOwnRefusal, demands_of}
use Rattle.nm_top.specs.SoakText.{soak_text}
use Rattle.nm_top.specs.Watches.{Call}
use Rattle.nm_top.specs.private.Works.{Work, Whole, Refusing, Ending, Short, Broken, Works, Carries, outside, is_absence, is_fault, work_status}
use Rattle.nm_top.specs.private.Soaked.{IsSoakWork}
use Rattle.nm_top.specs.private.Tellings.{Told}
use Rattle.nm_top.proofs.ProgramLaws.{only_program}
use Rattle.nm_top.proofs.FileLaws.{unmet_at_once}
use Rattle.nm_top.proofs.CarryLaws.{Bears, carried, command_stops, stands_still, told_of}

-- a refused program is no file's
names_none : (P : List ℕ → Type 0) (r : Refusal) → status_of r ≡ statuses.ProgramRefused → IsOf P r
names_none P (refusals.ProgramRefused kind line) e = tt
names_none P refusals.Usage e = absurd cc
names_none P (refusals.Absent name) e = absurd cc
names_none P (refusals.ReadFault name) e = absurd cc
names_none P refusals.InputFault e = absurd cc
names_none P (refusals.TooLong name) e = absurd cc
names_none P (refusals.ScheduleRefused kind place) e = absurd cc
names_none P (refusals.TraceDamaged kind place) e = absurd cc
names_none P (refusals.OtherProgram of_trace of_file) e = absurd cc
names_none P (refusals.Stuck n events counts) e = absurd cc
names_none P (refusals.Stopped turns) e = absurd cc
names_none P (refusals.NotItsTrace letter) e = absurd cc
names_none P refusals.InputFull e = absurd cc

module _ (x : Call) (seed : ℕ) where
  abbrev command : Command
  command = Soak seed

  -- what was told is an answer
  soak_works : (F : Option Files) (work : Work) → IsSoakWork seed work
      → IfSome F (λ held. Works (CommandAnswer x command held) (IsBroken command held) (Some held) work)
  soak_works None work is = tt
  soak_works (Some held) (Whole text) is =
      (held, refl, inl (inr (inr ((is.of_program, is.has.has_program), (text, held, (is, refl), refl)))))
  soak_works (Some held) (Refusing r) is =
      (held, refl, command_stops x command (Some held) (Refused r) (unmet_at_once OwnProgram held refl (Refused r) (is.0, is.1 held)))
  soak_works (Some held) (Short text) (inl is) = (held, refl, inr (inl (text, held, inl (is, refl), refl)))
  soak_works (Some held) (Short text) (inr is) = (held, refl, inr (inl (text, held, inr (is, refl), refl)))
  soak_works (Some held) (Ending text r) is = absurd is
  soak_works (Some held) Broken is = absurd is

  soak_bears : (F : Option Files) (work : Work) → IsSoakWork seed work → Bears x command F work
  soak_bears F (Whole text) is =
      record { works = soak_works F (Whole text) is; is_work = tt; absent = refl; fault = refl; unbroken = refl }
  soak_bears F (Refusing r) is = record {
    works = soak_works F (Refusing r) is;
    is_work = names_none (IsFetched (demands_of command)) r is.0;
    absent = ap is_absence is.0;
    fault = ap is_fault is.0;
    unbroken = refl;
  }
  soak_bears F (Short text) is =
      record { works = soak_works F (Short text) is; is_work = is; absent = refl; fault = refl; unbroken = refl }
  soak_bears F (Ending text r) is = absurd is
  soak_bears F Broken is = absurd is

-- no file was read or written, and such work was told
pub soak_carries : (x : Call) (seed : ℕ) (F : Option Files) (a r w : ℕ) (room : Option ℕ) (given given' : Option (List ℕ)) (faults faults' : ℕ) (status : Status)
    → Told (IsSoakWork seed) given given' faults faults' status
    → Carries x (Soak seed) (outside F a r w room given faults) (outside F a r w room given' faults') status
soak_carries x seed F a r w room given given' faults faults' status told =
    carried {X = ℕ} x (IsFetched (demands_of (Soak seed))) 0 (Soak seed) (outside F a r w room given faults) (outside F a r w room given' faults') status (IsSoakWork seed)
    told (soak_bears x seed F) (record { blames = tt; absent = stands_still false a refl; failed = stands_still false r refl }) refl refl

-- where its program is refused, there is none
pub soak_own : (seed : ℕ) (given given' : Option (List ℕ)) (faults faults' : ℕ) (status : Status) → Told (IsSoakWork seed) given given' faults faults' status
    → IsOwnRefusal (Soak seed) status
soak_own seed given given' faults faults' status told = λ e p reads.
    by told.work told.is (told_of told.work given given' faults faults' status statuses.ProgramRefused (λ k. absurd cc) told.tells e).0 p reads
  where
    by : (work : Work) → IsSoakWork seed work → work_status work ≡ statuses.ProgramRefused → (p : Program) → Reads soak_text p → ⊥
    by (Whole text) is e p reads = absurd cc
    by (Refusing r) is e p reads = let why = is.1 empty in (only_program soak_text).apart p why.0 reads why.1
    by (Ending text r) is e p reads = is
    by (Short text) is e p reads = absurd cc
    by Broken is e p reads = is
