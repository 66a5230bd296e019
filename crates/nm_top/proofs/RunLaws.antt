-- The commands `run` and `record`, up to what their files hold.
use Rattle.std.proofs.Common.{◌≡◌, ℕ, List, ◌∷◌, ◌++◌, Option, None, Some, IfSome, refl, subst, inl, inr}
use Rattle.std.proofs.lemmas.Option.{IfSome_then}
use Rattle.sha2.specs.Sha256.{sha256}
use Rattle.nm_outside.specs.Files.{Files}
use Rattle.c_tree.specs.declared.program.Program.{Program}
use Rattle.schedules.specs.declared.schedule.Turn.{Turn}
use Rattle.report.specs.Runs.{blocks}
use Rattle.nm_top.specs.declared.status.Status.TheVariants.{Done}
use Rattle.nm_top.specs.declared.stop.Stop.{Stop}
use Rattle.nm_top.specs.Commands.{Run}
use Rattle.nm_top.specs.Programs.{Reads}
use Rattle.nm_top.specs.Schedules.{IsSchedule}
use Rattle.nm_top.specs.Replies.{reply}
use Rattle.nm_top.specs.Demands.{Demand, ProgramText, ScheduleText, HoldsIn, program_file, schedule_file, IsMet, Admits}
use Rattle.nm_top.specs.Runs.{run_of_program}
use Rattle.nm_top.specs.Watches.{Call}
use Rattle.nm_top.specs.Answers.{CommandAnswer, Demanding}
use Rattle.nm_top.specs.private.Works.{Stops, Nothing}
use Rattle.nm_top.proofs.FileLaws.{held_more, later_stops, stops_on}

module _ (F : Option Files) where
  -- what stopped a command at the first demands stopped it
  pub gives_first : (some more : List Demand) (stop : Stop) → IfSome F (λ held. Stops (Demanding some Nothing held) held stop)
      → IfSome F (λ held. Stops (Demanding (some ++ more) Nothing held) held stop)
  gives_first some more stop h = IfSome_then F h (λ held k. stops_on some more Nothing held stop k)

  -- a demand is met, and what stopped a command came behind it
  pub gives_later : (G : Option Files) (demand : Demand) (demands : List Demand) (stop : Stop) → IfSome F (λ held. IsMet demand held) → G ≡ F
      → IfSome G (λ held. Stops (Demanding demands Nothing held) held stop) → IfSome F (λ held. Stops (Demanding (demand ∷ demands) Nothing held) held stop)
  gives_later G demand demands stop met same g =
      by F met (subst (λ (o : Option Files). IfSome o (λ held. Stops (Demanding demands Nothing held) held stop)) same g)
    where
      by : (o : Option Files) → IfSome o (λ held. IsMet demand held) → IfSome o (λ held. Stops (Demanding demands Nothing held) held stop)
          → IfSome o (λ held. Stops (Demanding (demand ∷ demands) Nothing held) held stop)
      by None h g = tt
      by (Some held) h g = later_stops demand held h demands stop g

  -- what was read is a program
  pub program_met : (program : List ℕ) (p : Program) (digest : List ℕ) → IfSome F (λ held. HoldsIn held (λ text. Reads text p × (digest ≡ sha256 text)) (program_file program))
      → IfSome F (λ held. IsMet (ProgramText program) held)
  program_met program p digest h = IfSome_then F h
      (λ held k. held_more held (program_file program) (λ text. Reads text p × (digest ≡ sha256 text)) (Admits (ProgramText program) held) (λ text r. (p, r.0)) k)

  -- the command ran
  pub run_done : (x : Call) (program : List ℕ) (n : ℕ) (schedule : List ℕ) (mask : ℕ) (p : Program) (digest : List ℕ) (turns : List Turn)
      → IfSome F (λ held. HoldsIn held (λ text. Reads text p × (digest ≡ sha256 text)) (program_file program)
      × HoldsIn held (λ text. IsSchedule n text turns) (schedule_file schedule))
      → IfSome F (λ held. CommandAnswer x (Run program n schedule mask) held (reply Done (blocks p n (run_of_program p n mask turns)) held))
  run_done x program n schedule mask p digest turns h = IfSome_then F h (λ held k. inl (inr (inr (
    held_more held (program_file program) (λ text. Reads text p × (digest ≡ sha256 text)) (Admits (ProgramText program) held) (λ text r. (p, r.0)) k.0,
    inr (inr (
      held_more held (schedule_file schedule) (λ text. IsSchedule n text turns) (Admits (ScheduleText schedule n) held) (λ text r. (turns, r)) k.1,
      (
        blocks p n (run_of_program p n mask turns),
        held,
        (
          record {
            of_program = p;
            turns = turns;
            has_program = held_more held (program_file program) (λ text. Reads text p × (digest ≡ sha256 text)) (λ text. Reads text p) (λ text r. r.0) k.0;
            has_schedule = k.1;
            is = refl;
          },
          refl,
        ),
        refl,
      ),
    )),
  ))))
