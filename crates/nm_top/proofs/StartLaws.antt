-- The world of a program before its first event and after the turns of a schedule.
use Rattle.std.proofs.Common.{◌≡◌, ℕ, List, length, Option, Some, None, refl, sym, ap, ◌∙◌, subst}
use Rattle.std.specs.Prelude.{map, slice_get, option_map}
use Rattle.std.proofs.lemmas.Option.{slice_get-map, same_Some}
use Rattle.c_tree.specs.declared.program.Program.{Program}
use Rattle.c_tree.specs.Play.{script_of}
use Rattle.stack_code.specs.Code.{Code}
use Rattle.processes.specs.declared.states.Seat.{Seat}
use Rattle.processes.specs.Seats.{process_in}
use Rattle.event_list.specs.declared.Event.{Event}
use Rattle.event_list.specs.Laws.{AreLawful}
use Rattle.world.specs.Worlds.{Parts, IsWorldOf}
use Rattle.world.specs.Outcomes.{Begins}
use Rattle.world.proofs.Places.{map_length}
use Rattle.c_process.specs.Begun.{AreBegun}
use Rattle.c_process.specs.Standing.{IsCodeOf}
use Rattle.c_process.specs.contracts.script.CProcProc.TheImpl as process
use Rattle.c_process.specs.declared.process.CProc.{CProc}
use Rattle.report.specs.Runs.{RunsProgram}

-- lists that a map takes to one list have at each place elements that it takes to one
pub get_mapped : {X Y : Type 0} (f : X → Y) (xs ys : List X) (i : ℕ) (x : X) → map f xs ≡ map f ys → slice_get xs i ≡ Some x → (y : X) × (slice_get ys i ≡ Some y) × (f x ≡ f y)
get_mapped {X = X} f xs ys i x e at =
    go (slice_get ys i) refl (ap (option_map f) (sym at) ∙ sym (slice_get-map f xs i) ∙ ap (λ zs. slice_get zs i) e ∙ slice_get-map f ys i)
  where
    go : (o : Option X) → slice_get ys i ≡ o → Some (f x) ≡ option_map f o → (y : X) × (slice_get ys i ≡ Some y) × (f x ≡ f y)
    go None k h = absurd cc
    go (Some y) k h = (y, k, same_Some (f x) (f y) h)

module _ (code : Code) (n : ℕ) where
  -- the processes are at the beginning of the program's scripts
  pub begins : (p : Program) (seats : List (Seat CProc)) → AreLawful (script_of p n) → IsCodeOf p code → AreBegun code n n seats
      → Begins process.stands_for-value.it (map process_in seats) (script_of p n)
  begins p seats lawful is_code a = record { lawful = lawful; stands = λ me x at. (a.each me x at).stands p is_code }

  -- processes of the origins that the seats have run the program
  pub runs_from : {M : Type 0} (w : Parts CProc M) (p : Program) (E : List Event) (seats : List (Seat CProc)) → AreBegun code n n seats
      → map process.origin_of-value.it w.processes ≡ map process.origin_of-value.it (map process_in seats) → length w.processes ≡ n → IsCodeOf p code
      → IsWorldOf process.stands_for-value.it w (script_of p n) E → RunsProgram w p E
  runs_from w p E seats a same many is_code stands = record {
    stands = subst (λ k. IsWorldOf process.stands_for-value.it w (script_of p k) E) (sym many) stands;
    code = code;
    compiled = is_code;
    runs = λ me x at.
        let y = get_mapped process.origin_of-value.it w.processes (map process_in seats) me x same at in
        y.2 ∙ (a.each me y.0 y.1).origin ∙ ap (λ (k : ℕ). (code, k)) (sym many);
  }

  -- what the world is after the turns
  pub runs_program : {M : Type 0} (w0 w : Parts CProc M) (p : Program) (E : List Event) (seats : List (Seat CProc)) → AreBegun code n n seats
      → w0.processes ≡ map process_in seats → map process.origin_of-value.it w.processes ≡ map process.origin_of-value.it w0.processes → length w.processes ≡ length w0.processes → IsCodeOf p code
      → IsWorldOf process.stands_for-value.it w (script_of p n) E → RunsProgram w p E
  runs_program w0 w p E seats a first same size is_code stands =
      runs_from w p E seats a (same ∙ ap (map process.origin_of-value.it) first) (size ∙ ap length first ∙ map_length process_in seats ∙ a.count) is_code stands
