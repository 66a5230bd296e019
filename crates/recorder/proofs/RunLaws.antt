-- The run of the first turns of a schedule.
use Rattle.std.proofs.Common.{◌≡◌, ℕ, zero, suc, ◌<◌, List, [], ◌∷◌, take, Some, ap, subst, inl, inr, length, arith}
use Rattle.std.specs.Prelude.{map, slice_get, Contains, Option}
use Rattle.nm_base.specs.Scripts.{Script}
use Rattle.nm_outside.specs.Files.{Files}
use Rattle.schedules.specs.declared.schedule.Turn.{Turn}
use Rattle.schedules.specs.Bounds.{NameBelow}
use Rattle.event_list.specs.declared.Event.{Event}
use Rattle.event_list.specs.Laws.{AreLawful}
use Rattle.event_list.specs.Runs.{Sound}
use Rattle.event_list.specs.Turns as turns
use Rattle.event_list.proofs.FormedFacts.{named_processes}
use Rattle.event_list.proofs.Members.{empty, cons_cases}
use Rattle.event_list.proofs.RunsSound.{runs_sound}
use Rattle.event_list.proofs.TraceFacts.{in_map}
use Rattle.event_list.proofs.TurnFacts.{run_of_runs}
use Rattle.recorder.specs.Recording.{Form, seen_turn}
use Rattle.recorder.specs.Outcomes.{run_of_first, IsCutOff}
use Rattle.recorder.specs.private.Stages.{Place, IsCutInNotes}
use Rattle.recorder.proofs.Contents.{front_of_notes}

-- an element of the first ones stands at a place
taken_at : {X : Type 0} (many : ℕ) (xs : List X) (x : X) → Contains (take many xs) x → (k : ℕ) × (slice_get xs k ≡ Some x)
taken_at zero xs x c = absurd (empty x c)
taken_at (suc many) [] x c = absurd (empty x c)
taken_at (suc many) (y ∷ xs) x c = elim (cons_cases y (take many xs) x c) [
  | inl e ↦ (0, ap Some e)
  | inr o ↦ let r = taken_at many xs x o in (suc r.0, r.1)
]

module _ (s : ℕ → Script) (lawful : AreLawful s) (M many : ℕ) (ts : List Turn) where
  pub first_sound : Sound M (run_of_first s M many ts)
  first_sound = runs_sound s lawful (run_of_runs s lawful M (map seen_turn (take many ts)))

  pub first_below : (n : ℕ) → NameBelow n ts → (e : Event) → Contains (run_of_first s M many ts) e → e.proc.no < n
  first_below n names e c =
      named_processes s lawful M n (map seen_turn (take many ts)) e (λ t d.
      let u = in_map seen_turn (take many ts) t d in
      let k = taken_at many ts u.0 u.1 in
      subst (λ (v : turns.Turn). v.proc < n) u.2 (names k.0 u.0 k.1)) c

-- what was cut off in the turns
pub cut_off : (s : ℕ → Script) (lawful : AreLawful s) (f : Form) (at : Place) (files : Option Files) (ts : List Turn) → NameBelow f.n ts → IsCutInNotes f at files (run_of_first s f.mask (length ts) ts)
    → IsCutOff s f ts at.name at.start files
cut_off s lawful f at files ts names c = record {
  turns = length ts;
  within = omega arith;
  front = front_of_notes f at files (run_of_first s f.mask (length ts) ts) (first_below s lawful f.mask (length ts) ts f.n names) (first_sound s lawful f.mask (length ts) ts) c;
}
