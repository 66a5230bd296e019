-- How a machine begins, and the frames that it shows.
use Rattle.std.proofs.Common.{◌≡◌, ℕ, zero, suc, ◌+◌, ◌-◌, ◌<◌, ◌≤◌, Bool, true, false, List, [], ◌∷◌, length, Some, refl, sym, ap, ◌∙◌, subst, arith}
use Rattle.std.specs.Prelude.{slice_get}
use Rattle.c_tree.specs.State.{Done}
use Rattle.stack_code.specs.Code.{Code}
use Rattle.stack_code.specs.Machine.{with_blocks, later_blocks, outer_blocks, run_code}
use Rattle.proc_machine.specs.declared.callers.Caller.{Caller as KeptCaller}
use Rattle.proc_machine.specs.declared.execution.Execution.{Execution}
use Rattle.proc_machine.specs.declared.pause.Pause.{Pause}
use Rattle.proc_machine.specs.Divided.{lower}
use Rattle.proc_machine.specs.View.{callers_of, control_of, data_with, frame_in, frames_in}
use Rattle.proc_machine.specs.private.Sound.{Holds}
use Rattle.proc_machine.specs.private.Run.{Reaches, StandsBefore}
use Rattle.proc_machine.specs.Standing.{ComesTo, shown_state}
use Rattle.proc_machine.specs.private.Kept.{IsKept}
use Rattle.proc_machine.specs.private.Start.{IsCalled}
use Rattle.proc_machine.specs.Machines.{frame_seen, callers_seen, places_seen}
use Rattle.proc_machine.proofs.Standings.{run_on, not_done, stand_is, stays_none}
use Rattle.proc_machine.proofs.Onwards as onwards

pub kept_new : (code : Code) (count me : ℕ) (e : Execution) (n : Pause) → ∥ Holds code e ∥₁ → StandsBefore code count me e n → ∥ IsKept code count me e true n ∥₁
kept_new code count me e n h s = onwards.kept_new code count me e n h s

pub called_true : (code : Code) (old new : Execution) (r : Bool) → r ≡ true → IsCalled code old new r → IsCalled code old new true
called_true code old new r e c = subst (λ (b : Bool). IsCalled code old new b) e c

pub begins : (code : Code) (count me : ℕ) (first e : Execution) (n : Pause) → run_code code count me [] 0 0 ≡ Done (control_of first) (data_with first [] 0)
    → Reaches code count me (control_of first) (data_with first [] 0) (control_of e) (data_with e [] 0) → StandsBefore code count me e n → ComesTo code count me e true n [] []
begins code count me first e n h r s = record {
  steps = 0 + r.steps;
  comes = run_on code count me [] 0 0 r.steps (control_of first) (data_with first [] 0) h ∙ r.comes ∙ sym (stand_is code count me e n [] (not_done code count me e n s));
  stays = stays_none code count me e n [] [] (not_done code count me e n s);
}

-- ---- frames

seen_callers : (ks : List KeptCaller) (outer : List ℕ) (bs : List (List (List ℕ))) → length (callers_seen (callers_of ks outer) (with_blocks bs (frames_in ks))) ≡ length ks
seen_callers [] outer bs = refl
seen_callers (k ∷ ks) outer bs = ap suc (seen_callers ks (lower k.below outer) (later_blocks bs))

seen_caller : (ks : List KeptCaller) (outer : List ℕ) (bs : List (List (List ℕ))) (i : ℕ) (k : KeptCaller) → slice_get ks i ≡ Some k
    → slice_get (callers_seen (callers_of ks outer) (with_blocks bs (frames_in ks))) i ≡ Some (frame_seen k.frame.function k.frame.place (frame_in k.frame))
seen_caller [] outer bs i k h = cc
seen_caller (j ∷ ks) outer bs zero k h = let same : j ≡ k = cc in ap (λ (x : KeptCaller). Some (frame_seen x.frame.function x.frame.place (frame_in x.frame))) same
seen_caller (j ∷ ks) outer bs (suc i) k h = seen_caller ks (lower j.below outer) (later_blocks bs) i k h

module _ (code : Code) (count me : ℕ) (e : Execution) where
  pub seen_length : (b : Bool) → b ≡ true → length (places_seen (control_of e) (shown_state code count me e b []).frames) ≡ suc (length e.calls.callers)
  seen_length true h = ap suc (seen_callers e.calls.callers e.calls.outer (outer_blocks code count me (callers_of e.calls.callers e.calls.outer)))
  seen_length false h = cc

  pub seen_within : (b : Bool) (i : ℕ) → i < length (places_seen (control_of e) (shown_state code count me e b []).frames) → i ≤ length e.calls.callers
  seen_within true i h = let l = seen_length true refl in omega (arith, h, l)
  seen_within false i h = absurd (omega (arith, h))

  pub seen_at : (b : Bool) (i : ℕ) (k : KeptCaller) → i < length (places_seen (control_of e) (shown_state code count me e b []).frames) → (i ≡ 0 → ⊥) → slice_get e.calls.callers (i - 1) ≡ Some k
      → slice_get (places_seen (control_of e) (shown_state code count me e b []).frames) i ≡ Some (frame_seen k.frame.function k.frame.place (frame_in k.frame))
  seen_at false i k h not is = absurd (omega (arith, h))
  seen_at true zero k h not is = absurd (not refl)
  seen_at true (suc i) k h not is =
      let same : suc i - 1 ≡ i = omega arith in
      seen_caller e.calls.callers e.calls.outer (outer_blocks code count me (callers_of e.calls.callers e.calls.outer)) i k (ap (λ j. slice_get e.calls.callers j) (sym same) ∙ is)
