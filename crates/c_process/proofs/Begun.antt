-- Processes of a program before their first events.
use Rattle.std.proofs.Common.{◌≡◌, ℕ, zero, suc, ◌+◌, List, [], ◌∷◌, ◌++◌, length, Some, refl, sym, ap, ◌∙◌, subst, inl, inr, arith, length-append}
use Rattle.std.specs.Prelude.{map, slice_get, ◌⊎◌}
use Rattle.std.proofs.lemmas.List.{length-map, map-append}
use Rattle.std.proofs.lemmas.Option.{same_Some}
use Rattle.stack_code.specs.Code.{Code}
use Rattle.processes.specs.declared.states.Seat.{Seat}
use Rattle.processes.specs.Seats.{process_in}
use Rattle.c_process.specs.declared.process.CProc.{CProc}
use Rattle.c_process.specs.Begun.{IsBegun, AreBegun}

-- an element of a list with one more is one of those before, or the last one
last_or_before : {X : Type 0} (xs : List X) (y x : X) (i : ℕ) → slice_get (xs ++ y ∷ []) i ≡ Some x → (slice_get xs i ≡ Some x) ⊎ ((i ≡ length xs) × (y ≡ x))
last_or_before [] y x zero at = inr (refl, same_Some y x at)
last_or_before [] y x (suc i) at = absurd cc
last_or_before (z ∷ xs) y x zero at = inl at
last_or_before (z ∷ xs) y x (suc i) at = elim (last_or_before xs y x i at) [
  | inl k ↦ inl k
  | inr k ↦ inr (ap suc k.0, k.1)
]

module _ (code : Code) (n : ℕ) where
  -- one seat more
  pub begun_more : (many : ℕ) (seats : List (Seat CProc)) (seat : Seat CProc) (x : CProc) → AreBegun code n many seats → process_in seat ≡ x → IsBegun code n many x
      → AreBegun code n (many + 1) (seats ++ seat ∷ [])
  begun_more many seats seat x a is b = record {
    count = omega (arith, a.count, length-append seats (seat ∷ []));
    each = λ me y at. elim (last_or_before (map process_in seats) (process_in seat) y me (ap (λ ps. slice_get ps me) (sym (map-append process_in seats (seat ∷ []))) ∙ at)) [
      | inl k ↦ a.each me y k
      | inr k ↦
          let here : many ≡ me = sym (k.0 ∙ length-map seats process_in ∙ a.count) in
          subst (λ m. IsBegun code n m y) here (subst (IsBegun code n many) (sym is ∙ k.1) b)
    ];
  }
