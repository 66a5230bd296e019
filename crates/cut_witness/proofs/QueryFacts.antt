-- The last event of a list that passes a test.
use Rattle.std.proofs.Common.{◌≡◌, ℕ, ◌+◌, ◌≤◌, Bool, true, false, List, ◌∷◌, length, take, drop, Some, sym, ap, ◌∙◌, subst, inl, inr, arith}
use Rattle.std.specs.Prelude.{Contains, slice_get}
use Rattle.std.proofs.lemmas.Bool.{false≢true}
use Rattle.std.proofs.lemmas.List.{drop_all}
use Rattle.std.proofs.lemmas.List.Elements.{Contains-append_right, Contains-append_cases}
use Rattle.event_list.specs.declared.Event.{Event}
use Rattle.event_list.specs.Runs.{Sound}
use Rattle.event_list.proofs.Members.{cons_here, cons_cases, empty}
use Rattle.causal_stop.proofs.PlaceFacts.{at_place, rises}
use Rattle.cut_witness.specs.private.Queries.{NonePasses, IsLastPassing}

module _ (test : Event → Bool) (E : List Event) where
  pub none_behind : (i : ℕ) → length E ≤ i → NonePasses test (drop i E)
  none_behind i l x h t = empty x (subst (λ ys. Contains ys x) (drop_all i E l) h)

  pub none_at : (i k : ℕ) → k ≡ i + 1 → (e : Event) → slice_get E i ≡ Some e → (b : Bool) → b ≡ test e → b ≡ false → NonePasses test (drop k E) → NonePasses test (drop i E)
  none_at i k n e h b is fails none x c t =
      elim (cons_cases e (drop (i + 1) E) x (subst (λ ys. Contains ys x) (at_place E i e h).1 c)) [
        | inl s ↦ false≢true (sym fails ∙ is ∙ ap test s ∙ t)
        | inr o ↦ none x (subst (λ j. Contains (drop j E) x) (sym n) o) t
      ]

  pub last_at : (i k : ℕ) → k ≡ i + 1 → (e : Event) → slice_get E i ≡ Some e → (b : Bool) → b ≡ test e → b ≡ true → NonePasses test (drop k E) → IsLastPassing test E (Some e)
  last_at i k n e h b is sure none =
      (take i E, drop (i + 1) E, (at_place E i e h).0, sym is ∙ sure, subst (λ j. NonePasses test (drop j E)) n none)

-- what passes is in the list, and of its process's entries that pass it has the greatest number
module _ {M : ℕ} {E : List Event} (g : Sound M E) (test : Event → Bool) (e : Event) (l : IsLastPassing test E (Some e)) where
  pub last_in : Contains E e
  last_in = subst (λ zs. Contains zs e) (sym l.2) (Contains-append_right l.0 (e ∷ l.1) e (cons_here e l.1))

  pub last_greatest : (x : Event) → Contains E x → test x ≡ true → x.proc.no ≡ e.proc.no → x.number ≤ e.number
  last_greatest x h t p = elim (Contains-append_cases l.0 (e ∷ l.1) x (subst (λ zs. Contains zs x) l.2 h)) [
    | inl b ↦ let r = rises g l.0 (e ∷ l.1) l.2 x e b (cons_here e l.1) p in omega (arith, r)
    | inr b ↦ elim (cons_cases e l.1 x b) [
      | inl s ↦ omega (arith, ap (λ z. z.number) s)
      | inr o ↦ absurd (l.4 x o t)
    ]
  ]
