-- Ticks and merges follow the clock rule.
use Rattle.std.proofs.Common.{◌≡◌, ℕ, ◌+◌, max, cond, Some, None, refl, sym, ap, ◌∙◌, inl, inr, arith}
use Rattle.std.specs.Prelude.{◌==◌, ◌&&◌}
use Rattle.std.proofs.lemmas.Bool.{cases_eq, eq-eqb, ne_eqb}
use Rattle.nm_base.specs.declared.letter.LetterId.{LetterId}
use Rattle.nm_base.specs.declared.kind.Kind.{Kind}
use Rattle.nm_base.specs.declared.kind.Kind.TheVariants.{Line, Sent, Accepted, Printed, Ended, Faulted}
use Rattle.vector_clocks.specs.Parts.{ticked_part, merged_part}
use Rattle.event_list.specs.declared.Event.{Event}
use Rattle.event_list.specs.Events.{taken_in}
use Rattle.event_list.specs.Clocks.{Clocks, brought, ticked, clocks_after}

max_zero : (y : ℕ) → max y 0 ≡ y
max_zero y = omega arith

-- an event that is no receive brings nothing
pub brings_none : (c : Clocks) (k : Kind) → taken_in k ≡ None → (q : ℕ) → brought c k q ≡ 0
brings_none c (Line x) h q = refl
brings_none c (Sent number dest chan len words) h q = refl
brings_none c (Accepted set id) h q = absurd (some_none id h)
  where
    some_none : (id : LetterId) → Some id ≡ None → ⊥
    some_none id h = cc
brings_none c (Printed x) h q = refl
brings_none c (Ended x) h q = refl
brings_none c (Faulted x) h q = refl

module _ (c : Clocks) (e : Event) (old : ℕ → ℕ → ℕ) (same : (r q : ℕ) → old r q ≡ c.clock r q) where
  own : (r q : ℕ) → r ≡ e.proc.no → ticked_part old e.proc.no r q ≡ cond (q == e.proc.no) (c.clock e.proc.no q + 1) (c.clock e.proc.no q)
  own r q h =
      ap (λ b. cond (b && (q == e.proc.no)) (old r q + 1) (old r q)) (eq-eqb r e.proc.no h)
      ∙ ap (λ x. cond (q == e.proc.no) (x + 1) x) (same r q ∙ ap (λ j. c.clock j q) h)

  other : (r q : ℕ) → (r ≡ e.proc.no → ⊥) → ticked_part old e.proc.no r q ≡ c.clock r q
  other r q h = ap (λ b. cond (b && (q == e.proc.no)) (old r q + 1) (old r q)) (ne_eqb r e.proc.no h) ∙ same r q

  here : (r q : ℕ) → r ≡ e.proc.no → (clocks_after c e).clock r q ≡ ticked c e q
  here r q h = ap (λ b. cond b (ticked c e q) (c.clock r q)) (eq-eqb r e.proc.no h)

  there : (r q : ℕ) → (r ≡ e.proc.no → ⊥) → (clocks_after c e).clock r q ≡ c.clock r q
  there r q h = ap (λ b. cond b (ticked c e q) (c.clock r q)) (ne_eqb r e.proc.no h)

  pub tick_rule : ((q : ℕ) → brought c e.kind q ≡ 0) → (r q : ℕ) → ticked_part old e.proc.no r q ≡ (clocks_after c e).clock r q
  tick_rule none r q = elim (cases_eq r e.proc.no) [
    | inl h ↦ own r q h ∙ sym (here r q h ∙ ap (max (cond (q == e.proc.no) (c.clock e.proc.no q + 1) (c.clock e.proc.no q))) (none q) ∙ max_zero _)
    | inr h ↦ other r q h ∙ sym (there r q h)
  ]

  pub merge_rule : (mid : ℕ → ℕ → ℕ) → ((r q : ℕ) → mid r q ≡ ticked_part old e.proc.no r q) → (stamp : ℕ → ℕ) → ((q : ℕ) → brought c e.kind q ≡ stamp q) → (r q : ℕ) → merged_part mid e.proc.no stamp r q ≡ (clocks_after c e).clock r q
  merge_rule mid ticks stamp brings r q = elim (cases_eq r e.proc.no) [
    | inl h ↦
        ap (λ b. cond b (max (mid r q) (stamp q)) (mid r q)) (eq-eqb r e.proc.no h)
        ∙ ap (λ x. max x (stamp q)) (ticks r q ∙ own r q h)
        ∙ sym (here r q h ∙ ap (max (cond (q == e.proc.no) (c.clock e.proc.no q + 1) (c.clock e.proc.no q))) (brings q))
    | inr h ↦ ap (λ b. cond b (max (mid r q) (stamp q)) (mid r q)) (ne_eqb r e.proc.no h) ∙ ticks r q ∙ other r q h ∙ sym (there r q h)
  ]
