-- Fronts of schedules, of runs and of replays, and one step more.
use Rattle.std.proofs.Common.{◌≡◌, ℕ, ◌≤◌, List, [], ◌∷◌, ◌++◌, length, Option, Some, refl, sym, ap, ◌∙◌, subst, arith, append_assoc, length-append}
use Rattle.std.specs.Prelude.{Contains, fold}
use Rattle.std.proofs.lemmas.List.{append-nil}
use Rattle.std.proofs.lemmas.List.Sums.{fold-append}
use Rattle.std.proofs.lemmas.List.Elements.{filter-append}
use Rattle.nm_base.specs.Scripts.{Script, IsLawful}
use Rattle.event_list.specs.declared.Event.{Event}
use Rattle.event_list.specs.Events.{is_of, entries}
use Rattle.event_list.specs.Runs.{Sound}
use Rattle.event_list.specs.Clocks.{IsCounts, clocks}
use Rattle.event_list.specs.Traces.{Trace, IsReplay}
use Rattle.event_list.specs.Turns.{Turn, Turned, Stays, Went, go, after}
use Rattle.event_list.proofs.Entries.{count_here}
use Rattle.event_list.proofs.Soundness.{old, new}
use Rattle.event_list.proofs.Splits.{prefix, last}
use Rattle.event_list.proofs.ClockLaws.{clocks_right, grow_counts}
use Rattle.event_list.proofs.TurnFacts.{turn_replays}

module _ (s : ℕ → Script) (M : ℕ) (T : Option Trace) where
  -- what the turns make after E
  abbrev pub made : List Event → List Turn → List Event
  made E turns = fold (λ E t. after E (go s M T E t)) E turns

  -- turns put events behind those that there are, at most one each
  record Grown (E : List Event) (turns : List Turn) : Type 0 where
    rest : List Event
    whole : E ++ rest ≡ made E turns
    few : length rest ≤ length turns

  grown : (turns : List Turn) (E : List Event) → Grown E turns
  grown [] E = record { rest = []; whole = append-nil E; few = omega arith }
  grown (t ∷ turns) E = by (go s M T E t) refl (grown turns)
    where
      by : (w : Turned) → go s M T E t ≡ w → ((F : List Event) → Grown F turns) → Grown E (t ∷ turns)
      by (Stays why) h more =
          let r = more E in
          record { rest = r.rest; whole = r.whole ∙ ap (λ z. made (after E z) turns) (sym h); few = omega (arith, r.few) }
      by (Went e) h more =
          let r = more (E ++ e ∷ []) in
          record { rest = e ∷ r.rest; whole = sym (append_assoc E (e ∷ []) r.rest) ∙ r.whole ∙ ap (λ z. made (after E z) turns) (sym h); few = omega (arith, r.few) }

  -- the first turns make a front of what all turns make
  pub made_front : (turns more : List Turn) → (rest : List Event) × (made [] turns ++ rest ≡ made [] (turns ++ more))
  made_front turns more =
      let r = grown more (made [] turns) in
      (r.rest, r.whole ∙ sym (fold-append (λ E t. after E (go s M T E t)) [] turns more))

  pub made_few : (turns : List Turn) → length (made [] turns) ≤ length turns
  made_few turns = let r = grown turns [] in omega (arith, r.few, ap length r.whole)

-- a front of a replay is a replay
pub replay_front : (s : ℕ → Script) (T : Trace) (R rest : List Event) → IsReplay s T (R ++ rest) → IsReplay s T R
replay_front s T R rest h = record {
  run = prefix R rest h.run;
  permitted = prefix R rest h.permitted;
  within = λ p. omega (arith, h.within p, ap length (filter-append (is_of p) R rest), length-append (entries R p) (entries rest p));
}

-- and so is a replay with an event that a turn makes
pub replay_step : (s : ℕ → Script) → ((p : ℕ) → IsLawful (s p)) → (T : Trace) (R : List Event) (t : Turn) (e : Event) → IsReplay s T R → go s T.mask (Some T) R t ≡ Went e → IsReplay s T (R ++ e ∷ [])
replay_step s law T R t e h w = subst (λ z. IsReplay s T (after R z)) w (turn_replays s law T R t h)

-- a vector that counts an entry's past counts it in each longer list
counts_later : {M : ℕ} (E rest : List Event) → Sound M (E ++ rest) → (a : Event) (v : ℕ → ℕ) → Contains E a → IsCounts E a v → IsCounts (E ++ rest) a v
counts_later E [] g a v ha h = subst (λ F. IsCounts F a v) (sym (append-nil E)) h
counts_later {M = M} E (e ∷ rest) g a v ha h =
    let same : (E ++ e ∷ []) ++ rest ≡ E ++ (e ∷ rest) = append_assoc E (e ∷ []) rest in
    let k : Sound M ((E ++ e ∷ []) ++ rest) = subst (Sound M) (sym same) g in
    let one = grow_counts e (prefix E (e ∷ rest) g) (last E e (prefix (E ++ e ∷ []) rest k)) a v ha h in
    subst (λ F. IsCounts F a v) same (counts_later (E ++ e ∷ []) rest k a v (old E e a ha) one)

-- the clock at an entry counts its past in the whole list
pub entry_counts : (M : ℕ) (E : List Event) (a : Event) (rest : List Event) → Sound M (E ++ (a ∷ rest)) → IsCounts (E ++ (a ∷ rest)) a ((clocks (E ++ a ∷ [])).clock a.proc.no)
entry_counts M E a rest g =
    let same : (E ++ a ∷ []) ++ rest ≡ E ++ (a ∷ rest) = append_assoc E (a ∷ []) rest in
    let k : Sound M ((E ++ a ∷ []) ++ rest) = subst (Sound M) (sym same) g in
    let h = prefix (E ++ a ∷ []) rest k in
    let f = last E a h in
    let here = (clocks_right h).clock_is a (new E a) (f.next_number ∙ sym (count_here E a a.proc.no refl)) in
    subst (λ F. IsCounts F a ((clocks (E ++ a ∷ [])).clock a.proc.no)) same (counts_later (E ++ a ∷ []) rest k a _ (new E a) here)
