-- What lists with the same entries have in common, and the room of a replay.
use Rattle.std.proofs.Common.{◌≡◌, ℕ, zero, suc, ◌+◌, ◌<◌, ◌≤◌, max, Bool, true, false, cond, List, [], ◌∷◌, length, Option, Some, None, refl, sym, ap, ◌∙◌, inl, inr, arith}
use Rattle.std.specs.Prelude.{Contains, filter_map}
use Rattle.std.specs.List.{cons_option}
use Rattle.std.proofs.lemmas.Bool.{cases_lt, cases_eq, eq-eqb, ne_eqb}
use Rattle.nm_base.specs.Scripts.{Script, IsLawful}
use Rattle.event_list.specs.declared.Event.{Event}
use Rattle.event_list.specs.Events.{is_of, entries, count, messages, letters, letter_of, taken, taken_of}
use Rattle.event_list.specs.Runs.{IsRun, Sound}
use Rattle.event_list.specs.Cuts.{cut_list}
use Rattle.event_list.specs.Sameness.{SameEntries}
use Rattle.event_list.specs.Traces.{Trace, IsTraceOf, IsReplay, waiting}
use Rattle.event_list.specs.Turns.{sum_below}
use Rattle.event_list.proofs.Members.{empty, cons_here, cons_there, cons_cases}
use Rattle.event_list.proofs.Soundness.{numbers}
use Rattle.event_list.proofs.Projections.{messages_same, entries_same}
use Rattle.event_list.proofs.RunsSound.{runs_sound}
use Rattle.event_list.proofs.Parts.{part_cut}
use Rattle.event_list.proofs.ReplayPrefix.{replay_is_part}
use Rattle.event_list.proofs.CutRuns.{cut_part, cut_count, cut_runs}
use Rattle.event_list.proofs.SameFacts.{same_part, same_count}
use Rattle.event_list.proofs.FinishFacts.{sum_same, sum_less}
use Rattle.event_list.proofs.OrderlyFacts.{letters_wait, all_counted}

-- a number above those of all processes
bound : (E : List Event) → (n : ℕ) × ((a : Event) → Contains E a → a.proc.no < n)
bound [] = (0, λ a c. absurd (empty a c))
bound (x ∷ xs) = let r = bound xs in
    (max (x.proc.no + 1) r.0, λ a c. elim (cons_cases x xs a c) [ inl e ↦ omega (arith, ap (λ z. z.proc.no) e) | inr o ↦ omega (arith, r.1 a o) ])

-- what is read off p's entries of x and then xs, if o is read off x
abbrev parts : {Y : Type 0} → (Event → Option Y) → Event → List Event → Option Y → ℕ → ℕ
parts h x xs o p = length (cond (is_of p x) (cons_option o (filter_map h (entries xs p))) (filter_map h (entries xs p)))

opened : {Y : Type 0} (h : Event → Option Y) (x : Event) (xs : List Event) (p : ℕ) → length (filter_map h (entries (x ∷ xs) p)) ≡ parts h x xs (h x) p
opened h x xs p = by (is_of p x)
  where
    by : (b : Bool) → length (filter_map h (cond b (x ∷ entries xs p) (entries xs p))) ≡ length (cond b (cons_option (h x) (filter_map h (entries xs p))) (filter_map h (entries xs p)))
    by true = refl
    by false = refl

parts_sum : {Y : Type 0} (h : Event → Option Y) (n : ℕ) (x : Event) (xs : List Event) → x.proc.no < n → (o : Option Y) → sum_below n (λ p. length (filter_map h (entries xs p))) ≡ length (filter_map h xs) → sum_below n (parts h x xs o) ≡ length (cons_option o (filter_map h xs))
parts_sum h n x xs below None ih = sum_same n (λ p. length (filter_map h (entries xs p))) (parts h x xs None) (λ p l. same p (is_of p x)) ∙ ih
  where
    same : (p : ℕ) (b : Bool) → length (cond b (filter_map h (entries xs p)) (filter_map h (entries xs p))) ≡ length (filter_map h (entries xs p))
    same p true = refl
    same p false = refl
parts_sum h n x xs below (Some y) ih =
    omega (
      arith,
      ih,
      sum_less n x.proc.no (parts h x xs (Some y)) (λ p. length (filter_map h (entries xs p))) below
          (omega (arith, ap (λ b. length (cond b (y ∷ filter_map h (entries xs x.proc.no)) (filter_map h (entries xs x.proc.no)))) (eq-eqb x.proc.no x.proc.no refl)))
          (λ q d. sym (ap (λ b. length (cond b (y ∷ filter_map h (entries xs q)) (filter_map h (entries xs q)))) (ne_eqb x.proc.no q (λ z. d (sym z))))),
    )

-- what is read off each process's entries adds up to what is read off the list
all_mapped : {Y : Type 0} (h : Event → Option Y) (n : ℕ) (E : List Event) → ((a : Event) → Contains E a → a.proc.no < n) → sum_below n (λ p. length (filter_map h (entries E p))) ≡ length (filter_map h E)
all_mapped h n [] below = sum_zero n
  where
    sum_zero : (n : ℕ) → sum_below n (λ p. 0) ≡ 0
    sum_zero zero = refl
    sum_zero (suc n) = omega (arith, sum_zero n)
all_mapped h n (x ∷ xs) below =
    sum_same n (parts h x xs (h x)) (λ p. length (filter_map h (entries (x ∷ xs) p))) (λ p l. opened h x xs p)
    ∙ parts_sum h n x xs (below x (cons_here x xs)) (h x) (all_mapped h n xs (λ a c. below a (cons_there x xs a c)))

module _ {E F : List Event} (same : SameEntries E F) where
  n : ℕ
  n = max (bound E).0 (bound F).0

  -- as much is read off both lists
  mapped_same : {Y : Type 0} (h : Event → Option Y) → length (filter_map h E) ≡ length (filter_map h F)
  unfolding n
  mapped_same h =
      sym (all_mapped h n E (λ a c. omega (arith, (bound E).1 a c)))
      ∙ sum_same n (λ p. length (filter_map h (entries F p))) (λ p. length (filter_map h (entries E p))) (λ p l. ap (λ es. length (filter_map h es)) (same.same p))
      ∙ all_mapped h n F (λ a c. omega (arith, (bound F).1 a c))

  pub length_same : length E ≡ length F
  unfolding n
  length_same =
      sym (all_counted n E (λ a c. omega (arith, (bound E).1 a c)))
      ∙ sum_same n (count F) (count E) (λ p l. same_count same p)
      ∙ all_counted n F (λ a c. omega (arith, (bound F).1 a c))

  pub sent_same : length (letters E) ≡ length (letters F)
  sent_same = mapped_same letter_of

  pub taken_same : length (taken E) ≡ length (taken F)
  taken_same = mapped_same taken_of

  pub waiting_same : {M N : ℕ} → Sound M E → Sound N F → length (waiting E) ≡ length (waiting F)
  waiting_same g h = omega (arith, letters_wait g, letters_wait h, sent_same, taken_same)

  pub letters_same : {M N : ℕ} → Sound M E → Sound N F → (p : ℕ) → messages E p ≡ messages F p
  letters_same g h p = messages_same g h h (same_part same) (λ a c. c) p (same_count same p)

-- a replay has the entries of the recorded run that is cut at its counts
pub replay_cut : (s : ℕ → Script) → ((p : ℕ) → IsLawful (s p)) → (T : Trace) (E R : List Event) → IsRun s T.mask E → IsTraceOf E T → IsReplay s T R → SameEntries R (cut_list (count R) E)
replay_cut s law T E R run trace replay =
    let part = replay_is_part s law T E R run trace replay in
    let g = runs_sound s law run in
    let r = runs_sound s law replay.run in
    let cut = part_cut r g part in
    let k = runs_sound s law (cut_runs s law T.mask (count R) run cut.closed) in
    record { same = λ p. entries_same r k g part (cut_part (count R) E) p (sym (cut_count (count R) g k p (cut.is_cut p))) }

-- a replay that is to go on is shorter than the recording
pub replay_room : (s : ℕ → Script) → ((p : ℕ) → IsLawful (s p)) → (T : Trace) (R : List Event) (p : ℕ) → IsReplay s T R → ((q : ℕ) → T.n ≤ q → T.counts q ≡ 0) → count R p < T.counts p → length R < sum_below T.n T.counts
replay_room s law T R p h none l =
    let g = runs_sound s law h.run in
    let all = all_counted T.n R (λ a c. elim (cases_lt a.proc.no T.n) [
      | inl k ↦ k
      | inr k ↦ absurd (omega (arith, none a.proc.no k, h.within a.proc.no, (numbers g a c).0, (numbers g a c).1))
    ]) in
    let inside : p < T.n = elim (cases_lt p T.n) [ inl k ↦ k | inr k ↦ absurd (omega (arith, none p k, l)) ] in
    omega (arith, all, sum_below_less T.n p (count R) T.counts inside l h.within)
  where
    sum_most : (n : ℕ) (f h : ℕ → ℕ) → ((q : ℕ) → f q ≤ h q) → sum_below n f ≤ sum_below n h
    sum_most zero f h e = omega arith
    sum_most (suc n) f h e = omega (arith, e n, sum_most n f h e)

    sum_below_less : (n p : ℕ) (f h : ℕ → ℕ) → p < n → f p < h p → ((q : ℕ) → f q ≤ h q) → sum_below n f < sum_below n h
    sum_below_less zero p f h l k e = absurd (omega (arith, l))
    sum_below_less (suc n) p f h l k e = elim (cases_eq p n) [
      | inl at ↦ omega (arith, k, ap f at, ap h at, sum_most n f h e)
      | inr ne ↦ omega (arith, sum_below_less n p f h (omega (arith, l, ne)) k e, e n)
    ]
