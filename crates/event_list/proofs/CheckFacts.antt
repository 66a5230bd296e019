-- A run that keeps both pasts, by the counts of its entries, is a witness.
use Rattle.std.proofs.Common.{◌≡◌, ℕ, List, [], ◌∷◌, ◌++◌, refl, sym, ap, ◌∙◌, subst, inl, inr, arith}
use Rattle.std.specs.Prelude.{Contains, nat_le}
use Rattle.std.proofs.lemmas.Bool.{eq-eqb, leb-true, le-leb}
use Rattle.std.proofs.lemmas.List.Elements.{Contains-append_left}
use Rattle.nm_base.specs.declared.letter.LetterId.{LetterId}
use Rattle.nm_base.specs.declared.kind.Kind.TheVariants.{Accepted}
use Rattle.nm_base.specs.Message.{Message}
use Rattle.nm_base.specs.Scripts.{Script, IsLawful}
use Rattle.event_list.specs.declared.Event.{Event}
use Rattle.event_list.specs.Events.{is_of, entries, count, Sends}
use Rattle.event_list.specs.Order.{Before}
use Rattle.event_list.specs.Runs.{IsRun, Sound}
use Rattle.event_list.specs.Races.{Race, IsEarlier}
use Rattle.event_list.specs.Clocks.{IsCounts}
use Rattle.event_list.specs.Traces.{Agrees, Keeps}
use Rattle.event_list.specs.Cuts.{cut_list}
use Rattle.event_list.specs.Witnesses.{IsKept, kept_counts, taking_instead, IsWitness, IsWitnessOf}
use Rattle.event_list.proofs.Members.{in_filter, filter_in}
use Rattle.event_list.proofs.Soundness.{numbers, same_place, send_same}
use Rattle.event_list.proofs.Splits.{front}
use Rattle.event_list.proofs.RunsSound.{runs_sound, accepted_parts}
use Rattle.event_list.proofs.Projections.{IsPart}
use Rattle.event_list.proofs.Parts.{part_holds}
use Rattle.event_list.proofs.RaceLaw.{joined, JoinedCut, joined_counts, race_law}
use Rattle.event_list.proofs.WitnessFacts.{joined_kept, not_its_send, keeps_filter, keeps_one, witness_run, the_witness}

-- what agrees with a list has its entries alone
agreeing_part : (E R : List Event) → Agrees E R → IsPart R E
agreeing_part E R h a c =
    let r = h a.proc.no in
    let i = filter_in (is_of a.proc.no) R a c (eq-eqb a.proc.no a.proc.no refl) in
    (in_filter (is_of a.proc.no) E a (subst (λ es. Contains es a) r.1 (Contains-append_left (entries R a.proc.no) r.0 a i))).0

pub witness_by_counts : (s : ℕ → Script) → ((p : ℕ) → IsLawful (s p)) → (M : ℕ) (E : List Event) (m : Message) (q a : Event) (v w : ℕ → ℕ) (set : ℕ) (took : LetterId) (es : List Event) → IsRun s M E → IsEarlier M E m q → Race M E q m → Sends E a m → q.kind ≡ Accepted set took → IsCounts E a v → IsCounts E q w
    → IsRun s M (es ++ taking_instead q set m.id ∷ []) → Agrees E es → ((p : ℕ) → count es p ≡ kept_counts q v w p) → IsWitness s M E m (es ++ taking_instead q set m.id ∷ [])
witness_by_counts s law M E m q a v w set took es run earlier race sends kind cv cw made agrees counts =
    record { send = a; sends = sends; earlier = q; is_earlier = earlier; set = set; took = took; receive = kind; front = es; whole = refl; run = made; holds = λ x. (there x, back x) }
  where
    g : Sound M E
    g = runs_sound s law run

    r : Sound M es
    r = runs_sound s law (front es (taking_instead q set m.id) made)

    free : Before E q a → ⊥
    free = (race_law g q a m earlier.could sends).0 race

    differs : a ≡ q → ⊥
    differs = not_its_send earlier.could sends

    cut : (j : JoinedCut E a q) × ((p : ℕ) → j.cut p ≡ joined E a q v w p)
    cut = joined_counts g a q earlier.could.set earlier.could.took sends.in_list earlier.could.receive free differs v w cv cw

    same : (p : ℕ) → count es p ≡ cut.0.cut p
    same p = counts p ∙ sym (cut.1 p)

    part : IsPart es E
    part = agreeing_part E es agrees

    there : (x : Event) → Contains es x → IsKept E a q x
    there x c = (joined_kept g a q cut.0 free differs x (part x c)).0 (omega (arith, (numbers r x c).1, same x.proc.no))

    inside : (x : Event) → IsKept E a q x → Contains E x
    inside x k = elim k.0 [ inl u ↦ u.0 | inr u ↦ u.0 ]

    back : (x : Event) → IsKept E a q x → Contains es x
    back x k =
        let h = inside x k in
        let l = (joined_kept g a q cut.0 free differs x h).1 k in
        part_holds r g part x h (omega (arith, l, same x.proc.no))

-- the witness in E's order: the entries that the counts of the two pasts keep, and then the receive with the letter
pub witness_made : (s : ℕ → Script) → ((p : ℕ) → IsLawful (s p)) → (M : ℕ) (E : List Event) (m : Message) (q a : Event) (v w : ℕ → ℕ) (set : ℕ) (took : LetterId) → IsRun s M E → IsEarlier M E m q → Race M E q m → Sends E a m → q.kind ≡ Accepted set took → IsCounts E a v → IsCounts E q w
    → IsWitnessOf s M E m (cut_list (kept_counts q v w) E ++ taking_instead q set m.id ∷ [])
witness_made s law M E m q a v w set took run earlier race sends kind cv cw =
    subst (IsWitnessOf s M E m) whole the_one
  where
    g : Sound M E
    g = runs_sound s law run

    free : Before E q a → ⊥
    free = (race_law g q a m earlier.could sends).0 race

    differs : a ≡ q → ⊥
    differs = not_its_send earlier.could sends

    cut : (j : JoinedCut E a q) × ((p : ℕ) → j.cut p ≡ joined E a q v w p)
    cut = joined_counts g a q earlier.could.set earlier.could.took sends.in_list earlier.could.receive free differs v w cv cw

    the_one : IsWitnessOf s M E m (witness_run s law M E run m q earlier race)
    the_one = the_witness s law M E run m q earlier race

    x : IsWitness s M E m (witness_run s law M E run m q earlier race)
    x = the_one.witness

    its_send : x.send ≡ a
    its_send = send_same g x.send a m m x.sends sends refl refl

    its_receive : x.earlier ≡ q
    its_receive =
        same_place g x.earlier q x.is_earlier.could.receive.in_list earlier.could.receive.in_list (x.is_earlier.could.at_dest ∙ sym earlier.could.at_dest)
        (omega (arith, x.is_earlier.last q earlier.could, earlier.last x.earlier x.is_earlier.could))

    its_set : x.set ≡ set
    its_set = (accepted_parts x.set set x.took took (sym x.receive ∙ ap (λ e. e.kind) its_receive ∙ kind)).0

    kept_by : Keeps (IsKept E a q) E (cut_list (kept_counts q v w) E)
    kept_by = keeps_filter (IsKept E a q) (λ e. nat_le e.number (kept_counts q v w e.proc.no)) E (λ e h.
        let law = joined_kept g a q cut.0 free differs e h in
        let n : cut.0.cut e.proc.no ≡ kept_counts q v w e.proc.no = cut.1 e.proc.no in (
          (λ t. law.0 (omega (arith, leb-true e.number (kept_counts q v w e.proc.no) t, n))),
          (λ k. let l = law.1 k in le-leb e.number (kept_counts q v w e.proc.no) (omega (arith, l, n))),
        ))

    order : Keeps (IsKept E a q) E x.front
    order = subst (λ e. Keeps (IsKept E a e) E x.front) its_receive (subst (λ e. Keeps (IsKept E e x.earlier) E x.front) its_send the_one.in_order)

    whole : witness_run s law M E run m q earlier race ≡ cut_list (kept_counts q v w) E ++ taking_instead q set m.id ∷ []
    whole =
        x.whole
        ∙ ap (λ f. f ++ taking_instead x.earlier x.set m.id ∷ []) (keeps_one order kept_by)
        ∙ ap (λ e. cut_list (kept_counts q v w) E ++ taking_instead e x.set m.id ∷ []) its_receive
        ∙ ap (λ t. cut_list (kept_counts q v w) E ++ taking_instead q t m.id ∷ []) its_set
