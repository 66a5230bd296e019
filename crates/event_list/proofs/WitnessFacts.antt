-- A logged letter has its witness.
use Rattle.std.proofs.Common.{◌≡◌, ℕ, ◌+◌, ◌<◌, Bool, true, false, cond, List, [], ◌∷◌, ◌++◌, refl, sym, ap, ◌∙◌, subst, inl, inr, arith}
use Rattle.std.specs.Prelude.{filter, Contains, nat_le, ◌⊎◌, ◌↔◌}
use mathlib.Core.Path.{ap₂}
use Rattle.std.proofs.lemmas.Bool.{leb-true, le-leb, false≢true}
use Rattle.nm_base.specs.declared.letter.LetterId.{LetterId}
use Rattle.nm_base.specs.declared.kind.Kind.TheVariants.{Accepted}
use Rattle.nm_base.specs.Fitting.{more}
use Rattle.nm_base.specs.Message.{Message}
use Rattle.nm_base.specs.Scripts.{Script, Next, Goes, Wants, Over, IsLawful}
use Rattle.event_list.specs.declared.Event.{Event}
use Rattle.event_list.specs.Events.{count, messages, letter_of, Sends, Accepts}
use Rattle.event_list.specs.Order.{Link, Before, one, further, Cut, Within}
use Rattle.event_list.specs.Runs.{MayTake, KindFits, Fits, IsRun, Sound}
use Rattle.event_list.specs.Races.{CouldTake, Race, IsEarlier, IsLogged}
use Rattle.event_list.specs.Traces.{Keeps, nothing, kept, left_out}
use Rattle.event_list.specs.Cuts.{cut_list}
use Rattle.event_list.specs.Witnesses.{IsKept, KeptCut, taking_instead, IsWitness, IsWitnessOf}
use Rattle.event_list.proofs.Members.{cons_here, cons_there}
use Rattle.event_list.proofs.Splits.{SplitAt, split_at, from_before, front, last}
use Rattle.event_list.proofs.Soundness.{numbers, same_place, send_same}
use Rattle.event_list.proofs.ClockLaws.{no_cycle}
use Rattle.event_list.proofs.RaceLaw.{JoinedCut, joined_cut, race_law, no_letter}
use Rattle.event_list.proofs.RunsSound.{runs_sound, no_receive, accepted_parts}
use Rattle.event_list.proofs.Projections.{IsPart, messages_same, sent_part, accepts_part}
use Rattle.event_list.proofs.Parts.{taker_is}
use Rattle.event_list.proofs.CutRuns.{cut_part, cut_within, cut_has, cut_runs, cut_count}

-- a filter keeps what its test tells
pub keeps_filter : {X : Type 0} (P : X → Type 0) (test : X → Bool) (xs : List X) → ((x : X) → Contains xs x → (test x ≡ true → P x) × (P x → test x ≡ true)) → Keeps P xs (filter test xs)
keeps_filter P test [] h = nothing
keeps_filter P test (x ∷ xs) h = by (test x) refl (keeps_filter P test xs (λ y c. h y (cons_there x xs y c)))
  where
    by : (b : Bool) → test x ≡ b → Keeps P xs (filter test xs) → Keeps P (x ∷ xs) (cond b (x ∷ filter test xs) (filter test xs))
    by true e k = kept ((h x (cons_here x xs)).0 e) k
    by false e k = left_out (λ p. false≢true (sym e ∙ (h x (cons_here x xs)).1 p)) k

-- what is kept is one list
pub keeps_one : {X : Type 0} {P : X → Type 0} {xs ys zs : List X} → Keeps P xs ys → Keeps P xs zs → ys ≡ zs
keeps_one nothing nothing = refl
keeps_one (kept {x = x} p h) (kept q k) = ap (λ l. x ∷ l) (keeps_one h k)
keeps_one (kept p h) (left_out q k) = absurd (q p)
keeps_one (left_out p h) (kept q k) = absurd (p q)
keeps_one (left_out p h) (left_out q k) = keeps_one h k

keeps_as : {X : Type 0} {P Q : X → Type 0} {xs ys : List X} → ((x : X) → P x → Q x) → ((x : X) → Q x → P x) → Keeps P xs ys → Keeps Q xs ys
keeps_as f b nothing = nothing
keeps_as f b (kept {x = x} p h) = kept (f x p) (keeps_as f b h)
keeps_as f b (left_out {x = x} p h) = left_out (λ q. p (b x q)) (keeps_as f b h)

-- what a joined cut holds is the two pasts without q
pub joined_kept : {M : ℕ} {E : List Event} → Sound M E → (a q : Event) (j : JoinedCut E a q) → (Before E q a → ⊥) → (a ≡ q → ⊥) → (x : Event) → Contains E x → Within j.cut x ↔ IsKept E a q x
joined_kept {E = E} g a q j free differs x hx = (
  (λ w. elim (j.only x hx w) [
    | inl u ↦ (inl (hx, u), (λ e. elim u [ inl z ↦ differs (sym z ∙ e) | inr b ↦ free (subst (λ y. Before E y a) e b) ]))
    | inr b ↦ (inr (hx, inr b), (λ e. no_cycle g q (subst (λ y. Before E y q) e b)))
  ]),
  (λ h. j.holds x hx (elim h.0 [
    | inl w ↦ inl w.1
    | inr w ↦ elim w.1 [ inl e ↦ absurd (h.1 e) | inr b ↦ inr b ]
  ])),
)

pub not_its_send : {M : ℕ} {E : List Event} {a q : Event} {m : Message} → CouldTake M E q m → Sends E a m → a ≡ q → ⊥
not_its_send {q = q} {m = m} could ha e = no_letter q could.set could.took m could.receive.kind (ap letter_of (sym e) ∙ ha.letter)

-- the pasts of a logged letter's send and of the last receive that could have taken it, without the receive, are a consistent cut
pub kept_cut : (M : ℕ) (E : List Event) (m : Message) (q a : Event) → Sound M E → IsEarlier M E m q → Race M E q m → Sends E a m → KeptCut E a q
kept_cut M E m q a g earlier race ha =
    let could = earlier.could in
    let free = (race_law g q a m could ha).0 race in
    let differs = not_its_send could ha in
    let j = joined_cut g a q could.set could.took ha.in_list could.receive free differs in
    record { cut = j.cut; consistent = j.consistent; holds = joined_kept g a q j free differs }

module _ (s : ℕ → Script) (law : (p : ℕ) → IsLawful (s p)) (M : ℕ) (E : List Event) (run : IsRun s M E) (m : Message) (q : Event) (is_earlier : IsEarlier M E m q) (race : Race M E q m) where
  g : Sound M E
  g = runs_sound s law run

  could : CouldTake M E q m
  could = is_earlier.could

  abbrev a : Event
  a = could.sent.0

  ha : Sends E a m
  ha = could.sent.1

  free : Before E q a → ⊥
  free = (race_law g q a m could ha).0 race

  differs : a ≡ q → ⊥
  differs = not_its_send could ha

  joined : JoinedCut E a q
  joined = joined_cut g a q could.set could.took ha.in_list could.receive free differs

  abbrev c : Cut
  c = joined.cut

  abbrev C : List Event
  C = cut_list c E

  crun : IsRun s M C
  crun = cut_runs s law M c run joined.consistent.closed

  k : Sound M C
  k = runs_sound s law crun

  part : IsPart C E
  part = cut_part c E

  -- what the cut holds is the two pasts without q
  holds : (x : Event) → Contains E x → Within c x ↔ IsKept E a q x
  holds = joined_kept g a q joined free differs

  -- the run up to q, and its next
  split : SplitAt (Fits s M) E q
  split = split_at run q could.receive.in_list

  abbrev B : List Event
  B = split.before

  abbrev p : ℕ
  p = q.proc.no

  b : Sound M B
  b = runs_sound s law split.begins

  c_count : count C p + 1 ≡ q.number
  c_count = omega (arith, cut_count c g k p (joined.consistent.is_cut p), joined.up_to)

  as_many : count C p ≡ count B p
  as_many = omega (arith, c_count, split.fits.next_number)

  -- a receive of q's process before q is in the cut
  has_earlier : (r : Event) (set : ℕ) (id : LetterId) → Accepts E r set id → r.proc.no ≡ p → r.number < q.number → Accepts C r set id
  has_earlier r set id h o l = record { in_list = cut_has c E r h.in_list (omega (arith, l, joined.up_to, ap c o)); kind = h.kind }

  may_take : MayTake M C p could.set m
  may_take = record {
    sent = (a, record { in_list = cut_has c E a ha.in_list (joined.holds a ha.in_list (inl (inl refl))); letter = ha.letter });
    to_it = sym could.at_dest;
    in_set = could.in_set;
    waits = λ z.
        let h = accepts_part part z.0 z.1 m.id z.2 in
        let o : z.0.proc.no ≡ p = sym (taker_is g z.0 z.1 m h could.sent) ∙ sym could.at_dest in
        omega (arith, could.before_own z.0 z.1 h, cut_within c E z.0 z.2.in_list, joined.up_to, ap c o);
    in_order = λ ordered l hl before.
        let le = sent_part part l hl in
        let r = could.in_order ordered l le before in
        (r.0, r.1, has_earlier r.0 r.1 l.id r.2 (sym (taker_is g r.0 r.1 l r.2 le) ∙ before.dest ∙ sym could.at_dest) r.3);
  }

  instead : (n : Next) → (s p).next (messages B p) (count B p) ≡ n → KindFits M B q n → KindFits M C (taking_instead q could.set m.id) n
  instead (Goes kind) e h = absurd (no_receive s law split.begins p could.set could.took (e ∙ ap Goes (sym h ∙ could.receive.kind)))
  instead (Wants set) e h = let w = (accepted_parts could.set set could.took h.0.id (sym could.receive.kind ∙ h.1)).0 in (m, ap (λ t. Accepted t m.id) w, subst (λ t. MayTake M C p t m) w may_take)
  instead Over e h = absurd h

  -- q's process can take m after the cut
  last_fits : Fits s M C (taking_instead q could.set m.id)
  last_fits = record {
    next_number = sym c_count;
    next_kind = subst (KindFits M C (taking_instead q could.set m.id)) (ap₂ (s p).next (sym (messages_same k b g part (from_before split) p as_many)) (sym as_many)) (instead _ refl split.fits.next_kind);
  }

  pub witness_run : List Event
  witness_run = C ++ taking_instead q could.set m.id ∷ []

  pub the_witness : IsWitnessOf s M E m witness_run
  unfolding witness_run
  the_witness = record {
    witness = record {
      send = a;
      sends = ha;
      earlier = q;
      is_earlier = is_earlier;
      set = could.set;
      took = could.took;
      receive = could.receive.kind;
      front = C;
      whole = refl;
      run = more crun last_fits;
      holds = λ x. ((λ h. (holds x (part x h)).0 (cut_within c E x h)), (λ h. let i = kept_in x h in cut_has c E x i ((holds x i).1 h)));
    };
    in_order = keeps_filter (IsKept E a q) (λ e. nat_le e.number (c e.proc.no)) E (λ x hx. ((λ t. (holds x hx).0 (leb-true x.number (c x.proc.no) t)), (λ h. le-leb x.number (c x.proc.no) ((holds x hx).1 h))));
  }
    where
      kept_in : (x : Event) → IsKept E a q x → Contains E x
      kept_in x h = elim h.0 [ inl w ↦ w.0 | inr w ↦ w.0 ]

-- the witness in E's order is one
pub witness_one : {s : ℕ → Script} {M : ℕ} {E : List Event} {m : Message} → Sound M E → (V W : List Event) → IsWitnessOf s M E m V → IsWitnessOf s M E m W → V ≡ W
witness_one {E = E} {m = m} g V W v w =
    let x = v.witness in
    let y = w.witness in
    let xc = x.is_earlier.could in
    let yc = y.is_earlier.could in
    let sends : x.send ≡ y.send = send_same g x.send y.send m m x.sends y.sends refl refl in
    let n : x.earlier.number ≡ y.earlier.number = omega (arith, x.is_earlier.last y.earlier yc, y.is_earlier.last x.earlier xc) in
    let earlier : x.earlier ≡ y.earlier = same_place g x.earlier y.earlier xc.receive.in_list yc.receive.in_list (xc.at_dest ∙ sym yc.at_dest) n in
    let sets : x.set ≡ y.set = (accepted_parts x.set y.set x.took y.took (sym x.receive ∙ ap (λ e. e.kind) earlier ∙ y.receive)).0 in
    let order : Keeps (IsKept E y.send y.earlier) E x.front = subst (λ e. Keeps (IsKept E y.send e) E x.front) earlier (subst (λ e. Keeps (IsKept E e x.earlier) E x.front) sends v.in_order) in
    let fronts : x.front ≡ y.front = keeps_one order w.in_order in
    x.whole ∙ ap (λ f. f ++ taking_instead x.earlier x.set m.id ∷ []) fronts ∙ ap (λ e. y.front ++ taking_instead e x.set m.id ∷ []) earlier ∙ ap (λ t. y.front ++ taking_instead y.earlier t m.id ∷ []) sets ∙ sym y.whole

-- the first link of a chain
first_link : {E : List Event} {a b : Event} → Before E a b → (x : Event) × Link E a x × ((x ≡ b) ⊎ Before E x b)
first_link {b = b} (one l) = (b, l, inl refl)
first_link {E = E} {b = b} (further h l) = let r = first_link h in (
  r.0,
  r.1,
  inr (elim r.2 [ inl e ↦ subst (λ y. Before E y b) (sym e) (one l) | inr k ↦ further k l ]),
)

-- a letter that has a witness is logged
pub witness_real : (s : ℕ → Script) (M : ℕ) (E : List Event) (m : Message) (W : List Event) → ((p : ℕ) → IsLawful (s p)) → IsRun s M E → IsWitness s M E m W → IsLogged M E m
witness_real s M E m W law run w = (w.earlier, w.is_earlier, (race_law g w.earlier w.send m w.is_earlier.could w.sends).1 free)
  where
    g : Sound M E
    g = runs_sound s law run

    end : IsRun s M (w.front ++ taking_instead w.earlier w.set m.id ∷ [])
    end = subst (IsRun s M) w.whole w.run

    first_entries : Sound M w.front
    first_entries = runs_sound s law (front w.front (taking_instead w.earlier w.set m.id) end)

    -- had the receive happened before the send, its process's next entry would be kept
    free : Before E w.earlier w.send → ⊥
    free h =
        let x = first_link h in
        elim x.1.how [
          | inr d ↦ no_letter w.earlier w.set w.took d.letter w.receive d.sent
          | inl f ↦
              let kept = (w.holds x.0).1 (inl (x.1.second, x.2), (λ e. omega (arith, f.later, ap (λ z. z.number) e))) in
              omega (arith, (numbers first_entries x.0 kept).1, (last w.front (taking_instead w.earlier w.set m.id) end).next_number, f.later, ap (count w.front) f.same)
        ]
