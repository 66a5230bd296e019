-- Without its entry, a witness is a replay that is not what was recorded.
use Rattle.std.proofs.Common.{◌≡◌, ℕ, ◌-◌, true, List, [], ◌∷◌, ◌++◌, get_or, None, refl, sym, ap, ◌∙◌, subst, inl, inr, arith, append_assoc}
use Rattle.std.specs.Prelude.{Contains, ◌⊎◌, ◌&&◌, ◌==◌, not}
use Rattle.std.specs.List.{list_any}
use Rattle.std.proofs.lemmas.Bool.{cases_eq, eq-eqb, and_from, or_cases, or_left, or_right, not-true, not_from_false, false_from_ne_true, false≢true}
use Rattle.std.proofs.lemmas.List.{same_from_push, get_or_append_left}
use Rattle.std.proofs.lemmas.List.Elements.{Contains-append_left, Contains-append_right, Contains-push, Contains-push_cases}
use Rattle.nm_base.specs.declared.letter.LetterId.{LetterId}
use Rattle.nm_base.specs.declared.letter.AcceptNote.{AcceptNote}
use Rattle.nm_base.specs.declared.kind.Kind.TheVariants.{Accepted}
use Rattle.nm_base.specs.Fitting.{EachFits, none, more}
use Rattle.nm_base.specs.Message.{Message, same_name}
use Rattle.nm_base.specs.Scripts.{Script, IsLawful}
use Rattle.event_list.specs.declared.Event.{Event}
use Rattle.event_list.specs.Events.{entries, count, receives, Accepts}
use Rattle.event_list.specs.Runs.{Fits, IsRun, Sound}
use Rattle.event_list.specs.Races.{CouldTake}
use Rattle.event_list.specs.Traces.{Trace, IsTraceOf, IsPermitted, IsReplay, Agrees, note_for, names, permits, receive_number}
use Rattle.event_list.specs.Witnesses.{taking_instead, IsWitness}
use Rattle.event_list.specs.Needs.{without}
use Rattle.event_list.proofs.Members.{cons_here, in_filter, filter_in, find_none, any_in, in_any}
use Rattle.event_list.proofs.Splits.{snoc_view, prefix, last}
use Rattle.event_list.proofs.Soundness.{numbers, entry_at}
use Rattle.event_list.proofs.RunsSound.{runs_sound, accepted_parts}
use Rattle.event_list.proofs.Projections.{IsPart, entry_place, name_from}
use Rattle.event_list.proofs.Parts.{receive_at, taker_is}
use Rattle.event_list.proofs.Entries.{count_here}
use Rattle.event_list.proofs.Permits.{permits_when, note_names, named_noted}

-- what fits at each place fits throughout
each_from : {X : Type 0} {G : List X → X → Type 0} {H : List X → X → Type 0} {xs : List X} → EachFits G xs → ((ys : List X) (y : X) (zs : List X) → xs ≡ ys ++ (y ∷ zs) → G ys y → H ys y) → EachFits H xs
each_from none h = none
each_from (more {xs = xs} {x = x} g f) h =
    more (each_from g (λ ys y zs e k. h ys y (zs ++ x ∷ []) (ap (λ l. l ++ x ∷ []) e ∙ append_assoc ys (y ∷ zs) (x ∷ [])) k)) (h xs x [] refl f)

-- what the smaller trace has, the trace has
without_note : (T : Trace) (id : LetterId) (note : AcceptNote) → Contains (without T id).notes note → Contains T.notes note
without_note T id note h = (in_filter (λ note. not (same_name note.id id)) T.notes note h).0

module _ (s : ℕ → Script) (law : (p : ℕ) → IsLawful (s p)) (T : Trace) (E W : List Event) (run : IsRun s T.mask E) (m : Message) (w : IsWitness s T.mask E m W) where
  abbrev M : ℕ
  M = T.mask

  abbrev q : Event
  q = w.earlier

  abbrev z : Event
  z = taking_instead q w.set m.id

  abbrev U : Trace
  U = without T m.id

  g : Sound M E
  g = runs_sound s law run

  k : Sound M W
  k = runs_sound s law w.run

  could : CouldTake M E q m
  could = w.is_earlier.could

  front_run : IsRun s M w.front
  front_run = prefix w.front (z ∷ []) (subst (IsRun s M) w.whole w.run)

  front_part : IsPart w.front E
  front_part x h = elim ((w.holds x).0 h).0 [ inl c ↦ c.0 | inr c ↦ c.0 ]

  z_in : Contains W z
  z_in = subst (λ l. Contains l z) (sym w.whole) (Contains-push w.front z)

  w_cases : (x : Event) → Contains W x → Contains w.front x ⊎ (z ≡ x)
  w_cases x h = Contains-push_cases w.front z x (subst (λ l. Contains l x) w.whole h)

  -- the last entry's number is its process's count
  z_last : count W q.proc.no ≡ q.number
  z_last =
      let f : Fits s M w.front z = last w.front z (subst (IsRun s M) w.whole w.run) in
      let c = count_here w.front z q.proc.no refl in
      omega (arith, f.next_number, c, ap (λ l. count l q.proc.no) w.whole)

  -- the letter is not received in the front
  not_taken : (x : Event) (set : ℕ) → Contains w.front x → x.kind ≡ Accepted set m.id → ⊥
  not_taken x set h e =
      let a : Accepts E x set m.id = record { in_list = front_part x h; kind = e } in
      let p : x.proc.no ≡ q.proc.no = sym (taker_is g x set m a could.sent) ∙ sym could.at_dest in
      let n = numbers k x (subst (λ l. Contains l x) (sym w.whole) (Contains-append_left w.front (z ∷ []) x h)) in
      omega (arith, could.before_own x set a, n.1, ap (count W) p, z_last)

  -- an entry of the witness with the entries before it, which are of the front
  record Placed (ys : List Event) (y : Event) : Type 0 where
    part : IsPart ys E
    is : Contains w.front y ⊎ (z ≡ y)

  placed : (ys : List Event) (y : Event) (zs : List Event) → W ≡ ys ++ (y ∷ zs) → Placed ys y
  placed ys y zs e = elim (snoc_view zs) [
    | inl n ↦
        let s = same_from_push w.front ys z y (sym w.whole ∙ e ∙ ap (λ l. ys ++ (y ∷ l)) n) in
        record { part = λ a h. front_part a (subst (λ l. Contains l a) (sym s.0) h); is = inr s.1 }
    | inr r ↦
        let s = same_from_push w.front (ys ++ (y ∷ r.0)) z r.1 (sym w.whole ∙ e ∙ ap (λ l. ys ++ (y ∷ l)) r.2 ∙ sym (append_assoc ys (y ∷ r.0) (r.1 ∷ []))) in
        record { part = λ a h. front_part a (subst (λ l. Contains l a) (sym s.0) (Contains-append_left ys (y ∷ r.0) a h)); is = inl (subst (λ l. Contains l y) (sym s.0) (Contains-append_right ys (y ∷ r.0) y (cons_here y r.0))) }
  ]

  -- the witness does not agree with the recorded run
  pub witness_differs : Agrees E W → ⊥
  witness_differs h =
      let p = q.proc.no in
      let n = numbers g q could.receive.in_list in
      let j = q.number - 1 in
      let a : get_or (entries W p) j q ≡ z = entry_place k z q j z_in (omega (arith, n.0)) in
      let b : get_or (entries E p) j q ≡ q = entry_place g q q j could.receive.in_list (omega (arith, n.0)) in
      let c : get_or (entries W p ++ (h p).0) j q ≡ get_or (entries W p) j q = get_or_append_left (entries W p) (h p).0 q j (omega (arith, z_last, n.0)) in
      let same : z ≡ q = sym a ∙ sym c ∙ ap (λ l. get_or l j q) (h p).1 ∙ b in
      let t : Accepts E q w.set m.id = record { in_list = could.receive.in_list; kind = ap (λ x. x.kind) (sym same) } in
      omega (arith, could.before_own q w.set t)

  module _ (trace : IsTraceOf E T) (unnoted : note_for T w.earlier.proc.no (receive_number E w.earlier) ≡ None) where
    -- the smaller trace permits what the front's receives accepted
    front_permitted : (x : Event) (set : ℕ) (id : LetterId) → Contains w.front x → x.kind ≡ Accepted set id → permits U x.proc.no (receive_number E x) id ≡ true
    front_permitted x set id h e =
        permits_when U x.proc.no (receive_number E x) id
        (λ note c. note_names g trace x set id takes note (without_note T m.id note c))
        (λ free named.
        let n = named_noted g trace x set id takes (still_named named) in
        let c = filter_in (λ note. not (same_name note.id m.id)) T.notes n.0 n.1 (not_from_false _ (false_from_ne_true _ (λ t. not_taken x set h (e ∙ ap (Accepted set) (sym n.4 ∙ name_from n.0.id m.id t))))) in
        find_none (λ note. (note.receiver.no == x.proc.no) && (note.receive == receive_number E x)) U.notes n.0 free c (and_from _ _ (eq-eqb n.0.receiver.no x.proc.no n.2) (eq-eqb n.0.receive (receive_number E x) n.3)))
      where
        takes : Accepts E x set id
        takes = record { in_list = front_part x h; kind = e }

        still_named : names U id ≡ true → names T id ≡ true
        still_named n = elim (or_cases _ _ n) [
          | inl y ↦ let a = any_in (λ note. same_name note.id id) U.notes y in
              or_left (list_any (λ note. same_name note.id id) T.notes) (list_any (λ l. same_name l id) T.lost) (in_any (λ note. same_name note.id id) T.notes a.0 (without_note T m.id a.0 a.1) a.2)
          | inr y ↦ let a = any_in (λ l. same_name l id) U.lost y in
              or_right (list_any (λ note. same_name note.id id) T.notes) (list_any (λ l. same_name l id) T.lost) (in_any (λ l. same_name l id) T.lost a.0 (in_filter (λ l. not (same_name l m.id)) T.lost a.0 a.1).0 a.2)
        ]

    -- and the letter at the earlier receive
    last_permitted : permits U q.proc.no (receive_number E q) m.id ≡ true
    last_permitted = permits_when U q.proc.no (receive_number E q) m.id
        (λ note c p n. absurd (find_none (λ note. (note.receiver.no == q.proc.no) && (note.receive == receive_number E q)) T.notes note unnoted (without_note T m.id note c) (and_from _ _ (eq-eqb note.receiver.no q.proc.no p) (eq-eqb note.receive (receive_number E q) n))))
        (λ free named. elim (or_cases _ _ named) [
          | inl y ↦ let a = any_in (λ note. same_name note.id m.id) U.notes y in
              false≢true (sym (not-true _ (in_filter (λ note. not (same_name note.id m.id)) T.notes a.0 a.1).1) ∙ a.2)
          | inr y ↦ let a = any_in (λ l. same_name l m.id) U.lost y in
              false≢true (sym (not-true _ (in_filter (λ l. not (same_name l m.id)) T.lost a.0 a.1).1) ∙ a.2)
        ])

    each_permitted : EachFits (IsPermitted U) W
    each_permitted = each_from w.run (λ ys y zs e f.
        let c = placed ys y zs e in
        let yrun : IsRun s M ys = prefix ys (y ∷ zs) (subst (IsRun s M) e w.run) in
        let at : receive_number E y ≡ receives ys y.proc.no = receive_at (runs_sound s law yrun) g c.part y f.next_number in
        record {
          permitted = λ set id n. ap (λ j. permits U y.proc.no j id) (sym at) ∙ elim c.is [
            | inl h ↦ front_permitted y set id h n
            | inr h ↦
                let i : m.id ≡ id = (accepted_parts w.set set m.id id (ap (λ x. x.kind) h ∙ n)).1 in
                subst (λ y. permits U y.proc.no (receive_number E y) id ≡ true) h (subst (λ id. permits U q.proc.no (receive_number E q) id ≡ true) i last_permitted)
          ];
        })

    -- the witness is a replay of the smaller trace
    pub witness_replays : IsReplay s (without T m.id) W
    witness_replays = record {
      run = w.run;
      permitted = each_permitted;
      within = λ p. elim (cases_eq (count W p) 0) [
        | inl c ↦ omega (arith, c)
        | inr nz ↦
            let a = entry_at k p (count W p) (omega arith) (omega arith) in
            elim (w_cases a.0 a.1) [
              | inl h ↦ omega (arith, a.3, (numbers g a.0 (front_part a.0 h)).1, ap (count E) a.2, trace.counts p)
              | inr h ↦ omega (arith, a.3, (numbers g q could.receive.in_list).1, ap (λ x. x.number) h, ap (λ x. count E x.proc.no) h, ap (count E) a.2, trace.counts p)
            ]
      ];
    }
