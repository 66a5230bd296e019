-- Whether a letter is logged can be decided, so every run has its trace.
use Rattle.std.proofs.Common.{◌≡◌, ℕ, ◌<◌, ◌≤◌, List, [], ◌∷◌, Option, Some, None, refl, sym, ap, ◌∙◌, subst, inl, inr, arith}
use Rattle.std.specs.Prelude.{Contains, ◌⊎◌, ◌↔◌, map}
use Rattle.std.proofs.lemmas.Bool.{cases_eq, cases_lt, cases_Bool, false≢true}
use Rattle.nm_base.specs.declared.letter.LetterId.{LetterId}
use Rattle.nm_base.specs.declared.kind.Kind.{Kind}
use Rattle.nm_base.specs.declared.kind.Kind.TheVariants.{Line, Sent, Accepted, Printed, Ended, Faulted}
use Rattle.nm_base.specs.Message.{Message}
use Rattle.nm_base.specs.Channels.{has_channel}
use Rattle.event_list.specs.declared.Event.{Event}
use Rattle.event_list.specs.Events.{count, letters, letter_named, letter_of, Accepts, IsSent, Precedes}
use Rattle.event_list.specs.Runs.{Sound}
use Rattle.event_list.specs.Races.{CouldTake, IsEarlier, IsLogged}
use Rattle.event_list.specs.Clocks.{clocks}
use Rattle.event_list.specs.Traces.{Keeps, nothing, kept, left_out, is_taken, waiting, all_notes, Trace, IsLoggedName, IsTraceOf}
use Rattle.event_list.specs.Turns.{precedes}
use Rattle.event_list.proofs.Members.{empty, cons_cases, cons_here, cons_there, find_some, in_filter_map, filter_map_in}
use Rattle.event_list.proofs.Soundness.{accept_same, letter_same}
use Rattle.event_list.proofs.RaceLaw.{race_law, stamp_law}
use Rattle.event_list.proofs.Projections.{named_is, name_from}
use Rattle.event_list.proofs.TraceFacts.{taken_is, is_taken_from}
use Rattle.event_list.proofs.TurnFacts.{precedes_from, precedes_is}
use Rattle.event_list.proofs.WitnessFacts.{keeps_one}

-- a fact that can be decided
abbrev pub Decided : Type 0 → Type 0
Decided P = P ⊎ (P → ⊥)

-- whether a fact holds of all elements
all_decided : {X : Type 0} (P : X → Type 0) (xs : List X) → ((x : X) → Contains xs x → Decided (P x)) → Decided ((x : X) → Contains xs x → P x)
all_decided P [] d = inl (λ x h. absurd (empty x h))
all_decided P (x ∷ xs) d = elim (d x (cons_here x xs)) [
  | inl p ↦ elim (all_decided P xs (λ y h. d y (cons_there x xs y h))) [
    | inl a ↦ inl (λ y h. elim (cons_cases x xs y h) [ inl e ↦ subst P e p | inr o ↦ a y o ])
    | inr n ↦ inr (λ a. n (λ y h. a y (cons_there x xs y h)))
  ]
  | inr n ↦ inr (λ a. n (a x (cons_here x xs)))
]

-- the greatest element of which a fact holds, if it holds of one
pub record Greatest {X : Type 0} (P : X → Type 0) (f : X → ℕ) (xs : List X) : Type 0 where
  pub it : X
  pub in_list : Contains xs it
  pub has : P it
  pub greatest : (y : X) → Contains xs y → P y → f y ≤ f it

pub greatest : {X : Type 0} (P : X → Type 0) (f : X → ℕ) (xs : List X) → ((x : X) → Contains xs x → Decided (P x)) → Greatest P f xs ⊎ ((x : X) → Contains xs x → P x → ⊥)
greatest P f [] d = inr (λ x h p. empty x h)
greatest P f (x ∷ xs) d = elim (greatest P f xs (λ y h. d y (cons_there x xs y h))) [
  | inl g ↦ elim (d x (cons_here x xs)) [
    | inl p ↦ elim (cases_lt (f x) (f g.it)) [
      | inl l ↦ inl record {
        it = g.it;
        in_list = cons_there x xs g.it g.in_list;
        has = g.has;
        greatest = λ y h q. elim (cons_cases x xs y h) [
          | inl e ↦ omega (arith, l, ap f e)
          | inr o ↦ g.greatest y o q
        ];
      }
      | inr l ↦ inl record {
        it = x;
        in_list = cons_here x xs;
        has = p;
        greatest = λ y h q. elim (cons_cases x xs y h) [
          | inl e ↦ omega (arith, ap f e)
          | inr o ↦ omega (arith, g.greatest y o q, l)
        ];
      }
    ]
    | inr n ↦ inl record {
      it = g.it;
      in_list = cons_there x xs g.it g.in_list;
      has = g.has;
      greatest = λ y h q. elim (cons_cases x xs y h) [
        | inl e ↦ absurd (n (subst P (sym e) q))
        | inr o ↦ g.greatest y o q
      ];
    }
  ]
  | inr a ↦ elim (d x (cons_here x xs)) [
    | inl p ↦ inl record {
      it = x;
      in_list = cons_here x xs;
      has = p;
      greatest = λ y h q. elim (cons_cases x xs y h) [
        | inl e ↦ omega (arith, ap f e)
        | inr o ↦ absurd (a y o q)
      ];
    }
    | inr n ↦ inr (λ y h q. elim (cons_cases x xs y h) [
      | inl e ↦ n (subst P (sym e) q)
      | inr o ↦ a y o q
    ])
  ]
]

receive_decided : (k : Kind) → ((set : ℕ) × (id : LetterId) × (k ≡ Accepted set id)) ⊎ ((set : ℕ) (id : LetterId) → k ≡ Accepted set id → ⊥)
receive_decided (Line x) = inr (λ set id h. cc)
receive_decided (Sent number dest chan len words) = inr (λ set id h. cc)
receive_decided (Accepted set id) = inl (set, id, refl)
receive_decided (Printed x) = inr (λ set id h. cc)
receive_decided (Ended x) = inr (λ set id h. cc)
receive_decided (Faulted x) = inr (λ set id h. cc)

set_same : (s t : ℕ) (a b : LetterId) → Accepted s a ≡ Accepted t b → s ≡ t
set_same s t a b h = cc

module _ (M : ℕ) (E : List Event) (g : Sound M E) where
  -- whether a letter was accepted before q
  taken_before : (q : Event) (id : LetterId) → Decided ((r : Event) × (set : ℕ) × Accepts E r set id × (r.number < q.number))
  taken_before q id = elim (cases_Bool (is_taken E id)) [
    | inl t ↦ let r = taken_is E id t in elim (cases_lt r.0.number q.number) [
      | inl l ↦ inl (r.0, r.1, r.2, l)
      | inr l ↦ inr (λ k. let e = accept_same g k.0 r.0 k.1 r.1 id k.2 r.2 in omega (arith, k.3, l, ap (λ z. z.number) e))
    ]
    | inr n ↦ inr (λ k. false≢true (sym n ∙ is_taken_from E k.0 k.1 id k.2))
  ]

  -- whether q comes before a letter's receive
  before_taken : (q : Event) (id : LetterId) → Decided ((r : Event) (set : ℕ) → Accepts E r set id → q.number < r.number)
  before_taken q id = elim (cases_Bool (is_taken E id)) [
    | inl t ↦ let r = taken_is E id t in elim (cases_lt q.number r.0.number) [
      | inl l ↦ inl (λ k set a. let e = accept_same g k r.0 set r.1 id a r.2 in omega (arith, l, ap (λ z. z.number) e))
      | inr l ↦ inr (λ k. let n = k r.0 r.1 r.2 in omega (arith, n, l))
    ]
    | inr n ↦ inl (λ k set a. absurd (false≢true (sym n ∙ is_taken_from E k set id a)))
  ]

  -- whether each earlier letter was accepted before q
  ordered : (q : Event) (m : Message) → Decided ((l : Message) → IsSent E l → Precedes l m → (r : Event) × (set : ℕ) × Accepts E r set l.id × (r.number < q.number))
  ordered q m =
      elim (all_decided (λ l. Precedes l m → (r : Event) × (set : ℕ) × Accepts E r set l.id × (r.number < q.number)) (letters E) (λ l h. one l)) [
        | inl a ↦ inl (λ l s k. a l (filter_map_in letter_of E s.0 l s.1.in_list s.1.letter) k)
        | inr n ↦ inr (λ a. n (λ l h k. let b = in_filter_map letter_of E l h in a l (b.0, record { in_list = b.1; letter = b.2 }) k))
      ]
    where
      one : (l : Message) → Decided (Precedes l m → (r : Event) × (set : ℕ) × Accepts E r set l.id × (r.number < q.number))
      one l = elim (taken_before q l.id) [
        | inl y ↦ inl (λ k. y)
        | inr n ↦ elim (cases_Bool (precedes l m)) [
          | inl y ↦ inr (λ k. n (k (precedes_is l m y)))
          | inr f ↦ inl (λ k. absurd (false≢true (sym f ∙ precedes_from l m k)))
        ]
      ]

  -- whether a receive could have taken a letter
  could_decided : (m : Message) → IsSent E m → (q : Event) → Contains E q → Decided (CouldTake M E q m)
  could_decided m sent q hq =
      elim (receive_decided q.kind) [
        | inl k ↦ elim (cases_eq q.proc.no m.dest.no) [
          | inl dest ↦ elim (cases_Bool (has_channel k.0 m.chan)) [
            | inl chan ↦ elim (before_taken q m.id) [
              | inl own ↦ elim (cases_Bool (has_channel M m.chan)) [
                | inl masked ↦ elim (ordered q m) [
                  | inl order ↦ inl record { sent = sent; set = k.0; took = k.1; receive = record { in_list = hq; kind = k.2 }; at_dest = dest; in_set = chan; before_own = own; in_order = λ o. order }
                  | inr n ↦ inr (λ c. n (c.in_order masked))
                ]
                | inr free ↦ inl record { sent = sent; set = k.0; took = k.1; receive = record { in_list = hq; kind = k.2 }; at_dest = dest; in_set = chan; before_own = own; in_order = λ o. absurd (false≢true (sym free ∙ o)) }
              ]
              | inr n ↦ inr (λ c. n c.before_own)
            ]
            | inr n ↦ inr (λ c. false≢true (sym n ∙ ap (λ s. has_channel s m.chan) (set_same k.0 c.set k.1 c.took (sym k.2 ∙ c.receive.kind)) ∙ c.in_set))
          ]
          | inr n ↦ inr (λ c. n c.at_dest)
        ]
        | inr n ↦ inr (λ c. n c.set c.took c.receive.kind)
      ]

  -- the last receive that could have taken a letter decides by the letter's timestamp
  pub logged_stamp : (m : Message) (q : Event) → IsEarlier M E m q → IsLogged M E m ↔ ((clocks E).stamp m.id q.proc.no < q.number)
  logged_stamp m q last =
      let s = last.could.sent in
      let law = stamp_law g q s.0 last.could.set last.could.took m last.could.receive s.1 in (
        (λ l.
            let n : l.0.number ≡ q.number = omega (arith, last.last l.0 l.1.could, l.1.last q last.could) in
            let o : l.0.proc.no ≡ q.proc.no = l.1.could.at_dest ∙ sym last.could.at_dest in
            elim (cases_lt ((clocks E).stamp m.id q.proc.no) q.number) [
              | inl y ↦ y
              | inr y ↦ absurd ((race_law g l.0 s.0 m l.1.could s.1).0 l.2 ((stamp_law g l.0 s.0 l.1.could.set l.1.could.took m l.1.could.receive s.1).1 (omega (arith, y, n, ap ((clocks E).stamp m.id) o))))
            ]),
        (λ l. (q, last, (race_law g q s.0 m last.could s.1).1 (λ b. let k = law.0 b in omega (arith, k, l)))),
      )

  pub logged_decided : (m : Message) → IsSent E m → Decided (IsLogged M E m)
  logged_decided m sent =
      elim (greatest (λ q. CouldTake M E q m) (λ q. q.number) E (could_decided m sent)) [
        | inl q ↦
            let last : IsEarlier M E m q.it = record { could = q.has; last = λ r c. q.greatest r c.receive.in_list c } in
            elim (cases_lt ((clocks E).stamp m.id q.it.proc.no) q.it.number) [
              | inl l ↦ inl ((logged_stamp m q.it last).1 l)
              | inr l ↦ inr (λ k. let n = (logged_stamp m q.it last).0 k in omega (arith, n, l))
            ]
        | inr n ↦ inr (λ l. n l.0 l.1.could.receive.in_list l.1.could)
      ]

  pub name_decided : (id : LetterId) → Decided (IsLoggedName M E id)
  name_decided id = go (letter_named E id) refl
    where
      none_some : (m : Message) → None ≡ Some m → ⊥
      none_some m h = cc

      go : (o : Option Message) → letter_named E id ≡ o → Decided (IsLoggedName M E id)
      go None e = inr (λ l. none_some l.0 (sym e ∙ ap (letter_named E) (sym l.1) ∙ named_is g l.0 l.2.1.could.sent))
      go (Some m) e =
          let f = find_some _ (letters E) m e in
          let n = name_from m.id id f.1 in
          let a = in_filter_map letter_of E m f.0 in
          let sent : IsSent E m = (a.0, record { in_list = a.1; letter = a.2 }) in
          elim (logged_decided m sent) [
            | inl l ↦ inl (m, n, l)
            | inr d ↦ inr (λ l. d (subst (IsLogged M E) (letter_same g l.0 m l.2.1.could.sent sent (l.1 ∙ sym n)) l.2))
          ]

pub keeps_some : {X : Type 0} (P : X → Type 0) → ((x : X) → Decided (P x)) → (xs : List X) → (ys : List X) × Keeps P xs ys
keeps_some P d [] = ([], nothing)
keeps_some P d (x ∷ xs) = let r = keeps_some P d xs in elim (d x) [
  | inl p ↦ (x ∷ r.0, kept p r.1)
  | inr n ↦ (r.0, left_out n r.1)
]

-- every sound list has its trace
pub trace_exists : (version M n : ℕ) (E : List Event) → Sound M E → ((a : Event) → Contains E a → a.proc.no < n) → (T : Trace) × (T.version ≡ version) × (T.mask ≡ M) × (T.n ≡ n) × IsTraceOf E T
trace_exists version M n E g below =
    let notes = keeps_some (λ note. IsLoggedName M E note.id) (λ note. name_decided M E g note.id) (all_notes E) in
    let lost = keeps_some (IsLoggedName M E) (name_decided M E g) (map (λ m. m.id) (waiting E)) in (
      record { version = version; mask = M; n = n; notes = notes.0; lost = lost.0; counts = count E },
      refl,
      refl,
      refl,
      record { processes = below; notes = notes.1; lost = lost.1; counts = λ p. refl },
    )

-- and one
pub trace_one : (E : List Event) (T U : Trace) → T.mask ≡ U.mask → IsTraceOf E T → IsTraceOf E U → (T.notes ≡ U.notes) × (T.lost ≡ U.lost) × ((p : ℕ) → T.counts p ≡ U.counts p)
trace_one E T U mask t u = (
  keeps_one (subst (λ M. Keeps (λ note. IsLoggedName M E note.id) (all_notes E) T.notes) mask t.notes) u.notes,
  keeps_one (subst (λ M. Keeps (IsLoggedName M E) (map (λ m. m.id) (waiting E)) T.lost) mask t.lost) u.lost,
  (λ p. t.counts p ∙ sym (u.counts p)),
)
