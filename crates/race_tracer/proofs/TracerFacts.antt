-- What a tracer stands for, and what it decides.
use Rattle.std.proofs.Common.{◌≡◌, ℕ, zero, suc, ◌+◌, ◌*◌, ◌<◌, ◌≤◌, max, Bool, true, false, cond, List, [], ◌∷◌, ◌++◌, length, set as set_at, get_or, get_or-set_same, get_or-set_other, replicate, Option, Some, None, refl, sym, ap, ◌∙◌, subst, inl, inr, arith, length-append}
use Rattle.std.specs.Prelude.{Contains, ◌↔◌, ◌&&◌, nat_lt, slice_get, IsSome}
use Rattle.std.specs.Bool.{then_some}
use Rattle.std.specs.List.{cons_option}
use Rattle.std.proofs.lemmas.Bool.{cases_eq, cases_Bool, false≢true, ltb-true, lt-ltb, and_parts}
use Rattle.std.proofs.lemmas.List.{append-nil}
use Rattle.std.proofs.lemmas.List.Elements.{Contains-push_cases}
use Rattle.nm_base.specs.declared.letter.ProcNo.{ProcNo}
use Rattle.nm_base.specs.declared.letter.LetterId.{LetterId}
use Rattle.nm_base.specs.declared.letter.Letter.{Letter}
use Rattle.nm_base.specs.declared.kind.Kind.TheVariants.{Accepted}
use Rattle.nm_base.specs.declared.limits.TheConstants.{MAX_PROCESSES}
use Rattle.nm_base.specs.Message.{Message, message_of}
use Rattle.nm_base.specs.Channels.{has_channel}
use Rattle.vector_clocks.specs.Parts.{part}
use Rattle.event_list.specs.declared.Event.{Event}
use Rattle.event_list.specs.Events.{entries, count, taken, taken_in, taken_of, receives, Accepts, IsSent, Precedes, letters, letter_of, Sends}
use Rattle.event_list.specs.Runs.{FitsSoundly, Sound}
use Rattle.event_list.specs.Clocks.{IsCounts, clocks}
use Rattle.event_list.specs.Races.{IsLogged}
use Rattle.event_list.proofs.Members.{in_filter_map}
use Rattle.event_list.proofs.TurnFacts.{at_place}
use Rattle.event_list.proofs.Entries.{nothing_in, entries_here, entries_there, taken_grows}
use Rattle.event_list.proofs.Soundness.{old, new, numbers, accept_same, letter_same, sender_is}
use Rattle.event_list.proofs.Splits.{prefix, last}
use Rattle.event_list.proofs.ClockLaws.{clocks_right}
use Rattle.event_list.proofs.RunsSound.{accepted_parts, runs_sound, channel_below}
use Rattle.event_list.proofs.Parts.{taker_is}
use Rattle.event_list.proofs.PredecessorFacts.{received_first}
use Rattle.race_tracer.specs.Tracing.{Tables, IsLast, Names, Takes, IsTracerOf, HasStamp, IsLawfulRun, receive_of, IsNext, OtherEventsLaw, place, named_at, taken_at}
use Rattle.race_tracer.specs.private.Deciding.{has_place, since_of}
use Rattle.race_tracer.proofs.LastFacts.{last_stays, last_new, takes_over, takes_back}
use Rattle.race_tracer.proofs.RaceFacts.{Since, since_free, since_ordered, logged_by, could_name, could_names}

pub sound_of : {M : ℕ} {E : List Event} → IsLawfulRun M E → Sound M E
sound_of r = runs_sound r.scripts r.lawful r.run

pub channel_of : {M : ℕ} {E : List Event} {l : Letter} → IsLawfulRun M E → HasStamp E l → l.chan < 32
channel_of {l = l} r stamp = channel_below r.scripts r.lawful r.run stamp.send (message_of l) stamp.sends

pub sender_of : {M : ℕ} {E : List Event} {l : Letter} → IsLawfulRun M E → HasStamp E l → l.id.sender.no < MAX_PROCESSES
sender_of {l = l} r stamp = omega (arith, r.below stamp.send stamp.sends.in_list, sender_is stamp.sends)

ranged : {M : ℕ} {E : List Event} {l : Letter} (p : ℕ) → p < MAX_PROCESSES → IsLawfulRun M E → HasStamp E l → has_place p l ≡ true
ranged {l = l} p below r stamp =
    ap (λ b. b && (nat_lt l.id.sender.no MAX_PROCESSES && nat_lt l.chan 32)) (lt-ltb p MAX_PROCESSES below)
    ∙ ap (λ b. b && nat_lt l.chan 32) (lt-ltb l.id.sender.no MAX_PROCESSES (sender_of r stamp))
    ∙ lt-ltb l.chan 32 (channel_of r stamp)

pub range_below : (p : ℕ) (l : Letter) → has_place p l ≡ true → p < MAX_PROCESSES
range_below p l h = ltb-true p MAX_PROCESSES (and_parts _ _ h).0

-- what is told is in range
pub next_below : (M : ℕ) (E : List Event) (p : ProcNo) (number set : ℕ) (l : Letter) → IsNext M E p number set l → p.no < MAX_PROCESSES
next_below M E p number set l next = next.run.below (receive_of p number set l) (new E (receive_of p number set l))

pub next_in_range : (M : ℕ) (E : List Event) (p : ProcNo) (number set : ℕ) (l : Letter) → IsNext M E p number set l → has_place p.no l ≡ true
next_in_range M E p number set l next = ranged p.no (next_below M E p number set l next) next.run next.stamp

-- a letter to no process of the run is not logged
pub out_of_range : (M : ℕ) (E : List Event) (l : Letter) → IsLawfulRun M E → HasStamp E l → has_place l.dest.no l ≡ false → IsLogged M E (message_of l) → ⊥
out_of_range M E l r stamp out logged =
    let c = logged.1.could in
    let below : l.dest.no < MAX_PROCESSES = omega (arith, r.below logged.0 c.receive.in_list, c.at_dest) in
    false≢true (sym out ∙ ranged l.dest.no below r stamp)

-- the number and the row at a place
abbrev number_at : List ℕ → ℕ → ℕ
number_at ns c = get_or ns c 0

abbrev row_at : List (List ℕ) → ℕ → List ℕ
row_at rows p = get_or rows p []

no_number : (m c : ℕ) → number_at (replicate m 0) c ≡ 0
no_number zero c = nothing c
  where
    nothing : (c : ℕ) → number_at [] c ≡ 0
    nothing c = refl
no_number (suc m) zero = refl
no_number (suc m) (suc c) = no_number m c

no_rows : (n m p c : ℕ) → number_at (row_at (replicate n (replicate m 0)) p) c ≡ 0
no_rows zero m p c = refl
no_rows (suc n) m zero c = no_number m c
no_rows (suc n) m (suc p) c = no_rows n m p c

-- the tables as contracts see them
abbrev pub tables_of : ℕ → List (List ℕ) → List ℕ → List ℕ → Tables
tables_of mask rows items counts = record { mask = mask; naming = rows; taking = items; receives = counts }

-- a tracer that was told nothing
pub new_tracer : (mask size : ℕ) → IsTracerOf (tables_of mask (replicate 32 (replicate 32 0)) (replicate size 0) (replicate 32 0)) []
new_tracer mask size = record {
  naming = λ p chan below. record { is = inl (no_rows 32 32 p chan); last = λ q c y. absurd (nothing_in q c) };
  taking = λ s p chan x y z. record { is = inl (no_number size (place s p chan)); last = λ q c y. absurd (nothing_in q c) };
  receives_is = no_number 32;
}

receives_same : (E : List Event) (e : Event) (p : ℕ) → taken_of e ≡ None → receives (E ++ e ∷ []) p ≡ receives E p
receives_same E e p h = elim (cases_eq e.proc.no p) [
  | inl y ↦ ap (λ es. length (taken es)) (entries_here E e p y) ∙ ap length (taken_grows (entries E p) e ∙ ap (λ o. taken (entries E p) ++ cons_option o []) h ∙ append-nil (taken (entries E p)))
  | inr n ↦ ap (λ es. length (taken es)) (entries_there E e p n)
]

receives_more : (E : List Event) (e : Event) (p : ℕ) (id : LetterId) → taken_of e ≡ Some id → e.proc.no ≡ p → receives (E ++ e ∷ []) p ≡ receives E p + 1
receives_more E e p id h y =
    ap (λ es. length (taken es)) (entries_here E e p y) ∙ ap length (taken_grows (entries E p) e ∙ ap (λ o. taken (entries E p) ++ cons_option o []) h) ∙ length-append (taken (entries E p)) (id ∷ [])

-- an event that is no receive is none of those that are kept
no_receive : (k : ℕ) (e : Event) (set : ℕ) (id : LetterId) → taken_of e ≡ None → e.kind ≡ Accepted set id → ⊥
no_receive k e set id none kind = some_none (sym (ap taken_in kind) ∙ none)
  where
    some_none : Some id ≡ None → ⊥
    some_none h = cc

pub other_event : OtherEventsLaw
other_event t E e g none h = record {
  naming = λ p chan below. last_stays E e (Names p chan) (Names p chan) _ (λ q c y. y) (λ q c y. y) (λ y. no_receive 0 e y.set y.id none y.kind) (h.naming p chan below);
  taking = λ s p chan x y z. last_stays E e (Takes E s p chan) (Takes (E ++ e ∷ []) s p chan) _ (λ q c y. takes_over E e s p chan q y) (λ q c y. takes_back E e g s p chan q c y) (λ y. no_receive 0 e y.set y.letter.id none y.kind) (h.taking s p chan x y z);
  receives_is = λ p. h.receives_is p ∙ sym (receives_same E e p none);
}

-- places are apart
place_apart : (s p c t q d : ℕ) → p < 32 → c < 32 → q < 32 → d < 32 → place s p c ≡ place t q d → (s ≡ t) × (p ≡ q) × (c ≡ d)
place_apart s p c t q d x y z w e =
    let rows : s * 32 + p ≡ t * 32 + q = omega (arith, e, y, w) in
    let senders : s ≡ t = omega (arith, rows, x, z) in
    (senders, omega (arith, rows, senders), omega (arith, e, rows))

-- the next receive of p
module _ (M : ℕ) (E : List Event) (p : ProcNo) (number set : ℕ) (l : Letter) (next : IsNext M E p number set l) where
  abbrev e : Event
  e = receive_of p number set l

  abbrev F : List Event
  F = E ++ e ∷ []

  h : Sound M F
  h = sound_of next.run

  g : Sound M E
  g = prefix E (e ∷ []) h

  f : FitsSoundly M E e
  f = last E e h

  abbrev m : Message
  m = message_of l

  sent : IsSent F m
  sent = (next.stamp.send, next.stamp.sends)

  accepts : Accepts F e set l.id
  accepts = record { in_list = new E e; kind = refl }

  pub dest_is : l.dest.no ≡ p.no
  dest_is = taker_is h e set m accepts sent

  -- an entry of p before it
  is_before : (q : Event) → Contains E q → q.proc.no ≡ p.no → q.number < number
  is_before q o at = omega (arith, (numbers g q o).1, f.next_number, ap (count E) at)

  -- it takes the letter of its sender on its channel, and no other
  takes_it : Takes F l.id.sender.no p.no l.chan e
  takes_it = record { of_p = refl; set = set; letter = m; sent = sent; kind = refl; sender_is = refl; chan_is = refl }

  takes_only : (s r chan : ℕ) → Takes F s r chan e → (s ≡ l.id.sender.no) × (r ≡ p.no) × (chan ≡ l.chan)
  takes_only s r chan y =
      let id : y.letter.id ≡ l.id = (accepted_parts y.set set y.letter.id l.id (sym y.kind)).1 in
      let same : y.letter ≡ m = letter_same h y.letter m y.sent sent id in
      (sym y.sender_is ∙ ap (λ z. z.id.sender.no) same, sym y.of_p, sym y.chan_is ∙ ap (λ z. z.chan) same)

  pub after_receive : (rows : List (List ℕ)) (items counts row : List ℕ) (more_one : ℕ) → p.no < length rows → place l.id.sender.no p.no l.chan < length items → p.no < length counts → IsTracerOf (tables_of M rows items counts) E
      → ((chan : ℕ) → chan < 32 → get_or row chan 0 ≡ cond (has_channel set chan) number (get_or (get_or rows p.no []) chan 0)) → more_one ≡ get_or counts p.no 0 + 1
      → IsTracerOf (tables_of M (set_at rows p.no row) (set_at items (place l.id.sender.no p.no l.chan) number) (set_at counts p.no more_one)) F
  after_receive rows items counts row more_one within inside among t is one = record {
    naming = λ r chan below. elim (cases_eq r p.no) [
      | inl z ↦
          let at : get_or (get_or (set_at rows p.no row) r []) chan 0 ≡ cond (has_channel set chan) number (get_or (get_or rows r []) chan 0) =
          ap (λ j. get_or (get_or (set_at rows p.no row) j []) chan 0) z ∙ ap (λ ns. get_or ns chan 0) (get_or-set_same rows p.no row [] within) ∙ is chan below ∙ ap (λ j. cond (has_channel set chan) number (get_or (get_or rows j []) chan 0)) (sym z) in
          elim (cases_Bool (has_channel set chan)) [
            | inl y ↦ subst (λ k. IsLast F (Names r chan) k) (sym (at ∙ ap (λ b. cond b number (get_or (get_or rows r []) chan 0)) y))
                (last_new E e (Names r chan) number record { of_p = sym z; set = set; id = l.id; kind = refl; in_set = y } refl (λ q o y. let n = is_before q o (y.of_p ∙ z) in omega (arith, n)))
            | inr n ↦ subst (λ k. IsLast F (Names r chan) k) (sym (at ∙ ap (λ b. cond b number (get_or (get_or rows r []) chan 0)) n))
                (last_stays E e (Names r chan) (Names r chan) _ (λ q c y. y) (λ q c y. y) (λ y. false≢true (sym n ∙ ap (λ s. has_channel s chan) (accepted_parts set y.set l.id y.id y.kind).0 ∙ y.in_set)) (t.naming r chan below))
          ]
      | inr n ↦ subst (λ k. IsLast F (Names r chan) k) (sym (ap (λ ns. get_or ns chan 0) (get_or-set_other rows p.no r row [] n)))
          (last_stays E e (Names r chan) (Names r chan) _ (λ q c y. y) (λ q c y. y) (λ y. n (sym y.of_p)) (t.naming r chan below))
    ];
    taking = λ s r chan x y z. elim (cases_eq (place s r chan) (place l.id.sender.no p.no l.chan)) [
      | inl same ↦
          let a = place_apart s r chan l.id.sender.no p.no l.chan (omega (arith, y)) z (omega (arith, next_below M E p number set l next)) (channel_of next.run next.stamp) same in
          let at : get_or (set_at items (place l.id.sender.no p.no l.chan) number) (place s r chan) 0 ≡ number =
          ap (λ j. get_or (set_at items (place l.id.sender.no p.no l.chan) number) j 0) same ∙ get_or-set_same items (place l.id.sender.no p.no l.chan) number 0 inside in
          subst (λ k. IsLast F (Takes F s r chan) k) (sym at) (last_new E e (Takes F s r chan) number
          (subst (λ s. Takes F s r chan e) (sym a.0) (subst (λ r. Takes F l.id.sender.no r chan e) (sym a.1) (subst (λ c. Takes F l.id.sender.no p.no c e) (sym a.2) takes_it))) refl
          (λ q o w. let n = is_before q o (w.of_p ∙ a.1) in omega (arith, n)))
      | inr n ↦ subst (λ k. IsLast F (Takes F s r chan) k) (sym (get_or-set_other items (place l.id.sender.no p.no l.chan) (place s r chan) number 0 n))
          (last_stays E e (Takes E s r chan) (Takes F s r chan) _ (λ q c w. takes_over E e s r chan q w) (λ q c w. takes_back E e h s r chan q c w)
          (λ w. let a = takes_only s r chan w in n (ap (λ s. place s r chan) a.0 ∙ ap (λ r. place l.id.sender.no r chan) a.1 ∙ ap (λ c. place l.id.sender.no p.no c) a.2)) (t.taking s r chan x y z))
    ];
    receives_is = λ r. elim (cases_eq r p.no) [
      | inl z ↦ ap (λ j. get_or (set_at counts p.no more_one) j 0) z ∙ get_or-set_same counts p.no more_one 0 among ∙ one ∙ ap (λ n. n + 1) (t.receives_is p.no) ∙ sym (receives_more E e p.no l.id refl refl) ∙ ap (receives F) (sym z)
      | inr n ↦ get_or-set_other counts p.no r more_one 0 n ∙ t.receives_is r ∙ sym (ap (λ es. length (taken es)) (entries_there E e r (λ z. n (sym z))))
    ];
  }

  -- the last receive of a letter of the sender on the channel, before this one
  since_next : (k : ℕ) → IsLast E (Takes E l.id.sender.no p.no l.chan) k → Since h m (since_of M l.chan k)
  since_next k kept = elim (cases_Bool (has_channel M l.chan)) [
    | inr free ↦ since_free h m k free
    | inl ordered ↦ since_ordered h m k ordered sent
        (λ r t x a s before. elim (Contains-push_cases E e r a.in_list) [
          | inl o ↦ kept.last r o (takes_back E e h _ _ _ r o record { of_p = sym (taker_is h r t x a s) ∙ before.dest ∙ dest_is; set = t; letter = x; sent = s; kind = a.kind; sender_is = before.sender; chan_is = before.chan })
          | inr w ↦ absurd (not_it r t x a s before w)
        ])
        (λ x s before. let r = received_first h x m ordered s sent before e set accepts in (r.0, r.1, r.2))
        (elim kept.is [
          | inl z ↦ inl z
          | inr q ↦ inr (q.0, old E e q.0 q.1, subst (λ d. Takes F l.id.sender.no d l.chan q.0) (sym dest_is) (takes_over E e _ _ _ q.0 q.2), q.3)
        ])
        own
  ]
    where
      not_it : (r : Event) (t : ℕ) (x : Message) → Accepts F r t x.id → IsSent F x → Precedes x m → e ≡ r → ⊥
      not_it r t x a s before w =
          let id = (accepted_parts set t l.id x.id (ap (λ z. z.kind) w ∙ a.kind)).1 in
          omega (arith, ap (λ z. z.number) id, before.earlier)

      own : (q b : Event) (t : ℕ) → q.number ≡ k → Accepts F b t l.id → q.number < b.number
      own q b t n a =
          let same = accept_same h b e t set l.id a accepts in
          elim kept.is [
            | inl z ↦ omega (arith, z, n, f.next_number, ap (λ z. z.number) same)
            | inr x ↦ let i = is_before x.0 x.1 x.2.of_p in omega (arith, n, x.3, i, ap (λ z. z.number) same)
          ]

  -- whether the letter is logged
  pub received_logged : (number_named k : ℕ) → IsLast E (Names p.no l.chan) number_named → IsLast E (Takes E l.id.sender.no p.no l.chan) k → IsLogged M F m ↔ (max (since_of M l.chan k) (part l.stamp p.no) < number_named)
  received_logged top k named kept =
      subst (λ d. IsLogged M F m ↔ (max (since_of M l.chan k) (part l.stamp d) < top)) dest_is (logged_by h l next.stamp top (since_of M l.chan k) (since_next k kept)
      (elim named.is [
        | inl z ↦ inl z
        | inr q ↦ inr (
          q.0,
          could_name h l next.stamp q.0 (old E e q.0 q.1) (subst (λ d. Names d l.chan q.0) (sym dest_is) q.2)
              (λ r t b. let i = is_before q.0 q.1 q.2.of_p in omega (arith, i, ap (λ z. z.number) (accept_same h r e t set l.id b accepts))),
          q.3,
        )
      ])
      (λ r c. elim (Contains-push_cases E e r c.receive.in_list) [
        | inl o ↦ named.last r o (subst (λ d. Names d l.chan r) dest_is (could_names h l next.stamp r c))
        | inr w ↦ absurd (omega (arith, c.before_own e set accepts, ap (λ z. z.number) w))
      ]))

pub decided : (b : Bool) (x k : ℕ) {P : Type 0} → b ≡ nat_lt x k → P ↔ (x < k) → (b ≡ true) ↔ P
decided b x k e law = ((λ t. law.1 (ltb-true x k (sym e ∙ t))), (λ y. e ∙ lt-ltb x k (law.0 y)))

-- a note that is given where a test holds
pub some_when : {X P : Type 0} (o : Option X) (b : Bool) (x : X) → o ≡ then_some b x → (b ≡ true) ↔ P → IsSome o ↔ P
some_when {P = P} o b x e law = subst (λ o. IsSome o ↔ P) (sym e) (by b law)
  where
    by : (b : Bool) → (b ≡ true) ↔ P → IsSome (then_some b x) ↔ P
    by true law = law
    by false law = law

-- what the tables v of the tracer t decide of a letter that is received
pub received_test : (v t : Tables) → v ≡ t → (E : List Event) (p : ProcNo) (number set : ℕ) (l : Letter) → IsTracerOf t E → IsNext t.mask E p number set l
    → (since : ℕ) → since ≡ since_of v.mask l.chan (taken_at v l.id.sender.no p.no l.chan)
    → (b : Bool) → b ≡ nat_lt (max since (part l.stamp p.no)) (named_at v p.no l.chan)
    → (b ≡ true) ↔ IsLogged t.mask (E ++ receive_of p number set l ∷ []) (message_of l)
received_test v t same E p number set l told next since s b e =
    let chan = channel_of next.run next.stamp in
    let process = next_below t.mask E p number set l next in
    decided b (max since (part l.stamp p.no)) (named_at v p.no l.chan) e
    (subst (λ k. IsLogged t.mask (E ++ receive_of p number set l ∷ []) (message_of l) ↔ (max k (part l.stamp p.no) < named_at v p.no l.chan)) (sym (s ∙ ap (λ u. since_of u.mask l.chan (taken_at u l.id.sender.no p.no l.chan)) same))
    (subst (λ k. IsLogged t.mask (E ++ receive_of p number set l ∷ []) (message_of l) ↔ (max (since_of t.mask l.chan (taken_at t l.id.sender.no p.no l.chan)) (part l.stamp p.no) < k)) (sym (ap (λ u. named_at u p.no l.chan) same))
    (received_logged t.mask E p number set l next (named_at t p.no l.chan) (taken_at t l.id.sender.no p.no l.chan) (told.naming p.no l.chan chan) (told.taking l.id.sender.no p.no l.chan (sender_of next.run next.stamp) process chan))))

taken_le : (es : List Event) → length (taken es) ≤ length es
taken_le [] = omega arith
taken_le (e ∷ es) = by (taken_of e) (taken_le es)
  where
    by : (o : Option LetterId) → length (taken es) ≤ length es → length (cons_option o (taken es)) ≤ length (e ∷ es)
    by None h = omega (arith, h)
    by (Some id) h = omega (arith, h)

-- one more receive is still no more than the event's number
pub receives_below : (M : ℕ) (t : Tables) (E : List Event) (p : ProcNo) (number set : ℕ) (l : Letter) → IsTracerOf t E → IsNext M E p number set l → get_or t.receives p.no 0 + 1 ≤ number
receives_below M t E p number set l h next =
    let f = last E (receive_of p number set l) (sound_of next.run) in omega (arith, h.receives_is p.no, taken_le (entries E p.no), f.next_number)

-- the tables v of the tracer t after the receive
pub stands_after : (v t : Tables) → v ≡ t → (E : List Event) (p : ProcNo) (number set : ℕ) (l : Letter) → IsTracerOf t E → IsNext t.mask E p number set l
    → (row : List ℕ) (at more_one : ℕ) → at ≡ place l.id.sender.no p.no l.chan → p.no < length v.naming → at < length v.taking → p.no < length v.receives
    → ((chan : ℕ) → chan < 32 → get_or row chan 0 ≡ cond (has_channel set chan) number (get_or (get_or v.naming p.no []) chan 0))
    → ((most : get_or v.receives p.no 0 + 1 ≤ number) → more_one ≡ get_or v.receives p.no 0 + 1)
    → IsTracerOf (tables_of v.mask (set_at v.naming p.no row) (set_at v.taking at number) (set_at v.receives p.no more_one)) (E ++ receive_of p number set l ∷ [])
stands_after v t same E p number set l stands next row at more_one is within inside among rows one =
    let h : IsTracerOf v E = subst (λ u. IsTracerOf u E) (sym same) stands in
    let n : IsNext v.mask E p number set l = subst (λ u. IsNext u.mask E p number set l) (sym same) next in
    subst (λ k. IsTracerOf (tables_of v.mask (set_at v.naming p.no row) (set_at v.taking k number) (set_at v.receives p.no more_one)) (E ++ receive_of p number set l ∷ [])) (sym is)
    (after_receive v.mask E p number set l n v.naming v.taking v.receives row more_one within (omega (arith, inside, is)) among h rows (one (receives_below v.mask v E p number set l h n)))

counts_same : {E : List Event} {a : Event} {v w : ℕ → ℕ} → IsCounts E a v → ((q : ℕ) → w q ≡ v q) → IsCounts E a w
counts_same h e = record {
  at_most = λ q. omega (arith, h.at_most q, e q);
  tells = λ x c. ((λ l. (h.tells x c).0 (omega (arith, l, e x.proc.no))), (λ k. let n = (h.tells x c).1 k in omega (arith, n, e x.proc.no)));
}

-- a letter as a world posts it has the timestamp of its send
pub stamp_from : {M : ℕ} (F : List Event) → Sound M F → (l : Letter) (k : ℕ) → slice_get (letters F) k ≡ Some (message_of l) → ((q : ℕ) → part l.stamp q ≡ (clocks F).stamp l.id q) → HasStamp F l
stamp_from F g l k at same =
    let a = in_filter_map letter_of F (message_of l) (at_place (letters F) k (message_of l) at) in
    let s : Sends F a.0 (message_of l) = record { in_list = a.1; letter = a.2 } in
    record { send = a.0; sends = s; counts = counts_same ((clocks_right g).stamp_is a.0 (message_of l) s) same }
