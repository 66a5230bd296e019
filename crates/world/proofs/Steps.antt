-- A world after one more event.
use Rattle.std.proofs.Common.{◌≡◌, ℕ, ◌+◌, ◌%◌, ◌<◌, ◌≤◌, true, false, cond, List, [], ◌∷◌, ◌++◌, length, set, set as set_at, get_or, get_or-set_same, get_or-set_other, Bool, Option, Some, None, refl, sym, ap, ◌∙◌, subst, inl, inr, arith, length-append, length-set}
use Rattle.std.specs.Prelude.{slice_get, map, option_map, filter, not, nat_lt, Contains, ◌==◌, ◌&&◌, ◌||◌}
use Rattle.std.specs.Option.{option_to_list}
use Rattle.std.specs.List.{cons_option, list_any}
use Rattle.std.proofs.lemmas.Bool.{cases_eq, cases_order, cases_Bool, eq-eqb, eqb-true, lt-ltb, le-ltb, and_parts, or_cases, not-true, false_from_ne_true, false≢true}
use Rattle.std.proofs.Math.Bool.{and-false}
use Rattle.std.proofs.lemmas.List.{append-nil}
use Rattle.std.proofs.lemmas.List.Elements.{Contains-append_cases, Contains-append_left, Contains-append_right, Contains-push, filter_map-append}
use Rattle.std.proofs.lemmas.Option.{slice_get-map, slice_get_within, same_Some, none-some}
use Rattle.nm_base.specs.declared.letter.ProcNo.{ProcNo}
use Rattle.nm_base.specs.declared.letter.LetterId.{LetterId}
use Rattle.nm_base.specs.declared.letter.Stamp.{Stamp}
use Rattle.nm_base.specs.declared.letter.Letter.{Letter}
use Rattle.nm_base.specs.declared.kind.Kind.{Kind}
use Rattle.nm_base.specs.declared.kind.Kind.TheVariants.{Line, Sent, Accepted, Printed, Ended, Faulted}
use Rattle.nm_base.specs.Fitting.{EachFits, more}
use Rattle.nm_base.specs.Message.{Message, message_of}
use Rattle.nm_base.specs.Scripts.{Script, Next, Goes, Wants, Over, message_sent, letter_made}
use Rattle.nm_base.specs.Channels.{has_channel}
use Rattle.processes.specs.Standing.{Standing, Shows}
use Rattle.processes.specs.declared.proc.Look.{Look}
use Rattle.processes.specs.declared.proc.Look.TheVariants.{Waiting}
use Rattle.vector_clocks.specs.Parts.{part, part_of, ticked_part, merged_part}
use Rattle.mailboxes.specs.Letters as mail
use Rattle.mailboxes.specs.Letters.{is_free, is_wanted, is_allowed, allowed, is_named, Leaves}
use Rattle.mailboxes.proofs.ListFacts.{length-filter_le}
use Rattle.event_list.specs.declared.Event.{Event}
use Rattle.event_list.specs.Events.{is_of, entries, count, messages, receives as received, letters, letter_of, taken, taken_in, taken_of, IsSent, IsTaken, Precedes}
use Rattle.event_list.specs.Runs.{MayTake, KindFits, Fits, FitsSoundly, Sound, IsRun}
use Rattle.event_list.specs.Clocks.{is_named as names_it, ticked, clocks}
use Rattle.event_list.specs.Traces.{waiting, is_taken}
use Rattle.event_list.specs.Turns.{NoLetter, Stays, Went, next_event, taking, precedes, is_first}
use Rattle.event_list.specs.Rules.{Rule, may_take_under, allowed_under}
use Rattle.event_list.proofs.Members.{cons_cases, cons_here, cons_there, in_filter, in_any}
use Rattle.event_list.proofs.TurnFacts.{at_place, place_of, precedes_from}
use Rattle.event_list.proofs.SendOrder.{InOrder, letters_in_order, order_at}
use Rattle.event_list.proofs.Entries.{count_here, count_there, letters_grow}
use Rattle.event_list.proofs.Splits.{last}
use Rattle.event_list.proofs.Soundness.{letter_same}
use Rattle.event_list.proofs.ClockLaws.{same_name_parts, same_name_from, clocks_grow, clocks_right}
use Rattle.event_list.proofs.RunsSound.{runs_sound, no_receive}
use Rattle.event_list.proofs.TraceFacts.{map_in, in_waiting, waits_in, taken_is, is_taken_from}
use Rattle.event_list.proofs.Growth.{messages_there, messages_made, messages_taken, not_waiting, waiting_made, waiting_taken, receives_made, receives_taken, receives_there}
use Rattle.world.specs.Worlds.{Parts, IsPosted, IsWorldOf, IsWorld, StandsForAll, AreNumbered}
use Rattle.world.specs.Moves.{Replaces, IsCopy, AreCopies, MadeAt, TookAt, StayedAt, stamped}
use Rattle.world.specs.Outcomes.{Carries}
use Rattle.world.proofs.Places.{by_place, get_front, get_last, map_append, filter_map_le, filter-map, map_length, map_equal, before_at, any_same, any_map}
use Rattle.world.proofs.ClockSteps.{brings_none, tick_rule, merge_rule}

taken_grow : (E : List Event) (e : Event) → taken (E ++ e ∷ []) ≡ taken E ++ cons_option (taken_of e) []
taken_grow E e = filter_map-append taken_of E (e ∷ [])

-- a letter that is free follows those that precede it
in_order_of : (M : ℕ) (E : List Event) (m : Message) → (not (has_channel M m.chan) || is_first E m) ≡ true → has_channel M m.chan ≡ true → (l : Message) → IsSent E l → Precedes l m → IsTaken E l.id
in_order_of M E m free ordered l s k = elim (or_cases _ _ free) [
  | inl n ↦ absurd (false≢true (sym (not-true (has_channel M m.chan) n) ∙ ordered))
  | inr first ↦ elim (cases_Bool (is_taken E l.id)) [
    | inl t ↦ taken_is E l.id t
    | inr t ↦ absurd (false≢true (sym (not-true (list_any (λ l. precedes l m) (waiting E)) first)
        ∙ in_any (λ l. precedes l m) (waiting E) l (waits_in E l s (λ z. false≢true (sym t ∙ is_taken_from E z.0 z.1 l.id z.2))) (precedes_from l m k)))
  ]
]

-- among letters in order, those of one sender are numbered as they stand
sent_order : {ls : List Message} → EachFits InOrder ls → (i j : ℕ) (a b : Message) → slice_get ls i ≡ Some a → slice_get ls j ≡ Some b → a.id.sender.no ≡ b.id.sender.no → nat_lt i j ≡ nat_lt a.id.number b.id.number
sent_order {ls = ls} g i j a b p q same = elim (cases_order i j) [
  | inl e ↦
      let t : a ≡ b = same_Some a b (sym p ∙ ap (slice_get ls) e ∙ q) in
      le-ltb i j (omega (arith, e)) ∙ sym (le-ltb a.id.number b.id.number (omega (arith, ap (λ m. m.id.number) t)))
  | inr n ↦ elim n [
    | inl l ↦ let r = before_at ls i j a b l p q in lt-ltb i j l ∙ sym (lt-ltb a.id.number b.id.number (order_at g r.0 b r.1 r.2 a r.3 same))
    | inr l ↦ let r = before_at ls j i b a l q p in
        let o = order_at g r.0 a r.1 r.2 b r.3 (sym same) in
        le-ltb i j (omega (arith, l)) ∙ sym (le-ltb a.id.number b.id.number (omega (arith, o)))
  ]
]

option_map_some : {X Y : Type 0} (f : X → Y) (o : Option X) (y : Y) → option_map f o ≡ Some y → (x : X) × (o ≡ Some x) × (f x ≡ y)
option_map_some f None y h = absurd (none-some y h)
option_map_some f (Some x) y h = (x, refl, same_Some (f x) y h)

-- the letter at a place among those that pass a test
pub kth_there : (ls : List Letter) (test : Letter → Bool) (k : ℕ) (id : LetterId) → slice_get (map (λ l. l.id) (filter test ls)) k ≡ Some id → (l : Letter) × (slice_get (filter test ls) k ≡ Some l) × (l.id ≡ id) × Contains ls l × (test l ≡ true)
kth_there ls test k id h =
    let o = option_map_some (λ l. l.id) (slice_get (filter test ls) k) id (sym (slice_get-map (λ l. l.id) (filter test ls) k) ∙ h) in
    let i = in_filter test ls o.0 (at_place (filter test ls) k o.0 o.1) in
    (o.0, o.1, o.2, i.0, i.1)

pub leaves_in : {old new : List Letter} {l : Letter} → Leaves old l new → Contains old l
leaves_in {l = l} left = subst (λ ls. Contains ls l) (sym left.was) (Contains-append_right left.before (l ∷ left.after) l (cons_here l left.after))

-- what a process wants that shows a set
pub wants_of : (look : Look) (n : Next) (set : ℕ) → look ≡ Waiting set → Shows look n → n ≡ Wants set
wants_of look n set e h = by n (subst (λ look. Shows look n) e h)
  where
    by : (n : Next) → Shows (Waiting set) n → n ≡ Wants set
    by (Goes kind) h = absurd h
    by (Wants other) h = ap Wants (sym h)
    by Over h = absurd h

-- the letter is the one at the place k of those that p may accept
pub record IsTheLetter (mask : ℕ) (ls : List Letter) (E : List Event) (lets : LetterId → Bool) (p set k : ℕ) (letter : Letter) : Type 0 where
  pub dest : letter.dest.no ≡ p
  pub chan : has_channel set letter.chan ≡ true
  pub free : (not (has_channel mask letter.chan) || is_first E (message_of letter)) ≡ true
  pub found : slice_get (map message_of (allowed mask lets p set ls)) k ≡ Some (message_of letter)

-- a letter that is posted stays so
pub posted_stays : (E : List Event) (e : Event) (l : Letter) → names_it (letter_of e) l.id ≡ false → IsPosted E l → IsPosted (E ++ e ∷ []) l
posted_stays E e l h k = record {
  place = ap (λ ls. slice_get ls l.posted) (letters_grow E e) ∙ get_front (letters E) _ l.posted (message_of l) k.place;
  stamp = λ q. k.stamp q ∙ sym (ap (λ c. c.stamp l.id q) (clocks_grow E e) ∙ ap (λ b. cond b (ticked (clocks E) e q) ((clocks E).stamp l.id q)) h);
  send = k.send;
  in_list = Contains-append_left E (e ∷ []) k.send k.in_list;
  unposted = k.unposted;
  made = k.made;
  is = k.is;
}

pub count_le : (E : List Event) (p : ℕ) → count E p ≤ length E
count_le E p = length-filter_le (is_of p) E

pub letters_le : (E : List Event) → length (letters E) ≤ length E
letters_le E = filter_map_le letter_of E

-- a process after another of its number
pub still_numbered : {P : Type 0} (name_of : P → ProcNo) (old new : List P) (p : ℕ) → AreNumbered name_of old → Replaces name_of old new p → AreNumbered name_of new
still_numbered name_of old new p h k =
    by_place (λ q y. name_of y ≡ record { no = q }) old new p k.after k.is (slice_get_within old p k.before k.was) (k.name ∙ h p k.before k.was) (λ q y n at. h q y at)

module _ {P M : Type 0} (stands_for : P → Standing) (name_of : P → ProcNo) where
  abbrev Of : Parts P M → (ℕ → Script) → List Event → Type 0
  Of w s E = IsWorldOf stands_for w s E

  pub still_world : (w v : Parts P M) → IsWorld stands_for name_of w → length v.processes ≡ length w.processes → AreNumbered name_of v.processes → v.events ≤ 1000000 → length v.receives ≡ 32 → ((s : ℕ → Script) (E : List Event) → Of w s E → (F : List Event) × Of v s F) → IsWorld stands_for name_of v
  still_world w v i size names room each goes =
      let r = goes i.run.0 i.run.1 i.run.2 in
      record { some = omega (arith, i.some, size); few = omega (arith, i.few, size); room = room; each = each; names = names; run = (i.run.0, r.0, r.1) }

  -- the same letters under the same mask
  pub same_mail : (w : Parts P M) (m : M) (ls : List Letter) (mask : ℕ) (s : ℕ → Script) (E : List Event) → ls ≡ w.letters → mask ≡ w.mask → Of w s E → Of (record w { mail = m; letters = ls; mask = mask }) s E
  same_mail w m ls mask s E e same h = record {
    lawful = h.lawful;
    run = subst (λ M. IsRun s M E) (sym same) h.run;
    below = h.below;
    stands = h.stands;
    mail = ap (map message_of) e ∙ h.mail;
    posted = λ l c. h.posted l (subst (λ ls. Contains ls l) e c);
    clock = h.clock;
    receives = h.receives;
    sent = h.sent;
    accepted = h.accepted;
    events = h.events;
  }

  -- a process that stands for the same
  pub same_process : (w : Parts P M) (ps : List P) (p : ℕ) (s : ℕ → Script) (E : List Event) → StayedAt stands_for name_of w.processes ps p → Of w s E → Of (record w { processes = ps }) s E
  same_process w ps p s E k h =
      let l = slice_get_within w.processes p k.at.before k.at.was in
      record {
        lawful = h.lawful;
        run = h.run;
        below = λ e c. omega (arith, h.below e c, ap length k.at.is, length-set w.processes p k.at.after);
        stands = by_place (λ q y. stands_for y (s q) (messages E q) (count E q)) w.processes ps p k.at.after k.at.is l (k.stays (s p) (messages E p) (count E p) (h.stands p k.at.before k.at.was)) (λ q y n at. h.stands q y at);
        mail = h.mail;
        posted = h.posted;
        clock = h.clock;
        receives = h.receives;
        sent = h.sent;
        accepted = h.accepted;
        events = h.events;
      }

  -- copies of all processes, and the same letters under the same mask
  module _ {O : Type 0} (origin_of : P → O) (w : Parts P M) (ps : List P) (k : AreCopies stands_for name_of origin_of w.processes ps (length w.processes)) where
    original : (p : ℕ) (y : P) → slice_get ps p ≡ Some y → (x : P) × (slice_get w.processes p ≡ Some x) × IsCopy stands_for name_of origin_of x y
    original p y at =
        let x = place_of w.processes p (omega (arith, slice_get_within ps p y at, k.size)) in
        (x.0, x.1, k.each p x.0 y x.1 at)

    pub copies_numbered : AreNumbered name_of w.processes → AreNumbered name_of ps
    copies_numbered h p y at = let x = original p y at in x.2.name ∙ h p x.0 x.1

    pub copied : (m : M) (ls : List Letter) (mask : ℕ) (cs : List Stamp) → ls ≡ w.letters → mask ≡ w.mask → cs ≡ w.clocks → StandsForAll stands_for w (record w { processes = ps; mail = m; letters = ls; mask = mask; clocks = cs })
    copied m ls mask cs e same d s E h =
        let n = same_mail w m ls mask s E e same h in
        record {
          lawful = n.lawful;
          run = n.run;
          below = λ e c. omega (arith, n.below e c, k.size);
          stands = λ p y at. let x = original p y at in x.2.stays (s p) (messages E p) (count E p) (n.stands p x.0 x.1);
          mail = n.mail;
          posted = n.posted;
          clock = λ p q. ap (λ c. part_of c p q) d ∙ n.clock p q;
          receives = n.receives;
          sent = n.sent;
          accepted = n.accepted;
          events = n.events;
        }

    pub same_origins : map origin_of ps ≡ map origin_of w.processes
    same_origins = map_equal origin_of w.processes ps k.size (λ p x y at there. (k.each p x y at there).origin)

  -- what the numbers of a world are below
  module _ (w : Parts P M) (s : ℕ → Script) (E : List Event) (h : Of w s E) where
    abbrev sound : Sound w.mask E
    sound = runs_sound s h.lawful h.run

    pub count_few : (p n : ℕ) → w.events < n → count E p < n
    count_few p n l = omega (arith, l, h.events, count_le E p)

    pub clock_few : (p n : ℕ) → w.events < n → part_of w.clocks p p < n
    clock_few p n l = omega (arith, h.clock p p, (clocks_right sound).at_most p p, count_few p n l)

    pub sent_few : (n : ℕ) → w.events < n → w.sent < n
    sent_few n l = omega (arith, l, h.events, h.sent, letters_le E)

    pub accepted_few : (n : ℕ) → w.events < n → w.accepted < n
    accepted_few n l = omega (arith, l, h.events, h.accepted, filter_map_le taken_of E)

    pub posted_before : (l : Letter) → Contains (w.letters) l → l.posted < w.sent
    posted_before l c = omega (arith, slice_get_within (letters E) l.posted (message_of l) (h.posted l c).place, h.sent)

    pub waits : (l : Letter) → Contains (w.letters) l → Contains (waiting E) (message_of l)
    waits l c = subst (λ ls. Contains ls (message_of l)) h.mail (map_in message_of (w.letters) l c)

  -- one more event of p, by which its process is x
  record Grown (w v : Parts P M) (s : ℕ → Script) (E : List Event) (e : Event) (x : P) : Type 0 where
    fits : Fits s w.mask E e
    mask : v.mask ≡ w.mask
    within : e.proc.no < length w.processes
    processes : v.processes ≡ set w.processes e.proc.no x
    stands : stands_for x (s e.proc.no) (messages (E ++ e ∷ []) e.proc.no) (count (E ++ e ∷ []) e.proc.no)
    mail : map message_of (v.letters) ≡ waiting (E ++ e ∷ [])
    posted : (l : Letter) → Contains (v.letters) l → IsPosted (E ++ e ∷ []) l
    clock : (r q : ℕ) → part_of v.clocks r q ≡ (clocks (E ++ e ∷ [])).clock r q
    receives : (r : ℕ) → get_or v.receives r 0 ≡ received (E ++ e ∷ []) r
    sent : v.sent ≡ length (letters (E ++ e ∷ []))
    accepted : v.accepted ≡ length (taken (E ++ e ∷ []))
    events : v.events ≡ w.events + 1

  grown : (w v : Parts P M) (s : ℕ → Script) (E : List Event) (e : Event) (x : P) → Of w s E → Grown w v s E e x → Of v s (E ++ e ∷ [])
  grown w v s E e x h k =
      let g = runs_sound s h.lawful h.run in
      let f = last E e (runs_sound s h.lawful (more h.run k.fits)) in
      record {
        lawful = h.lawful;
        run = subst (λ M. IsRun s M (E ++ e ∷ [])) (sym k.mask) (more h.run k.fits);
        below = λ a c. elim (Contains-append_cases E (e ∷ []) a c) [
          | inl o ↦ omega (arith, h.below a o, ap length k.processes, length-set w.processes e.proc.no x)
          | inr n ↦ elim (cons_cases e [] a n) [
            | inl q ↦ omega (arith, k.within, ap (λ z. z.proc.no) q, ap length k.processes, length-set w.processes e.proc.no x)
            | inr z ↦ absurd (omega (arith, z.1))
          ]
        ];
        stands = by_place (λ q y. stands_for y (s q) (messages (E ++ e ∷ []) q) (count (E ++ e ∷ []) q)) w.processes v.processes e.proc.no x k.processes k.within k.stands
            (λ q y n at. subst (λ ms. stands_for y (s q) ms (count (E ++ e ∷ []) q)) (sym (messages_there g f q (λ z. n (sym z)))) (subst (stands_for y (s q) (messages E q)) (sym (count_there E e q (λ z. n (sym z)))) (h.stands q y at)));
        mail = k.mail;
        posted = k.posted;
        clock = k.clock;
        receives = k.receives;
        sent = k.sent;
        accepted = k.accepted;
        events = k.events ∙ ap (λ n. n + 1) h.events ∙ sym (length-append E (e ∷ []));
      }

  -- p makes an event that is no receive
  module _ (w : Parts P M) (ps : List P) (s : ℕ → Script) (E : List Event) (p : ℕ) (kind : Kind) (letter : Option Letter) (named : AreNumbered name_of w.processes) (h : Of w s E) (moved : MadeAt stands_for name_of w.processes ps p kind letter) where
    abbrev e : Event
    e = next_event E p kind

    abbrev F : List Event
    F = E ++ e ∷ []

    pub goes : (s p).next (messages E p) (count E p) ≡ Goes kind
    goes = (moved.makes (s p) (messages E p) (count E p) (h.stands p moved.at.before moved.at.was)).0

    fits : Fits s w.mask E e
    fits = record { next_number = refl; next_kind = subst (KindFits w.mask E e) (sym goes) refl }

    g : Sound w.mask E
    g = runs_sound s h.lawful h.run

    f : FitsSoundly w.mask E e
    f = last E e (runs_sound s h.lawful (more h.run fits))

    takes_none : taken_in kind ≡ None
    takes_none = by kind refl
      where
        by : (x : Kind) → kind ≡ x → taken_in x ≡ None
        by (Line x) q = refl
        by (Sent number dest chan len words) q = refl
        by (Accepted set id) q = absurd (no_receive s h.lawful h.run p set id (goes ∙ ap Goes q))
        by (Printed x) q = refl
        by (Ended x) q = refl
        by (Faulted x) q = refl

    sends : letter_of e ≡ option_map message_of letter
    sends = sym (ap (option_map message_of) (moved.sends ∙ ap (λ n. letter_made n kind) (named p moved.at.before moved.at.was)) ∙ by kind)
      where
        by : (k : Kind) → option_map message_of (letter_made (record { no = p }) k) ≡ message_sent (record { no = p }) k
        by (Line x) = refl
        by (Sent number dest chan len words) = refl
        by (Accepted set id) = refl
        by (Printed x) = refl
        by (Ended x) = refl
        by (Faulted x) = refl

    pub new_letter : (l : Letter) → letter ≡ Some l → (k : Letter) → Contains (w.letters) k → is_named l.id k ≡ false
    new_letter l q k c = not_waiting g f (message_of l) (sends ∙ ap (option_map message_of) q) (message_of k) (waits w s E h k c)

    -- no waiting letter has the name of what is sent
    other_name : (k : Letter) → Contains (w.letters) k → names_it (letter_of e) k.id ≡ false
    other_name k c = by (letter_of e) refl
      where
        by : (o : Option Message) → letter_of e ≡ o → names_it o k.id ≡ false
        by None q = refl
        by (Some m) q = false_from_ne_true _ (λ t.
            let n = same_name_parts m.id k.id t in
            false≢true (sym (not_waiting g f m q (message_of k) (waits w s E h k c)) ∙ same_name_from k.id m.id (sym n.0) (sym n.1)))

    module _ (mail : M) (ls : List Letter) (mask : ℕ) (cs : List Stamp) (stamp : Stamp) (posted : Option Letter) (sent : ℕ)
        (posts : posted ≡ option_map (stamped w.sent stamp) letter)
        (lasts : ls ≡ w.letters ++ option_to_list posted)
        (masks : mask ≡ w.mask)
        (ticks : (r q : ℕ) → part_of cs r q ≡ ticked_part (part_of w.clocks) p r q)
        (stamps : (q : ℕ) → part stamp q ≡ part_of cs p q)
        (counts : sent ≡ w.sent + length (option_to_list letter)) where
      abbrev new_parts : Parts P M
      new_parts = record { processes = ps; mail = mail; letters = ls; mask = mask; clocks = cs; receives = w.receives; sent = sent; accepted = w.accepted; events = w.events + 1 }

      clock_is : (r q : ℕ) → part_of cs r q ≡ (clocks F).clock r q
      clock_is r q = ticks r q ∙ tick_rule (clocks E) e (part_of w.clocks) h.clock (brings_none (clocks E) kind takes_none) r q ∙ ap (λ c. c.clock r q) (sym (clocks_grow E e))

      -- the letter as it is posted
      new_posted : (l : Letter) → letter ≡ Some l → IsPosted F (stamped w.sent stamp l)
      new_posted l q =
          let m = sends ∙ ap (option_map message_of) q in record {
            place = ap (λ n. slice_get (letters F) n) h.sent ∙ ap (λ ls. slice_get ls (length (letters E))) (letters_grow E e ∙ ap (λ o. letters E ++ cons_option o []) m) ∙ get_last (letters E) (message_of l);
            stamp = λ r.
                stamps r ∙ clock_is p r ∙ ap (λ c. c.clock p r) (clocks_grow E e)
                ∙ ap (λ b. cond b (ticked (clocks E) e r) ((clocks E).clock p r)) (same_number p)
                ∙ sym (ap (λ c. c.stamp l.id r) (clocks_grow E e) ∙ ap (λ b. cond b (ticked (clocks E) e r) ((clocks E).stamp l.id r)) (ap (λ o. names_it o l.id) m ∙ same_name_from l.id l.id refl refl));
            send = e;
            in_list = Contains-push E e;
            unposted = l;
            made = sym (moved.sends ∙ ap (λ n. letter_made n kind) (named p moved.at.before moved.at.was)) ∙ q;
            is = refl;
          }
        where
          same_number : (n : ℕ) → (n == n) ≡ true
          same_number n = eq-eqb n n refl

      letters_are : (o : Option Letter) → letter ≡ o → (l : Letter) → Contains (w.letters ++ option_to_list (option_map (stamped w.sent stamp) o)) l → IsPosted F l
      letters_are None q l c = posted_stays E e l (other_name l old) (h.posted l old)
        where
          old : Contains (w.letters) l
          old = subst (λ ls. Contains ls l) (append-nil (w.letters)) c
      letters_are (Some k) q l c = elim (Contains-append_cases (w.letters) (stamped w.sent stamp k ∷ []) l c) [
        | inl o ↦ posted_stays E e l (other_name l o) (h.posted l o)
        | inr n ↦ elim (cons_cases (stamped w.sent stamp k) [] l n) [
          | inl z ↦ subst (IsPosted F) z (new_posted k q)
          | inr z ↦ absurd (omega (arith, z.1))
        ]
      ]

      messages_are : (o : Option Letter) → map message_of (option_to_list (option_map (stamped w.sent stamp) o)) ≡ cons_option (option_map message_of o) []
      messages_are None = refl
      messages_are (Some l) = refl

      sent_are : (o : Option Letter) → length (option_to_list o) ≡ length (cons_option (option_map message_of o) [])
      sent_are None = refl
      sent_are (Some l) = refl

      pub made : Of new_parts s F
      made = grown w new_parts s E e moved.at.after h record {
        fits = fits;
        mask = masks;
        within = slice_get_within w.processes p moved.at.before moved.at.was;
        processes = moved.at.is;
        stands = subst (λ ms. stands_for moved.at.after (s p) ms (count F p)) (sym (messages_made g f takes_none))
            (subst (stands_for moved.at.after (s p) (messages E p)) (sym (count_here E e p refl)) (moved.makes (s p) (messages E p) (count E p) (h.stands p moved.at.before moved.at.was)).1);
        mail =
            ap (map message_of) lasts ∙ map_append message_of (w.letters) (option_to_list posted)
            ∙ ap (λ ls. ls ++ map message_of (option_to_list posted)) h.mail
            ∙ ap (λ ls. waiting E ++ ls) (ap (λ o. map message_of (option_to_list o)) posts ∙ messages_are letter ∙ ap (λ o. cons_option o []) (sym sends))
            ∙ sym (waiting_made g f takes_none);
        posted = λ l c. letters_are letter refl l (subst (λ ls. Contains ls l) (lasts ∙ ap (λ o. w.letters ++ option_to_list o) posts) c);
        clock = clock_is;
        receives = λ r. h.receives r ∙ elim (cases_eq r p) [
          | inl z ↦ ap (received E) z ∙ sym (receives_made g f takes_none) ∙ ap (received F) (sym z)
          | inr n ↦ sym (receives_there g f r (λ z. n (sym z)))
        ];
        sent = counts ∙ ap (λ n. n + length (option_to_list letter)) h.sent
            ∙ ap (λ n. length (letters E) + n) (sent_are letter ∙ ap (λ o. length (cons_option o [])) (sym sends))
            ∙ sym (ap length (letters_grow E e) ∙ length-append (letters E) (cons_option (letter_of e) []));
        accepted = h.accepted ∙ sym (ap length (taken_grow E e ∙ ap (λ o. taken E ++ cons_option o []) takes_none ∙ append-nil (taken E)));
        events = refl;
      }

      pub made_carries : Carries F e posted
      made_carries = subst (Carries F e) (sym posts) (by letter refl)
        where
          by : (o : Option Letter) → letter ≡ o → Carries F e (option_map (stamped w.sent stamp) o)
          by None q = (sends ∙ ap (option_map message_of) q, takes_none)
          by (Some l) q = (new_posted l q, inl (sends ∙ ap (option_map message_of) q))

  -- p accepts a letter
  module _ (w : Parts P M) (ps : List P) (s : ℕ → Script) (E : List Event) (p set : ℕ) (letter : Letter) (m' : M) (ls' : List Letter) (mask : ℕ) (h : Of w s E) (moved : TookAt stands_for name_of w.processes ps p letter) (left : Leaves w.letters letter ls') (masks : mask ≡ w.mask) (want : (s p).next (messages E p) (count E p) ≡ Wants set) (dest : letter.dest.no ≡ p) (chan : has_channel set letter.chan ≡ true) (free : (not (has_channel w.mask letter.chan) || is_first E (message_of letter)) ≡ true) where
    abbrev taking_it : Event
    taking_it = next_event E p (Accepted set letter.id)

    abbrev G : List Event
    G = E ++ taking_it ∷ []

    in_mail : Contains (w.letters) letter
    in_mail = subst (λ ls. Contains ls letter) (sym left.was) (Contains-append_right left.before (letter ∷ left.after) letter (cons_here letter left.after))

    waited : IsSent E (message_of letter) × (IsTaken E letter.id → ⊥)
    waited = in_waiting E (message_of letter) (waits w s E h letter in_mail)

    may : MayTake w.mask E p set (message_of letter)
    may = record { sent = waited.0; to_it = dest; in_set = chan; waits = waited.1; in_order = in_order_of w.mask E (message_of letter) free }

    took_fits : Fits s w.mask E taking_it
    took_fits = record { next_number = refl; next_kind = subst (KindFits w.mask E taking_it) (sym want) (message_of letter, refl, may) }

    g' : Sound w.mask E
    g' = runs_sound s h.lawful h.run

    f' : FitsSoundly w.mask E taking_it
    f' = last E taking_it (runs_sound s h.lawful (more h.run took_fits))

    stays_posted : (l : Letter) → Contains (w.letters) l → IsPosted G l
    stays_posted l c = posted_stays E taking_it l refl (h.posted l c)

    module _ (mid cs : List Stamp) (rs : List ℕ)
        (ticks : (r q : ℕ) → part_of mid r q ≡ ticked_part (part_of w.clocks) p r q)
        (merges : (r q : ℕ) → part_of cs r q ≡ merged_part (part_of mid) p (part letter.stamp) r q)
        (counts : rs ≡ set_at w.receives p (get_or w.receives p 0 + 1))
        (long : p < length w.receives) where
      pub took : Of (record { processes = ps; mail = m'; letters = ls'; mask = mask; clocks = cs; receives = rs; sent = w.sent; accepted = w.accepted + 1; events = w.events + 1 }) s G
      took = grown w _ s E taking_it moved.at.after h record {
        fits = took_fits;
        mask = masks;
        within = slice_get_within w.processes p moved.at.before moved.at.was;
        processes = moved.at.is;
        stands = subst (λ ms. stands_for moved.at.after (s p) ms (count G p)) (sym (messages_taken g' f' (message_of letter) refl waited.0))
            (subst (stands_for moved.at.after (s p) (messages E p ++ message_of letter ∷ [])) (sym (count_here E taking_it p refl)) (moved.takes (s p) (messages E p) (count E p) (h.stands p moved.at.before moved.at.was)));
        mail =
            ap (map message_of) left.is ∙ map_append message_of left.before left.after
            ∙ sym (waiting_taken g' taking_it set (map message_of left.before) (message_of letter) (map message_of left.after) refl
            (sym h.mail ∙ ap (map message_of) left.was ∙ map_append message_of left.before (letter ∷ left.after)));
        posted = λ l c. stays_posted l (elim (Contains-append_cases left.before left.after l (subst (λ ls. Contains ls l) left.is c)) [
          | inl o ↦ subst (λ ls. Contains ls l) (sym left.was) (Contains-append_left left.before (letter ∷ left.after) l o)
          | inr o ↦ subst (λ ls. Contains ls l) (sym left.was) (Contains-append_right left.before (letter ∷ left.after) l (cons_there letter left.after l o))
        ]);
        clock = λ r q. merges r q ∙ merge_rule (clocks E) taking_it (part_of w.clocks) h.clock (part_of mid) ticks (part letter.stamp) (λ q. sym ((h.posted letter in_mail).stamp q)) r q ∙ ap (λ c. c.clock r q) (sym (clocks_grow E taking_it));
        receives = λ r. ap (λ ns. get_or ns r 0) counts ∙ elim (cases_eq r p) [
          | inl z ↦ ap (λ j. get_or (set_at w.receives p (get_or w.receives p 0 + 1)) j 0) z ∙ get_or-set_same w.receives p (get_or w.receives p 0 + 1) 0 long
              ∙ ap (λ n. n + 1) (h.receives p) ∙ sym (receives_taken g' f' letter.id refl) ∙ ap (received G) (sym z)
          | inr n ↦ get_or-set_other w.receives p r (get_or w.receives p 0 + 1) 0 n ∙ h.receives r ∙ sym (receives_there g' f' r (λ z. n (sym z)))
        ];
        sent = h.sent ∙ ap length (sym (letters_grow E taking_it ∙ append-nil (letters E)));
        accepted = ap (λ n. n + 1) h.accepted ∙ sym (ap length (taken_grow E taking_it) ∙ length-append (taken E) (letter.id ∷ []));
        events = refl;
      }

      pub took_carries : Carries G taking_it (Some letter)
      took_carries = (stays_posted letter in_mail, inr refl)

  -- the letters that a rule allows
  module _ (w : Parts P M) (s : ℕ → Script) (E : List Event) (h : Of w s E) where
    pub one_letter : (k l : Letter) → Contains (w.letters) k → Contains (w.letters) l → k.id ≡ l.id → message_of k ≡ message_of l
    one_letter k l ck cl e = letter_same (runs_sound s h.lawful h.run) (message_of k) (message_of l) (in_waiting E (message_of k) (waits w s E h k ck)).0 (in_waiting E (message_of l) (waits w s E h l cl)).0 e

    -- what is free in the mail is free in the list
    pub first_is : (l : Letter) → Contains w.letters l → mail.is_first w.letters l ≡ is_first E (message_of l)
    first_is l c =
        ap not (any_same (λ k. mail.precedes k l) (λ k. precedes (message_of k) (message_of l)) w.letters (λ k d. one k l d c)
        ∙ sym (any_map message_of (λ m. precedes m (message_of l)) w.letters) ∙ ap (list_any (λ m. precedes m (message_of l))) h.mail)
      where
        one : (k l : Letter) → Contains w.letters k → Contains w.letters l → mail.precedes k l ≡ precedes (message_of k) (message_of l)
        one k l d c = by (k.id.sender.no == l.id.sender.no) refl
          where
            by : (b : Bool) → (k.id.sender.no == l.id.sender.no) ≡ b → (nat_lt k.posted l.posted && (b && ((k.dest.no == l.dest.no) && (k.chan == l.chan)))) ≡ (b && (nat_lt k.id.number l.id.number && ((k.dest.no == l.dest.no) && (k.chan == l.chan))))
            by false e = and-false (nat_lt k.posted l.posted)
            by true e = ap (λ b. b && ((k.dest.no == l.dest.no) && (k.chan == l.chan)))
                (sent_order (letters_in_order (runs_sound s h.lawful h.run)) k.posted l.posted (message_of k) (message_of l) (h.posted k d).place (h.posted l c).place (eqb-true k.id.sender.no l.id.sender.no e))

    pub free_is : (l : Letter) → Contains w.letters l → is_free w.mask w.letters l ≡ (not (has_channel w.mask l.chan) || is_first E (message_of l))
    free_is l c = ap (λ b. not (has_channel w.mask l.chan) || b) (first_is l c)

    pub allowed_are : (rule : Rule) (p set receive : ℕ) → receive ≡ received E p → map message_of (allowed w.mask (rule.lets p receive) p set w.letters) ≡ allowed_under w.mask rule E p set
    allowed_are rule p set receive r =
        filter-map message_of (is_allowed w.mask (rule.lets p receive) p set w.letters) (may_take_under w.mask rule E p set) w.letters (λ l c. one l c)
        ∙ ap (filter (may_take_under w.mask rule E p set)) h.mail
      where
        regroup : (a b c d : Bool) → ((a && (b && c)) && d) ≡ (a && (b && (c && d)))
        regroup true true c d = refl
        regroup true false c d = refl
        regroup false b c d = refl

        one : (l : Letter) → Contains w.letters l → is_allowed w.mask (rule.lets p receive) p set w.letters l ≡ may_take_under w.mask rule E p set (message_of l)
        one l c =
            ap (λ b. is_wanted (rule.lets p receive) p set l && b) (free_is l c)
            ∙ regroup (l.dest.no == p) (has_channel set l.chan) (rule.lets p receive l.id) (not (has_channel w.mask l.chan) || is_first E (message_of l))
            ∙ ap (λ j. (l.dest.no == p) && (has_channel set l.chan && (rule.lets p j l.id && (not (has_channel w.mask l.chan) || is_first E (message_of l))))) r

    pub receives_few : (p n : ℕ) → w.events < n → get_or w.receives p 0 < n
    receives_few p n l = omega (arith, h.receives p, filter_map_le taken_of (entries E p), count_few w s E h p n l)

    -- the letter that is taken out by its name is the one at the place
    pub taken_letter : (lets : LetterId → Bool) (p set k : ℕ) (id : LetterId) (letter : Letter) (new : List Letter) → slice_get (map (λ l. l.id) (allowed w.mask lets p set w.letters)) k ≡ Some id → letter.id ≡ id → Leaves w.letters letter new → IsTheLetter w.mask w.letters E lets p set k letter
    taken_letter lets p set k id letter new at name left =
        let t = kth_there w.letters (is_allowed w.mask lets p set w.letters) k id at in
        let same = one_letter t.0 letter t.3 (leaves_in left) (t.2 ∙ sym name) in
        let z = and_parts _ _ t.4 in
        let a = and_parts _ _ z.0 in let b = and_parts _ _ a.1 in
        record {
          dest = subst (λ (m : Message). m.dest.no ≡ p) same (eqb-true t.0.dest.no p a.0);
          chan = subst (λ (m : Message). has_channel set m.chan ≡ true) same b.0;
          free = subst (λ (m : Message). (not (has_channel w.mask m.chan) || is_first E m) ≡ true) same (sym (free_is t.0 t.3) ∙ z.1);
          found = slice_get-map message_of (allowed w.mask lets p set w.letters) k ∙ ap (option_map message_of) t.1 ∙ ap Some same;
        }

    -- the place that a pick names among the letters of the list, and among those of the mail
    at_pick : (rule : Rule) (p set receive pick : ℕ) → receive ≡ received E p →
        slice_get (allowed_under w.mask rule E p set) (pick % length (allowed_under w.mask rule E p set))
        ≡ option_map message_of (slice_get (allowed w.mask (rule.lets p receive) p set w.letters) (pick % length (allowed w.mask (rule.lets p receive) p set w.letters)))
    at_pick rule p set receive pick r =
        let mine = allowed w.mask (rule.lets p receive) p set w.letters in
        ap (λ ms. slice_get ms (pick % length ms)) (sym (allowed_are rule p set receive r))
        ∙ ap (λ n. slice_get (map message_of mine) (pick % n)) (map_length message_of mine)
        ∙ slice_get-map message_of mine (pick % length mine)

    pub takes_it : (mask : ℕ) → w.mask ≡ mask → (rule : Rule) (p set receive pick : ℕ) (letter : Letter) → receive ≡ received E p
        → slice_get (map message_of (allowed w.mask (rule.lets p receive) p set w.letters)) (pick % length (allowed w.mask (rule.lets p receive) p set w.letters)) ≡ Some (message_of letter)
        → taking E p set (slice_get (allowed_under mask rule E p set) (pick % length (allowed_under mask rule E p set))) ≡ Went (next_event E p (Accepted set letter.id))
    takes_it mask same rule p set receive pick letter r found =
        let mine = allowed w.mask (rule.lets p receive) p set w.letters in
        ap (taking E p set) (ap (λ M. slice_get (allowed_under M rule E p set) (pick % length (allowed_under M rule E p set))) (sym same) ∙ at_pick rule p set receive pick r ∙ sym (slice_get-map message_of mine (pick % length mine)) ∙ found)

    pub takes_nothing : (mask : ℕ) → w.mask ≡ mask → (rule : Rule) (p set receive pick : ℕ) → receive ≡ received E p
        → slice_get (map (λ l. l.id) (allowed w.mask (rule.lets p receive) p set w.letters)) (pick % length (allowed w.mask (rule.lets p receive) p set w.letters)) ≡ None
        → taking E p set (slice_get (allowed_under mask rule E p set) (pick % length (allowed_under mask rule E p set))) ≡ Stays NoLetter
    takes_nothing mask same rule p set receive pick r none =
        let mine = allowed w.mask (rule.lets p receive) p set w.letters in
        let k = pick % length mine in
        ap (taking E p set) (ap (λ M. slice_get (allowed_under M rule E p set) (pick % length (allowed_under M rule E p set))) (sym same) ∙ at_pick rule p set receive pick r ∙ ap (option_map message_of) (map_none (slice_get mine k) (sym (slice_get-map (λ l. l.id) mine k) ∙ none)))
      where
        map_none : (o : Option Letter) → option_map (λ l. l.id) o ≡ None → o ≡ None
        map_none None h = refl
        map_none (Some l) h = absurd (none-some l.id (sym h))
