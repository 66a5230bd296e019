-- A process whose turn was idle has an idle turn again, while no letter is sent to it.
use Rattle.std.proofs.Common.{◌≡◌, ℕ, zero, suc, ◌<◌, ◌≤◌, ◌%◌, Bool, true, false, cond, List, [], ◌∷◌, ◌++◌, length, set, get_or, replicate, Option, Some, None, refl, sym, ap, ◌∙◌, subst, inl, inr, arith, get_or-set_same, get_or-set_other}
use Rattle.std.specs.Prelude.{slice_get, nat_le}
use Rattle.std.proofs.lemmas.Bool.{cases_eq, false≢true}
use Rattle.std.proofs.lemmas.List.Elements.{Contains-push_cases}
use Rattle.nm_base.specs.Fitting.{more}
use Rattle.nm_base.specs.Message.{Message}
use Rattle.nm_base.specs.Scripts.{Script, Next, Goes, Wants, Over, IsLawful}
use Rattle.nm_base.specs.declared.letter.ProcNo.{ProcNo}
use Rattle.nm_base.specs.declared.kind.Kind.TheVariants.{Sent}
use Rattle.event_list.specs.declared.Event.{Event}
use Rattle.event_list.specs.Events.{count, messages, receives, taken, letter_of, IsSent, IsTaken}
use Rattle.event_list.specs.Runs.{MayTake, IsRun, Sound}
use Rattle.event_list.specs.Traces.{Trace, IsReplay, permits}
use Rattle.event_list.specs.Turns.{Idle, AtCount, Turned, Stays, Went, allowed, is_at_count, next_event, taking, by_next, go, after}
use Rattle.event_list.proofs.Entries.{entries_there, count_there}
use Rattle.event_list.proofs.Soundness.{old}
use Rattle.event_list.proofs.RunsSound.{runs_sound, no_receive}
use Rattle.event_list.proofs.Projections.{messages_same, sent_part, accepts_part}
use Rattle.event_list.proofs.Parts.{taker_is}
use Rattle.event_list.proofs.TurnFacts.{going, allowed_fits, at_place, place_of}
use Rattle.event_list.proofs.EachTurn.{fits_allowed}
use Rattle.event_list.proofs.FinishFacts.{came}
use Rattle.replay_core.specs.private.Sleeping.{has_mark, AreAsleep, IsMarked, IsUnmoved, StaysAsleep}

went_stays : (e : Event) (why : Idle) → Went e ≡ Stays why → ⊥
went_stays e why h = cc

some_same : {X : Type 0} (x y : X) → Some x ≡ Some y → x ≡ y
some_same x y h = cc

some_none : {X : Type 0} (x : X) → Some x ≡ None → ⊥
some_none x h = cc

module _ (s : ℕ → Script) (law : (p : ℕ) → IsLawful (s p)) (T : Trace) (R : List Event) (replay : IsReplay s T R) (q : ℕ) (e : Event) (went : go s T.mask (Some T) R (record { proc = q; pick = 0 }) ≡ Went e)
    (p : ℕ) (other : e.proc.no ≡ p → ⊥) (unsent : (m : Message) → letter_of e ≡ Some m → m.dest.no ≡ p → ⊥) where
  abbrev M : ℕ
  M = T.mask

  abbrev E : List Event
  E = R ++ e ∷ []

  g : Sound M R
  g = runs_sound s law replay.run

  run : IsRun s M E
  run = more replay.run (going s M (Some T) R q 0 e (no_receive s law replay.run q) went).fits

  k : Sound M E
  k = runs_sound s law run

  same_count : count E p ≡ count R p
  same_count = count_there R e p other

  same_receives : receives E p ≡ receives R p
  same_receives = ap (λ es. length (taken es)) (entries_there R e p other)

  same_next : (s p).next (messages E p) (count E p) ≡ (s p).next (messages R p) (count R p)
  same_next = ap (λ ms. (s p).next ms (count E p)) (messages_same k g k (λ a h. h) (old R e) p same_count) ∙ ap ((s p).next (messages R p)) same_count

  -- its letters were sent before
  sent_before : (m : Message) → m.dest.no ≡ p → IsSent E m → IsSent R m
  sent_before m to h = elim (Contains-push_cases R e h.0 h.1.in_list) [
    | inl o ↦ (h.0, record { in_list = o; letter = h.1.letter })
    | inr w ↦ absurd (unsent m (ap letter_of w ∙ h.1.letter) to)
  ]

  -- and accepted before
  taken_before : (l : Message) → l.dest.no ≡ p → IsSent E l → IsTaken E l.id → IsTaken R l.id
  taken_before l to sent t = elim (Contains-push_cases R e t.0 t.2.in_list) [
    | inl o ↦ (t.0, t.1, record { in_list = o; kind = t.2.kind })
    | inr w ↦ absurd (other (ap (λ z. z.proc.no) w ∙ sym (taker_is k t.0 t.1 l t.2 sent) ∙ to))
  ]

  -- what it may accept it could accept before
  could : (set : ℕ) (m : Message) → MayTake M E p set m → MayTake M R p set m
  could set m h = record {
    sent = sent_before m h.to_it h.sent;
    to_it = h.to_it;
    in_set = h.in_set;
    waits = λ t. h.waits (t.0, t.1, accepts_part (old R e) t.0 t.1 m.id t.2);
    in_order = λ ordered l sent order.
        let s2 = sent_part (old R e) l sent in
        taken_before l (order.dest ∙ h.to_it) s2 (h.in_order ordered l s2 order);
  }

  -- so where it could accept none, it can accept none
  still_none : (set : ℕ) → slice_get (allowed M (Some T) R p set) (0 % length (allowed M (Some T) R p set)) ≡ None → slice_get (allowed M (Some T) E p set) (0 % length (allowed M (Some T) E p set)) ≡ None
  still_none set none = by (slice_get (allowed M (Some T) E p set) (0 % length (allowed M (Some T) E p set))) refl
    where
      by : (o : Option Message) → slice_get (allowed M (Some T) E p set) (0 % length (allowed M (Some T) E p set)) ≡ o → slice_get (allowed M (Some T) E p set) (0 % length (allowed M (Some T) E p set)) ≡ None
      by None o = o
      by (Some m) o =
          let a = allowed_fits M (Some T) E p set m (at_place (allowed M (Some T) E p set) _ m o) in
          let c = fits_allowed M (Some T) R p set m (could set m a.0) (subst (λ j. permits T p j m.id ≡ true) same_receives a.1) in
          let b = place_of (allowed M (Some T) R p set) (0 % length (allowed M (Some T) R p set)) (omega (arith, c.1)) in
          absurd (some_none b.0 (sym b.1 ∙ none))

  same_room : is_at_count (Some T) E p ≡ is_at_count (Some T) R p
  same_room = ap (λ c. is_at_count_of c) same_count
    where
      is_at_count_of : ℕ → Bool
      is_at_count_of c = nat_le (T.counts p) c

  -- the letter that its turn with pick 0 accepts
  abbrev first : List Event → ℕ → Option Message
  first F set = slice_get (allowed M (Some T) F p set) (0 % length (allowed M (Some T) F p set))

  by_stays : (n : Next) (why : Idle) → by_next M (Some T) R p 0 n ≡ Stays why → by_next M (Some T) E p 0 n ≡ Stays why
  by_stays Over why h = h
  by_stays (Goes kind) why h = at (is_at_count (Some T) R p) refl
    where
      at : (b : Bool) → is_at_count (Some T) R p ≡ b → by_next M (Some T) E p 0 (Goes kind) ≡ Stays why
      at true b = ap (λ b. cond b (Stays AtCount) (Went (next_event E p kind))) (same_room ∙ b) ∙ sym (ap (λ b. cond b (Stays AtCount) (Went (next_event R p kind))) b) ∙ h
      at false b = absurd (went_stays (next_event R p kind) why (sym (ap (λ b. cond b (Stays AtCount) (Went (next_event R p kind))) b) ∙ h))
  by_stays (Wants set) why h = at (is_at_count (Some T) R p) refl
    where
      found : (o : Option Message) → (first R set) ≡ o → taking R p set o ≡ Stays why → taking E p set (first E set) ≡ Stays why
      found None o z = ap (taking E p set) (still_none set o) ∙ z
      found (Some m) o z = absurd (went_stays _ why z)

      at : (b : Bool) → is_at_count (Some T) R p ≡ b → by_next M (Some T) E p 0 (Wants set) ≡ Stays why
      at true b = ap (λ b. cond b (Stays AtCount) (taking E p set (first E set))) (same_room ∙ b) ∙ sym (ap (λ b. cond b (Stays AtCount) (taking R p set (first R set))) b) ∙ h
      at false b =
          ap (λ b. cond b (Stays AtCount) (taking E p set (first E set))) (same_room ∙ b)
          ∙ found (first R set) refl (sym (ap (λ b. cond b (Stays AtCount) (taking R p set (first R set))) b) ∙ h)

  pub idle_stays : (why : Idle) → go s M (Some T) R (record { proc = p; pick = 0 }) ≡ Stays why → go s M (Some T) E (record { proc = p; pick = 0 }) ≡ Stays why
  idle_stays why h = ap (by_next M (Some T) E p 0) same_next ∙ by_stays ((s p).next (messages R p) (count R p)) why h

module _ (s : ℕ → Script) (law : (p : ℕ) → IsLawful (s p)) (T : Trace) (R : List Event) (replay : IsReplay s T R) (p : ℕ) (marks : List Bool) where
  -- who was asleep before a turn of a process that wasn't, or is that process, is asleep after it
  pub still_asleep : (new : List Bool) (w : Turned) → AreAsleep marks s T R → has_mark marks p ≡ false → go s T.mask (Some T) R (record { proc = p; pick = 0 }) ≡ w
      → ((q : ℕ) → has_mark new q ≡ true → StaysAsleep marks p w q) → AreAsleep new s T (after R w)
  still_asleep new (Stays why) h awake is stays = record {
    each = λ q m. elim (stays q m) [
      | inl e ↦ (why, ap (λ z. go s T.mask (Some T) R (record { proc = z; pick = 0 })) e ∙ is)
      | inr o ↦ h.each q o
    ];
  }
  still_asleep new (Went e) h awake is stays = record {
    each = λ q m.
        let u = stays q m in
        let i = h.each q u.marked in
        let of_p = (came T.mask T R p 0 e _ is).of_p in
        (i.0, idle_stays s law T R replay p e is q (λ z. false≢true (sym awake ∙ ap (has_mark marks) (sym of_p ∙ z) ∙ u.marked)) (λ l x. u.unsent e.proc l x) i.0 i.1);
  }

-- nobody is asleep before the first turn
pub none_asleep : (marks : List Bool) (s : ℕ → Script) (T : Trace) (R : List Event) → ((p : ℕ) → has_mark marks p ≡ false) → AreAsleep marks s T R
none_asleep marks s T R none = record { each = λ p m. absurd (false≢true (sym (none p) ∙ m)) }

pub all_false : (n p : ℕ) → has_mark (replicate n false) p ≡ false
all_false zero p = refl
all_false (suc n) zero = refl
all_false (suc n) (suc p) = all_false n p

-- a place within a list has its element
pub at_get : (xs : List Bool) (p : ℕ) (b : Bool) → slice_get xs p ≡ Some b → get_or xs p false ≡ b
at_get [] p b h = absurd (some_none b (sym h))
at_get (x ∷ xs) zero b h = cc
at_get (x ∷ xs) (suc p) b h = at_get xs p b h

pub past_get : (xs : List Bool) (p : ℕ) → slice_get xs p ≡ None → get_or xs p false ≡ false
past_get [] p h = refl
past_get (x ∷ xs) zero h = absurd (some_none x h)
past_get (x ∷ xs) (suc p) h = past_get xs p h

pub beyond : (xs : List Bool) (p : ℕ) → length xs ≤ p → get_or xs p false ≡ false
beyond [] p l = refl
beyond (x ∷ xs) zero l = absurd (omega (arith, l))
beyond (x ∷ xs) (suc p) l = beyond xs p (omega (arith, l))

-- a mark was put
pub put_mark : (marks : List Bool) (p : ℕ) (mark : Bool) → p < length marks → (q : ℕ) → has_mark (set marks p mark) q ≡ true → IsMarked marks p mark q
put_mark marks p mark l q h = elim (cases_eq q p) [
  | inl e ↦ inl (e, sym (get_or-set_same marks p mark false l) ∙ ap (has_mark (set marks p mark)) (sym e) ∙ h)
  | inr e ↦ inr (e, sym (get_or-set_other marks p q mark false e) ∙ h)
]

-- there is no place for it
pub no_place : (marks : List Bool) (p : ℕ) (mark : Bool) → length marks ≤ p → (q : ℕ) → has_mark marks q ≡ true → IsMarked marks p mark q
no_place marks p mark l q h = inr (λ e. false≢true (sym (beyond marks q (omega (arith, l, e))) ∙ h), h)

-- the receiver's mark was taken away
pub woken : (marks : List Bool) (number : ℕ) (dest : ProcNo) (chan len : ℕ) (words : List ℕ) (q : ℕ) → IsMarked marks dest.no false q → IsUnmoved marks (Sent number dest chan len words) q
woken marks number dest chan len words q h = elim h [
  | inl e ↦ absurd (false≢true e.1)
  | inr o ↦ record { marked = o.1; unsent = λ me m x z. o.0 (sym z ∙ sym (ap (λ l. l.dest.no) (some_same _ m x))) }
]
