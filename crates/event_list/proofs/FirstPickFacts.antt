-- Replays that are made with pick 0.
use Rattle.std.proofs.Common.{◌≡◌, ℕ, zero, suc, ◌+◌, ◌%◌, Bool, true, false, cond, List, [], ◌∷◌, ◌++◌, length, Option, Some, None, refl, sym, ap, ◌∙◌, subst, inl, inr, arith}
use Rattle.std.specs.Prelude.{Contains, ◌&&◌, not, nat_le, map, filter, slice_get}
use Rattle.std.specs.List.{cons_option}
use Rattle.std.proofs.Math.Nat.{zero-mod}
use Rattle.std.proofs.lemmas.Bool.{cases_lt, le-leb, lt-leb, and_parts, and_from, or_cases, or_left, or_right, not-true, not_from_false, false_from_ne_true, false≢true, eqb-true}
use Rattle.std.proofs.lemmas.List.{append-nil, map-append}
use Rattle.std.proofs.lemmas.List.Elements.{filter-append}
use Rattle.nm_base.specs.declared.kind.Kind.TheVariants.{Accepted}
use Rattle.nm_base.specs.Fitting.{none, more}
use Rattle.nm_base.specs.Message.{Message}
use Rattle.nm_base.specs.Scripts.{Script, Next, Goes, Wants, Over, IsLawful}
use Rattle.nm_base.specs.Channels.{has_channel}
use Rattle.event_list.specs.declared.Event.{Event}
use Rattle.event_list.specs.Events.{count, messages, receives, letters, letter_of, taken, IsSent, Sends}
use Rattle.event_list.specs.Order.{Cut, Within}
use Rattle.event_list.specs.Cuts.{cut_list}
use Rattle.event_list.specs.Runs.{MayTake, KindFits, Fits, IsRun, Sound}
use Rattle.event_list.specs.Traces.{Trace, permits, is_taken, waiting}
use Rattle.event_list.specs.Turns.{Turned, Stays, Went, AtCount, NoLetter, IsOver, precedes, is_first, may_take, allowed, is_at_count, next_event, taking, by_next, go, replay_of, Finishing, is_finished, finish_by, finish_turn, finish_within}
use Rattle.event_list.specs.FirstPicks.{first_turn, FitsFirst, IsFirstPicked}
use Rattle.event_list.proofs.Members.{empty, cons_here, cons_there, cons_cases, in_filter_map, any_in, in_any}
use Rattle.event_list.proofs.Splits.{contains_split}
use Rattle.event_list.proofs.Soundness.{old, letter_same, send_order, sender_is}
use Rattle.event_list.proofs.Projections.{IsPart, messages_same, entries_same, sent_part, accepts_part}
use Rattle.event_list.proofs.Parts.{taker_is}
use Rattle.event_list.proofs.RunsSound.{runs_sound, no_receive, accepted_parts}
use Rattle.event_list.proofs.TraceFacts.{taken_is, is_taken_from, in_waiting, waits_in}
use Rattle.event_list.proofs.TurnFacts.{Going, going, went_same, stays_went, at_place, allowed_fits, precedes_is}
use Rattle.event_list.proofs.SendOrder.{waiting_in_order, filter_in_order, order_at}
use Rattle.event_list.proofs.CutRuns.{IsClosed, cut_part, cut_within, cut_has, cut_runs, has_own, as_many, fits_cut}
use Rattle.event_list.proofs.EachTurn.{fits_allowed, one_more}
use Rattle.event_list.proofs.FinishFacts.{came}

-- xs are elements of ys, in their order
data IsSublist {X : Type 0} : List X → List X → Type 0 where
  none_left : IsSublist [] []
  both : {x : X} {xs ys : List X} → IsSublist xs ys → IsSublist (x ∷ xs) (x ∷ ys)
  passed : {y : X} {xs ys : List X} → IsSublist xs ys → IsSublist xs (y ∷ ys)

sublist_filter : {X : Type 0} (test : X → Bool) (xs : List X) → IsSublist (filter test xs) xs
sublist_filter test [] = none_left
sublist_filter test (x ∷ xs) = by (test x) (sublist_filter test xs)
  where
    by : (b : Bool) → IsSublist (filter test xs) xs → IsSublist (cond b (x ∷ filter test xs) (filter test xs)) (x ∷ xs)
    by true h = both h
    by false h = passed h

sublist_letters : {xs ys : List Event} → IsSublist xs ys → IsSublist (letters xs) (letters ys)
sublist_letters none_left = none_left
sublist_letters (both {x = x} {xs = xs} {ys = ys} h) = by (letter_of x) (sublist_letters h)
  where
    by : (o : Option Message) → IsSublist (letters xs) (letters ys) → IsSublist (cons_option o (letters xs)) (cons_option o (letters ys))
    by None h = h
    by (Some m) h = both h
sublist_letters (passed {y = y} {xs = xs} {ys = ys} h) = by (letter_of y) (sublist_letters h)
  where
    by : (o : Option Message) → IsSublist (letters xs) (letters ys) → IsSublist (letters xs) (cons_option o (letters ys))
    by None h = h
    by (Some m) h = passed h

sublist_kept : {X : Type 0} (p q : X → Bool) {xs ys : List X} → IsSublist xs ys → ((x : X) → Contains xs x → p x ≡ true → q x ≡ true) → IsSublist (filter p xs) (filter q ys)
sublist_kept p q none_left h = none_left
sublist_kept p q (both {x = x} {xs = xs} {ys = ys} k) h = by (p x) (q x) refl refl (sublist_kept p q k (λ y c. h y (cons_there x xs y c)))
  where
    by : (a b : Bool) → p x ≡ a → q x ≡ b → IsSublist (filter p xs) (filter q ys) → IsSublist (cond a (x ∷ filter p xs) (filter p xs)) (cond b (x ∷ filter q ys) (filter q ys))
    by true true a b k = both k
    by true false a b k = absurd (false≢true (sym b ∙ h x (cons_here x xs) a))
    by false true a b k = passed k
    by false false a b k = k
sublist_kept p q (passed {y = y} {xs = xs} {ys = ys} k) h = by (q y) (sublist_kept p q k h)
  where
    by : (b : Bool) → IsSublist (filter p xs) (filter q ys) → IsSublist (filter p xs) (cond b (y ∷ filter q ys) (filter q ys))
    by true k = passed k
    by false k = k

sublist_in : {X : Type 0} {xs ys : List X} → IsSublist xs ys → (x : X) → Contains xs x → Contains ys x
sublist_in none_left x h = h
sublist_in (both {x = y} {xs = xs} {ys = ys} k) x h = elim (cons_cases y xs x h) [
  | inl e ↦ subst (Contains (y ∷ ys)) e (cons_here y ys)
  | inr o ↦ cons_there y ys x (sublist_in k x o)
]
sublist_in (passed {y = y} {ys = ys} k) x h = cons_there y ys x (sublist_in k x h)

-- two filters are one
filter_both : {X : Type 0} (p q : X → Bool) (xs : List X) → filter p (filter q xs) ≡ filter (λ x. q x && p x) xs
filter_both p q [] = refl
filter_both p q (x ∷ xs) = by (q x) (filter_both p q xs)
  where
    by : (b : Bool) → filter p (filter q xs) ≡ filter (λ x. q x && p x) xs → filter p (cond b (x ∷ filter q xs) (filter q xs)) ≡ cond (b && p x) (x ∷ filter (λ x. q x && p x) xs) (filter (λ x. q x && p x) xs)
    by true h = ap (λ ys. cond (p x) (x ∷ ys) ys) h
    by false h = h

-- the element at place 0
first_is : {X : Type 0} (xs : List X) (x : X) → slice_get xs 0 ≡ Some x → (ys : List X) × (xs ≡ x ∷ ys)
first_is [] x h = absurd (none_some x h)
  where
    none_some : {X : Type 0} (x : X) → None ≡ Some x → ⊥
    none_some x h = cc
first_is (y ∷ ys) x h = let e : y ≡ x = cc in (ys, ap (λ z. z ∷ ys) e)

-- a sublist that has the first letter begins with it, where no letter stands twice
begins_with : (m : Message) {xs zs : List Message} → IsSublist xs zs → (ys : List Message) → zs ≡ m ∷ ys → (Contains ys m → ⊥) → Contains xs m → slice_get xs 0 ≡ Some m
begins_with m none_left ys e once c = absurd (empty m c)
begins_with m (both {x = x} k) ys e once c = let q : x ≡ m = cc in ap Some q
begins_with m (passed {ys = zs} k) ys e once c = let q : zs ≡ ys = cc in absurd (once (subst (λ l. Contains l m) q (sublist_in k m c)))

module _ (s : ℕ → Script) (law : (p : ℕ) → IsLawful (s p)) (T : Trace) (c : Cut) where
  abbrev M : ℕ
  M = T.mask

  module _ (E : List Event) (e : Event) (run : IsRun s M E) (f : Fits s M E e) (closed : IsClosed (E ++ e ∷ []) c) (crun : IsRun s M (cut_list c E)) (within : Within c e) where
    abbrev C : List Event
    C = cut_list c E

    abbrev p : ℕ
    p = e.proc.no

    g : Sound M E
    g = runs_sound s law run

    k : Sound M C
    k = runs_sound s law crun

    part : IsPart C E
    part = cut_part c E

    own : (a : Event) → Contains E a → a.proc.no ≡ p → Contains C a
    own = has_own s law M c E e run f closed crun within

    many : count C p ≡ count E p
    many = as_many s law M c E e run f closed crun within

    same_receives : receives C p ≡ receives E p
    same_receives = ap (λ es. length (taken es)) (entries_same k g g part (λ a h. h) p many)

    module _ (set : ℕ) where
      -- whether p's receive may accept a letter that was sent
      allows : List Event → Message → Bool
      allows R l = not (is_taken R l.id) && may_take M (Some T) R p set l

      -- what it may accept after the cut, it may accept after all entries
      allows_more : (l : Message) → Contains (letters C) l → (not (is_taken C l.id) && may_take M (Some T) C p set l) ≡ true → (not (is_taken E l.id) && may_take M (Some T) E p set l) ≡ true
      allows_more l h t =
          let x = and_parts _ _ t in
          let y = and_parts _ _ x.1 in
          let z = and_parts _ _ y.1 in
          let w = and_parts _ _ z.1 in
          let at : l.dest.no ≡ p = eqb-true l.dest.no p y.0 in
          let b = in_filter_map letter_of C l h in
          let sends : Sends E b.0 l = record { in_list = part b.0 b.1; letter = b.2 } in
          let sent : IsSent E l = (b.0, sends) in
          and_from _ _
          (not_from_false (is_taken E l.id) (false_from_ne_true _ (λ u.
          let r = taken_is E l.id u in
          let o = own r.0 r.2.in_list (sym (taker_is g r.0 r.1 l r.2 sent) ∙ at) in
          false≢true (sym (not-true (is_taken C l.id) x.0) ∙ is_taken_from C r.0 r.1 l.id record { in_list = o; kind = r.2.kind }))))
          (and_from _ _ y.0 (and_from _ _ z.0 (and_from _ _ (subst (λ j. permits T p j l.id ≡ true) same_receives w.0) (elim (or_cases _ _ w.1) [
            | inl n ↦ or_left (not (has_channel M l.chan)) (is_first E l) n
            | inr first ↦ or_right (not (has_channel M l.chan)) (is_first E l) (not_from_false _ (false_from_ne_true _ (λ u.
                let d = any_in (λ d. precedes d l) (waiting E) u in
                let v = in_waiting E d.0 d.1 in
                let i = precedes_is d.0 l d.2 in
                let n = send_order g v.0.0 b.0 d.0 l v.0.1 sends i.sender i.earlier in
                let q = sender_is v.0.1 ∙ i.sender ∙ sym (sender_is sends) in
                let o = cut_has c E v.0.0 v.0.1.in_list (omega (arith, n, cut_within c E b.0 b.1, ap c q)) in
                let waits = waits_in C d.0 (v.0.0, record { in_list = o; letter = v.0.1.letter }) (λ r. v.1 (r.0, r.1, accepts_part part r.0 r.1 d.0.id r.2)) in
                false≢true (sym (not-true _ first) ∙ in_any (λ d. precedes d l) (waiting C) d.0 waits d.2))))
          ]))))

      sublist : IsSublist (allowed M (Some T) C p set) (allowed M (Some T) E p set)
      sublist =
          subst (λ xs. IsSublist xs (allowed M (Some T) E p set)) (sym (filter_both (may_take M (Some T) C p set) (λ l. not (is_taken C l.id)) (letters C)))
          (subst (IsSublist (filter (λ l. not (is_taken C l.id) && may_take M (Some T) C p set l) (letters C))) (sym (filter_both (may_take M (Some T) E p set) (λ l. not (is_taken E l.id)) (letters E)))
          (sublist_kept _ _ (sublist_letters (sublist_filter (λ a. nat_le a.number (c a.proc.no)) E)) allows_more))

      -- the first letter that is allowed is the same
      first_same : (m : Message) → e.kind ≡ Accepted set m.id → (s p).next (messages C p) (count C p) ≡ Wants set → permits T p (receives E p) m.id ≡ true → slice_get (allowed M (Some T) E p set) 0 ≡ Some m → slice_get (allowed M (Some T) C p set) 0 ≡ Some m
      first_same m kind wants permitted h =
          let a = first_is (allowed M (Some T) E p set) m h in
          let t : KindFits M C e (Wants set) = subst (KindFits M C e) wants (fits_cut s law M c E e run f closed crun within).next_kind in
          let n : t.0.id ≡ m.id = (accepted_parts set set t.0.id m.id (sym t.1 ∙ kind)).1 in
          let sent = (allowed_fits M (Some T) E p set m (at_place (allowed M (Some T) E p set) 0 m h)).0.sent in
          let q : t.0 ≡ m = letter_same g t.0 m (sent_part part t.0 t.2.sent) sent n in
          let in_c = fits_allowed M (Some T) C p set m (subst (MayTake M C p set) q t.2) (subst (λ j. permits T p j m.id ≡ true) (sym same_receives) permitted) in
          begins_with m sublist a.0 a.1 (once a.0 a.1) in_c
        where
          once : (ys : List Message) → allowed M (Some T) E p set ≡ m ∷ ys → Contains ys m → ⊥
          once ys eq c =
              let d = contains_split ys m c in
              let o = order_at (filter_in_order (may_take M (Some T) E p set) (waiting_in_order g)) (m ∷ d.0) m d.1 (eq ∙ ap (λ zs. m ∷ zs) d.2) m (cons_here m d.0) refl in
              omega (arith, o)

    -- the event is made after the cut as after all entries
    made_again : FitsFirst s T E e → FitsFirst s T C e
    made_again h = record { made = by ((s p).next (messages E p) (count E p)) refl h.made }
      where
        next_same : (s p).next (messages C p) (count C p) ≡ (s p).next (messages E p) (count E p)
        next_same = ap (λ ms. (s p).next ms (count C p)) (messages_same k g g part (λ a h. h) p many) ∙ ap ((s p).next (messages E p)) many

        goes : Going s M (Some T) E p e
        goes = going s M (Some T) E p 0 e (no_receive s law run p) h.made

        room : is_at_count (Some T) C p ≡ false
        room = ap (nat_le (T.counts p)) many ∙ goes.room

        by : (n : Next) → (s p).next (messages E p) (count E p) ≡ n → by_next M (Some T) E p 0 ((s p).next (messages E p) (count E p)) ≡ Went e → by_next M (Some T) C p 0 ((s p).next (messages C p) (count C p)) ≡ Went e
        by Over n h = absurd (stays_went IsOver e (ap (by_next M (Some T) E p 0) (sym n) ∙ h))
        by (Goes kind) n h =
            let was = ap (λ b. cond b (Stays AtCount) (Went (next_event E p kind))) (sym goes.room) ∙ ap (by_next M (Some T) E p 0) (sym n) ∙ h in
            ap (by_next M (Some T) C p 0) (next_same ∙ n)
            ∙ ap (λ b. cond b (Stays AtCount) (Went (next_event C p kind))) room
            ∙ ap (λ k. Went (record { proc = record { no = p }; number = k + 1; kind = kind })) many
            ∙ was
        by (Wants set) n h = found (slice_get (allowed M (Some T) E p set) 0) refl
          where
            was : taking E p set (slice_get (allowed M (Some T) E p set) 0) ≡ Went e
            was =
                ap (λ i. taking E p set (slice_get (allowed M (Some T) E p set) i)) (sym (zero-mod (length (allowed M (Some T) E p set))))
                ∙ ap (λ b. cond b (Stays AtCount) (taking E p set (slice_get (allowed M (Some T) E p set) (0 % length (allowed M (Some T) E p set))))) (sym goes.room)
                ∙ ap (by_next M (Some T) E p 0) (sym n) ∙ h

            found : (o : Option Message) → slice_get (allowed M (Some T) E p set) 0 ≡ o → by_next M (Some T) C p 0 ((s p).next (messages C p) (count C p)) ≡ Went e
            found None o = absurd (stays_went NoLetter e (ap (taking E p set) (sym o) ∙ was))
            found (Some m) o =
                let same : next_event E p (Accepted set m.id) ≡ e = went_same _ e (ap (taking E p set) (sym o) ∙ was) in
                let kind : e.kind ≡ Accepted set m.id = ap (λ z. z.kind) (sym same) in
                let o2 = first_same set m kind (next_same ∙ n) (goes.permitted set m.id kind) o in
                ap (by_next M (Some T) C p 0) (next_same ∙ n)
                ∙ ap (λ b. cond b (Stays AtCount) (taking C p set (slice_get (allowed M (Some T) C p set) (0 % length (allowed M (Some T) C p set))))) room
                ∙ ap (λ i. taking C p set (slice_get (allowed M (Some T) C p set) i)) (zero-mod (length (allowed M (Some T) C p set)))
                ∙ ap (taking C p set) o2
                ∙ ap (λ k. Went (record { proc = record { no = p }; number = k + 1; kind = Accepted set m.id })) many
                ∙ ap Went same

  -- what is made so is a run
  first_runs : {R : List Event} → IsFirstPicked s T R → IsRun s M R
  first_runs none = none
  first_runs (more {xs = R} {x = e} h f) = let run = first_runs h in more run (going s M (Some T) R e.proc.no 0 e (no_receive s law run e.proc.no) f.made).fits

  pub first_cut : {R : List Event} → IsFirstPicked s T R → IsClosed R c → IsFirstPicked s T (cut_list c R)
  first_cut none closed = none
  first_cut (more {xs = R} {x = e} h f) closed =
      let earlier : IsClosed R c = λ a b ha hb d w. closed a b (old R e a ha) (old R e b hb) d w in
      let ch = first_cut h earlier in
      let run = first_runs h in
      let fits = (going s M (Some T) R e.proc.no 0 e (no_receive s law run e.proc.no) f.made).fits in
      subst (IsFirstPicked s T) (sym (filter-append (λ e. nat_le e.number (c e.proc.no)) R (e ∷ []))) (elim (cases_lt (c e.proc.no) e.number) [
        | inl l ↦ subst (λ b. IsFirstPicked s T (cut_list c R ++ cond b (e ∷ []) [])) (sym (lt-leb e.number (c e.proc.no) l)) (subst (IsFirstPicked s T) (sym (append-nil (cut_list c R))) ch)
        | inr l ↦ subst (λ b. IsFirstPicked s T (cut_list c R ++ cond b (e ∷ []) [])) (sym (le-leb e.number (c e.proc.no) l)) (more ch (made_again R e run fits closed (cut_runs s law M c run earlier) l f))
      ])

-- its events' turns make it
pub first_turns : (s : ℕ → Script) (T : Trace) {R : List Event} → IsFirstPicked s T R → replay_of s T (map first_turn R) ≡ R
first_turns s T none = refl
first_turns s T (more {xs = R} {x = e} h f) =
    ap (replay_of s T) (map-append first_turn R (e ∷ [])) ∙ one_more s T.mask (Some T) (map first_turn R) (first_turn e) R e (first_turns s T h) f.made

-- finishing makes its events with pick 0
pub first_finish : (s : ℕ → Script) (T : Trace) (k : ℕ) (f : Finishing) → IsFirstPicked s T f.events → IsFirstPicked s T (finish_within k s T f).events
first_finish s T zero f h = h
first_finish s T (suc k) f h = by (is_finished T f) (first_finish s T k (finish_turn s T f) (turn (go s T.mask (Some T) f.events (record { proc = f.next; pick = 0 })) refl))
  where
    by : (b : Bool) → IsFirstPicked s T (finish_within k s T (finish_turn s T f)).events → IsFirstPicked s T (cond b f (finish_within k s T (finish_turn s T f))).events
    by true on = h
    by false on = on

    of_next : (x : Event) → go s T.mask (Some T) f.events (record { proc = f.next; pick = 0 }) ≡ Went x → x.proc.no ≡ f.next
    of_next x e = (came T.mask T f.events f.next 0 x _ e).of_p

    turn : (w : Turned) → go s T.mask (Some T) f.events (record { proc = f.next; pick = 0 }) ≡ w → IsFirstPicked s T (finish_by T f w).events
    turn (Stays why) e = h
    turn (Went x) e = more h record { made = ap (λ q. go s T.mask (Some T) f.events (record { proc = q; pick = 0 })) (of_next x e) ∙ e }
