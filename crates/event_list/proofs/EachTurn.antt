-- Each run and each replay is made by a schedule.
use Rattle.std.proofs.Common.{◌≡◌, ℕ, suc, ◌<◌, ◌≤◌, ◌%◌, true, false, cond, List, [], ◌∷◌, ◌++◌, length, Option, Some, None, refl, sym, ap, ◌∙◌, inl, inr, arith}
use Rattle.std.specs.Prelude.{Contains, ◌||◌, not, slice_get, fold}
use Rattle.std.specs.List.{list_any}
use Rattle.std.proofs.Math.Nat.{mod-eq_of_lt}
use Rattle.std.proofs.lemmas.List.Sums.{fold-append}
use Rattle.std.proofs.lemmas.Bool.{eq-eqb, lt-leb, and_from, or_left, or_right, not_from_false, cases_Bool, false_from_ne_true}
use Rattle.nm_base.specs.declared.letter.LetterId.{LetterId}
use Rattle.nm_base.specs.declared.kind.Kind.TheVariants.{Accepted}
use Rattle.nm_base.specs.Fitting.{EachFits, none, more}
use Rattle.nm_base.specs.Message.{Message}
use Rattle.nm_base.specs.Scripts.{Script, Next, Goes, Wants, Over}
use Rattle.nm_base.specs.Channels.{has_channel}
use Rattle.event_list.specs.declared.Event.{Event}
use Rattle.event_list.specs.Events.{count, messages, receives}
use Rattle.event_list.specs.Runs.{MayTake, KindFits, Fits, IsRun}
use Rattle.event_list.specs.Traces.{Trace, IsPermitted, IsReplay, waiting}
use Rattle.event_list.specs.Turns.{Stays, Went, AtCount, Turn, precedes, is_first, permits_if, may_take, allowed, is_at_count, next_event, taking, by_next, go, after, run_of, replay_of}
use Rattle.event_list.proofs.Members.{empty, cons_cases, filter_in, any_in}
use Rattle.event_list.proofs.Entries.{event_same, count_here, count_grows}
use Rattle.event_list.proofs.Splits.{front, last}
use Rattle.event_list.proofs.TraceFacts.{in_waiting, waits_in}
use Rattle.event_list.proofs.TurnFacts.{precedes_is}

-- an element stands at a place
place_in : {X : Type 0} (xs : List X) (x : X) → Contains xs x → (k : ℕ) × (k < length xs) × (slice_get xs k ≡ Some x)
place_in [] x h = absurd (empty x h)
place_in (y ∷ xs) x h = elim (cons_cases y xs x h) [
  | inl e ↦ (0, omega arith, ap Some e)
  | inr o ↦ let r = place_in xs x o in (suc r.0, omega (arith, r.1), r.2)
]

-- what may be taken, and is permitted, a turn allows
pub fits_allowed : (M : ℕ) (T : Option Trace) (E : List Event) (p set : ℕ) (m : Message) → MayTake M E p set m → permits_if T p (receives E p) m.id ≡ true → Contains (allowed M T E p set) m
fits_allowed M T E p set m t permitted =
    filter_in (may_take M T E p set) (waiting E) m (waits_in E m t.sent t.waits) (and_from _ _ (eq-eqb m.dest.no p t.to_it) (and_from _ _ t.in_set (and_from _ _ permitted ordered)))
  where
    ordered : (not (has_channel M m.chan) || is_first E m) ≡ true
    ordered = elim (cases_Bool (has_channel M m.chan)) [
      | inr n ↦ or_left (not (has_channel M m.chan)) (is_first E m) (not_from_false (has_channel M m.chan) n)
      | inl y ↦ or_right (not (has_channel M m.chan)) (is_first E m) (not_from_false (list_any (λ l. precedes l m) (waiting E)) (false_from_ne_true _ (λ h.
          let l = any_in (λ l. precedes l m) (waiting E) h in
          let w = in_waiting E l.0 l.1 in
          w.1 (t.in_order y l.0 w.0 (precedes_is l.0 m l.2)))))
    ]

module _ (s : ℕ → Script) (M : ℕ) (T : Option Trace) (E : List Event) (e : Event) (f : Fits s M E e) (permitted : (set : ℕ) (id : LetterId) → e.kind ≡ Accepted set id → permits_if T e.proc.no (receives E e.proc.no) id ≡ true) (room : is_at_count T E e.proc.no ≡ false) where
  abbrev p : ℕ
  p = e.proc.no

  -- what fits is made by a turn of its process
  pub made_by : (t : Turn) × (go s M T E t ≡ Went e)
  made_by = by ((s p).next (messages E p) (count E p)) refl f.next_kind
    where
      by : (n : Next) → (s p).next (messages E p) (count E p) ≡ n → KindFits M E e n → (t : Turn) × (go s M T E t ≡ Went e)
      by Over n h = absurd h
      by (Goes kind) n h = (
        record { proc = p; pick = 0 },
        ap (by_next M T E p 0) n ∙ ap (λ b. cond b (Stays AtCount) (Went (next_event E p kind))) room
            ∙ ap Went (event_same (next_event E p kind) e refl (sym f.next_number) (sym h)),
      )
      by (Wants set) n h =
          let k = place_in (allowed M T E p set) h.0 (fits_allowed M T E p set h.0 h.2 (permitted set h.0.id h.1)) in (
            record { proc = p; pick = k.0 },
            ap (by_next M T E p k.0) n
                ∙ ap (λ b. cond b (Stays AtCount) (taking E p set (slice_get (allowed M T E p set) (k.0 % length (allowed M T E p set))))) room
                ∙ ap (λ i. taking E p set (slice_get (allowed M T E p set) i)) (mod-eq_of_lt k.1)
                ∙ ap (taking E p set) k.2
                ∙ ap Went (event_same (next_event E p (Accepted set h.0.id)) e refl (sym f.next_number) (sym h.1)),
          )

-- one more turn
pub one_more : (s : ℕ → Script) (M : ℕ) (T : Option Trace) (turns : List Turn) (t : Turn) (E : List Event) (e : Event) → fold (λ E t. after E (go s M T E t)) [] turns ≡ E → go s M T E t ≡ Went e → fold (λ E t. after E (go s M T E t)) [] (turns ++ t ∷ []) ≡ E ++ e ∷ []
one_more s M T turns t E e h w = fold-append (λ E t. after E (go s M T E t)) [] turns (t ∷ []) ∙ ap (λ E. after E (go s M T E t)) h ∙ ap (after E) w

pub each_run : (s : ℕ → Script) (M : ℕ) {E : List Event} → IsRun s M E → (turns : List Turn) × (run_of s M turns ≡ E)
each_run s M none = ([], refl)
each_run s M (more {xs = E} {x = e} run f) =
    let r = each_run s M run in
    let t = made_by s M None E e f (λ set id k. refl) refl in
    (r.0 ++ t.0 ∷ [], one_more s M None r.0 t.0 E e r.1 t.1)

each_replay_by : (s : ℕ → Script) (T : Trace) {R : List Event} → IsRun s T.mask R → EachFits (IsPermitted T) R → ((p : ℕ) → count R p ≤ T.counts p) → (turns : List Turn) × (replay_of s T turns ≡ R)
each_replay_by s T none permitted within = ([], refl)
each_replay_by s T (more {xs = R} {x = e} run f) permitted within =
    let r = each_replay_by s T run (front R e permitted) (λ p. omega (arith, within p, count_grows R e p)) in
    let room = lt-leb (T.counts e.proc.no) (count R e.proc.no) (omega (arith, within e.proc.no, count_here R e e.proc.no refl)) in
    let t = made_by s T.mask (Some T) R e f (last R e permitted).permitted room in
    (r.0 ++ t.0 ∷ [], one_more s T.mask (Some T) r.0 t.0 R e r.1 t.1)

pub each_replay : (s : ℕ → Script) (T : Trace) (R : List Event) → IsReplay s T R → (turns : List Turn) × (replay_of s T turns ≡ R)
each_replay s T R h = each_replay_by s T h.run h.permitted h.within
