-- A turn makes what fits.
use Rattle.std.proofs.Common.{◌≡◌, ℕ, zero, suc, ◌<◌, ◌%◌, Bool, true, false, cond, List, [], ◌∷◌, length, Option, Some, None, refl, sym, ap, ◌∙◌, subst, inl, inr, arith}
use Rattle.std.specs.Prelude.{Contains, slice_get, fold}
use Rattle.std.specs.List.{list_any}
use Rattle.std.proofs.lemmas.Bool.{cases_eq, eqb-true, eq-eqb, ltb-true, lt-ltb, leb-false, and_parts, and_from, or_cases, not-true, false≢true, cases_Bool}
use Rattle.nm_base.specs.declared.letter.LetterId.{LetterId}
use Rattle.nm_base.specs.declared.kind.Kind.TheVariants.{Accepted}
use Rattle.nm_base.specs.Fitting.{none, more}
use Rattle.nm_base.specs.Message.{Message}
use Rattle.nm_base.specs.Scripts.{Script, Next, Goes, Wants, Over, IsLawful}
use Rattle.nm_base.specs.Channels.{has_channel}
use Rattle.event_list.specs.declared.Event.{Event}
use Rattle.event_list.specs.Events.{count, messages, receives, Precedes}
use Rattle.event_list.specs.Runs.{MayTake, KindFits, Fits, IsRun}
use Rattle.event_list.specs.Traces.{Trace, IsReplay, permits, waiting, is_taken}
use Rattle.event_list.specs.Turns.{Idle, IsOver, AtCount, NoLetter, Turned, Stays, Went, Turn, precedes, permits_if, may_take, allowed, is_at_count, next_event, taking, by_next, go, after, run_of, replay_of}
use Rattle.event_list.proofs.Members.{cons_here, cons_there, in_filter, in_any}
use Rattle.event_list.proofs.Entries.{count_here, count_there}
use Rattle.event_list.proofs.RunsSound.{accepted_parts, no_receive}
use Rattle.event_list.proofs.TraceFacts.{taken_is, is_taken_from, waits_in, in_waiting}

-- what stands at a place is in the list
pub at_place : {X : Type 0} (xs : List X) (k : ℕ) (x : X) → slice_get xs k ≡ Some x → Contains xs x
at_place [] k x h = absurd (none_some x h)
  where
    none_some : {X : Type 0} (x : X) → None ≡ Some x → ⊥
    none_some x h = cc
at_place (y ∷ xs) zero x h = let e : y ≡ x = cc in subst (Contains (y ∷ xs)) e (cons_here y xs)
at_place (y ∷ xs) (suc k) x h = cons_there y xs x (at_place xs k x h)

-- each place below the length has something
pub place_of : {X : Type 0} (xs : List X) (k : ℕ) → k < length xs → (x : X) × (slice_get xs k ≡ Some x)
place_of [] k l = absurd (omega (arith, l))
place_of (y ∷ xs) zero l = (y, refl)
place_of (y ∷ xs) (suc k) l = place_of xs k (omega (arith, l))

pub precedes_from : (l m : Message) → Precedes l m → precedes l m ≡ true
precedes_from l m h =
    and_from _ _ (eq-eqb l.id.sender.no m.id.sender.no h.sender) (and_from _ _ (lt-ltb l.id.number m.id.number h.earlier)
    (and_from _ _ (eq-eqb l.dest.no m.dest.no h.dest) (eq-eqb l.chan m.chan h.chan)))

pub precedes_is : (l m : Message) → precedes l m ≡ true → Precedes l m
precedes_is l m h =
    let a = and_parts _ _ h in let b = and_parts _ _ a.1 in let c = and_parts _ _ b.1 in
    record { sender = eqb-true l.id.sender.no m.id.sender.no a.0; earlier = ltb-true l.id.number m.id.number b.0; dest = eqb-true l.dest.no m.dest.no c.0; chan = eqb-true l.chan m.chan c.1 }

-- what a turn allows may be taken
pub allowed_fits : (M : ℕ) (T : Option Trace) (E : List Event) (p set : ℕ) (m : Message) → Contains (allowed M T E p set) m → MayTake M E p set m × (permits_if T p (receives E p) m.id ≡ true)
allowed_fits M T E p set m h =
    let f = in_filter (may_take M T E p set) (waiting E) m h in
    let w = in_waiting E m f.0 in
    let a = and_parts _ _ f.1 in let b = and_parts _ _ a.1 in let c = and_parts _ _ b.1 in (
      record {
        sent = w.0;
        to_it = eqb-true m.dest.no p a.0;
        in_set = b.0;
        waits = w.1;
        in_order = λ ordered l s k. elim (or_cases _ _ c.1) [
          | inl n ↦ absurd (false≢true (sym (not-true (has_channel M m.chan) n) ∙ ordered))
          | inr first ↦ elim (cases_Bool (is_taken E l.id)) [
            | inl t ↦ taken_is E l.id t
            | inr t ↦ absurd (false≢true (sym (not-true (list_any (λ l. precedes l m) (waiting E)) first)
                ∙ in_any (λ l. precedes l m) (waiting E) l (waits_in E l s (λ z. false≢true (sym t ∙ is_taken_from E z.0 z.1 l.id z.2))) (precedes_from l m k)))
          ]
        ];
      },
      c.0,
    )

-- what a turn that went says
pub record Going (s : ℕ → Script) (M : ℕ) (T : Option Trace) (E : List Event) (p : ℕ) (e : Event) : Type 0 where
  pub fits : Fits s M E e
  pub of_p : e.proc.no ≡ p
  pub permitted : (set : ℕ) (id : LetterId) → e.kind ≡ Accepted set id → permits_if T p (receives E p) id ≡ true
  pub room : is_at_count T E p ≡ false

pub went_same : (a b : Event) → Went a ≡ Went b → a ≡ b
went_same a b h = cc

pub stays_went : (why : Idle) (e : Event) → Stays why ≡ Went e → ⊥
stays_went why e h = cc

pub going : (s : ℕ → Script) (M : ℕ) (T : Option Trace) (E : List Event) (p pick : ℕ) (e : Event) → ((set : ℕ) (id : LetterId) → (s p).next (messages E p) (count E p) ≡ Goes (Accepted set id) → ⊥) → go s M T E (record { proc = p; pick = pick }) ≡ Went e → Going s M T E p e
going s M T E p pick e plain h = by ((s p).next (messages E p) (count E p)) refl h
  where
    by : (n : Next) → (s p).next (messages E p) (count E p) ≡ n → by_next M T E p pick n ≡ Went e → Going s M T E p e
    by Over n h = absurd (stays_went IsOver e h)
    by (Goes kind) n h = here (is_at_count T E p) refl h
      where
        here : (b : Bool) → is_at_count T E p ≡ b → cond b (Stays AtCount) (Went (next_event E p kind)) ≡ Went e → Going s M T E p e
        here true c h = absurd (stays_went AtCount e h)
        here false c h = subst (Going s M T E p) (went_same (next_event E p kind) e h) record {
          fits = record { next_number = refl; next_kind = subst (KindFits M E (next_event E p kind)) (sym n) refl };
          of_p = refl;
          permitted = λ set id k. absurd (plain set id (n ∙ ap Goes k));
          room = c;
        }
    by (Wants set) n h = here (is_at_count T E p) refl h
      where
        found : (o : Option Message) → slice_get (allowed M T E p set) (pick % length (allowed M T E p set)) ≡ o → is_at_count T E p ≡ false → taking E p set o ≡ Went e → Going s M T E p e
        found None o c h = absurd (stays_went NoLetter e h)
        found (Some m) o c h =
            let a = allowed_fits M T E p set m (at_place (allowed M T E p set) _ m o) in
            subst (Going s M T E p) (went_same (next_event E p (Accepted set m.id)) e h) record {
              fits = record { next_number = refl; next_kind = subst (KindFits M E (next_event E p (Accepted set m.id))) (sym n) (m, refl, a.0) };
              of_p = refl;
              permitted = λ t id k. subst (λ id. permits_if T p (receives E p) id ≡ true) (accepted_parts set t m.id id k).1 a.1;
              room = c;
            }

        here : (b : Bool) → is_at_count T E p ≡ b → cond b (Stays AtCount) (taking E p set (slice_get (allowed M T E p set) (pick % length (allowed M T E p set)))) ≡ Went e → Going s M T E p e
        here true c h = absurd (stays_went AtCount e h)
        here false c h = found (slice_get (allowed M T E p set) (pick % length (allowed M T E p set))) refl c h

module _ (s : ℕ → Script) (law : (p : ℕ) → IsLawful (s p)) where
  -- a turn keeps a run
  pub turn_runs : (M : ℕ) (T : Option Trace) (E : List Event) (t : Turn) → IsRun s M E → IsRun s M (after E (go s M T E t))
  turn_runs M T E t run = by (go s M T E t) refl
    where
      by : (w : Turned) → go s M T E t ≡ w → IsRun s M (after E w)
      by (Stays why) h = run
      by (Went e) h = more run (going s M T E t.proc t.pick e (no_receive s law run t.proc) h).fits

  -- and a replay
  pub turn_replays : (T : Trace) (R : List Event) (t : Turn) → IsReplay s T R → IsReplay s T (after R (go s T.mask (Some T) R t))
  turn_replays T R t h = by (go s T.mask (Some T) R t) refl
    where
      by : (w : Turned) → go s T.mask (Some T) R t ≡ w → IsReplay s T (after R w)
      by (Stays why) k = h
      by (Went e) k =
          let w = going s T.mask (Some T) R t.proc t.pick e (no_receive s law h.run t.proc) k in
          record {
            run = more h.run w.fits;
            permitted = more h.permitted record { permitted = λ set id z. subst (λ p. permits T p (receives R p) id ≡ true) (sym w.of_p) (w.permitted set id z) };
            within = λ p. elim (cases_eq e.proc.no p) [
              | inl y ↦ omega (arith, count_here R e p y, leb-false (T.counts t.proc) (count R t.proc) w.room, ap T.counts (sym w.of_p ∙ y), ap (count R) (sym w.of_p ∙ y))
              | inr y ↦ omega (arith, count_there R e p y, h.within p)
            ];
          }

  pub run_of_runs : (M : ℕ) (turns : List Turn) → IsRun s M (run_of s M turns)
  run_of_runs M turns = by turns [] none
    where
      by : (turns : List Turn) (E : List Event) → IsRun s M E → IsRun s M (fold (λ E t. after E (go s M None E t)) E turns)
      by [] E h = h
      by (t ∷ turns) E h = by turns (after E (go s M None E t)) (turn_runs M None E t h)

  pub empty_replay : (T : Trace) → IsReplay s T []
  empty_replay T = record { run = none; permitted = none; within = λ p. omega arith }

  pub replay_of_replays : (T : Trace) (turns : List Turn) → IsReplay s T (replay_of s T turns)
  replay_of_replays T turns = by turns [] (empty_replay T)
    where
      by : (turns : List Turn) (R : List Event) → IsReplay s T R → IsReplay s T (fold (λ R t. after R (go s T.mask (Some T) R t)) R turns)
      by [] R h = h
      by (t ∷ turns) R h = by turns (after R (go s T.mask (Some T) R t)) (turn_replays T R t h)
