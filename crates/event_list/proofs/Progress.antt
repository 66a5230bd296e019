-- A replay that lacks recorded entries can go on.
use Rattle.std.proofs.Common.{◌≡◌, ℕ, ◌+◌, ◌<◌, ◌%◌, true, false, cond, List, [], ◌∷◌, ◌++◌, length, Some, sym, ap, ◌∙◌, subst, inl, inr, arith}
use Rattle.std.specs.Prelude.{Contains, ◌⊎◌, ◌||◌, not, slice_get}
use Rattle.std.specs.List.{list_any}
use mathlib.Core.Path.{ap₂}
use Rattle.std.proofs.lemmas.Bool.{cases_lt, eq-eqb, lt-leb, and_from, or_left, or_right, not_from_false, cases_Bool, false_from_ne_true}
use Rattle.nm_base.specs.declared.kind.Kind.TheVariants.{Accepted}
use Rattle.nm_base.specs.Fitting.{none, more}
use Rattle.nm_base.specs.Message.{Message}
use Rattle.nm_base.specs.Scripts.{Script, Next, Goes, Wants, Over, IsLawful}
use Rattle.nm_base.specs.Channels.{has_channel}
use Rattle.event_list.specs.declared.Event.{Event}
use Rattle.event_list.specs.Events.{count, messages, receives, Sends, Accepts, IsSent}
use Rattle.event_list.specs.Runs.{MayTake, KindFits, Fits, IsRun, Sound}
use Rattle.event_list.specs.Traces.{Trace, IsTraceOf, IsReplay, receive_number, waiting, permits}
use Rattle.event_list.specs.Turns.{Stays, Went, AtCount, precedes, is_first, may_take, allowed, is_at_count, next_event, taking, by_next, CanGo}
use Rattle.event_list.proofs.Members.{filter_in, any_in}
use Rattle.event_list.proofs.Entries.{nothing_in}
use Rattle.event_list.proofs.Soundness.{old, new, numbers, entry_at, send_order, accept_same, sender_is}
use Rattle.event_list.proofs.RunsSound.{runs_sound}
use Rattle.event_list.proofs.Projections.{IsPart, messages_same, sent_part, accepts_part}
use Rattle.event_list.proofs.Parts.{part_holds, part_cut, receive_at}
use Rattle.event_list.proofs.TraceFacts.{in_waiting, waits_in}
use Rattle.event_list.proofs.Permits.{own_permitted}
use Rattle.event_list.proofs.ReplayPrefix.{replay_is_part}
use Rattle.event_list.proofs.TurnFacts.{place_of, precedes_is}
use Rattle.std.proofs.lemmas.List.Elements.{Contains-push_cases}

-- the first entry of a run that R lacks, with the entries before it, which R has
pub record Missing (s : ℕ → Script) (M : ℕ) (E R : List Event) : Type 0 where
  pub before : List Event
  pub entry : Event
  pub begins : IsRun s M before
  pub fits : Fits s M before entry
  pub part : IsPart before E
  pub in_list : Contains E entry
  pub had : IsPart before R
  pub lacked : count R entry.proc.no < entry.number

missing_grows : {s : ℕ → Script} {M : ℕ} {E R : List Event} (e : Event) → Missing s M E R → Missing s M (E ++ e ∷ []) R
missing_grows {E = E} e m = record { before = m.before; entry = m.entry; begins = m.begins; fits = m.fits; part = λ a h. old E e a (m.part a h); in_list = old E e m.entry m.in_list; had = m.had; lacked = m.lacked }

-- R has all entries of the run, or lacks a first one
first_missing : (s : ℕ → Script) (M N : ℕ) (E R : List Event) → Sound M R → Sound N E → IsPart R E → {P : List Event} → IsRun s M P → IsPart P E → IsPart P R ⊎ Missing s M P R
first_missing s M N E R r g part none sub = inl (λ a h. absurd (nothing_in a h))
first_missing s M N E R r g part (more {xs = P} {x = e} run f) sub =
    elim (first_missing s M N E R r g part run (λ a h. sub a (old P e a h))) [
      | inl all ↦ elim (cases_lt (count R e.proc.no) e.number) [
        | inl l ↦ inr record { before = P; entry = e; begins = run; fits = f; part = old P e; in_list = new P e; had = all; lacked = l }
        | inr l ↦ inl (λ a h. elim (Contains-push_cases P e a h) [
          | inl o ↦ all a o
          | inr w ↦ subst (Contains R) w (part_holds r g part e (sub e (new P e)) l)
        ])
      ]
      | inr m ↦ inr (missing_grows e m)
    ]

module _ (s : ℕ → Script) (law : (p : ℕ) → IsLawful (s p)) (T : Trace) (E R : List Event) (run : IsRun s T.mask E) (trace : IsTraceOf E T) (replay : IsReplay s T R) where
  abbrev M : ℕ
  M = T.mask

  g : Sound M E
  g = runs_sound s law run

  r : Sound M R
  r = runs_sound s law replay.run

  part : IsPart R E
  part = replay_is_part s law T E R run trace replay

  module _ (m : Missing s M E R) where
    abbrev p : ℕ
    p = m.entry.proc.no

    abbrev e : Event
    e = m.entry

    abbrev B : List Event
    B = m.before

    b : Sound M B
    b = runs_sound s law m.begins

    as_many : count R p ≡ count B p
    as_many = omega (arith, m.lacked, m.fits.next_number, (part_cut b r m.had).is_cut p)

    -- the script's next is that of the recorded entry
    by_same : KindFits M B e ((s p).next (messages R p) (count R p))
    by_same = subst (KindFits M B e) (ap₂ (s p).next (sym (messages_same r b g part m.part p as_many)) (sym as_many)) m.fits.next_kind

    room : is_at_count (Some T) R p ≡ false
    room = lt-leb (T.counts p) (count R p) (omega (arith, trace.counts p, (numbers g e m.in_list).1, m.lacked))

    module _ (set : ℕ) (x : Message) (takes : Accepts E e set x.id) where
      -- the trace permits the recorded letter
      permitted : permits T p (receives R p) x.id ≡ true
      permitted =
          let at : receive_number E e ≡ receives R p = receive_at r g part e (m.fits.next_number ∙ ap (λ n. n + 1) (sym as_many)) in
          ap (λ j. permits T p j x.id) (sym at) ∙ own_permitted g trace e set x.id takes

      -- it waits, and it may be taken
      is_allowed : MayTake M B p set x → Contains (allowed M (Some T) R p set) x
      is_allowed t = filter_in (may_take M (Some T) R p set) (waiting R) x waits (and_from _ _ (eq-eqb x.dest.no p t.to_it) (and_from _ _ t.in_set (and_from _ _ permitted ordered)))
        where
          waits : Contains (waiting R) x
          waits = waits_in R x (sent_part m.had x t.sent) (λ k.
              let same = accept_same g k.0 e k.1 set x.id (accepts_part part k.0 k.1 x.id k.2) takes in
              omega (arith, m.lacked, (numbers r k.0 k.2.in_list).1, ap (λ z. z.number) same, ap (λ z. count R z.proc.no) same))

          ordered : (not (has_channel M x.chan) || is_first R x) ≡ true
          ordered = elim (cases_Bool (has_channel M x.chan)) [
            | inr n ↦ or_left (not (has_channel M x.chan)) (is_first R x) (not_from_false (has_channel M x.chan) n)
            | inl y ↦ or_right (not (has_channel M x.chan)) (is_first R x) (not_from_false (list_any (λ l. precedes l x) (waiting R)) (false_from_ne_true _ (λ h.
                let l = any_in (λ l. precedes l x) (waiting R) h in
                let w = in_waiting R l.0 l.1 in
                let k = precedes_is l.0 x l.2 in
                let lr = w.0 in
                let le : Sends E lr.0 l.0 = record { in_list = part lr.0 lr.1.in_list; letter = lr.1.letter } in
                let xe : Sends E t.sent.0 x = record { in_list = m.part t.sent.0 t.sent.1.in_list; letter = t.sent.1.letter } in
                let n = send_order g lr.0 t.sent.0 l.0 x le xe k.sender k.earlier in
                let q = sender_is lr.1 ∙ k.sender ∙ sym (sender_is t.sent.1) in
                let lb : IsSent B l.0 = (lr.0, record { in_list = part_holds b g m.part lr.0 le.in_list (omega (arith, n, (numbers b t.sent.0 t.sent.1.in_list).1, ap (count B) q)); letter = lr.1.letter }) in
                let z = t.in_order y l.0 lb k in
                w.1 (z.0, z.1, accepts_part m.had z.0 z.1 l.0.id z.2))))
          ]

    -- so its process can go
    can_go : CanGo s T R
    can_go = record { proc = p; below = trace.processes e m.in_list; goes = λ pick. by pick ((s p).next (messages R p) (count R p)) by_same }
      where
        by : (pick : ℕ) (n : Next) → KindFits M B e n → (w : Event) × (by_next M (Some T) R p pick n ≡ Went w)
        by pick (Goes kind) k = (next_event R p kind, ap (λ b. cond b (Stays AtCount) (Went (next_event R p kind))) room)
        by pick (Wants set) k =
            let x = k.0 in
            let c = is_allowed set x record { in_list = m.in_list; kind = k.1 } k.2 in
            let a = place_of (allowed M (Some T) R p set) (pick % length (allowed M (Some T) R p set)) (omega (arith, c.1)) in
            (next_event R p (Accepted set a.0.id), ap (λ b. cond b (Stays AtCount) (taking R p set (slice_get (allowed M (Some T) R p set) (pick % length (allowed M (Some T) R p set))))) room ∙ ap (taking R p set) a.1)
        by pick Over k = absurd k

  -- while a count is below the recorded one, some process can go
  pub progress : (p : ℕ) → count R p < T.counts p → CanGo s T R
  progress p l = elim (first_missing s M M E R r g part run (λ a h. h)) [
    | inl all ↦ absurd (
        let a = entry_at g p (count E p) (omega (arith, l, trace.counts p)) (omega arith) in
        omega (arith, (numbers r a.0 (all a.0 a.1)).1, a.3, ap (count R) a.2, l, trace.counts p))
    | inr m ↦ can_go m
  ]
