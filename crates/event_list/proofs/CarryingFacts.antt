-- A run's own moves make it again, and what is carried out is a run.
use Rattle.std.proofs.Common.{◌≡◌, ℕ, List, [], ◌∷◌, ◌++◌, Option, Some, None, refl, sym, ap, ◌∙◌, subst, append_assoc}
use Rattle.std.specs.Prelude.{Contains, option_map, find, fold}
use Rattle.std.proofs.lemmas.List.{append-nil, map-append}
use Rattle.std.proofs.lemmas.List.Sums.{fold-append}
use Rattle.nm_base.specs.declared.letter.LetterId.{LetterId}
use Rattle.nm_base.specs.declared.kind.Kind.{Kind}
use Rattle.nm_base.specs.declared.kind.Kind.TheVariants.{Line, Sent, Accepted, Printed, Ended, Faulted}
use Rattle.nm_base.specs.Fitting.{none, more}
use Rattle.nm_base.specs.Message.{Message, same_name}
use Rattle.nm_base.specs.Scripts.{Script, Next, Goes, Wants, Over, IsLawful}
use Rattle.event_list.specs.declared.Event.{Event}
use Rattle.event_list.specs.Events.{count, messages, taken_in, taken_of}
use Rattle.event_list.specs.Runs.{KindFits, Fits, IsRun}
use Rattle.event_list.specs.Turns.{allowed, next_event}
use Rattle.event_list.specs.Carrying.{Move, move_by, after_move, carried_out, move_of, moves_of}
use Rattle.event_list.proofs.Members.{find_some, find_none}
use Rattle.event_list.proofs.Entries.{event_same}
use Rattle.event_list.proofs.RunsSound.{no_receive}
use Rattle.event_list.proofs.Projections.{name_from, same_name_at}
use Rattle.event_list.proofs.TurnFacts.{allowed_fits}
use Rattle.event_list.proofs.EachTurn.{fits_allowed}

-- an event that is no receive takes nothing
plain_taken : (k : Kind) → ((set : ℕ) (id : LetterId) → k ≡ Accepted set id → ⊥) → taken_in k ≡ None
plain_taken (Line x) h = refl
plain_taken (Sent number dest chan len words) h = refl
plain_taken (Accepted set id) h = absurd (h set id refl)
plain_taken (Printed x) h = refl
plain_taken (Ended x) h = refl
plain_taken (Faulted x) h = refl

none_some : {X : Type 0} (x : X) → None ≡ Some x → ⊥
none_some x h = cc

some_same : {X : Type 0} (x y : X) → Some x ≡ Some y → x ≡ y
some_same x y h = cc

module _ (s : ℕ → Script) (law : (p : ℕ) → IsLawful (s p)) (M : ℕ) where
  -- what the script does next
  abbrev next_at : List Event → ℕ → Next
  next_at E p = (s p).next (messages E p) (count E p)

  -- the move of an event that fits makes it
  moved_again : (E : List Event) (e : Event) → IsRun s M E → Fits s M E e → move_by M E e.proc.no (taken_of e) (next_at E e.proc.no) ≡ Some e
  moved_again E e run f = by (next_at E e.proc.no) refl f.next_kind
    where
      named : (set : ℕ) (m : Message) → Contains (allowed M None E e.proc.no set) m → e.kind ≡ Accepted set m.id → (o : Option Message) → find (λ l. same_name l.id m.id) (allowed M None E e.proc.no set) ≡ o → option_map (λ l. next_event E e.proc.no (Accepted set l.id)) o ≡ Some e
      named set m c kind None o = absurd (find_none (λ l. same_name l.id m.id) (allowed M None E e.proc.no set) m o c (same_name_at m.id m.id refl))
      named set m c kind (Some l) o =
          let t = find_some (λ l. same_name l.id m.id) (allowed M None E e.proc.no set) l o in
          ap Some (event_same (next_event E e.proc.no (Accepted set l.id)) e refl (sym f.next_number) (ap (Accepted set) (name_from l.id m.id t.1) ∙ sym kind))

      by : (n : Next) → next_at E e.proc.no ≡ n → KindFits M E e n → move_by M E e.proc.no (taken_of e) (next_at E e.proc.no) ≡ Some e
      by Over n h = absurd h
      by (Goes kind) n h =
          let plain = plain_taken kind (λ set id k. no_receive s law run e.proc.no set id (n ∙ ap Goes k)) in
          ap (move_by M E e.proc.no (taken_of e)) n
          ∙ ap (λ o. move_by M E e.proc.no o (Goes kind)) (ap taken_in h ∙ plain)
          ∙ ap Some (event_same (next_event E e.proc.no kind) e refl (sym f.next_number) (sym h))
      by (Wants set) n h =
          ap (move_by M E e.proc.no (taken_of e)) n
          ∙ ap (λ k. move_by M E e.proc.no (taken_in k) (Wants set)) h.1
          ∙ named set h.0 (fits_allowed M None E e.proc.no set h.0 h.2 refl) h.1 (find (λ l. same_name l.id h.0.id) (allowed M None E e.proc.no set)) refl

  -- a run's own moves make it again
  pub carried_again : {E : List Event} → IsRun s M E → carried_out s M (moves_of E) ≡ Some E
  carried_again none = refl
  carried_again (more {xs = E} {x = e} run f) =
      ap (carried_out s M) (map-append move_of E (e ∷ []))
      ∙ fold-append (after_move s M) (Some []) (moves_of E) (move_of e ∷ [])
      ∙ ap (λ o. after_move s M o (move_of e)) (carried_again run)
      ∙ ap (option_map (λ x. E ++ x ∷ [])) (moved_again E e run f)

  -- what a move makes fits
  record Moved (E : List Event) (move : Move) (e : Event) : Type 0 where
    fits : Fits s M E e
    is : move_of e ≡ move

  moved : (E : List Event) (p : ℕ) (takes : Option LetterId) (e : Event) → IsRun s M E → move_by M E p takes (next_at E p) ≡ Some e → Moved E (record { proc = p; takes = takes }) e
  moved E p takes e run h = by takes (next_at E p) refl h
    where
      found : (set : ℕ) (id : LetterId) → next_at E p ≡ Wants set → (o : Option Message) → find (λ l. same_name l.id id) (allowed M None E p set) ≡ o → option_map (λ m. next_event E p (Accepted set m.id)) o ≡ Some e → Moved E (record { proc = p; takes = Some id }) e
      found set id n None o h = absurd (none_some e h)
      found set id n (Some m) o h =
          let t = find_some (λ l. same_name l.id id) (allowed M None E p set) m o in
          let a = allowed_fits M None E p set m t.0 in
          subst (Moved E (record { proc = p; takes = Some id })) (some_same (next_event E p (Accepted set m.id)) e h) record {
            fits = record { next_number = refl; next_kind = subst (KindFits M E (next_event E p (Accepted set m.id))) (sym n) (m, refl, a.0) };
            is = ap (λ i. record { proc = p; takes = Some i }) (name_from m.id id t.1);
          }

      by : (takes : Option LetterId) (n : Next) → next_at E p ≡ n → move_by M E p takes n ≡ Some e → Moved E (record { proc = p; takes = takes }) e
      by None (Goes kind) n h =
          let plain = plain_taken kind (λ set id k. no_receive s law run p set id (n ∙ ap Goes k)) in
          subst (Moved E (record { proc = p; takes = None })) (some_same (next_event E p kind) e h) record {
            fits = record { next_number = refl; next_kind = subst (KindFits M E (next_event E p kind)) (sym n) refl };
            is = ap (λ o. record { proc = p; takes = o }) plain;
          }
      by (Some id) (Wants set) n h = found set id n (find (λ l. same_name l.id id) (allowed M None E p set)) refl h
      by None (Wants set) n h = absurd (none_some e h)
      by None Over n h = absurd (none_some e h)
      by (Some id) (Goes kind) n h = absurd (none_some e h)
      by (Some id) Over n h = absurd (none_some e h)

  nothing_more : (moves : List Move) → fold (after_move s M) None moves ≡ None
  nothing_more [] = refl
  nothing_more (move ∷ moves) = nothing_more moves

  carried_from : (moves : List Move) (E W : List Event) → IsRun s M E → fold (after_move s M) (Some E) moves ≡ Some W → IsRun s M W × (moves_of W ≡ moves_of E ++ moves)
  carried_from [] E W run h =
      let same : E ≡ W = some_same E W h in
      (subst (IsRun s M) same run, ap moves_of (sym same) ∙ sym (append-nil (moves_of E)))
  carried_from (move ∷ moves) E W run h = by (move_by M E move.proc move.takes (next_at E move.proc)) refl (λ F. carried_from moves F W) h
    where
      by : (o : Option Event) → move_by M E move.proc move.takes (next_at E move.proc) ≡ o → ((F : List Event) → IsRun s M F → fold (after_move s M) (Some F) moves ≡ Some W → IsRun s M W × (moves_of W ≡ moves_of F ++ moves))
          → fold (after_move s M) (option_map (λ e. E ++ e ∷ []) o) moves ≡ Some W → IsRun s M W × (moves_of W ≡ moves_of E ++ (move ∷ moves))
      by None o go h = absurd (none_some W (sym (nothing_more moves) ∙ h))
      by (Some e) o go h =
          let m = moved E move.proc move.takes e run o in
          let r = go (E ++ e ∷ []) (more run m.fits) h in
          (r.0, r.1 ∙ ap (λ ms. ms ++ moves) (map-append move_of E (e ∷ [])) ∙ append_assoc (moves_of E) (move_of e ∷ []) moves ∙ ap (λ z. moves_of E ++ (z ∷ moves)) m.is)

  -- what is carried out is a run, with these moves
  pub carried_runs : (moves : List Move) (W : List Event) → carried_out s M moves ≡ Some W → IsRun s M W × (moves_of W ≡ moves)
  carried_runs moves W h = carried_from moves [] W none h
