-- What a trace permits to the receives of its own run.
use Rattle.std.proofs.Common.{◌≡◌, ℕ, true, List, Option, Some, None, refl, sym, ap, ◌∙◌, subst, inl, inr}
use Rattle.std.specs.Prelude.{Contains, ◌&&◌, ◌==◌}
use Rattle.std.proofs.lemmas.Bool.{eqb-true, eq-eqb, and_parts, and_from, or_cases, not_from_false, false_from_ne_true}
use Rattle.nm_base.specs.declared.letter.LetterId.{LetterId}
use Rattle.nm_base.specs.declared.letter.AcceptNote.{AcceptNote}
use Rattle.event_list.specs.declared.Event.{Event}
use Rattle.nm_base.specs.Message.{same_name}
use Rattle.event_list.specs.Events.{Accepts}
use Rattle.event_list.specs.Runs.{Sound}
use Rattle.event_list.specs.Traces.{Trace, IsTraceOf, receive_number, waiting, note_for, names, permits_by, permits}
use Rattle.event_list.proofs.Members.{find_some, find_none, any_in}
use Rattle.event_list.proofs.Soundness.{accept_same}
use Rattle.event_list.proofs.RunsSound.{accepted_parts}
use Rattle.event_list.proofs.Projections.{name_from, same_name_at}
use Rattle.event_list.proofs.Parts.{receive_same}
use Rattle.event_list.proofs.TraceFacts.{keeps_in, in_map, note_receive, in_waiting}

-- a letter is permitted where the receive's notes name it, and without a note nothing names it
pub permits_when : (T : Trace) (p j : ℕ) (id : LetterId) → ((note : AcceptNote) → Contains T.notes note → note.receiver.no ≡ p → note.receive ≡ j → note.id ≡ id) → (note_for T p j ≡ None → names T id ≡ true → ⊥) → permits T p j id ≡ true
permits_when T p j id noted free = by (note_for T p j) refl
  where
    by : (o : Option AcceptNote) → note_for T p j ≡ o → permits_by o T id ≡ true
    by (Some note) h =
        let f = find_some (λ note. (note.receiver.no == p) && (note.receive == j)) T.notes note h in
        let q = and_parts (note.receiver.no == p) (note.receive == j) f.1 in
        same_name_at note.id id (noted note f.0 (eqb-true note.receiver.no p q.0) (eqb-true note.receive j q.1))
    by None h = not_from_false (names T id) (false_from_ne_true (names T id) (free h))

-- a note of the trace for a receive names the letter that it accepted
pub note_names : {M : ℕ} {E : List Event} {T : Trace} → Sound M E → IsTraceOf E T → (e : Event) (set : ℕ) (id : LetterId) → Accepts E e set id → (note : AcceptNote) → Contains T.notes note → note.receiver.no ≡ e.proc.no → note.receive ≡ receive_number E e → note.id ≡ id
note_names {E = E} g trace e set id takes note h p n =
    let k = note_receive E note (keeps_in trace.notes note h).0 in
    let same = receive_same g k.receive e k.set set note.id id k.accepts takes (ap (λ z. z.no) (sym k.receiver) ∙ p) (sym k.number ∙ n) in
    (accepted_parts k.set set note.id id (sym k.accepts.kind ∙ ap (λ z. z.kind) same ∙ takes.kind)).1

-- a received letter that the trace names is named by the note of its receive
pub named_noted : {M : ℕ} {E : List Event} {T : Trace} → Sound M E → IsTraceOf E T → (e : Event) (set : ℕ) (id : LetterId) → Accepts E e set id → names T id ≡ true → (note : AcceptNote) × Contains T.notes note × (note.receiver.no ≡ e.proc.no) × (note.receive ≡ receive_number E e) × (note.id ≡ id)
named_noted {E = E} {T = T} g trace e set id takes n = elim (or_cases _ _ n) [
  | inl n ↦
      let a = any_in (λ note. same_name note.id id) T.notes n in
      let i = name_from a.0.id id a.2 in
      let k = note_receive E a.0 (keeps_in trace.notes a.0 a.1).0 in
      let same = accept_same g k.receive e k.set set id (subst (Accepts E k.receive k.set) i k.accepts) takes in
      (a.0, a.1, ap (λ z. z.no) k.receiver ∙ ap (λ z. z.proc.no) same, k.number ∙ ap (receive_number E) same, i)
  | inr n ↦
      let a = any_in (λ l. same_name l id) T.lost n in
      let k = in_map (λ m. m.id) (waiting E) a.0 (keeps_in trace.lost a.0 a.1).0 in
      absurd ((in_waiting E k.0 k.1).1 (e, set, subst (Accepts E e set) (sym (k.2 ∙ name_from a.0 id a.2)) takes))
]

-- the trace of a run permits what the run's receives accepted
pub own_permitted : {M : ℕ} {E : List Event} {T : Trace} → Sound M E → IsTraceOf E T → (e : Event) (set : ℕ) (id : LetterId) → Accepts E e set id → permits T e.proc.no (receive_number E e) id ≡ true
own_permitted {E = E} {T = T} g trace e set id takes =
    permits_when T e.proc.no (receive_number E e) id (note_names g trace e set id takes) (λ h n.
    let k = named_noted g trace e set id takes n in
    find_none (λ note. (note.receiver.no == e.proc.no) && (note.receive == receive_number E e)) T.notes k.0 h k.1 (and_from _ _ (eq-eqb k.0.receiver.no e.proc.no k.2) (eq-eqb k.0.receive (receive_number E e) k.3)))
