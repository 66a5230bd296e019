-- What a turn does to the notes.
use Rattle.std.proofs.Common.{◌≡◌, ℕ, ◌+◌, ◌*◌, ◌<◌, ◌≤◌, List, [], ◌∷◌, ◌++◌, length, Option, Some, None, refl, sym, ap, ◌∙◌, subst, inl, inr, arith, length-append}
use Rattle.std.specs.Prelude.{Contains, ◌⊎◌, IsSome}
use Rattle.std.proofs.lemmas.List.{append-nil}
use Rattle.std.proofs.lemmas.Option.{same_Some, none-some}
use Rattle.nm_base.specs.declared.letter.ProcNo.{ProcNo}
use Rattle.nm_base.specs.declared.letter.LetterId.{LetterId}
use Rattle.nm_base.specs.declared.letter.Letter.{Letter}
use Rattle.nm_base.specs.declared.letter.AcceptNote.{AcceptNote}
use Rattle.nm_base.specs.declared.kind.Kind.{Kind}
use Rattle.nm_base.specs.declared.kind.Kind.TheVariants.{Accepted}
use Rattle.nm_base.specs.declared.limits.TheConstants.{MAX_PROCESSES}
use Rattle.nm_base.specs.Message.{message_of}
use Rattle.nm_base.specs.Scripts.{message_sent}
use Rattle.nm_outside.specs.Files.{Files, extended, ExtendsPart}
use Rattle.event_list.specs.declared.Event.{Event}
use Rattle.event_list.specs.Events.{receives, taken_of, taken_in}
use Rattle.event_list.specs.Runs.{Sound}
use Rattle.event_list.specs.Races.{IsLogged}
use Rattle.event_list.specs.Traces.{Trace, IsLoggedName, IsTraceOf}
use Rattle.event_list.specs.Turns as turns
use Rattle.event_list.proofs.Decisions.{trace_exists}
use Rattle.event_list.proofs.NoteGrowth.{note_added, note_same}
use Rattle.event_list.proofs.OrderlyFacts.{trace_size}
use Rattle.event_list.proofs.RunsSound.{accepted_parts}
use Rattle.event_list.proofs.Soundness as sound
use Rattle.event_list.proofs.Soundness.{letter_same, sender_is}
use Rattle.event_list.proofs.WitnessFacts.{keeps_one}
use Rattle.race_tracer.specs.Tracing.{Tables, IsTracerOf, IsLawfulRun, IsNext, HasStamp, received, receive_of}
use Rattle.race_tracer.proofs.TracerFacts.{sound_of, stamp_from, other_event}
use Rattle.trace_file.specs.declared.writer.TraceWriter.{TraceWriter}
use Rattle.trace_file.specs.Content.{Content, with_note}
use Rattle.trace_file.specs.Bytes as bytes
use Rattle.trace_file.specs.Bytes.{front}
use Rattle.trace_file.specs.Writing.{Writes}
use Rattle.trace_file.proofs.Passing.{note_front}
use Rattle.world.specs.declared.world.Turned.{Turned}
use Rattle.world.specs.declared.world.Turned.TheVariants.{Idle, Went}
use Rattle.world.specs.Outcomes.{outcome}
use Rattle.recorder.specs.declared.receive.Receive.{Receive}
use Rattle.recorder.specs.Recording.{Form}
use Rattle.recorder.specs.private.Stages.{Place, IsNoted, IsCutInNotes, AreNotes, content_in, HoldsFront, IsHeld}
use Rattle.recorder.specs.private.Receiving.{TellsOf, IsMade, IsReceiveIn}
use Rattle.recorder.proofs.Holding.{held_more, held_part}

pub not_some : {X : Type 0} (o : Option X) → o ≡ None → IsSome o → ⊥
not_some None e s = absurd cc
not_some (Some x) e s = none-some x (sym e)

-- a run's notes are those of a trace of it
pub trace_with : (mask : ℕ) (E : List Event) → Sound mask E → ((e : Event) → Contains E e → e.proc.no < MAX_PROCESSES) → (list : List AcceptNote) → AreNotes mask E list
    → (T : Trace) × (T.mask ≡ mask) × IsTraceOf E T × (T.notes ≡ list)
trace_with mask E g below list are =
    let t = trace_exists 1 mask MAX_PROCESSES E g below in
    (t.0, t.2, t.4, keeps_one (subst (λ m. AreNotes m E t.0.notes) t.2 t.4.notes) are)

module _ (mask : ℕ) (E : List Event) (e : Event) (run : IsLawfulRun mask (E ++ e ∷ [])) (list : List AcceptNote) (are : AreNotes mask E list) where
  abbrev all : List Event
  all = E ++ e ∷ []

  abbrev g : Sound mask all
  g = sound_of run

  -- the notes of an event that accepts a logged letter
  pub notes_more : (set : ℕ) (id : LetterId) → e.kind ≡ Accepted set id → IsLoggedName mask all id
      → AreNotes mask all (list ++ record { receiver = e.proc; receive = receives E e.proc.no; id = id } ∷ [])
  notes_more set id kind logged = note_added mask E e list g are set id kind logged

  -- and of any other event
  pub notes_same : ((set : ℕ) (id : LetterId) → e.kind ≡ Accepted set id → IsLoggedName mask all id → ⊥) → AreNotes mask all list
  notes_same other = note_same mask E e list g are other

-- the front of a trace with one note more
note_bytes : (f : Form) (list : List AcceptNote) (note : AcceptNote) → front (content_in f (list ++ note ∷ []) []) ≡ front (content_in f list []) ++ bytes.note note
note_bytes f list note = note_front (content_in f list []) note refl

module _ (f : Form) (at : Place) (t : Tables) (w : TraceWriter) (files : Option Files) (opened : List ℕ) (notes : ℕ) (E : List Event) (p : ProcNo) (number set : ℕ) (l : Letter)
    (h : IsNoted f at t w files opened notes E) (next : IsNext f.mask E p number set l) where
  abbrev now : List Event
  now = received E p number set l

  -- the receive of a letter that is not logged
  pub noted_same : (t' : Tables) → IsTracerOf t' now → (IsLogged f.mask now (message_of l) → ⊥) → IsNoted f at t' w files opened (notes + 0) now
  noted_same t' stands not_logged = record {
    tracer = stands;
    list = h.list;
    are_notes = notes_same f.mask E (receive_of p number set l) next.run h.list h.are_notes (λ set' id kind logged.
        let same : l.id ≡ id = (accepted_parts set set' l.id id kind).1 in
        not_logged (subst (IsLogged f.mask now)
        (letter_same (sound_of next.run) logged.0 (message_of l) logged.2.1.could.sent (next.stamp.send, next.stamp.sends) (logged.1 ∙ sym same)) logged.2));
    count = omega (arith, h.count);
    writes = h.writes;
    held = h.held;
  }

  module _ (note : AcceptNote) (is : note ≡ record { receiver = p; receive = receives E p.no; id = l.id }) (logged : IsLogged f.mask now (message_of l)) where
    more_notes : AreNotes f.mask now (h.list ++ note ∷ [])
    more_notes = subst (λ (a : AcceptNote). AreNotes f.mask now (h.list ++ a ∷ [])) (sym is)
        (notes_more f.mask E (receive_of p number set l) next.run h.list h.are_notes set l.id refl (message_of l, refl, logged))

    -- the receive of a letter that is
    pub noted_more : (t' : Tables) (w' : TraceWriter) (files' : Option Files) (opened' : List ℕ) → IsTracerOf t' now
        → ((c : Content) → c.lost ≡ [] → Writes w (front c) → Writes w' (front (with_note c note)))
        → files' ≡ extended files opened (bytes.note note) → opened' ≡ opened → IsNoted f at t' w' files' opened' (notes + 1) now
    noted_more t' w' files' opened' stands writes grown same = record {
      tracer = stands;
      list = h.list ++ note ∷ [];
      are_notes = more_notes;
      count = omega (arith, h.count, length-append h.list (note ∷ []));
      writes = writes (content_in f h.list []) refl h.writes;
      held = subst (IsHeld at files' opened') (sym (note_bytes f h.list note)) (held_more at files files' opened (front (content_in f h.list [])) (bytes.note note) h.held opened' grown same);
    }

    -- where its note is not written whole
    pub cut_in_note : (files' : Option Files) → ExtendsPart files opened (bytes.note note) files' → IsCutInNotes f at files' now
    cut_in_note files' part = record {
      list = h.list ++ note ∷ [];
      are_notes = more_notes;
      front_is = subst (HoldsFront at files') (append-nil _ ∙ sym (note_bytes f h.list note))
          (held_part at files files' opened (front (content_in f h.list [])) (bytes.note note) h.held [] part);
    }

-- an event that accepts no letter
pub noted_other : (f : Form) (at : Place) (t : Tables) (w : TraceWriter) (files : Option Files) (opened : List ℕ) (notes : ℕ) (E : List Event) (e : Event) → t.mask ≡ f.mask
    → IsNoted f at t w files opened notes E → IsLawfulRun f.mask (E ++ e ∷ []) → taken_of e ≡ None → IsNoted f at t w files opened (notes + 0) (E ++ e ∷ [])
noted_other f at t w files opened notes E e order h run untaken = record {
  tracer = other_event t E e (subst (λ m. Sound m (E ++ e ∷ [])) (sym order) (sound_of run)) untaken h.tracer;
  list = h.list;
  are_notes = notes_same f.mask E e run h.list h.are_notes (λ set id kind logged. none-some id (sym untaken ∙ ap taken_in kind));
  count = omega (arith, h.count);
  writes = h.writes;
  held = h.held;
}

-- a letter's name among what the event of a receive accepted
named_by : (proc : ProcNo) (k : Kind) (set : ℕ) (id : LetterId) (l : Letter) → k ≡ Accepted set id → ((message_sent proc k ≡ Some (message_of l)) ⊎ (taken_in k ≡ Some l.id)) → id ≡ l.id
named_by proc k set id l is how = by (subst (λ (j : Kind). (message_sent proc j ≡ Some (message_of l)) ⊎ (taken_in j ≡ Some l.id)) is how)
  where
    by : ((message_sent proc (Accepted set id) ≡ Some (message_of l)) ⊎ (taken_in (Accepted set id) ≡ Some l.id)) → id ≡ l.id
    by (inl sent) = absurd (none-some (message_of l) sent)
    by (inr taken) = same_Some id l.id taken

-- a receive that was made is what the tracer is told
module _ (mask n : ℕ) (E : List Event) (e : Event) (l : Letter) (r : Receive) (m : IsMade mask n E (Went e (Some l))) (tells : TellsOf e l r) where
  same_id : tells.id ≡ r.letter.id
  same_id = named_by e.proc e.kind r.set tells.id l tells.kind m.carries.1 ∙ ap (λ (k : Letter). k.id) tells.letter

  same_event : e ≡ receive_of r.proc r.number r.set r.letter
  same_event =
      ap (λ (p : ProcNo). record { proc = p; number = e.number; kind = e.kind }) tells.proc
      ∙ ap (λ (k : ℕ). record { proc = r.proc; number = k; kind = e.kind }) tells.number
      ∙ ap (λ (k : Kind). record { proc = r.proc; number = r.number; kind = k }) (tells.kind ∙ ap (λ (id : LetterId). Accepted r.set id) same_id)

  pub same_list : E ++ e ∷ [] ≡ received E r.proc r.number r.set r.letter
  same_list = ap (λ (a : Event). E ++ a ∷ []) same_event

  pub made_next : IsNext mask E r.proc r.number r.set r.letter
  made_next = record {
    run = subst (IsLawfulRun mask) same_list m.run;
    stamp = subst (λ (F : List Event). HasStamp F r.letter) same_list
        (subst (HasStamp (E ++ e ∷ [])) tells.letter (stamp_from (E ++ e ∷ []) (sound_of m.run) l l.posted m.carries.0.place m.carries.0.stamp));
  }

  -- its process and the letter's sender are of the run
  pub made_receiver : r.proc.no < n
  made_receiver = subst (λ (p : ProcNo). p.no < n) tells.proc (m.below e (sound.new E e))

  pub made_sender : r.letter.id.sender.no < n
  made_sender =
      let s = made_next.stamp in
      subst (λ k. k < n) (sender_is s.sends)
      (m.below s.send (subst (λ (F : List Event). Contains F s.send) (sym same_list) s.sends.in_list))

-- a turn that made no receive
pub not_received : (f : Form) (at : Place) (t : Tables) (w : TraceWriter) (files : Option Files) (opened : List ℕ) (notes n : ℕ) (E : List Event) (what : Turned) → IsReceiveIn what None → t.mask ≡ f.mask
    → IsNoted f at t w files opened notes E → IsMade f.mask n E what → IsNoted f at t w files opened (notes + 0) (turns.after E (outcome what))
not_received f at t w files opened notes n E (Idle why) r order h m = record {
  tracer = h.tracer;
  list = h.list;
  are_notes = h.are_notes;
  count = omega (arith, h.count);
  writes = h.writes;
  held = h.held;
}
not_received f at t w files opened notes n E (Went e None) r order h m = noted_other f at t w files opened notes E e order h m.run m.carries.1
not_received f at t w files opened notes n E (Went e (Some l)) r order h m = noted_other f at t w files opened notes E e order h m.run r

-- two entries of a run for each note
pub notes_few : (mask : ℕ) (E : List Event) → Sound mask E → ((e : Event) → Contains E e → e.proc.no < MAX_PROCESSES) → (list : List AcceptNote) → AreNotes mask E list → 2 * length list ≤ length E
notes_few mask E g below list are =
    let t = trace_with mask E g below list are in
    omega (arith, trace_size E t.0 (subst (λ m. Sound m E) (sym t.1) g) t.2, ap length t.3)

-- a receive is by an event with a letter
pub record IsReceived (mask n : ℕ) (E : List Event) (what : Turned) (r : Receive) : Type 0 where
  pub list : turns.after E (outcome what) ≡ received E r.proc r.number r.set r.letter
  pub next : IsNext mask E r.proc r.number r.set r.letter
  pub receiver : r.proc.no < n
  pub sender : r.letter.id.sender.no < n

pub is_received : (mask n : ℕ) (E : List Event) (what : Turned) (r : Receive) → IsReceiveIn what (Some r) → IsMade mask n E what → IsReceived mask n E what r
is_received mask n E (Idle why) r is m = absurd (none-some r (sym is))
is_received mask n E (Went e None) r is m = absurd (none-some r (sym is))
is_received mask n E (Went e (Some l)) r is m = record {
  list = same_list mask n E e l r m is;
  next = made_next mask n E e l r m is;
  receiver = made_receiver mask n E e l r m is;
  sender = made_sender mask n E e l r m is;
}
