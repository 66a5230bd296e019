-- What depends on each process's entries alone.
use Rattle.std.proofs.Common.{◌≡◌, ℕ, ◌-◌, List, length, take, Some, refl, sym, ap, ◌∙◌, subst, inl, inr, arith}
use Rattle.std.specs.Prelude.{Contains, ◌⊎◌, map, option_map}
use Rattle.std.proofs.lemmas.Bool.{eq-eqb}
use Rattle.nm_base.specs.declared.letter.LetterId.{LetterId}
use Rattle.nm_base.specs.declared.letter.AcceptNote.{AcceptNote}
use Rattle.nm_base.specs.Message.{Message}
use Rattle.nm_base.specs.Scripts.{Script, IsLawful}
use Rattle.event_list.specs.declared.Event.{Event}
use Rattle.event_list.specs.Events.{is_of, entries, count, taken, taken_in, Sends}
use Rattle.event_list.specs.Order.{Link, Before, one, further, IsPast, Cut, IsConsistent}
use Rattle.event_list.specs.Runs.{IsRun}
use Rattle.event_list.specs.Races.{CouldTake, Race, IsEarlier, IsLogged}
use Rattle.event_list.specs.Clocks.{IsCounts}
use Rattle.event_list.specs.Traces.{Trace, IsTraceOf, IsReplay, IsLoggedName, receive_number, note_of, all_notes, waiting}
use Rattle.event_list.specs.Witnesses.{IsKept, IsWitness}
use Rattle.event_list.specs.Sameness.{SameEntries, SameMeaning, SameRecord}
use Rattle.event_list.proofs.Members.{in_filter, filter_in, filter_map_in}
use Rattle.event_list.proofs.RunsSound.{runs_sound}
use Rattle.event_list.proofs.Projections.{IsPart, entries_part, sent_part, accepts_part}
use Rattle.event_list.proofs.TraceFacts.{keeps_in, in_keeps, in_map, map_in, note_receive, in_waiting, waits_in}
use Rattle.event_list.proofs.ReplayPrefix.{replay_is_part}
use Rattle.std.proofs.lemmas.List.{take_all}

flip_same : {E F : List Event} → SameEntries E F → SameEntries F E
flip_same h = record { same = λ p. sym (h.same p) }

pub same_part : {E F : List Event} → SameEntries E F → IsPart E F
same_part {E = E} {F = F} h a c =
    (in_filter (is_of a.proc.no) F a (subst (λ es. Contains es a) (h.same a.proc.no) (filter_in (is_of a.proc.no) E a c (eq-eqb a.proc.no a.proc.no refl)))).0

pub same_count : {E F : List Event} → SameEntries E F → (p : ℕ) → count E p ≡ count F p
same_count h p = ap length (h.same p)

sends_over : {E F : List Event} → SameEntries E F → (a : Event) (m : Message) → Sends E a m → Sends F a m
sends_over h a m s = record { in_list = same_part h a s.in_list; letter = s.letter }

link_over : {E F : List Event} → SameEntries E F → (a b : Event) → Link E a b → Link F a b
link_over h a b l = record { first = same_part h a l.first; second = same_part h b l.second; how = l.how }

before_over : {E F : List Event} → SameEntries E F → (a b : Event) → Before E a b → Before F a b
before_over h a b (one l) = one (link_over h a b l)
before_over h a b (further {b = c} k l) = further (before_over h a c k) (link_over h c b l)

consistent_over : {E F : List Event} → SameEntries E F → (c : Cut) → IsConsistent E c → IsConsistent F c
consistent_over h c k = record {
  is_cut = λ p. omega (arith, k.is_cut p, same_count h p);
  closed = λ a b ha hb. k.closed a b (same_part (flip_same h) a ha) (same_part (flip_same h) b hb);
}

past_over : {E F : List Event} → SameEntries E F → (x a : Event) → (x ≡ a) ⊎ Before E x a → (x ≡ a) ⊎ Before F x a
past_over h x a w = elim w [ inl e ↦ inl e | inr b ↦ inr (before_over h x a b) ]

counts_over : {E F : List Event} → SameEntries E F → (a : Event) (v : ℕ → ℕ) → IsCounts E a v → IsCounts F a v
counts_over h a v k = record {
  at_most = λ q. omega (arith, k.at_most q, same_count h q);
  tells = λ x hx. let t = k.tells x (same_part (flip_same h) x hx) in ((λ l. past_over h x a (t.0 l)), (λ w. t.1 (past_over (flip_same h) x a w)));
}

could_over : {E F : List Event} → SameEntries E F → (M : ℕ) (q : Event) (m : Message) → CouldTake M E q m → CouldTake M F q m
could_over h M q m c = record {
  sent = sent_part (same_part h) m c.sent;
  set = c.set;
  took = c.took;
  receive = accepts_part (same_part h) q c.set c.took c.receive;
  at_dest = c.at_dest;
  in_set = c.in_set;
  before_own = λ r set k. c.before_own r set (accepts_part (same_part (flip_same h)) r set m.id k);
  in_order = λ ordered l s k. let r = c.in_order ordered l (sent_part (same_part (flip_same h)) l s) k in (r.0, r.1, accepts_part (same_part h) r.0 r.1 l.id r.2, r.3);
}

race_over : {E F : List Event} → SameEntries E F → (M : ℕ) (q : Event) (m : Message) → Race M E q m → Race M F q m
race_over h M q m r = record {
  could = could_over h M q m r.could;
  cut = r.cut;
  consistent = consistent_over h r.cut r.consistent;
  send = r.send;
  sends = sends_over h r.send m r.sends;
  holds_send = r.holds_send;
  up_to = r.up_to;
}

earlier_over : {E F : List Event} → SameEntries E F → (M : ℕ) (m : Message) (q : Event) → IsEarlier M E m q → IsEarlier M F m q
earlier_over h M m q k = record { could = could_over h M q m k.could; last = λ r c. k.last r (could_over (flip_same h) M r m c) }

logged_over : {E F : List Event} → SameEntries E F → (M : ℕ) (m : Message) → IsLogged M E m → IsLogged M F m
logged_over h M m l = (l.0, earlier_over h M m l.0 l.1, race_over h M l.0 m l.2)

numbers_same : {E F : List Event} → SameEntries E F → (b : Event) → receive_number E b ≡ receive_number F b
numbers_same h b = ap (λ es. length (taken (take (b.number - 1) es))) (h.same b.proc.no)

is_past_over : {E F : List Event} → SameEntries E F → (a x : Event) → IsPast E a x → IsPast F a x
is_past_over h a x p = (same_part h x p.0, past_over h x a p.1)

kept_over : {E F : List Event} → SameEntries E F → (s q x : Event) → IsKept E s q x → IsKept F s q x
kept_over h s q x k = (elim k.0 [ inl w ↦ inl (is_past_over h s x w) | inr w ↦ inr (is_past_over h q x w) ], k.1)

witness_over : {E F : List Event} → SameEntries E F → (s : ℕ → Script) (M : ℕ) (m : Message) (W : List Event) → IsWitness s M E m W → IsWitness s M F m W
witness_over h s M m W w = record {
  send = w.send;
  sends = sends_over h w.send m w.sends;
  earlier = w.earlier;
  is_earlier = earlier_over h M m w.earlier w.is_earlier;
  set = w.set;
  took = w.took;
  receive = w.receive;
  front = w.front;
  whole = w.whole;
  run = w.run;
  holds = λ x. ((λ c. kept_over h w.send w.earlier x ((w.holds x).0 c)), (λ k. (w.holds x).1 (kept_over (flip_same h) w.send w.earlier x k)));
}

-- lists with the same entries have the same meaning
pub same_meaning : (E F : List Event) → SameEntries E F → SameMeaning E F
same_meaning E F h = record {
  member = λ e. (same_part h e, same_part (flip_same h) e);
  sends = λ a m. (sends_over h a m, sends_over (flip_same h) a m);
  accepts = λ b set id. (accepts_part (same_part h) b set id, accepts_part (same_part (flip_same h)) b set id);
  before = λ a b. (before_over h a b, before_over (flip_same h) a b);
  consistent = λ c. (consistent_over h c, consistent_over (flip_same h) c);
  counts = λ a v. (counts_over h a v, counts_over (flip_same h) a v);
  could_take = λ M q m. (could_over h M q m, could_over (flip_same h) M q m);
  race = λ M q m. (race_over h M q m, race_over (flip_same h) M q m);
  earlier = λ M m q. (earlier_over h M m q, earlier_over (flip_same h) M m q);
  logged = λ M m. (logged_over h M m, logged_over (flip_same h) M m);
  numbers = numbers_same h;
  witness = λ s M m W. (witness_over h s M m W, witness_over (flip_same h) s M m W);
}

logged_name_over : {E F : List Event} → SameEntries E F → (M : ℕ) (id : LetterId) → IsLoggedName M E id → IsLoggedName M F id
logged_name_over h M id l = (l.0, l.1, logged_over h M l.0 l.2)

note_over : {E F : List Event} → SameEntries E F → (note : AcceptNote) → Contains (all_notes E) note → Contains (all_notes F) note
note_over {E = E} {F = F} h note c =
    let k = note_receive E note c in
    let n : record { receiver = k.receive.proc; receive = receive_number F k.receive; id = note.id } ≡ note =
    λ i. record { receiver = sym k.receiver i; receive = sym (k.number ∙ numbers_same h k.receive) i; id = note.id } in
    filter_map_in (note_of F) F k.receive note (same_part h k.receive k.accepts.in_list)
    (ap (λ z. option_map (λ id. record { receiver = k.receive.proc; receive = receive_number F k.receive; id = id }) (taken_in z)) k.accepts.kind ∙ ap Some n)

waiting_over : {E F : List Event} → SameEntries E F → (id : LetterId) → Contains (map (λ m. m.id) (waiting E)) id → Contains (map (λ m. m.id) (waiting F)) id
waiting_over {E = E} {F = F} h id c =
    let m = in_map (λ m. m.id) (waiting E) id c in
    let w = in_waiting E m.0 m.1 in
    subst (Contains (map (λ m. m.id) (waiting F))) m.2 (map_in (λ m. m.id) (waiting F) m.0
    (waits_in F m.0 (sent_part (same_part h) m.0 w.0) (λ t. w.1 (t.0, t.1, accepts_part (same_part (flip_same h)) t.0 t.1 m.0.id t.2))))

record_over : {E F : List Event} → SameEntries E F → (T U : Trace) → T.mask ≡ U.mask → IsTraceOf E T → IsTraceOf F U → ((note : AcceptNote) → Contains T.notes note → Contains U.notes note) × ((id : LetterId) → Contains T.lost id → Contains U.lost id)
record_over {E = E} {F = F} h T U mask t u = (
  (λ note c. let k = keeps_in t.notes note c in in_keeps u.notes note (note_over h note k.0) (subst (λ M. IsLoggedName M F note.id) mask (logged_name_over h T.mask note.id k.1))),
  (λ id c. let k = keeps_in t.lost id c in in_keeps u.lost id (waiting_over h id k.0) (subst (λ M. IsLoggedName M F id) mask (logged_name_over h T.mask id k.1))),
)

-- their traces have the same notes and lost entries
pub same_record : (E F : List Event) → SameEntries E F → (T U : Trace) → T.mask ≡ U.mask → IsTraceOf E T → IsTraceOf F U → SameRecord T U
same_record E F h T U mask t u =
    let a = record_over h T U mask t u in
    let b = record_over (flip_same h) U T (sym mask) u t in
    record { notes = λ note. (a.0 note, b.0 note); lost = λ id. (a.1 id, b.1 id); counts = λ p. t.counts p ∙ same_count h p ∙ sym (u.counts p) }

-- a full replay has the recorded entries
pub full_replay : (s : ℕ → Script) → ((p : ℕ) → IsLawful (s p)) → (T : Trace) (E F : List Event) → IsRun s T.mask E → IsTraceOf E T → IsReplay s T F → ((p : ℕ) → count F p ≡ T.counts p) → SameEntries E F
full_replay s law T E F run trace replay full =
    record {
      same = λ p. sym (entries_part (runs_sound s law replay.run) (runs_sound s law run) (replay_is_part s law T E F run trace replay) p
          ∙ take_all (count F p) (entries E p) (omega (arith, full p, trace.counts p)));
    }
