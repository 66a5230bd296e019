-- From what the steps find to the certificate.
use Rattle.std.proofs.Common.{◌≡◌, ℕ, List, [], ◌∷◌, ◌++◌, Some, None, refl, sym, ap, ◌∙◌, subst, arith}
use Rattle.std.specs.Prelude.{filter, map}
use Rattle.std.proofs.lemmas.List.{map-append}
use Rattle.nm_base.specs.declared.letter.LetterId.{LetterId}
use Rattle.nm_base.specs.declared.kind.Kind.TheVariants.{Accepted}
use Rattle.nm_base.specs.Message.{Message}
use Rattle.nm_base.specs.Scripts.{Script}
use Rattle.event_list.specs.declared.Event.{Event}
use Rattle.event_list.specs.Events.{taken_of, taken_in}
use Rattle.event_list.specs.Order.{Before}
use Rattle.event_list.specs.Runs.{Sound, IsRun}
use Rattle.event_list.specs.Races.{CouldTake, Race, IsEarlier}
use Rattle.event_list.specs.Traces.{Keeps, IsLoggedName, receive_number}
use Rattle.event_list.specs.Witnesses.{IsKept, taking_instead, IsWitnessOf}
use Rattle.event_list.specs.Carrying.{moves_of, move_of, carried_out}
use Rattle.event_list.specs.Laws.{AreLawful}
use Rattle.event_list.proofs.CarryingFacts.{carried_again}
use Rattle.event_list.proofs.MaskFacts.{sound_fewer, none_ordered}
use Rattle.event_list.proofs.RaceLaw.{race_law}
use Rattle.event_list.proofs.RunsSound.{runs_sound, accepted_parts}
use Rattle.event_list.proofs.Soundness.{same_place, send_same, letter_same}
use Rattle.event_list.proofs.WitnessFacts.{keeps_one, witness_run, the_witness}
use Rattle.causal_stop.specs.Stops.{IsEntry}
use Rattle.cut_witness.specs.declared.certificates.Witness.{Witness}
use Rattle.cut_witness.specs.declared.earlier.Posted.{Posted}
use Rattle.cut_witness.specs.declared.kept.Kept.{Kept}
use Rattle.cut_witness.specs.Certificates.{move_at, IsReceivedAt, IsCertificate, IsCarriedOut}
use Rattle.cut_witness.specs.declared.making.Found.{Found}
use Rattle.cut_witness.specs.private.Findings.{IsFound}
use Rattle.cut_witness.specs.private.Steps.{IsPosted, TellsPosted, IsOwn, TellsEarlier, TellsKept, is_kept, set_in}
use Rattle.cut_witness.proofs.KeptFacts.{kept_front, own_entry}

pub sound_unmasked : {M : ℕ} {E : List Event} → Sound M E → Sound 0 E
sound_unmasked g = sound_fewer (λ chan h. absurd (none_ordered chan h)) g

-- a letter that wasn't sent isn't logged
pub unlogged_unsent : (M : ℕ) (E : List Event) (id : LetterId) → TellsPosted E id None → IsLoggedName M E id → ⊥
unlogged_unsent M E id none l = none l.0 l.2.1.could.sent l.1

-- the number of the letter's own receive
pub received_at : {E : List Event} (id : LetterId) (e : Event) (n : ℕ) → ((b : Event) → IsEntry E e.proc.no e.number b → n ≡ receive_number E b) → IsOwn E id (Some e) → IsReceivedAt E id (Some n)
received_at id e n is own = (e, own.0, own.1, sym (is e (own_entry e own.1.in_list)))

module _ (M : ℕ) (E : List Event) (g : Sound M E) (id : LetterId) (p : Posted) (named : p.id ≡ id) (a : Event) (m : Message) (h : IsPosted E a m p) where
  same : (l : IsLoggedName M E id) → l.0 ≡ m
  same l = letter_same g l.0 m l.2.1.could.sent (a, h.sends) (l.1 ∙ sym named ∙ sym h.named)

  pub unlogged_first : TellsEarlier M E m None → IsLoggedName M E id → ⊥
  unlogged_first none l = none l.2.0 (subst (CouldTake M E l.2.0) (same l) l.2.1.could)

  module _ (q : Event) (e : IsEarlier M E m q) where
    pub unlogged_before : Before E q a → IsLoggedName M E id → ⊥
    unlogged_before b l =
        let f : IsEarlier M E m l.2.0 = subst (λ x. IsEarlier M E x l.2.0) (same l) l.2.1 in
        let n : q.number ≡ l.2.0.number = omega (arith, e.last l.2.0 f.could, f.last q e.could) in
        let one : q ≡ l.2.0 = same_place g q l.2.0 e.could.receive.in_list f.could.receive.in_list (e.could.at_dest ∙ sym f.could.at_dest) n in
        (race_law g l.2.0 a m f.could h.sends).0 (subst (λ x. Race M E l.2.0 x) (same l) l.2.2) (subst (λ x. Before E x a) one b)

    pub race_is : (Before E q a → ⊥) → Race M E q m
    race_is free = (race_law g q a m e.could h.sends).1 free

    pub logged_name : (Before E q a → ⊥) → IsLoggedName M E id
    logged_name free = (m, h.named ∙ named, (q, e, race_is free))

    -- a receive names what it took
    pub took_name : taken_of q ≡ Some e.could.took
    took_name = ap (λ k. taken_in k) e.could.receive.kind

    pub certificate_is : (w : Witness) (k : Kept) → TellsKept E a q (Some k) → w.id ≡ p.id → w.dest ≡ p.dest → w.chan ≡ p.chan → IsReceivedAt E m.id w.received → w.earlier_receive ≡ receive_number E q → w.earlier_event ≡ q.number → w.set ≡ set_in q.kind
        → map move_at w.turns ≡ moves_of (filter (is_kept k) E) ++ (record { proc = q.proc.no; takes = Some p.id }) ∷ [] → IsCertificate M E w
    certificate_is w k t is to on received receive event set turns =
        let kind = e.could.receive.kind in
        let sets : w.set ≡ e.could.set = set ∙ ap set_in kind in
        record {
          letter = m;
          named = h.named ∙ sym is;
          goes_to = h.to ∙ sym to;
          goes_on = h.on ∙ sym on;
          received = subst (λ i. IsReceivedAt E i w.received) (h.named ∙ sym is) received;
          send = a;
          sends = h.sends;
          earlier = q;
          is_earlier = e;
          took = e.could.took;
          receive = kind ∙ ap (λ s. Accepted s e.could.took) (sym sets);
          receive_is = sym receive;
          event_is = sym event;
          front = filter (is_kept k) E;
          kept = kept_front g a q k e.could.receive.in_list t;
          turns = turns ∙ ap (λ i. moves_of (filter (is_kept k) E) ++ (record { proc = q.proc.no; takes = Some i }) ∷ []) (sym h.named) ∙ sym (map-append move_of (filter (is_kept k) E) (taking_instead q w.set m.id ∷ []));
        }

-- the certificate of what was found
pub found_certificate : {M : ℕ} {E : List Event} {id : LetterId} {f : Found} → Sound M E → IsFound M E id f → (w : Witness) → w.id ≡ f.letter.id → w.dest ≡ f.letter.dest → w.chan ≡ f.letter.chan → ((i : LetterId) → IsOwn E i f.own → IsReceivedAt E i w.received) → ((b : Event) → IsEntry E f.receive.proc.no f.receive.number b → w.earlier_receive ≡ receive_number E b)
    → w.earlier_event ≡ f.receive.number → w.set ≡ set_in f.receive.kind → map move_at w.turns ≡ moves_of (filter (is_kept f.kept) E) ++ (record { proc = f.receive.proc.no; takes = Some f.letter.id }) ∷ [] → (w.id ≡ id) × IsCertificate M E w
found_certificate {M = M} {E = E} {id = id} {f = f} g x w is to on received receive event set turns = (
  is ∙ x.named,
  certificate_is M E g id f.letter x.named x.send x.letter x.posted f.receive x.earlier w f.kept x.kept is to on (received x.letter.id x.own) (receive f.receive (own_entry f.receive x.earlier.could.receive.in_list)) event set turns,
)

pub found_logged : {M : ℕ} {E : List Event} {id : LetterId} {f : Found} → Sound M E → IsFound M E id f → IsLoggedName M E id
found_logged {M = M} {E = E} {id = id} {f = f} g x = logged_name M E g id f.letter x.named x.send x.letter x.posted f.receive x.earlier x.kept.0

-- the turns of a certificate make the witness
carried : (M : ℕ) (E : List Event) (w : Witness) (c : IsCertificate M E w) → Race M E c.earlier c.letter → (s : ℕ → Script) → AreLawful s → IsRun s M E → IsCarriedOut s M E w
carried M E w c race s law run =
    let g : Sound M E = runs_sound s law run in
    let m = c.letter in
    let v : IsWitnessOf s M E m (witness_run s law M E run m c.earlier c.is_earlier race) = the_witness s law M E run m c.earlier c.is_earlier race in
    let x = v.witness in
    let xc = x.is_earlier.could in
    let cc2 = c.is_earlier.could in
    let sends : x.send ≡ c.send = send_same g x.send c.send m m x.sends c.sends refl refl in
    let n : x.earlier.number ≡ c.earlier.number = omega (arith, x.is_earlier.last c.earlier cc2, c.is_earlier.last x.earlier xc) in
    let earlier : x.earlier ≡ c.earlier = same_place g x.earlier c.earlier xc.receive.in_list cc2.receive.in_list (xc.at_dest ∙ sym cc2.at_dest) n in
    let sets : x.set ≡ w.set = (accepted_parts x.set w.set x.took c.took (sym x.receive ∙ ap (λ e. e.kind) earlier ∙ c.receive)).0 in
    let order : Keeps (IsKept E c.send c.earlier) E x.front = subst (λ e. Keeps (IsKept E c.send e) E x.front) earlier (subst (λ e. Keeps (IsKept E e x.earlier) E x.front) sends v.in_order) in
    let fronts : x.front ≡ c.front = keeps_one order c.kept in
    let whole : witness_run s law M E run m c.earlier c.is_earlier race ≡ c.front ++ taking_instead c.earlier w.set m.id ∷ [] =
    x.whole ∙ ap (λ f. f ++ taking_instead x.earlier x.set m.id ∷ []) fronts ∙ ap (λ e. c.front ++ taking_instead e x.set m.id ∷ []) earlier ∙ ap (λ t. c.front ++ taking_instead c.earlier t m.id ∷ []) sets in
    record {
      letter = m;
      named = c.named;
      run = witness_run s law M E run m c.earlier c.is_earlier race;
      made = ap (carried_out s M) (c.turns ∙ ap moves_of (sym whole)) ∙ carried_again s law M x.run;
      witness = v;
    }

pub carried_logged : (M : ℕ) (E : List Event) (id : LetterId) (w : Witness) → Sound M E → w.id ≡ id → IsCertificate M E w → IsLoggedName M E id → (s : ℕ → Script) → AreLawful s → IsRun s M E → IsCarriedOut s M E w
carried_logged M E id w g is c l s law run = carried M E w c race s law run
  where
    one_letter : l.0 ≡ c.letter
    one_letter = letter_same g l.0 c.letter l.2.1.could.sent c.is_earlier.could.sent (l.1 ∙ sym is ∙ sym c.named)

    also : IsEarlier M E c.letter l.2.0
    also = subst (λ x. IsEarlier M E x l.2.0) one_letter l.2.1

    number : l.2.0.number ≡ c.earlier.number
    number = omega (arith, also.last c.earlier c.is_earlier.could, c.is_earlier.last l.2.0 also.could)

    one_receive : l.2.0 ≡ c.earlier
    one_receive = same_place g l.2.0 c.earlier also.could.receive.in_list c.is_earlier.could.receive.in_list (also.could.at_dest ∙ sym c.is_earlier.could.at_dest) number

    race : Race M E c.earlier c.letter
    race = subst (λ q. Race M E q c.letter) one_receive (subst (λ x. Race M E l.2.0 x) one_letter l.2.2)
