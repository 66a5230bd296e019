-- Letters that wait on an ordered channel behind another that waits.
use Rattle.std.proofs.Common.{◌≡◌, ℕ, ◌+◌, ◌≤◌, Bool, true, false, cond, List, length, take, Option, Some, None, refl, sym, ap, ◌∙◌, subst, inl, inr, arith}
use Rattle.std.specs.Prelude.{Contains, slice_get, ◌==◌, ◌&&◌}
use Rattle.std.proofs.lemmas.Bool.{eqb-true, and_parts, false≢true}
use Rattle.std.proofs.lemmas.List.{take_all}
use Rattle.std.proofs.lemmas.List.Elements.{Contains-push_cases}
use Rattle.nm_base.specs.declared.letter.LetterId.{LetterId}
use Rattle.nm_base.specs.Channels.{has_channel}
use Rattle.nm_base.specs.Message.{same_name}
use Rattle.event_list.specs.declared.Event.{Event}
use Rattle.event_list.specs.Events.{taken_of, taken_in, IsTaken, Precedes}
use Rattle.event_list.specs.Races.{CouldTake}
use Rattle.event_list.specs.Runs.{Sound}
use Rattle.event_list.specs.Traces.{IsLoggedName}
use Rattle.event_list.proofs.Members.{empty}
use Rattle.event_list.proofs.Projections.{same_name_at}
use Rattle.event_list.proofs.Soundness.{letter_same}
use Rattle.causal_stop.proofs.PlaceFacts.{taken_more}
use Rattle.cut_witness.specs.declared.posts.Post.{Post}
use Rattle.cut_witness.specs.declared.quiet.Lane.{Lane}
use Rattle.cut_witness.specs.private.Held.{AreReceived, IsHeld, AreHeld, IsBehind}
use Rattle.cut_witness.specs.private.Lookups.{with_name}
use Rattle.cut_witness.specs.private.Posts.{IsPost}
use Rattle.cut_witness.specs.private.Quiet.{same_lane, lane_of}

-- the names of what was received
pub received_none : (E : List Event) (received : LetterId → Bool) → AreReceived (take 0 E) received
received_none E received = record { each = λ b id h t. absurd (empty b h) }

pub received_all : (E : List Event) (i : ℕ) → length E ≤ i → (received : LetterId → Bool) → AreReceived (take i E) received → AreReceived E received
received_all E i n received h = subst (λ zs. AreReceived zs received) (take_all i E n) h

has_more : (o : Option LetterId) (q : LetterId) (had : Bool) → had ≡ true → with_name o q had ≡ true
has_more None q had h = h
has_more (Some id) q had h = by (same_name id q)
  where
    by : (b : Bool) → cond b true had ≡ true
    by true = refl
    by false = h

pub received_more : (E : List Event) (i : ℕ) (e : Event) → slice_get E i ≡ Some e → (old new : LetterId → Bool) (o : Option LetterId) → o ≡ taken_of e → ((q : LetterId) → new q ≡ with_name o q (old q)) → AreReceived (take i E) old → AreReceived (take (i + 1) E) new
received_more E i e at old new o is adds h = record {
  each = λ b id hb t. elim (Contains-push_cases (take i E) e b (subst (λ zs. Contains zs b) (taken_more E i e at) hb)) [
    | inl c ↦ adds id ∙ has_more o id (old id) (h.each b id c t)
    | inr s ↦ adds id ∙ ap (λ k. with_name k id (old id)) (is ∙ ap taken_of s ∙ t) ∙ ap (λ b. cond b true (old id)) (same_name_at id id refl)
  ];
}

pub untaken : (E : List Event) (received : LetterId → Bool) (id : LetterId) → AreReceived E received → received id ≡ false → IsTaken E id → ⊥
untaken E received id h n t = false≢true (sym n ∙ h.each t.0 id t.2.in_list (ap taken_in t.2.kind))

-- the letters that wait
pub none_held : (E : List Event) (held : Lane → Option ℕ) → ((lane : Lane) → held lane ≡ None) → AreHeld E held
none_held E held n = record { each = λ lane k h. absurd (none_some k (sym (n lane) ∙ h)) }
  where
    none_some : (k : ℕ) → None ≡ Some k → ⊥
    none_some k h = cc

module _ (E : List Event) (id : LetterId) (p : Post) (is : IsPost E id p) (waits : IsTaken E id → ⊥) where
  new_held : (lane : Lane) → same_lane (lane_of id p) lane ≡ true → IsHeld E lane id.number
  new_held lane s =
      let x = and_parts (id.sender.no == lane.sender.no) ((p.dest.no == lane.dest.no) && (p.chan == lane.chan)) s in
      let y = and_parts (p.dest.no == lane.dest.no) (p.chan == lane.chan) x.1 in
      record {
        letter = is.letter;
        sent = (is.send, is.sends);
        sender = ap (λ i. i.sender.no) is.named ∙ eqb-true id.sender.no lane.sender.no x.0;
        dest = ap (λ d. d.no) is.to ∙ eqb-true p.dest.no lane.dest.no y.0;
        chan = is.on ∙ eqb-true p.chan lane.chan y.1;
        number_is = ap (λ i. i.number) is.named;
        waits = subst (λ i. IsTaken E i → ⊥) (sym is.named) waits;
      }

  pub held_more : (old new : Lane → Option ℕ) → ((q : Lane) → new q ≡ cond (same_lane (lane_of id p) q) (Some id.number) (old q)) → AreHeld E old → AreHeld E new
  held_more old new put h = record { each = λ lane k t. by lane k (same_lane (lane_of id p) lane) refl (sym (put lane) ∙ t) }
    where
      some_same : (a b : ℕ) → Some a ≡ Some b → a ≡ b
      some_same a b k = cc

      by : (lane : Lane) (k : ℕ) (b : Bool) → same_lane (lane_of id p) lane ≡ b → cond b (Some id.number) (old lane) ≡ Some k → IsHeld E lane k
      by lane k true s t = subst (IsHeld E lane) (some_same id.number k t) (new_held lane s)
      by lane k false s t = h.each lane k t

-- a letter behind one that waits isn't logged
pub behind_quiet : {M : ℕ} {E : List Event} → Sound M E → (held : Lane → Option ℕ) (id : LetterId) (p : Post) → IsPost E id p → AreHeld E held → IsBehind M held id p → IsLoggedName M E id → ⊥
behind_quiet {M = M} {E = E} g held id p is h b l =
    let k = h.each (lane_of id p) b.first b.waits in
    let same = letter_same g l.0 is.letter l.2.1.could.sent (is.send, is.sends) (l.1 ∙ sym is.named) in
    let could : CouldTake M E l.2.0 is.letter = subst (CouldTake M E l.2.0) same l.2.1.could in
    let before : Precedes k.letter is.letter = record {
      sender = k.sender ∙ ap (λ i. i.sender.no) (sym is.named);
      earlier = omega (arith, k.number_is, b.lower, ap (λ i. i.number) is.named);
      dest = k.dest ∙ ap (λ d. d.no) (sym is.to);
      chan = k.chan ∙ sym is.on;
    } in
    let r = could.in_order (ap (has_channel M) is.on ∙ b.ordered) k.letter k.sent before in
    k.waits (r.0, r.1, r.2)
