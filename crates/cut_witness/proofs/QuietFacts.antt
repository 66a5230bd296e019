-- Letters that are told not to be logged.
use Rattle.std.proofs.Common.{◌≡◌, ℕ, ◌+◌, ◌<◌, ◌≤◌, Bool, true, false, cond, List, ◌∷◌, length, take, drop, Option, Some, None, refl, sym, ap, ◌∙◌, subst, inl, inr, arith}
use Rattle.std.specs.Prelude.{Contains, IfSome, slice_get, ◌==◌, ◌&&◌, nat_lt}
use Rattle.std.proofs.lemmas.Bool.{cases_eq, cases_lt, eqb-true, ltb-true, and_parts, false≢true}
use Rattle.std.proofs.lemmas.List.{take_all}
use Rattle.std.proofs.lemmas.List.Elements.{Contains-append_cases, Contains-push_cases}
use Rattle.nm_base.specs.declared.letter.LetterId.{LetterId}
use Rattle.nm_base.specs.declared.letter.Stamp.{Stamp}
use Rattle.nm_base.specs.Channels.{has_channel}
use Rattle.nm_base.specs.Message.{same_name}
use Rattle.vector_clocks.specs.Parts.{part, merged_part}
use Rattle.event_list.specs.declared.Event.{Event}
use Rattle.event_list.specs.Events.{taken_of, Accepts, Precedes}
use Rattle.event_list.specs.Races.{CouldTake, Race}
use Rattle.event_list.specs.Runs.{Sound}
use Rattle.event_list.specs.Traces.{IsLoggedName}
use Rattle.event_list.proofs.Links.{accepts_from}
use Rattle.event_list.proofs.Members.{empty, cons_cases}
use Rattle.event_list.proofs.Projections.{name_from}
use Rattle.event_list.proofs.RaceLaw.{race_law}
use Rattle.event_list.proofs.Soundness.{numbers, letter_same, accept_same}
use Rattle.causal_stop.proofs.PlaceFacts.{at_place, in_place, taken_more}
use Rattle.cut_witness.specs.declared.posts.Post.{Post}
use Rattle.cut_witness.specs.declared.quiet.Lane.{Lane}
use Rattle.cut_witness.specs.declared.quiet.Taken.{Taken}
use Rattle.cut_witness.specs.private.Lookups.{with_name}
use Rattle.cut_witness.specs.private.Posts.{IsPost}
use Rattle.cut_witness.specs.private.Queries.{is_naming}
use Rattle.cut_witness.specs.private.Quiet.{AreQuiet, AreLast, same_lane, lane_of, IsTakenOn, AreTaken, if_before, behind, IsLow, TellsQuiet}
use Rattle.cut_witness.proofs.PostFacts.{merged_same, merged_other, left_later}

-- the set of quiet letters
pub quiet_more : {M : ℕ} {E : List Event} (old new : LetterId → Bool) (found : Option LetterId) → ((q : LetterId) → new q ≡ with_name found q (old q)) → TellsQuiet M E found → AreQuiet M E old → AreQuiet M E new
quiet_more old new None is n h = record { each = λ q t. h.each q (sym (is q) ∙ t) }
quiet_more {M = M} {E = E} old new (Some id) is n h = record { each = λ q t. by q (same_name id q) refl (sym (is q) ∙ t) }
  where
    by : (q : LetterId) (b : Bool) → same_name id q ≡ b → cond b true (old q) ≡ true → IsLoggedName M E q → ⊥
    by q true s t = subst (λ z. IsLoggedName M E z → ⊥) (name_from id q s) n
    by q false s t = h.each q t

pub quiet_none : {M : ℕ} {E : List Event} (quiet : LetterId → Bool) → ((q : LetterId) → quiet q ≡ false) → AreQuiet M E quiet
quiet_none quiet n = record { each = λ q t. absurd (false≢true (sym (n q) ∙ t)) }

-- the last receives
pub last_none : (E : List Event) (last : ℕ → ℕ → ℕ) → AreLast (take 0 E) last
last_none E last = record { each = λ q chan h l n. absurd (empty q h) }

pub last_all : (E : List Event) (i : ℕ) → length E ≤ i → (last : ℕ → ℕ → ℕ) → AreLast (take i E) last → AreLast E last
last_all E i n last h = subst (λ zs. AreLast zs last) (take_all i E n) h

pub last_more : (E : List Event) (i : ℕ) (e : Event) → slice_get E i ≡ Some e → (old new : ℕ → ℕ → ℕ) (row : Stamp) → ((chan : ℕ) → chan < 32 → part row chan ≡ cond (is_naming e.kind chan) e.number 0)
    → ((r q : ℕ) → new r q ≡ merged_part old e.proc.no (part row) r q) → AreLast (take i E) old → AreLast (take (i + 1) E) new
last_more E i e at old new row named is h = record {
  each = λ q chan hq l n. elim (Contains-push_cases (take i E) e q (subst (λ zs. Contains zs q) (taken_more E i e at) hq)) [
    | inl o ↦ elim (cases_eq q.proc.no e.proc.no) [
      | inl same ↦ omega (arith, h.each q chan o l n, is q.proc.no chan, merged_same old e.proc.no (part row) q.proc.no chan same)
      | inr other ↦ omega (arith, h.each q chan o l n, is q.proc.no chan, merged_other old e.proc.no (part row) q.proc.no chan other)
    ]
    | inr s ↦
        let t : is_naming e.kind chan ≡ true = ap (λ z. is_naming z.kind chan) s ∙ n in
        omega (arith, ap (λ z. z.number) s, named chan l, ap (λ b. cond b e.number 0) t, is q.proc.no chan, merged_same old e.proc.no (part row) q.proc.no chan (ap (λ z. z.proc.no) (sym s)))
  ];
}

-- the last receives on lanes
pub none_taken : (E : List Event) (lanes : Lane → Option Taken) → ((lane : Lane) → lanes lane ≡ None) → AreTaken E lanes
none_taken E lanes n = record { each = λ lane t h. absurd (none_some t (sym (n lane) ∙ h)) }
  where
    none_some : (t : Taken) → None ≡ Some t → ⊥
    none_some t k = cc

module _ (E : List Event) (e : Event) (here : Contains E e) (id : LetterId) (t : taken_of e ≡ Some id) (p : Post) (is : IsPost E id p) where
  abbrev took : Taken
  took = record { letter = id.number; event = e.number }

  new_taken : (lane : Lane) → same_lane (lane_of id p) lane ≡ true → IsTakenOn E lane took
  new_taken lane s =
      let x = and_parts (id.sender.no == lane.sender.no) ((p.dest.no == lane.dest.no) && (p.chan == lane.chan)) s in
      let y = and_parts (p.dest.no == lane.dest.no) (p.chan == lane.chan) x.1 in
      let a = accepts_from e id here t in
      record {
        letter = is.letter;
        sent = (is.send, is.sends);
        event = e;
        set = a.0;
        accepts = subst (Accepts E e a.0) (sym is.named) a.1;
        sender = ap (λ i. i.sender.no) is.named ∙ eqb-true id.sender.no lane.sender.no x.0;
        dest = ap (λ d. d.no) is.to ∙ eqb-true p.dest.no lane.dest.no y.0;
        chan = is.on ∙ eqb-true p.chan lane.chan y.1;
        number = ap (λ i. i.number) is.named;
        at = refl;
      }

  pub taken_next : (old new : Lane → Option Taken) → ((q : Lane) → new q ≡ cond (same_lane (lane_of id p) q) (Some took) (old q)) → AreTaken E old → AreTaken E new
  taken_next old new put h = record { each = λ lane u k. by lane u (same_lane (lane_of id p) lane) refl (sym (put lane) ∙ k) }
    where
      some_same : (a b : Taken) → Some a ≡ Some b → a ≡ b
      some_same a b k = cc

      by : (lane : Lane) (u : Taken) (b : Bool) → same_lane (lane_of id p) lane ≡ b → cond b (Some took) (old lane) ≡ Some u → IsTakenOn E lane u
      by lane u true s k = subst (IsTakenOn E lane) (some_same took u k) (new_taken lane s)
      by lane u false s k = h.each lane u k

-- a letter that no receive comes late enough to race with isn't logged
module _ {M : ℕ} {E : List Event} (g : Sound M E) (last : ℕ → ℕ → ℕ) (lanes : Lane → Option Taken) (id : LetterId) (p : Post) (is : IsPost E id p) (taken : AreTaken E lanes) where
  -- a receive that could have taken it comes after that of a letter before it
  not_behind : (q : Event) → CouldTake M E q is.letter → q.number ≤ behind M lanes id p → ⊥
  not_behind q could n = by (has_channel M p.chan) refl n
    where
      zero_number : q.number ≤ 0 → ⊥
      zero_number l = omega (arith, l, (numbers g q could.receive.in_list).0)

      by_order : has_channel M p.chan ≡ true → (u : Taken) → lanes (lane_of id p) ≡ Some u → (b : Bool) → nat_lt u.letter id.number ≡ b → q.number ≤ cond b u.event 0 → ⊥
      by_order o u s false b l = zero_number l
      by_order o u s true b l =
          let k = taken.each (lane_of id p) u s in
          let before : Precedes k.letter is.letter = record {
            sender = k.sender ∙ ap (λ i. i.sender.no) (sym is.named);
            earlier = omega (arith, k.number, ltb-true u.letter id.number b, ap (λ i. i.number) is.named);
            dest = k.dest ∙ ap (λ d. d.no) (sym is.to);
            chan = k.chan ∙ sym is.on;
          } in
          let r = could.in_order (ap (has_channel M) is.on ∙ o) k.letter k.sent before in
          let same = accept_same g r.0 k.event r.1 k.set k.letter.id r.2 k.accepts in
          omega (arith, l, k.at, ap (λ z. z.number) same, r.3)

      by_taken : has_channel M p.chan ≡ true → (o : Option Taken) → lanes (lane_of id p) ≡ o → q.number ≤ if_before id.number o → ⊥
      by_taken o None s l = zero_number l
      by_taken o (Some u) s l = by_order o u s (nat_lt u.letter id.number) refl l

      by : (b : Bool) → has_channel M p.chan ≡ b → q.number ≤ cond b (if_before id.number (lanes (lane_of id p))) 0 → ⊥
      by false o l = zero_number l
      by true o l = by_taken o (lanes (lane_of id p)) refl l

  pub low_quiet : (done : List Event) → AreLast done last → IsLow M last lanes id p → ((q : Event) → CouldTake M E q is.letter → Contains done q) → IsLoggedName M E id → ⊥
  low_quiet done h low inside l = elim (cases_lt (part p.past p.dest.no) q.number) [
    | inr below ↦ (race_law g q is.send is.letter could is.sends).0 race (is.past q could.receive.in_list (omega (arith, below, ap (part p.past) dest)))
    | inl above ↦ not_behind q could (omega (arith, above, number, low.low, ap (λ d. last d p.chan) dest))
  ]
    where
      same : l.0 ≡ is.letter
      same = letter_same g l.0 is.letter l.2.1.could.sent (is.send, is.sends) (l.1 ∙ sym is.named)

      q : Event
      q = l.2.0

      could : CouldTake M E q is.letter
      could = subst (CouldTake M E q) same l.2.1.could

      race : Race M E q is.letter
      race = subst (Race M E q) same l.2.2

      dest : q.proc.no ≡ p.dest.no
      dest = could.at_dest ∙ ap (λ d. d.no) is.to

      number : q.number ≤ last q.proc.no p.chan
      number = h.each q p.chan (inside q could) low.channel (ap (λ k. is_naming k p.chan) could.receive.kind ∙ ap (has_channel could.set) (sym is.on) ∙ could.in_set)

-- before the letter's own receive stand all that could have taken it
pub before_own : {M : ℕ} {E : List Event} → Sound M E → (i : ℕ) (e : Event) → slice_get E i ≡ Some e → (id : LetterId) → taken_of e ≡ Some id → (p : Post) (is : IsPost E id p) → p.dest.no ≡ e.proc.no
    → (q : Event) → CouldTake M E q is.letter → Contains (take i E) q
before_own {E = E} g i e at id t p is to q could =
    let a = accepts_from e id (in_place E i e at) t in
    let early : q.number < e.number = could.before_own e a.0 (subst (Accepts E e a.0) (sym is.named) a.1) in
    let same : q.proc.no ≡ e.proc.no = could.at_dest ∙ ap (λ d. d.no) is.to ∙ to in
    elim (Contains-append_cases (take i E) (e ∷ drop (i + 1) E) q (subst (λ zs. Contains zs q) (at_place E i e at).0 could.receive.in_list)) [
      | inl o ↦ o
      | inr o ↦ elim (cons_cases e (drop (i + 1) E) q o) [
        | inl s ↦ absurd (omega (arith, early, ap (λ z. z.number) s))
        | inr r ↦ absurd (omega (arith, early, left_later g i e at q r same))
      ]
    ]

-- what is told of the letter that is given
pub low_tells : {M : ℕ} {E : List Event} (id : LetterId) {P : Type 0} (r : Option LetterId) → IfSome r (λ f. (f ≡ id) × P) → (P → IsLoggedName M E id → ⊥) → TellsQuiet M E r
low_tells id None h n = h
low_tells {M = M} {E = E} id (Some f) h n = λ l. n h.1 (subst (IsLoggedName M E) h.0 l)
