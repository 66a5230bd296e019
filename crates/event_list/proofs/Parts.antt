-- A sound list whose entries are entries of another.
use Rattle.std.proofs.Common.{◌≡◌, ℕ, zero, suc, ◌+◌, ◌-◌, ◌<◌, ◌≤◌, List, [], ◌∷◌, ◌++◌, length, get_or, take, Option, Some, None, sym, ap, ◌∙◌, subst, inl, inr, arith, length-append}
use Rattle.std.specs.Prelude.{Contains}
use Rattle.std.specs.List.{cons_option}
use Rattle.std.proofs.lemmas.Bool.{cases_eq, cases_lt}
use Rattle.std.proofs.lemmas.List.{take_more}
use Rattle.std.proofs.lemmas.List.Elements.{filter_map-append}
use Rattle.nm_base.specs.declared.letter.LetterId.{LetterId}
use Rattle.nm_base.specs.Message.{Message}
use Rattle.event_list.specs.declared.Event.{Event}
use Rattle.event_list.specs.Events.{entries, count, taken, receives, taken_of, taken_in, Sends, Accepts, IsSent}
use Rattle.event_list.specs.Order.{Link, Before, IsConsistent}
use Rattle.event_list.specs.Runs.{Sound}
use Rattle.event_list.specs.Traces.{receive_number}
use Rattle.event_list.proofs.Soundness.{numbers, same_place, entry_at, send_same, letter_same}
use Rattle.event_list.proofs.Links.{accept_sent, accepts_from, closed_before}
use Rattle.event_list.proofs.Projections.{IsPart, entries_part, entry_place}

module _ {M N : ℕ} {R E : List Event} (r : Sound M R) (g : Sound N E) (part : IsPart R E) where
  -- it holds each entry of E up to its counts
  pub part_holds : (a : Event) → Contains E a → a.number ≤ count R a.proc.no → Contains R a
  part_holds a h l =
      let b = entry_at r a.proc.no a.number (numbers g a h).0 l in
      subst (Contains R) (same_place g b.0 a (part b.0 b.1) h b.2 b.3) b.1

  -- it holds where its entries' links come from
  pub part_closed : (a b : Event) → Link E a b → Contains R b → Contains R a
  part_closed a b l h =
      elim l.how [
        | inl f ↦ part_holds a l.first (omega (arith, f.later, (numbers r b h).1, ap (count R) f.same))
        | inr d ↦
            let t = accepts_from b d.letter.id h d.taken in
            let s = accept_sent r b t.0 d.letter.id t.1 in
            let x : Sends E a d.letter = record { in_list = l.first; letter = d.sent } in
            let y : Sends E s.sent.0 s.letter = record { in_list = part s.sent.0 s.sent.1.in_list; letter = s.sent.1.letter } in
            let q = send_same g a s.sent.0 d.letter s.letter x y (ap (λ z. z.sender.no) (sym s.named)) (ap (λ z. z.number) (sym s.named)) in
            subst (Contains R) (sym q) s.sent.1.in_list
      ]

  pub part_before : (a b : Event) → Before E a b → Contains R b → Contains R a
  part_before a b h k = closed_before (Contains R) part_closed h k

  -- its counts are a consistent cut of E
  pub part_cut : IsConsistent E (count R)
  part_cut = record {
    is_cut = λ p. elim (cases_eq (count R p) 0) [
      | inl z ↦ omega (arith, z)
      | inr nz ↦ let a = entry_at r p (count R p) (omega arith) (omega arith) in omega (arith, (numbers g a.0 (part a.0 a.1)).1, a.3, ap (count E) a.2)
    ];
    closed = λ a b ha hb d l. (numbers r a (part_closed a b record { first = ha; second = hb; how = inr d } (part_holds b hb l))).1;
  }

  -- its next receive's number, at the entry of E that comes next
  pub receive_at : (e : Event) → e.number ≡ count R e.proc.no + 1 → receive_number E e ≡ receives R e.proc.no
  receive_at e h =
      let k : e.number - 1 ≡ count R e.proc.no = omega arith in
      ap (λ n. length (taken (take n (entries E e.proc.no)))) k ∙ ap (λ es. length (taken es)) (sym (entries_part r g part e.proc.no))

-- the process that accepts a letter is its destination
pub taker_is : {M : ℕ} {E : List Event} → Sound M E → (b : Event) (set : ℕ) (m : Message) → Accepts E b set m.id → IsSent E m → m.dest.no ≡ b.proc.no
taker_is g b set m h s =
    let t = accept_sent g b set m.id h in
    ap (λ x. x.dest.no) (letter_same g m t.letter s t.sent (sym t.named)) ∙ t.to_it

-- fewer first entries take no more
fewer_taken : (xs : List Event) (j k : ℕ) → j ≤ k → length (taken (take j xs)) ≤ length (taken (take k xs))
fewer_taken xs zero k l = omega arith
fewer_taken [] (suc j) zero l = omega arith
fewer_taken [] (suc j) (suc k) l = omega arith
fewer_taken (x ∷ xs) (suc j) zero l = absurd (omega arith)
fewer_taken (x ∷ xs) (suc j) (suc k) l = go (taken_of x) (fewer_taken xs j k (omega arith))
  where
    go : (o : Option LetterId) → length (taken (take j xs)) ≤ length (taken (take k xs)) → length (cons_option o (taken (take j xs))) ≤ length (cons_option o (taken (take k xs)))
    go None h = h
    go (Some id) h = omega (arith, h)

-- of two receives of one process, the later one has the higher number
pub receive_order : {M : ℕ} {E : List Event} → Sound M E → (a b : Event) (s : ℕ) (x : LetterId) → Accepts E a s x → Contains E b → a.proc.no ≡ b.proc.no → a.number < b.number → receive_number E a < receive_number E b
receive_order {E = E} g a b s x ha hb p l =
    let es = entries E a.proc.no in
    let k = a.number - 1 in
    let na = numbers g a ha.in_list in
    let place : get_or es k a ≡ a = entry_place g a a k ha.in_list (omega (arith, na.0)) in
    let grown : taken (take (k + 1) es) ≡ taken (take k es) ++ taken (a ∷ []) =
    ap taken (take_more es k a (omega (arith, na.0, na.1))) ∙ filter_map-append taken_of (take k es) (get_or es k a ∷ []) ∙ ap (λ z. taken (take k es) ++ taken (z ∷ [])) place in
    let one : length (taken (a ∷ [])) ≡ 1 = ap (λ z. length (cons_option (taken_in z) [])) ha.kind in
    let more = fewer_taken es (k + 1) (b.number - 1) (omega (arith, na.0, l)) in
    let same : receive_number E b ≡ length (taken (take (b.number - 1) es)) = ap (λ q. length (taken (take (b.number - 1) (entries E q)))) (sym p) in
    omega (arith, ap length grown, length-append (taken (take k es)) (taken (a ∷ [])), one, more, same)

-- a receive is named by its process and its number among the receives
pub receive_same : {M : ℕ} {E : List Event} → Sound M E → (a b : Event) (s t : ℕ) (x y : LetterId) → Accepts E a s x → Accepts E b t y → a.proc.no ≡ b.proc.no → receive_number E a ≡ receive_number E b → a ≡ b
receive_same {E = E} g a b s t x y ha hb p n =
    elim (cases_lt a.number b.number) [
      | inl l ↦ absurd (omega (arith, receive_order g a b s x ha hb.in_list p l, n))
      | inr l ↦ elim (cases_lt b.number a.number) [
        | inl k ↦ absurd (omega (arith, receive_order g b a t y hb ha.in_list (sym p) k, n))
        | inr k ↦ same_place g a b ha.in_list hb.in_list p (omega arith)
      ]
    ]
