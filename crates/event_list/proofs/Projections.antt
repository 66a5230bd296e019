-- A process's entries, and the letters that it accepted, in two lists of which one holds the other's entries.
use Rattle.std.proofs.Common.{◌≡◌, ℕ, ◌+◌, ◌≤◌, true, List, [], ◌∷◌, ◌++◌, get_or, take, drop, Option, Some, None, refl, sym, ap, ◌∙◌, subst, inl, inr, arith}
use Rattle.std.specs.Prelude.{filter_map, Contains}
use Rattle.std.proofs.lemmas.Bool.{cases_eq, eqb-true}
use Rattle.std.proofs.lemmas.List.{get_or_append_left, get_or_push, get_or-take, same_lists, length-take-le, take-append-drop}
use Rattle.std.proofs.lemmas.List.Elements.{Contains-push_cases}
use Rattle.nm_base.specs.declared.letter.LetterId.{LetterId}
use Rattle.nm_base.specs.Fitting.{none, more}
use Rattle.nm_base.specs.Message.{Message, same_name}
use Rattle.event_list.specs.declared.Event.{Event}
use Rattle.event_list.specs.Events.{is_of, entries, count, letters, taken, messages, letter_named, letter_of, taken_of, Accepts, IsSent, IsTaken}
use Rattle.event_list.specs.Runs.{Sound}
use Rattle.event_list.proofs.Members.{in_filter, find_some, find_none, in_filter_map, filter_map_in, filter_map_agree}
use Rattle.event_list.proofs.Entries.{nothing_in, entries_here, entries_there}
use Rattle.event_list.proofs.Soundness.{numbers, entry_at, letter_same}
use Rattle.event_list.proofs.Links.{accept_sent, accepts_from}
use Rattle.event_list.proofs.ClockLaws.{same_name_parts, same_name_from}

-- R holds nothing but entries of E
abbrev pub IsPart : List Event → List Event → Type 0
IsPart R E = (a : Event) → Contains R a → Contains E a

-- p's entry of number k + 1 stands at place k of its entries
pub entry_place : {M : ℕ} {E : List Event} → Sound M E → (a d : Event) (k : ℕ) → Contains E a → a.number ≡ k + 1 → get_or (entries E a.proc.no) k d ≡ a
entry_place none a d k h n = absurd (nothing_in a h)
entry_place (more {xs = E} {x = e} g f) a d k h n =
    elim (cases_eq e.proc.no a.proc.no) [
      | inl here ↦ rw (entries_here E e a.proc.no here) (elim (Contains-push_cases E e a h) [
        | inl o ↦ get_or_append_left (entries E a.proc.no) (e ∷ []) d k (omega (arith, (numbers g a o).1, n)) ∙ entry_place g a d k o n
        | inr w ↦ get_or_push (entries E a.proc.no) e d k (omega (arith, f.next_number, n, ap (λ x. x.number) w, ap (count E) here)) ∙ w
      ])
      | inr there ↦ rw (entries_there E e a.proc.no there) (elim (Contains-push_cases E e a h) [
        | inl o ↦ entry_place g a d k o n
        | inr w ↦ absurd (there (ap (λ x. x.proc.no) w))
      ])
    ]

-- p's entries in R are its first entries in E
pub entries_part : {M N : ℕ} {R E : List Event} → Sound M R → Sound N E → IsPart R E → (p : ℕ) → entries R p ≡ take (count R p) (entries E p)
entries_part {R = R} {E = E} r g part p =
    same_lists (entries R p) (take (count R p) (entries E p)) (sym (length-take-le (count R p) (entries E p) fewer)) (λ k d l.
    let a = entry_at r p (k + 1) (omega arith) (omega (arith, l)) in
    let x : get_or (entries R a.0.proc.no) k d ≡ a.0 = entry_place r a.0 d k a.1 a.3 in
    let y : get_or (entries E a.0.proc.no) k d ≡ a.0 = entry_place g a.0 d k (part a.0 a.1) a.3 in
    ap (λ q. get_or (entries R q) k d) (sym a.2) ∙ x ∙ sym y ∙ ap (λ q. get_or (entries E q) k d) a.2 ∙ sym (get_or-take (count R p) (entries E p) k d l))
  where
    fewer : count R p ≤ count E p
    fewer = elim (cases_eq (count R p) 0) [
      | inl z ↦ omega (arith, z)
      | inr nz ↦ let a = entry_at r p (count R p) (omega arith) (omega arith) in omega (arith, (numbers g a.0 (part a.0 a.1)).1, a.3, ap (count E) a.2)
    ]

-- the same, as a prefix
pub prefix_part : {M N : ℕ} {R E : List Event} → Sound M R → Sound N E → IsPart R E → (p : ℕ) → (rest : List Event) × (entries R p ++ rest ≡ entries E p)
prefix_part {R = R} {E = E} r g part p =
    (drop (count R p) (entries E p), ap (λ xs. xs ++ drop (count R p) (entries E p)) (entries_part r g part p) ∙ take-append-drop (count R p) (entries E p))

pub name_same : (a b : LetterId) → a.sender.no ≡ b.sender.no → a.number ≡ b.number → a ≡ b
name_same a b p n = λ i. record { sender = record { no = p i }; number = n i }

-- a test of names that says yes
pub name_from : (a b : LetterId) → same_name a b ≡ true → a ≡ b
name_from a b h = let n = same_name_parts a b h in name_same a b n.0 n.1

pub same_name_at : (a b : LetterId) → a ≡ b → same_name a b ≡ true
same_name_at a b h = same_name_from a b (ap (λ x. x.sender.no) h) (ap (λ x. x.number) h)

-- what is sent is found by its name
pub named_is : {M : ℕ} {E : List Event} → Sound M E → (m : Message) → IsSent E m → letter_named E m.id ≡ Some m
named_is {E = E} g m h = go (letter_named E m.id) refl
  where
    go : (o : Option Message) → letter_named E m.id ≡ o → letter_named E m.id ≡ Some m
    go None e = absurd (find_none (λ x. same_name x.id m.id) (letters E) m e (filter_map_in letter_of E h.0 m h.1.in_list h.1.letter) (same_name_from m.id m.id refl refl))
    go (Some l) e =
        let f = find_some (λ x. same_name x.id m.id) (letters E) l e in
        let a = in_filter_map letter_of E l f.0 in
        e ∙ ap Some (letter_same g l m (a.0, record { in_list = a.1; letter = a.2 }) h (name_from l.id m.id f.1))

pub sent_part : {R E : List Event} → IsPart R E → (m : Message) → IsSent R m → IsSent E m
sent_part part m h = (h.0, record { in_list = part h.0 h.1.in_list; letter = h.1.letter })

pub accepts_part : {R E : List Event} → IsPart R E → (b : Event) (set : ℕ) (id : LetterId) → Accepts R b set id → Accepts E b set id
accepts_part part b set id h = record { in_list = part b h.in_list; kind = h.kind }

-- a name that was accepted in two parts of E has one meaning in both
pub meaning_same : {M N K : ℕ} {R B E : List Event} → Sound M R → Sound N B → Sound K E → IsPart R E → IsPart B E → (id : LetterId) → IsTaken R id → IsTaken B id → letter_named R id ≡ letter_named B id
meaning_same {R = R} {B = B} r b g rpart bpart id rt bt =
    let rm = accept_sent r rt.0 rt.1 id rt.2 in
    let bm = accept_sent b bt.0 bt.1 id bt.2 in
    ap (letter_named R) (sym rm.named) ∙ named_is r rm.letter rm.sent
    ∙ ap Some (letter_same g rm.letter bm.letter (sent_part rpart rm.letter rm.sent) (sent_part bpart bm.letter bm.sent) (rm.named ∙ sym bm.named))
    ∙ sym (named_is b bm.letter bm.sent) ∙ ap (letter_named B) bm.named

-- a name among those that p accepted was accepted
pub taken_in_list : (E : List Event) (p : ℕ) (id : LetterId) → Contains (taken (entries E p)) id → (b : Event) × (set : ℕ) × Accepts E b set id × (b.proc.no ≡ p)
taken_in_list E p id c =
    let a = in_filter_map taken_of (entries E p) id c in
    let i = in_filter (is_of p) E a.0 a.1 in
    let k = accepts_from a.0 id i.0 a.2 in
    (a.0, k.0, k.1, eqb-true a.0.proc.no p i.1)

-- two parts of E with as many entries of p agree on p's entries, and on the letters that it accepted
module _ {M N K : ℕ} {R B E : List Event} (r : Sound M R) (b : Sound N B) (g : Sound K E) (rpart : IsPart R E) (bpart : IsPart B E) (p : ℕ) (same : count R p ≡ count B p) where
  pub entries_same : entries R p ≡ entries B p
  entries_same = entries_part r g rpart p ∙ ap (λ n. take n (entries E p)) same ∙ sym (entries_part b g bpart p)

  one_meaning : (id : LetterId) → Contains (taken (entries R p)) id → letter_named R id ≡ letter_named B id
  one_meaning id c =
      let x = taken_in_list R p id c in
      let y = taken_in_list B p id (subst (λ es. Contains (taken es) id) entries_same c) in
      meaning_same r b g rpart bpart id (x.0, x.1, x.2) (y.0, y.1, y.2)

  pub messages_same : messages R p ≡ messages B p
  messages_same =
      filter_map_agree (letter_named R) (letter_named B) (taken (entries R p)) one_meaning
      ∙ ap (λ es. filter_map (letter_named B) (taken es)) entries_same
