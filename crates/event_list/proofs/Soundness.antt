-- What holds in a sound list of events.
use Rattle.std.proofs.Common.{◌≡◌, ℕ, ◌+◌, ◌<◌, ◌≤◌, List, [], ◌∷◌, ◌++◌, length, Some, refl, sym, ap, ◌∙◌, inl, inr, arith}
use Rattle.std.specs.Prelude.{Contains}
use Rattle.std.proofs.lemmas.Bool.{cases_eq}
use Rattle.std.proofs.lemmas.List.Elements.{Contains-append_left, Contains-push, Contains-push_cases}
use Rattle.nm_base.specs.declared.letter.LetterId.{LetterId}
use Rattle.nm_base.specs.declared.letter.ProcNo.{ProcNo}
use Rattle.nm_base.specs.declared.kind.Kind.{Kind}
use Rattle.nm_base.specs.declared.kind.Kind.TheVariants.{Line, Sent, Accepted, Printed, Ended, Faulted}
use Rattle.nm_base.specs.Fitting.{none, more}
use Rattle.nm_base.specs.Message.{Message}
use Rattle.event_list.specs.declared.Event.{Event}
use Rattle.event_list.specs.Events.{count, letters, sends, letter_of, Sends, Accepts, IsSent}
use Rattle.nm_base.specs.Scripts.{message_sent}
use Rattle.event_list.specs.Runs.{FitsSoundly, Sound}
use Rattle.event_list.proofs.Entries.{count_here, count_there, count_grows, sends_here, sends_grow, nothing_in}

-- an entry of the old list, and the new one, are in the grown list
pub old : (E : List Event) (e a : Event) → Contains E a → Contains (E ++ e ∷ []) a
old E e a h = Contains-append_left E (e ∷ []) a h

pub new : (E : List Event) (e : Event) → Contains (E ++ e ∷ []) e
new E e = Contains-push E e

-- entries are numbered within their process's count
pub numbers : {M : ℕ} {E : List Event} → Sound M E → (a : Event) → Contains E a → (0 < a.number) × (a.number ≤ count E a.proc.no)
numbers none a h = absurd (nothing_in a h)
numbers (more {xs = E} {x = e} g f) a h =
    elim (Contains-push_cases E e a h) [
      | inl h ↦ let ih = numbers g a h in (ih.0, omega (arith, ih.1, count_grows E e a.proc.no))
      | inr n ↦ rw (← n) (omega (arith, f.next_number), omega (arith, f.next_number, count_here E e e.proc.no refl))
    ]

-- an entry is named by its process and its number
pub same_place : {M : ℕ} {E : List Event} → Sound M E → (a b : Event) → Contains E a → Contains E b → a.proc.no ≡ b.proc.no → a.number ≡ b.number → a ≡ b
same_place none a b ha hb p n = absurd (nothing_in a ha)
same_place (more {xs = E} {x = e} g f) a b ha hb p n =
    elim (Contains-push_cases E e a ha) [
      | inl oa ↦ elim (Contains-push_cases E e b hb) [
        | inl ob ↦ same_place g a b oa ob p n
        | inr nb ↦ let la = (numbers g a oa).1 in let c : count E a.proc.no ≡ count E e.proc.no = ap (count E) (p ∙ ap (λ x. x.proc.no) (sym nb)) in absurd (omega (arith, la, c, f.next_number, ap (λ x. x.number) nb))
      ]
      | inr na ↦ elim (Contains-push_cases E e b hb) [
        | inl ob ↦ let lb = (numbers g b ob).1 in let c : count E b.proc.no ≡ count E e.proc.no = ap (count E) (sym p ∙ ap (λ x. x.proc.no) (sym na)) in absurd (omega (arith, lb, c, f.next_number, ap (λ x. x.number) na))
        | inr nb ↦ sym na ∙ nb
      ]
    ]

-- each number up to the count has its entry
pub entry_at : {M : ℕ} {E : List Event} → Sound M E → (p k : ℕ) → 0 < k → k ≤ count E p → (a : Event) × Contains E a × (a.proc.no ≡ p) × (a.number ≡ k)
entry_at none p k l h = absurd (omega (arith, l, h))
entry_at (more {xs = E} {x = e} g f) p k l h =
    elim (cases_eq e.proc.no p) [
      | inl here ↦ elim (cases_eq k (count E p + 1)) [
        | inl at ↦ (e, new E e, here, f.next_number ∙ ap (λ q. count E q + 1) here ∙ sym at)
        | inr ne ↦ let r = entry_at g p k l (omega (arith, h, ne, count_here E e p here)) in (r.0, old E e r.0 r.1, r.2, r.3)
      ]
      | inr there ↦ let r = entry_at g p k l (omega (arith, h, count_there E e p there)) in (r.0, old E e r.0 r.1, r.2, r.3)
    ]

-- a letter's sender is the process of its send
letter_sender : (p : ProcNo) (k : Kind) (m : Message) → message_sent p k ≡ Some m → p.no ≡ m.id.sender.no
letter_sender p (Line x) m h = cc
letter_sender p (Sent number dest chan len words) m h = some_sender _ m h
  where
    some_sender : (l m : Message) → Some l ≡ Some m → l.id.sender.no ≡ m.id.sender.no
    some_sender l m h = let e : l ≡ m = cc in ap (λ x. x.id.sender.no) e
letter_sender p (Accepted x y) m h = cc
letter_sender p (Printed x) m h = cc
letter_sender p (Ended x) m h = cc
letter_sender p (Faulted x) m h = cc

pub sender_is : {E : List Event} {a : Event} {m : Message} → Sends E a m → a.proc.no ≡ m.id.sender.no
sender_is {a = a} {m = m} h = letter_sender a.proc a.kind m h.letter

one_letter : (e : Event) (m : Message) → letter_of e ≡ Some m → length (letters (e ∷ [])) ≡ 1
one_letter e m h = rw h refl

-- a letter's number is below its sender's number of sends
pub send_number : {M : ℕ} {E : List Event} → Sound M E → (a : Event) (m : Message) → Sends E a m → m.id.number < sends E a.proc.no
send_number none a m h = absurd (nothing_in a h.in_list)
send_number (more {xs = E} {x = e} g f) a m h =
    elim (Contains-push_cases E e a h.in_list) [
      | inl o ↦ let ih = send_number g a m record { in_list = o; letter = h.letter } in omega (arith, ih, sends_grow E e a.proc.no)
      | inr n ↦ let l : letter_of e ≡ Some m = ap letter_of n ∙ h.letter in
          rw (← n) (omega (arith, f.sends_next m l, sends_here E e e.proc.no refl, one_letter e m l))
    ]

-- a new letter's number is above those of its sender so far
pub send_number_new : {M : ℕ} {E : List Event} {e : Event} → Sound M E → FitsSoundly M E e → (a : Event) (l m : Message) → Sends E a l → letter_of e ≡ Some m → l.id.sender.no ≡ m.id.sender.no → l.id.number < m.id.number
send_number_new {E = E} {e = e} g f a l m h k p =
    omega (arith, send_number g a l h, f.sends_next m k, ap (sends E) (sender_is h ∙ p ∙ sym (letter_sender e.proc e.kind m k)))

-- of two letters of one sender, the one with the lower number was sent earlier
pub send_order : {M : ℕ} {E : List Event} → Sound M E → (a b : Event) (l m : Message) → Sends E a l → Sends E b m → l.id.sender.no ≡ m.id.sender.no → l.id.number < m.id.number → a.number < b.number
send_order none a b l m ha hb p n = absurd (nothing_in a ha.in_list)
send_order (more {xs = E} {x = e} g f) a b l m ha hb p n =
    let same : a.proc.no ≡ b.proc.no = sender_is ha ∙ p ∙ sym (sender_is hb) in
    elim (Contains-push_cases E e a ha.in_list) [
      | inl oa ↦ elim (Contains-push_cases E e b hb.in_list) [
        | inl ob ↦ send_order g a b l m record { in_list = oa; letter = ha.letter } record { in_list = ob; letter = hb.letter } p n
        | inr nb ↦ let c : count E a.proc.no ≡ count E e.proc.no = ap (count E) (same ∙ ap (λ x. x.proc.no) (sym nb)) in omega (arith, (numbers g a oa).1, c, f.next_number, ap (λ x. x.number) nb)
      ]
      | inr na ↦ elim (Contains-push_cases E e b hb.in_list) [
        | inl ob ↦ let c : sends E b.proc.no ≡ sends E e.proc.no = ap (sends E) (sym same ∙ ap (λ x. x.proc.no) (sym na)) in
            absurd (omega (arith, send_number g b m record { in_list = ob; letter = hb.letter }, c, f.sends_next l (ap letter_of na ∙ ha.letter), n))
        | inr nb ↦ absurd (omega (arith, f.sends_next l (ap letter_of na ∙ ha.letter), f.sends_next m (ap letter_of nb ∙ hb.letter), n))
      ]
    ]

-- a name has one send
pub send_same : {M : ℕ} {E : List Event} → Sound M E → (a b : Event) (l m : Message) → Sends E a l → Sends E b m → l.id.sender.no ≡ m.id.sender.no → l.id.number ≡ m.id.number → a ≡ b
send_same none a b l m ha hb p n = absurd (nothing_in a ha.in_list)
send_same (more {xs = E} {x = e} g f) a b l m ha hb p n =
    let same : a.proc.no ≡ b.proc.no = sender_is ha ∙ p ∙ sym (sender_is hb) in
    elim (Contains-push_cases E e a ha.in_list) [
      | inl oa ↦ elim (Contains-push_cases E e b hb.in_list) [
        | inl ob ↦ send_same g a b l m record { in_list = oa; letter = ha.letter } record { in_list = ob; letter = hb.letter } p n
        | inr nb ↦ let c : sends E a.proc.no ≡ sends E e.proc.no = ap (sends E) (same ∙ ap (λ x. x.proc.no) (sym nb)) in
            absurd (omega (arith, send_number g a l record { in_list = oa; letter = ha.letter }, c, f.sends_next m (ap letter_of nb ∙ hb.letter), n))
      ]
      | inr na ↦ elim (Contains-push_cases E e b hb.in_list) [
        | inl ob ↦ let c : sends E b.proc.no ≡ sends E e.proc.no = ap (sends E) (sym same ∙ ap (λ x. x.proc.no) (sym na)) in
            absurd (omega (arith, send_number g b m record { in_list = ob; letter = hb.letter }, c, f.sends_next l (ap letter_of na ∙ ha.letter), n))
        | inr nb ↦ sym na ∙ nb
      ]
    ]

-- letters of one name are one letter
pub letter_same : {M : ℕ} {E : List Event} → Sound M E → (l m : Message) → IsSent E l → IsSent E m → l.id ≡ m.id → l ≡ m
letter_same g l m hl hm e =
    let same = send_same g hl.0 hm.0 l m hl.1 hm.1 (ap (λ x. x.sender.no) e) (ap (λ x. x.number) e) in
    let t : Some l ≡ Some m = sym hl.1.letter ∙ ap letter_of same ∙ hm.1.letter in cc

-- a letter is accepted once
pub accept_same : {M : ℕ} {E : List Event} → Sound M E → (a b : Event) (s t : ℕ) (id : LetterId) → Accepts E a s id → Accepts E b t id → a ≡ b
accept_same none a b s t id ha hb = absurd (nothing_in a ha.in_list)
accept_same (more {xs = E} {x = e} g f) a b s t id ha hb =
    elim (Contains-push_cases E e a ha.in_list) [
      | inl oa ↦ elim (Contains-push_cases E e b hb.in_list) [
        | inl ob ↦ accept_same g a b s t id record { in_list = oa; kind = ha.kind } record { in_list = ob; kind = hb.kind }
        | inr nb ↦ let k = f.takes t id (ap (λ x. x.kind) nb ∙ hb.kind) in
            absurd (k.2.waits (a, s, record { in_list = oa; kind = ha.kind ∙ ap (Accepted s) (sym k.1) }))
      ]
      | inr na ↦ elim (Contains-push_cases E e b hb.in_list) [
        | inl ob ↦ let k = f.takes s id (ap (λ x. x.kind) na ∙ ha.kind) in
            absurd (k.2.waits (b, t, record { in_list = ob; kind = hb.kind ∙ ap (Accepted t) (sym k.1) }))
        | inr nb ↦ sym na ∙ nb
      ]
    ]
