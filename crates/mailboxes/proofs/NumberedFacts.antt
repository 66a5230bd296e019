-- Letters numbered by their posting: what is posted and taken.
use Rattle.std.proofs.Common.{◌≡◌, ℕ, zero, suc, cond, ◌+◌, ◌≤◌, Bool, true, false, List, [], ◌∷◌, ◌++◌, Option, Some, None, Result, Ok, Err, refl, sym, ap, ◌∙◌, subst, inl, inr, arith}
use Rattle.std.specs.Prelude.{slice_get, map, filter, Contains, ◌==◌, ◌&&◌, OnOk, OnErr, IfSome}
use Rattle.std.proofs.Math.Bool.{and-false}
use Rattle.std.proofs.lemmas.Bool.{eq-eqb, ne_eqb}
use Rattle.std.proofs.lemmas.Option.{same_Some, none-some}
use Rattle.std.proofs.lemmas.List.Elements.{Contains-push_cases, Contains-append_cases, Contains-append_left, Contains-append_right}
use Rattle.nm_base.specs.declared.letter.Letter.{Letter}
use Rattle.nm_base.specs.declared.letter.LetterId.{LetterId}
use Rattle.mailboxes.specs.Letters.{is_named, Leaves}
use Rattle.mailboxes.specs.Numbered.{AreBelow}

pub none_below : (ls : List Letter) (next : ℕ) → ls ≡ [] → AreBelow ls next
none_below ls next e = record { posted = λ w c. absurd (nothing w c); number = λ w c. absurd (nothing w c) }
  where
    empty : (w : Letter) → Contains [] w → ⊥
    empty w c = omega (arith, c.1)

    nothing : (w : Letter) → Contains ls w → ⊥
    nothing w c = empty w (subst (λ ls. Contains ls w) e c)

pub later : (ls : List Letter) (m n : ℕ) → m ≤ n → AreBelow ls m → AreBelow ls n
later ls m n l h = record { posted = λ w c. omega (arith, l, h.posted w c); number = h.number }

pub unnamed : (ls : List Letter) (l : Letter) → AreBelow ls l.posted → l.id.number ≡ l.posted → (w : Letter) → Contains ls w → is_named l.id w ≡ false
unnamed ls l h e w c =
    ap (λ b. (w.id.sender.no == l.id.sender.no) && b) (ne_eqb w.id.number l.id.number (λ q. omega (arith, q, e, h.number w c, h.posted w c))) ∙ and-false (w.id.sender.no == l.id.sender.no)

pub one_more : {T E : Type 0} (r : Result T E) (old new : List Letter) (l : Letter) → OnOk r (new ≡ old ++ l ∷ []) → OnErr r (new ≡ old) → AreBelow old l.posted → l.id.number ≡ l.posted → AreBelow new (l.posted + 1)
one_more (Err t) old new l e f h n = subst (λ ls. AreBelow ls (l.posted + 1)) (sym f) (later old l.posted (l.posted + 1) (omega arith) h)
one_more (Ok t) old new l e f h n = subst (λ ls. AreBelow ls (l.posted + 1)) (sym e) record {
  posted = λ w c. elim (Contains-push_cases old l w c) [ inl o ↦ omega (arith, h.posted w o) | inr q ↦ omega (arith, ap (λ (k : Letter). k.posted) q) ];
  number = λ w c. elim (Contains-push_cases old l w c) [ inl o ↦ h.number w o | inr q ↦ subst (λ (k : Letter). k.id.number ≡ k.posted) q n ];
}

pub one_less : (old new : List Letter) (l : Letter) (next : ℕ) → Leaves old l new → AreBelow old next → AreBelow new next
one_less old new l next k h = record { posted = λ w c. h.posted w (was w c); number = λ w c. h.number w (was w c) }
  where
    was : (w : Letter) → Contains new w → Contains old w
    was w c = elim (Contains-append_cases k.before k.after w (subst (λ ls. Contains ls w) k.is c)) [
      | inl o ↦ subst (λ ls. Contains ls w) (sym k.was) (Contains-append_left k.before (l ∷ k.after) w o)
      | inr o ↦ subst (λ ls. Contains ls w) (sym k.was) (Contains-append_right k.before (l ∷ k.after) w (Contains-append_right (l ∷ []) k.after w o))
    ]

-- a name that is found among the letters that pass a test is that of a letter
pub named_there : (ls : List Letter) (test : Letter → Bool) (k : ℕ) (id : LetterId) → slice_get (map (λ l. l.id) (filter test ls)) k ≡ Some id → (w : Letter) × Contains ls w × (is_named id w ≡ true)
named_there [] test k id h = absurd (none-some id h)
named_there (x ∷ ls) test k id h = by (test x) k h (λ k h. named_there ls test k id h)
  where
    there : (w : Letter) × Contains ls w × (is_named id w ≡ true) → (w : Letter) × Contains (x ∷ ls) w × (is_named id w ≡ true)
    there r = (r.0, Contains-append_right (x ∷ []) ls r.0 r.1, r.2)

    here : x.id ≡ id → is_named id x ≡ true
    here e =
        ap (λ b. b && (x.id.number == id.number)) (eq-eqb x.id.sender.no id.sender.no (ap (λ (i : LetterId). i.sender.no) e)) ∙ eq-eqb x.id.number id.number (ap (λ (i : LetterId). i.number) e)

    by : (b : Bool) (k : ℕ) → slice_get (map (λ l. l.id) (cond b (x ∷ filter test ls) (filter test ls))) k ≡ Some id → ((k : ℕ) → slice_get (map (λ l. l.id) (filter test ls)) k ≡ Some id → (w : Letter) × Contains ls w × (is_named id w ≡ true)) → (w : Letter) × Contains (x ∷ ls) w × (is_named id w ≡ true)
    by true zero h ih = (x, (0, omega arith, refl), here (same_Some x.id id h))
    by true (suc k) h ih = there (ih k h)
    by false k h ih = there (ih k h)

pub if_named : (ls : List Letter) (test : Letter → Bool) (k : ℕ) (o : Option LetterId) → slice_get (map (λ l. l.id) (filter test ls)) k ≡ o → IfSome o (λ id. (w : Letter) × Contains ls w × (is_named id w ≡ true))
if_named ls test k None h = tt
if_named ls test k (Some id) h = named_there ls test k id h
