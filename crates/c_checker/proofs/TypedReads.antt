-- What is read of an expression fits the whole program, where no rule is broken.
use Rattle.std.proofs.Common.{◌≡◌, ℕ, true, List, [], ◌∷◌, length, ◌∙◌}
use Rattle.std.specs.Prelude.{nat_le}
use Rattle.std.specs.List.{list_all}
use Rattle.std.proofs.lemmas.List.{append-nil}
use Rattle.c_checker.specs.declared.fault.CheckFault.{CheckFault}
use Rattle.c_checker.specs.Found.{pure, broken, note, ◌>>=◌, ◌>>◌}
use Rattle.c_checker.specs.Expressions.{Reads, both, three}
use Rattle.c_checker.proofs.TypedLists.{Front, front_same, front_then, nil_left, nil_right, not_nil}

abbrev pub AllShort : List (List ℕ) → Type 0
AllShort texts = list_all (λ t. nat_le (length t) 509) texts ≡ true

module _ (T : List (List ℕ)) (H : Type 0) where
  -- Texts are added, and where no rule is broken, T begins with the texts after it and H holds, the value is as P says.
  pub record Good {A : Type 0} (m : Reads A) (P : A → Type 0) : Type 0 where
    pub grows : (s : List (List ℕ)) → Front s (m s).state
    pub short : (s : List (List ℕ)) → (m s).faults ≡ [] → AllShort s → AllShort (m s).state
    pub holds : (s : List (List ℕ)) → (m s).faults ≡ [] → Front (m s).state T → H → P (m s).value

  pub good_pure : {A : Type 0} {P : A → Type 0} (x : A) → (H → P x) → Good (pure x) P
  good_pure x p = record { grows = λ s. front_same s; short = λ s h a. a; holds = λ s h e w. p w }

  pub good_broken : {A : Type 0} {P : A → Type 0} (f : CheckFault) (x : A) → Good (broken f x) P
  good_broken f x = record { grows = λ s. front_same s; short = λ s h a. a; holds = λ s h e w. absurd (not_nil f [] [] h) }

  pub good_bind : {A B : Type 0} {P : A → Type 0} {Q : B → Type 0} {m : Reads A} {f : A → Reads B} → Good m P → ((x : A) → Good (f x) (λ y. P x → Q y)) → Good (m >>= f) Q
  good_bind {m = m} {f = f} a b = record {
    grows = λ s. front_then (a.grows s) ((b (m s).value).grows (m s).state);
    short = λ s h t. (b (m s).value).short (m s).state (nil_right (m s).faults (f (m s).value (m s).state).faults h) (a.short s (nil_left (m s).faults (f (m s).value (m s).state).faults h) t);
    holds = λ s h e w.
        let after = b (m s).value in
        after.holds (m s).state (nil_right (m s).faults (f (m s).value (m s).state).faults h) e w
        (a.holds s (nil_left (m s).faults (f (m s).value (m s).state).faults h) (front_then (after.grows (m s).state) e) w);
  }

  pub good_weak : {A : Type 0} {P Q : A → Type 0} {m : Reads A} → Good m P → ((x : A) → P x → Q x) → Good m Q
  good_weak {m = m} a k = record { grows = a.grows; short = a.short; holds = λ s h e w. k (m s).value (a.holds s h e w) }

  pub good_map : {A B : Type 0} {P : A → Type 0} {Q : B → Type 0} {m : Reads A} (f : A → B) → Good m P → ((x : A) → P x → Q (f x)) → Good (m >>= (λ x. pure (f x))) Q
  good_map f a k = good_bind {f = λ x. pure (f x)} a (λ x. good_pure (f x) (λ w. k x))

  pub good_note : (faults : List CheckFault) → Good (note faults) (λ u. faults ≡ [])
  good_note faults = record { grows = λ s. front_same s; short = λ s h a. a; holds = λ s h e w. h }

  pub good_noted : {B : Type 0} {Q : B → Type 0} (faults : List CheckFault) {m : Reads B} → Good m (λ y. faults ≡ [] → Q y) → Good (note faults >> m) Q
  good_noted faults a = good_bind (good_note faults) (λ u. a)

  pub good_both : {A B : Type 0} {P : A → Type 0} {Q : B → Type 0} {m : Reads A} {n : Reads B} → Good m P → Good n Q → Good (both m n) (λ p. P p.0 × Q p.1)
  good_both {n = n} a b = good_bind {f = λ x. n >>= (λ y. pure (x, y))} a (λ x. good_map (λ y. (x, y)) b (λ y q p. (p, q)))

  pub good_three : {A B C : Type 0} {P : A → Type 0} {Q : B → Type 0} {R : C → Type 0} {l : Reads A} {m : Reads B} {n : Reads C} → Good l P → Good m Q → Good n R
      → Good (three l m n) (λ p. P p.0 × Q p.1 × R p.2)
  good_three {m = m} {n = n} a b c =
      good_bind {f = λ x. m >>= (λ y. n >>= (λ z. pure (x, y, z)))} a (λ x.
      good_bind {f = λ y. n >>= (λ z. pure (x, y, z))} b (λ y.
      good_map (λ z. (x, y, z)) c (λ z r q p. (p, q, r))))

  -- a broken rule, and then what stands in the place of a part
  pub good_after : {A B : Type 0} {P Q : B → Type 0} (f : CheckFault) (x : A) {m : Reads B} → Good m P → Good (broken f x >> m) Q
  good_after f x {m = m} a = good_bind {P = λ u. ⊥} {f = λ u. m} (good_broken f x) (λ u. good_weak a (λ y p e. absurd e))

  pub good_notes : {A : Type 0} {P : A → Type 0} (f : CheckFault) (fs : List CheckFault) (x : A) → Good (note (f ∷ fs) >> pure x) P
  good_notes f fs x = good_noted (f ∷ fs) (good_pure x (λ w e. absurd (not_nil f fs [] (append-nil (f ∷ fs) ∙ e))))

  -- what is known of a value makes it good
  pub good_if : {A : Type 0} {P : Type 0} {Q : A → Type 0} {m : Reads A} → ((s : List (List ℕ)) → Front s (m s).state)
      → ((s : List (List ℕ)) → (m s).faults ≡ [] → AllShort s → AllShort (m s).state) → (P → Good m Q) → Good m (λ y. P → Q y)
  good_if g a k = record { grows = g; short = a; holds = λ s h e w p. (k p).holds s h e w }

  -- what follows is good where no rule of these is broken
  pub good_where : {B : Type 0} {Q : B → Type 0} {m : Reads B} (faults : List CheckFault) → ((s : List (List ℕ)) → Front s (m s).state) → (faults ≡ [] → Good m Q)
      → Good (note faults >> m) Q
  good_where {m = m} faults g k = record {
    grows = g;
    short = λ s h a. (k (nil_left faults (m s).faults h)).short s (nil_right faults (m s).faults h) a;
    holds = λ s h e w. (k (nil_left faults (m s).faults h)).holds s (nil_right faults (m s).faults h) e w;
  }
