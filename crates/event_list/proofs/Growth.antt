-- What is read off a list that grew by one event.
use Rattle.std.proofs.Common.{◌≡◌, ℕ, ◌+◌, Bool, true, false, cond, List, [], ◌∷◌, ◌++◌, length, Option, Some, None, refl, sym, ap, ◌∙◌, inl, inr, arith, length-append}
use Rattle.std.specs.Prelude.{filter, filter_map, not, Contains, ◌⊎◌, ◌||◌}
use Rattle.std.specs.List.{cons_option, list_any}
use mathlib.Core.Path.{ap₂}
use Rattle.std.proofs.lemmas.Bool.{not_from_false, false_from_ne_true}
use Rattle.std.proofs.lemmas.List.{append-nil}
use Rattle.std.proofs.lemmas.List.Elements.{filter-append}
use Rattle.nm_base.specs.declared.letter.LetterId.{LetterId}
use Rattle.nm_base.specs.declared.kind.Kind.TheVariants.{Accepted}
use Rattle.nm_base.specs.Fitting.{more}
use Rattle.nm_base.specs.Message.{Message, same_name}
use Rattle.event_list.specs.declared.Event.{Event}
use Rattle.event_list.specs.Events.{entries, messages, receives, letters, letter_of, taken, taken_of, taken_in, letter_named, IsSent}
use Rattle.event_list.specs.Runs.{FitsSoundly, Sound}
use Rattle.event_list.specs.Traces.{is_taken, waiting}
use Rattle.event_list.proofs.Members.{cons_here, cons_there}
use Rattle.event_list.proofs.RaceLaw.{no_letter}
use Rattle.event_list.proofs.Entries.{entries_here, entries_there, count_there, taken_grows, letters_grow}
use Rattle.event_list.proofs.Soundness.{old, send_number_new}
use Rattle.event_list.proofs.Links.{accept_sent}
use Rattle.event_list.proofs.ClockLaws.{same_name_parts}
use Rattle.event_list.proofs.Projections.{named_is, messages_same, same_name_at}
use Rattle.event_list.proofs.RunsSound.{messages_grow}
use Rattle.event_list.proofs.SendOrder.{one_named}
use Rattle.event_list.proofs.TraceFacts.{taken_is, in_waiting}

module _ {M : ℕ} {E : List Event} {e : Event} (g : Sound M E) (f : FitsSoundly M E e) where
  abbrev F : List Event
  F = E ++ e ∷ []

  -- the letters that the processes accepted
  pub messages_there : (p : ℕ) → (e.proc.no ≡ p → ⊥) → messages F p ≡ messages E p
  messages_there p h = sym (messages_same g (more g f) (more g f) (old E e) (λ a k. k) p (sym (count_there E e p h)))

  pub messages_made : taken_of e ≡ None → messages F e.proc.no ≡ messages E e.proc.no
  messages_made h = messages_grow e g f ∙ ap (λ o. messages E e.proc.no ++ filter_map (letter_named F) (cons_option o [])) h ∙ append-nil (messages E e.proc.no)

  pub messages_taken : (m : Message) → taken_of e ≡ Some m.id → IsSent E m → messages F e.proc.no ≡ messages E e.proc.no ++ m ∷ []
  messages_taken m h s =
      messages_grow e g f ∙ ap (λ o. messages E e.proc.no ++ filter_map (letter_named F) (cons_option o [])) h
      ∙ ap (λ o. messages E e.proc.no ++ cons_option o []) (named_is (more g f) m (s.0, record { in_list = old E e s.0 s.1.in_list; letter = s.1.letter }))

  -- a letter that is sent now was not accepted before
  new_name : (m : Message) → letter_of e ≡ Some m → is_taken E m.id ≡ false
  new_name m h = false_from_ne_true _ (λ t.
      let b = taken_is E m.id t in
      let k = accept_sent g b.0 b.1 m.id b.2 in
      let n = send_number_new g f k.sent.0 k.letter m k.sent.1 h (ap (λ z. z.sender.no) k.named) in
      omega (arith, n, ap (λ z. z.number) k.named))

  -- nor is its name that of a waiting letter
  pub not_waiting : (m : Message) → letter_of e ≡ Some m → (l : Message) → Contains (waiting E) l → same_name l.id m.id ≡ false
  not_waiting m h l c = false_from_ne_true _ (λ t.
      let s = (in_waiting E l c).0 in
      let k = same_name_parts l.id m.id t in
      let n = send_number_new g f s.0 l m s.1 h k.0 in
      omega (arith, n, k.1))

  -- what an event that is no receive leaves waiting
  pub waiting_made : taken_of e ≡ None → waiting F ≡ waiting E ++ letters (e ∷ [])
  waiting_made h =
      let t : taken F ≡ taken E = taken_grows E e ∙ ap (λ o. taken E ++ cons_option o []) h ∙ append-nil (taken E) in
      ap (λ ids. filter (λ m. not (list_any (same_name m.id) ids)) (letters F)) t
      ∙ ap (filter (λ m. not (is_taken E m.id))) (letters_grow E e)
      ∙ filter-append (λ m. not (is_taken E m.id)) (letters E) (letters (e ∷ []))
      ∙ ap (λ ls. waiting E ++ ls) (by (letter_of e) refl)
    where
      by : (o : Option Message) → letter_of e ≡ o → filter (λ m. not (is_taken E m.id)) (cons_option o []) ≡ cons_option o []
      by None k = refl
      by (Some m) k = ap (λ b. cond b (m ∷ []) []) (not_from_false _ (new_name m k))

  receives_here : receives F e.proc.no ≡ receives E e.proc.no + length (taken (e ∷ []))
  receives_here =
      ap (λ es. length (taken es)) (entries_here E e e.proc.no refl) ∙ ap length (taken_grows (entries E e.proc.no) e) ∙ length-append (taken (entries E e.proc.no)) (taken (e ∷ []))

  pub receives_there : (p : ℕ) → (e.proc.no ≡ p → ⊥) → receives F p ≡ receives E p
  receives_there p h = ap (λ es. length (taken es)) (entries_there E e p h)

  pub receives_made : taken_of e ≡ None → receives F e.proc.no ≡ receives E e.proc.no
  receives_made h = receives_here ∙ ap (λ o. receives E e.proc.no + length (cons_option o [])) h ∙ omega arith

  pub receives_taken : (id : LetterId) → taken_of e ≡ Some id → receives F e.proc.no ≡ receives E e.proc.no + 1
  receives_taken id h = receives_here ∙ ap (λ o. receives E e.proc.no + length (cons_option o [])) h

any_push : {X : Type 0} (test : X → Bool) (xs : List X) (x : X) → list_any test (xs ++ x ∷ []) ≡ (list_any test xs || test x)
any_push test [] x = by (test x)
  where
    by : (b : Bool) → (b || false) ≡ (false || b)
    by true = refl
    by false = refl
any_push test (y ∷ xs) x = ap (λ b. test y || b) (any_push test xs x) ∙ by (test y) (list_any test xs) (test x)
  where
    by : (a b c : Bool) → (a || (b || c)) ≡ ((a || b) || c)
    by true b c = refl
    by false b c = refl

-- two filters one after the other
filter_or : {X : Type 0} (p q : X → Bool) (xs : List X) → filter (λ x. not (p x || q x)) xs ≡ filter (λ x. not (q x)) (filter (λ x. not (p x)) xs)
filter_or p q [] = refl
filter_or p q (x ∷ xs) = by (p x) (q x) refl (filter_or p q xs)
  where
    by : (a b : Bool) → q x ≡ b → filter (λ x. not (p x || q x)) xs ≡ filter (λ x. not (q x)) (filter (λ x. not (p x)) xs) → cond (not (a || b)) (x ∷ filter (λ x. not (p x || q x)) xs) (filter (λ x. not (p x || q x)) xs) ≡ filter (λ x. not (q x)) (cond (not a) (x ∷ filter (λ x. not (p x)) xs) (filter (λ x. not (p x)) xs))
    by true b e ih = ih
    by false true e ih = ih ∙ sym (ap (λ b. cond (not b) (x ∷ filter (λ x. not (q x)) (filter (λ x. not (p x)) xs)) (filter (λ x. not (q x)) (filter (λ x. not (p x)) xs))) e)
    by false false e ih = ap (λ ys. x ∷ ys) ih ∙ sym (ap (λ b. cond (not b) (x ∷ filter (λ x. not (q x)) (filter (λ x. not (p x)) xs)) (filter (λ x. not (q x)) (filter (λ x. not (p x)) xs))) e)

filter_all : {X : Type 0} (q : X → Bool) (xs : List X) → ((x : X) → Contains xs x → q x ≡ true) → filter q xs ≡ xs
filter_all q [] h = refl
filter_all q (x ∷ xs) h = ap (λ b. cond b (x ∷ filter q xs) (filter q xs)) (h x (cons_here x xs)) ∙ ap (λ ys. x ∷ ys) (filter_all q xs (λ y c. h y (cons_there x xs y c)))

-- an accepted letter no longer waits
pub waiting_taken : {M : ℕ} {E : List Event} → Sound M E → (e : Event) (set : ℕ) (xs : List Message) (m : Message) (ys : List Message) → e.kind ≡ Accepted set m.id → waiting E ≡ xs ++ (m ∷ ys) → waiting (E ++ e ∷ []) ≡ xs ++ ys
waiting_taken {E = E} g e set xs m ys h w =
    let t : taken (E ++ e ∷ []) ≡ taken E ++ m.id ∷ [] = taken_grows E e ∙ ap (λ k. taken E ++ cons_option (taken_in k) []) h in
    let l : letters (E ++ e ∷ []) ≡ letters E = letters_grow E e ∙ ap (λ o. letters E ++ cons_option o []) (no_letters (letter_of e) refl) ∙ append-nil (letters E) in
    ap (filter (λ k. not (is_taken (E ++ e ∷ []) k.id))) l
    ∙ filter_agree _ _ (letters E) (λ k. ap (λ ids. not (list_any (same_name k.id) ids)) t ∙ ap not (any_push (same_name k.id) (taken E) m.id))
    ∙ filter_or (λ k. is_taken E k.id) (λ k. same_name k.id m.id) (letters E)
    ∙ ap (filter (λ k. not (same_name k.id m.id))) w
    ∙ filter-append (λ k. not (same_name k.id m.id)) xs (m ∷ ys)
    ∙ ap₂ (λ us vs. us ++ vs)
    (filter_all (λ k. not (same_name k.id m.id)) xs (λ k c. others k (inl c)))
    (ap (λ b. cond (not b) (m ∷ filter (λ k. not (same_name k.id m.id)) ys) (filter (λ k. not (same_name k.id m.id)) ys)) (same_name_at m.id m.id refl)
    ∙ filter_all (λ k. not (same_name k.id m.id)) ys (λ k c. others k (inr c)))
  where
    no_letters : (o : Option Message) → letter_of e ≡ o → o ≡ None
    no_letters None k = refl
    no_letters (Some l) k = absurd (no_letter e set m.id l h k)

    filter_agree : (p q : Message → Bool) (xs : List Message) → ((x : Message) → p x ≡ q x) → filter p xs ≡ filter q xs
    filter_agree p q [] k = refl
    filter_agree p q (x ∷ xs) k = ap₂ (λ b zs. cond b (x ∷ zs) zs) (k x) (filter_agree p q xs k)

    others : (k : Message) → Contains xs k ⊎ Contains ys k → not (same_name k.id m.id) ≡ true
    others k c = not_from_false _ (false_from_ne_true _ (λ t. let n = same_name_parts k.id m.id t in one_named g xs m ys w k c n.0 n.1))
