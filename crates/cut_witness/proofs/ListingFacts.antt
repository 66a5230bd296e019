-- The entries of a list of events, gathered event by event.
use Rattle.std.proofs.Common.{◌≡◌, ℕ, ◌+◌, ◌≤◌, Bool, true, false, cond, not, List, [], ◌∷◌, ◌++◌, length, take, Option, Some, None, refl, sym, ap, ◌∙◌, subst, inl, inr}
use Rattle.std.specs.Prelude.{map, filter, filter_map, option_map, slice_get, is_some, ◌↔◌}
use Rattle.std.specs.List.{cons_option}
use Rattle.std.proofs.lemmas.Bool.{true≢false, false_from_ne_true}
use Rattle.std.proofs.lemmas.List.{take_all, append-nil}
use Rattle.std.proofs.lemmas.List.Elements.{filter_map-append}
use Rattle.nm_base.specs.declared.letter.LetterId.{LetterId}
use Rattle.nm_base.specs.declared.letter.AcceptNote.{AcceptNote}
use Rattle.nm_base.specs.Message.{Message}
use Rattle.event_list.specs.declared.Event.{Event}
use Rattle.event_list.specs.Events.{letter_of, letters, taken_of, IsTaken}
use Rattle.event_list.specs.Traces.{Keeps, nothing, kept, left_out, is_taken, receive_number, note_of, IsLoggedName, AreLostOf}
use Rattle.event_list.specs.Runs.{Sound}
use Rattle.event_list.proofs.TraceFacts.{taken_is, is_taken_from}
use Rattle.causal_stop.proofs.PlaceFacts.{taken_more}
use Rattle.cut_witness.specs.declared.making.Found.{Found}
use Rattle.cut_witness.specs.private.Findings.{TellsFound}
use Rattle.cut_witness.specs.private.Lookups.{PassesOn, waiting_name, lost_of}
use Rattle.cut_witness.specs.private.Steps.{IsOwn, name_in}
use Rattle.cut_witness.proofs.MakingFacts.{found_logged}

-- what is kept of two lists, one after the other
pub keeps_both : {X : Type 0} {P : X → Type 0} {xs ys zs ws : List X} → Keeps P xs ys → Keeps P zs ws → Keeps P (xs ++ zs) (ys ++ ws)
keeps_both nothing l = l
keeps_both (kept p k) l = kept p (keeps_both k l)
keeps_both (left_out q k) l = left_out q (keeps_both k l)

module _ {X Y : Type 0} (P : Y → Type 0) (h : X → Option Y) (xs : List X) (i : ℕ) (x : X) (at : slice_get xs i ≡ Some x) (ys : List Y) (k : Keeps P (filter_map h (take i xs)) ys) where
  grown : filter_map h (take (i + 1) xs) ≡ filter_map h (take i xs) ++ cons_option (h x) []
  grown = ap (filter_map h) (taken_more xs i x at) ∙ filter_map-append h (take i xs) (x ∷ [])

  -- the element adds what is told of it
  pub keeps_more : (y : Y) → PassesOn P (h x) (Some y) → Keeps P (filter_map h (take (i + 1) xs)) (ys ++ y ∷ [])
  keeps_more y p = subst (λ zs. Keeps P zs (ys ++ y ∷ [])) (sym grown) (by (h x) p)
    where
      some_none : (z : Y) → Some z ≡ None → ⊥
      some_none z e = cc

      some_same : (z w : Y) → Some z ≡ Some w → z ≡ w
      some_same z w e = cc

      by : (o : Option Y) → PassesOn P o (Some y) → Keeps P (filter_map h (take i xs) ++ cons_option o []) (ys ++ y ∷ [])
      by None e = absurd (some_none y e)
      by (Some z) (inl r) = subst (λ w. Keeps P (filter_map h (take i xs) ++ w ∷ []) (ys ++ y ∷ [])) (some_same y z r.1) (keeps_both k (kept (subst P (sym (some_same y z r.1)) r.0) nothing))
      by (Some z) (inr r) = absurd (some_none y r.1)

  -- or nothing
  pub keeps_same : (r : Option Y) → PassesOn P (h x) r → r ≡ None → Keeps P (filter_map h (take (i + 1) xs)) ys
  keeps_same r p n = subst (λ zs. Keeps P zs ys) (sym grown) (by (h x) p)
    where
      none_some : (z : Y) → None ≡ Some z → ⊥
      none_some z e = cc

      by : (o : Option Y) → PassesOn P o r → Keeps P (filter_map h (take i xs) ++ cons_option o []) ys
      by None e = subst (λ zs. Keeps P zs ys) (sym (append-nil (filter_map h (take i xs)))) k
      by (Some z) (inl q) = absurd (none_some z (sym n ∙ q.1))
      by (Some z) (inr q) = subst (λ ws. Keeps P (filter_map h (take i xs) ++ z ∷ []) ws) (append-nil ys) (keeps_both k (left_out q.0 nothing))

pub keeps_all : {X Y : Type 0} (P : Y → Type 0) (h : X → Option Y) (xs : List X) (i : ℕ) → length xs ≤ i → (ys : List Y) → Keeps P (filter_map h (take i xs)) ys → Keeps P (filter_map h xs) ys
keeps_all P h xs i n ys k = subst (λ zs. Keeps P (filter_map h zs) ys) (take_all i xs n) k

-- the names of the letters that wait, event by event
waiting_one : (E : List Event) (o : Option Message) (ms : List Message) → map (λ m. m.id) (filter (λ m. not (is_taken E m.id)) (cons_option o ms)) ≡ cons_option (waiting_name E o) (map (λ m. m.id) (filter (λ m. not (is_taken E m.id)) ms))
waiting_one E None ms = refl
waiting_one E (Some m) ms = by (is_taken E m.id)
  where
    by : (b : Bool) → map (λ m. m.id) (cond (not b) (m ∷ filter (λ m. not (is_taken E m.id)) ms) (filter (λ m. not (is_taken E m.id)) ms)) ≡ cons_option (cond b None (Some m.id)) (map (λ m. m.id) (filter (λ m. not (is_taken E m.id)) ms))
    by true = refl
    by false = refl

waiting_names : (E F : List Event) → map (λ m. m.id) (filter (λ m. not (is_taken E m.id)) (letters F)) ≡ filter_map (lost_of E) F
waiting_names E [] = refl
waiting_names E (e ∷ F) = waiting_one E (letter_of e) (letters F) ∙ ap (cons_option (waiting_name E (letter_of e))) (waiting_names E F)

pub lost_all : {M : ℕ} (E : List Event) (i : ℕ) → length E ≤ i → (lost : List LetterId) → Keeps (IsLoggedName M E) (filter_map (lost_of E) (take i E)) lost → AreLostOf M E lost
lost_all {M = M} E i n lost k = subst (λ zs. Keeps (IsLoggedName M E) zs lost) (sym (waiting_names E E)) (keeps_all (IsLoggedName M E) (lost_of E) E i n lost k)

-- what is told of one event
pub note_none : (M : ℕ) (E : List Event) (e : Event) → None ≡ taken_of e → PassesOn (λ (note : AcceptNote). IsLoggedName M E note.id) (note_of E e) None
note_none M E e h = by (taken_of e) (sym h)
  where
    some_none : (z : LetterId) → Some z ≡ None → ⊥
    some_none z k = cc

    by : (o : Option LetterId) → o ≡ None → PassesOn (λ (note : AcceptNote). IsLoggedName M E note.id) (option_map (λ id. record { receiver = e.proc; receive = receive_number E e; id = id }) o) None
    by None k = refl
    by (Some id) k = absurd (some_none id k)

module _ (M : ℕ) (E : List Event) (e : Event) (id : LetterId) (t : Some id ≡ taken_of e) where
  its_note : note_of E e ≡ Some record { receiver = e.proc; receive = receive_number E e; id = id }
  its_note = ap (option_map (λ id. record { receiver = e.proc; receive = receive_number E e; id = id })) (sym t)

  pub note_unlogged : (IsLoggedName M E id → ⊥) → PassesOn (λ (note : AcceptNote). IsLoggedName M E note.id) (note_of E e) None
  note_unlogged n = subst (λ o. PassesOn (λ (note : AcceptNote). IsLoggedName M E note.id) o None) (sym its_note) (inr (n, refl))

  pub note_logged : IsLoggedName M E id → (k : ℕ) → k ≡ receive_number E e → PassesOn (λ (note : AcceptNote). IsLoggedName M E note.id) (note_of E e) (Some record { receiver = e.proc; receive = k; id = id })
  note_logged l k is =
      subst (λ o. PassesOn (λ (note : AcceptNote). IsLoggedName M E note.id) o (Some record { receiver = e.proc; receive = k; id = id })) (sym its_note)
      (inl (l, ap (λ j. Some record { receiver = e.proc; receive = j; id = id }) is))

pub lost_none : (M : ℕ) (E : List Event) (o : Option Message) → None ≡ name_in o → PassesOn (IsLoggedName M E) (waiting_name E o) None
lost_none M E None h = refl
lost_none M E (Some m) h = absurd (none_some m.id h)
  where
    none_some : (z : LetterId) → None ≡ Some z → ⊥
    none_some z k = cc

module _ (M : ℕ) (E : List Event) (id : LetterId) where
  some_same : (a b : LetterId) → Some a ≡ Some b → a ≡ b
  some_same a b k = cc

  some_none : (z : LetterId) → Some z ≡ None → ⊥
  some_none z k = cc

  -- the letter was received
  pub lost_taken : (o : Option Message) → Some id ≡ name_in o → (own : Option Event) → IsOwn E id own → is_some own ≡ true → PassesOn (IsLoggedName M E) (waiting_name E o) None
  lost_taken None h own w s = refl
  lost_taken (Some m) h None w s = absurd (true≢false (sym s))
  lost_taken (Some m) h (Some b) w s =
      let t : is_taken E m.id ≡ true = subst (λ i. is_taken E i ≡ true) (some_same id m.id h) (is_taken_from E b w.0 id w.1) in
      subst (λ o. PassesOn (IsLoggedName M E) o None) (sym (ap (λ z. cond z None (Some m.id)) t)) refl

  its_name : (o : Option Message) → Some id ≡ name_in o → (IsTaken E id → ⊥) → waiting_name E o ≡ Some id
  its_name None h w = sym h
  its_name (Some m) h w =
      let e = some_same id m.id h in
      let t : is_taken E m.id ≡ false = false_from_ne_true (is_taken E m.id) (λ y. w (subst (IsTaken E) (sym e) (taken_is E m.id y))) in
      ap (λ z. cond z None (Some m.id)) t ∙ sym h

  untaken : (own : Option Event) → IsOwn E id own → is_some own ≡ false → IsTaken E id → ⊥
  untaken None w s = w
  untaken (Some b) w s = λ t. true≢false s

  -- it isn't logged, or it waits
  pub lost_unlogged : (o : Option Message) → Some id ≡ name_in o → (IsLoggedName M E id → ⊥) → PassesOn (IsLoggedName M E) (waiting_name E o) None
  lost_unlogged None h n = refl
  lost_unlogged (Some m) h n = by (is_taken E m.id)
    where
      by : (b : Bool) → PassesOn (IsLoggedName M E) (cond b None (Some m.id)) None
      by true = refl
      by false = inr (subst (λ i. IsLoggedName M E i → ⊥) (some_same id m.id h) n, refl)

  pub lost_logged : (o : Option Message) → Some id ≡ name_in o → (own : Option Event) → IsOwn E id own → is_some own ≡ false → IsLoggedName M E id → PassesOn (IsLoggedName M E) (waiting_name E o) (Some id)
  lost_logged o h own w s l = subst (λ o. PassesOn (IsLoggedName M E) o (Some id)) (sym (its_name o h (untaken own w s))) (inl (l, refl))

-- whether a letter is logged, by whether it was found
pub found_is : {P : Type 0} (b : Bool) → (b ≡ true) ↔ P → b ≡ false → P → ⊥
found_is b h n p = true≢false (sym (h.1 p) ∙ n)

pub keeps_begin : {X Y : Type 0} (P : Y → Type 0) (h : X → Option Y) (xs : List X) (ys : List Y) → ys ≡ [] → Keeps P (filter_map h (take 0 xs)) ys
keeps_begin P h xs ys e = subst (Keeps P (filter_map h (take 0 xs))) (sym e) nothing

pub is_none : {X : Type 0} (o : Option X) → ((x : X) → o ≡ Some x → ⊥) → o ≡ None
is_none None h = refl
is_none (Some x) h = absurd (h x refl)

pub logged_by : {M : ℕ} {E : List Event} {id : LetterId} → Sound M E → (o : Option Found) → TellsFound M E id o → (b : Bool) → b ≡ is_some o → (b ≡ true) ↔ IsLoggedName M E id
logged_by g None t b is = ((λ y. absurd (true≢false (sym y ∙ is))), (λ l. absurd (t l)))
logged_by g (Some f) t b is = ((λ y. found_logged g t), (λ l. is))
