-- The notes of a list that grows.
use Rattle.std.proofs.Common.{◌≡◌, ℕ, ◌-◌, List, [], ◌∷◌, ◌++◌, length, take, Option, Some, None, refl, sym, ap, ◌∙◌, subst, arith}
use Rattle.std.specs.Prelude.{Contains, ◌↔◌, filter_map, option_map}
use Rattle.std.specs.List.{cons_option}
use Rattle.std.proofs.lemmas.List.{append-nil, take-append-le}
use Rattle.std.proofs.lemmas.List.Elements.{filter-append, filter_map-append, Contains-append_left}
use Rattle.nm_base.specs.declared.letter.LetterId.{LetterId}
use Rattle.nm_base.specs.declared.letter.AcceptNote.{AcceptNote}
use Rattle.nm_base.specs.declared.kind.Kind.TheVariants.{Accepted}
use Rattle.event_list.specs.declared.Event.{Event}
use Rattle.event_list.specs.Events.{is_of, entries, receives, taken, taken_of, taken_in, Accepts}
use Rattle.event_list.specs.Runs.{Sound}
use Rattle.event_list.specs.Races.{IsLogged}
use Rattle.event_list.specs.Traces.{Keeps, nothing, kept, left_out, receive_number, note_of, all_notes, IsLoggedName, AreNotesOf}
use Rattle.event_list.proofs.Members.{cons_here, cons_there, filter_map_agree}
use Rattle.event_list.proofs.Soundness.{old, new, numbers, letter_same}
use Rattle.event_list.proofs.Splits.{prefix, last}
use Rattle.event_list.proofs.Links.{accept_sent, accepts_from}
use Rattle.event_list.proofs.Parts.{receive_at}
use Rattle.event_list.proofs.Projections.{sent_part}
use Rattle.event_list.proofs.TraceFacts.{note_receive}
use Rattle.event_list.proofs.LoggedStays.{logged_stays}
use Rattle.event_list.proofs.Decisions.{keeps_some, name_decided}
use Rattle.event_list.proofs.WitnessFacts.{keeps_one}

keeps_append : {X : Type 0} {P : X → Type 0} {xs ys us vs : List X} → Keeps P xs ys → Keeps P us vs → Keeps P (xs ++ us) (ys ++ vs)
keeps_append nothing k = k
keeps_append (kept p h) k = kept p (keeps_append h k)
keeps_append (left_out q h) k = left_out q (keeps_append h k)

-- what holds of the elements alike is kept alike
keeps_agree : {X : Type 0} {P Q : X → Type 0} {xs ys : List X} → ((x : X) → Contains xs x → P x ↔ Q x) → Keeps P xs ys → Keeps Q xs ys
keeps_agree same nothing = nothing
keeps_agree same (kept {x = x} {xs = xs} p h) = kept ((same x (cons_here x xs)).0 p) (keeps_agree (λ y c. same y (cons_there x xs y c)) h)
keeps_agree same (left_out {x = x} {xs = xs} q h) = left_out (λ p. q ((same x (cons_here x xs)).1 p)) (keeps_agree (λ y c. same y (cons_there x xs y c)) h)

module _ {M : ℕ} (E rest : List Event) (g : Sound M (E ++ rest)) where
  abbrev F : List Event
  F = E ++ rest

  h : Sound M E
  h = prefix E rest g

  part : (a : Event) → Contains E a → Contains F a
  part a c = Contains-append_left E rest a c

  -- an old receive keeps its number
  number_stays : (b : Event) → Contains E b → receive_number F b ≡ receive_number E b
  number_stays b c =
      ap (λ es. length (taken (take (b.number - 1) es))) (filter-append (is_of b.proc.no) E rest)
      ∙ ap (λ es. length (taken es)) (take-append-le (b.number - 1) (entries E b.proc.no) (entries rest b.proc.no) (omega (arith, (numbers h b c).1)))

  note_stays : (b : Event) → Contains E b → note_of F b ≡ note_of E b
  note_stays b c = ap (λ n. option_map (λ id. record { receiver = b.proc; receive = n; id = id }) (taken_of b)) (number_stays b c)

  notes_append : all_notes F ≡ all_notes E ++ filter_map (note_of F) rest
  notes_append = filter_map-append (note_of F) E rest ∙ ap (λ ns. ns ++ filter_map (note_of F) rest) (filter_map_agree (note_of F) (note_of E) E note_stays)

  -- whether the letter of an old note is logged does not change
  logged_alike : (note : AcceptNote) → Contains (all_notes E) note → IsLoggedName M E note.id ↔ IsLoggedName M F note.id
  logged_alike note c =
      let n = note_receive E note c in
      let t = accept_sent h n.receive n.set note.id n.accepts in
      let same = λ (id : LetterId) (e : t.letter.id ≡ id) (a : Accepts E n.receive n.set id). logged_stays M E rest t.letter g t.sent (n.receive, n.set, subst (Accepts E n.receive n.set) (sym e) a) in
      let law = same note.id t.named n.accepts in (
        (λ l. (t.letter, t.named, law.0 (subst (IsLogged M E) (letter_same h l.0 t.letter l.2.1.could.sent t.sent (l.1 ∙ sym t.named)) l.2))),
        (λ l. (t.letter, t.named, law.1 (subst (IsLogged M F) (letter_same g l.0 t.letter l.2.1.could.sent (sent_part part t.letter t.sent) (l.1 ∙ sym t.named)) l.2))),
      )

  -- the old notes come first
  pub notes_grow : (ys ns : List AcceptNote) → AreNotesOf M E ys → Keeps (λ (note : AcceptNote). IsLoggedName M F note.id) (filter_map (note_of F) rest) ns → AreNotesOf M F (ys ++ ns)
  notes_grow ys ns k new = subst (λ notes. Keeps (λ (note : AcceptNote). IsLoggedName M F note.id) notes (ys ++ ns)) (sym notes_append) (keeps_append (keeps_agree logged_alike k) new)

-- the notes of a front are a front of the notes
pub notes_front : (M : ℕ) (E rest : List Event) (notes all : List AcceptNote) → Sound M (E ++ rest) → AreNotesOf M E notes → AreNotesOf M (E ++ rest) all → (more : List AcceptNote) × (notes ++ more ≡ all)
notes_front M E rest notes all g old whole =
    let k = keeps_some (λ (note : AcceptNote). IsLoggedName M (E ++ rest) note.id) (λ note. name_decided M (E ++ rest) g note.id) (filter_map (note_of (E ++ rest)) rest) in
    (k.0, keeps_one (notes_grow E rest g notes k.0 old k.1) whole)

module _ (M : ℕ) (E : List Event) (e : Event) (notes : List AcceptNote) (g : Sound M (E ++ e ∷ [])) (before : AreNotesOf M E notes) where
  abbrev G : List Event
  G = E ++ e ∷ []

  new_number : receive_number G e ≡ receives E e.proc.no
  new_number = receive_at (prefix E (e ∷ []) g) g (old E e) e (last E e g).next_number

  -- an event that accepts a logged letter adds its note
  pub note_added : (set : ℕ) (id : LetterId) → e.kind ≡ Accepted set id → IsLoggedName M G id → AreNotesOf M G (notes ++ record { receiver = e.proc; receive = receives E e.proc.no; id = id } ∷ [])
  note_added set id kind logged =
      let note : AcceptNote = record { receiver = e.proc; receive = receives E e.proc.no; id = id } in
      let is : filter_map (note_of G) (e ∷ []) ≡ note ∷ [] =
      ap (λ k. cons_option (option_map (λ id. record { receiver = e.proc; receive = receive_number G e; id = id }) (taken_in k)) []) kind
      ∙ ap (λ n. record { receiver = e.proc; receive = n; id = id } ∷ []) new_number in
      notes_grow E (e ∷ []) g notes (note ∷ []) before (subst (λ ns. Keeps (λ (note : AcceptNote). IsLoggedName M G note.id) ns (note ∷ [])) (sym is) (kept logged nothing))

  -- any other adds none
  pub note_same : ((set : ℕ) (id : LetterId) → e.kind ≡ Accepted set id → IsLoggedName M G id → ⊥) → AreNotesOf M G notes
  note_same other = subst (AreNotesOf M G) (append-nil notes) (notes_grow E (e ∷ []) g notes [] before (by (taken_of e) refl))
    where
      by : (o : Option LetterId) → taken_of e ≡ o → Keeps (λ (note : AcceptNote). IsLoggedName M G note.id) (cons_option (option_map (λ id. record { receiver = e.proc; receive = receive_number G e; id = id }) o) []) []
      by None eq = nothing
      by (Some id) eq = let k = accepts_from e id (new E e) eq in left_out (λ l. other k.0 id k.1.kind l) nothing
