-- How many letters were sent, were accepted and wait.
use Rattle.std.proofs.Common.{◌≡◌, ℕ, ◌+◌, List, [], ◌∷◌, ◌++◌, length, Option, Some, None, refl, sym, ap, ◌∙◌, arith, length-append}
use Rattle.std.specs.List.{cons_option}
use Rattle.std.proofs.lemmas.List.{append-nil}
use Rattle.nm_base.specs.declared.letter.LetterId.{LetterId}
use Rattle.nm_base.specs.Fitting.{none, more}
use Rattle.nm_base.specs.Message.{Message}
use Rattle.event_list.specs.declared.Event.{Event}
use Rattle.event_list.specs.Events.{letters, letter_of, taken, taken_of}
use Rattle.event_list.specs.Runs.{Sound}
use Rattle.event_list.specs.Traces.{waiting}
use Rattle.event_list.proofs.Entries.{taken_grows, letters_grow}
use Rattle.event_list.proofs.Growth.{waiting_made, waiting_taken}
use Rattle.event_list.proofs.Links.{accepts_from}
use Rattle.event_list.proofs.TraceFacts.{waits_in}
use Rattle.event_list.proofs.RaceLaw.{no_letter}
use Rattle.event_list.proofs.Splits.{contains_split}
use Rattle.nm_base.specs.declared.kind.Kind.TheVariants.{Accepted}
use Rattle.event_list.proofs.Members.{cons_here}

-- ---- what waits

no_letters : (e : Event) (set : ℕ) (id : LetterId) → e.kind ≡ Accepted set id → (o : Option Message) → letter_of e ≡ o → letter_of e ≡ None
no_letters e set id h None k = k
no_letters e set id h (Some l) k = absurd (no_letter e set id l h k)

no_sends : (E : List Event) (e : Event) → letter_of e ≡ None → length (letters (E ++ e ∷ [])) ≡ length (letters E)
no_sends E e h = ap length (letters_grow E e ∙ ap (λ o. letters E ++ cons_option o []) h ∙ append-nil (letters E))

-- each letter that was sent was accepted or waits
pub sent_letters : (M : ℕ) {E : List Event} → Sound M E → length (letters E) ≡ length (taken E) + length (waiting E)
sent_letters M none = refl
sent_letters M (more {xs = E} {x = e} g f) = by (sent_letters M g) (taken_of e) refl
  where
    by : length (letters E) ≡ length (taken E) + length (waiting E) → (o : Option LetterId) → taken_of e ≡ o
        → length (letters (E ++ e ∷ [])) ≡ length (taken (E ++ e ∷ [])) + length (waiting (E ++ e ∷ []))
    by ih None h =
        let t : taken (E ++ e ∷ []) ≡ taken E = taken_grows E e ∙ ap (λ o. taken E ++ cons_option o []) h ∙ append-nil (taken E) in
        omega (arith, ap length t, ap length (letters_grow E e), length-append (letters E) (letters (e ∷ [])), ap length (waiting_made g f h), length-append (waiting E) (letters (e ∷ [])), ih)
    by ih (Some id) h =
        let k = accepts_from {E = e ∷ []} e id (cons_here e []) h in
        let m = f.takes k.0 id k.1.kind in
        let w = contains_split (waiting E) m.0 (waits_in E m.0 m.2.sent m.2.waits) in
        let kind : e.kind ≡ Accepted k.0 m.0.id = k.1.kind ∙ ap (Accepted k.0) (sym m.1) in
        let t : taken (E ++ e ∷ []) ≡ taken E ++ id ∷ [] = taken_grows E e ∙ ap (λ o. taken E ++ cons_option o []) h in
        omega (
          arith,
          ap length t,
          length-append (taken E) (id ∷ []),
          no_sends E e (no_letters e k.0 m.0.id kind (letter_of e) refl),
          ap length (waiting_taken g e k.0 w.0 m.0 w.1 kind w.2),
          ap length w.2,
          length-append w.0 (m.0 ∷ w.1),
          length-append w.0 w.1,
          ih,
        )
