-- The content of a run's trace keeps the rules of a trace file.
use Rattle.std.proofs.Common.{◌≡◌, ℕ, ◌<◌, ◌≤◌, Bool, true, false, ◌||◌, ◌&&◌, eqb, leb, List, [], ◌∷◌, ◌++◌, length, refl, sym, ap, ◌∙◌, subst, inl, inr, arith}
use Rattle.std.specs.Prelude.{Contains, map}
use Rattle.std.specs.List.{list_any}
use Rattle.std.proofs.lemmas.Bool.{eqb-true}
use Rattle.std.proofs.lemmas.Bool.Decides.{nat_tests}
use Rattle.std.proofs.lemmas.List.Elements.{Contains-append_cases, Contains-append_left, Contains-push}
use Rattle.nm_base.specs.Fitting.{EachFits}
use Rattle.nm_base.specs.Fitting.EachFits.{none, more}
use Rattle.nm_base.specs.Message.{same_name}
use Rattle.nm_base.specs.declared.letter.LetterId.{LetterId}
use Rattle.nm_base.specs.declared.letter.AcceptNote.{AcceptNote}
use Rattle.nm_base.specs.declared.limits.TheConstants.{MAX_EVENTS}
use Rattle.event_list.specs.declared.Event.{Event}
use Rattle.event_list.specs.Runs.{Sound}
use Rattle.event_list.specs.TraceRules.{NoteFits, LostFits}
use Rattle.event_list.proofs.FormedFacts.{formed}
use Rattle.event_list.proofs.Members.{empty, cons_here, cons_there}
use Rattle.event_list.proofs.Projections.{name_from}
use Rattle.event_list.proofs.TraceFacts.{in_map}
use Rattle.trace_file.specs.Content.{Content}
use Rattle.trace_file.specs.Rules.{is_late, is_named, IsHeader, FitsNote, FitsLost, IsTrace}
use Rattle.recorder.specs.Recording.{Form, IsContentOf, trace_of}
use Rattle.recorder.proofs.EndLaws.{counts_sum}

any_none : {X : Type 0} (p : X → Bool) (xs : List X) → ((x : X) → Contains xs x → p x ≡ false) → list_any p xs ≡ false
any_none p [] h = refl
any_none p (x ∷ xs) h = ap (λ b. b || list_any p xs) (h x (cons_here x xs)) ∙ any_none p xs (λ y c. h y (cons_there x xs y c))

not_least : (k l : ℕ) → l < k → leb k l ≡ false
not_least k l h = grind (arith, nat_tests)

late_none : {X : Type 0} (owner number : X → ℕ) (xs : List X) (x : X) → ((y : X) → Contains xs y → owner y ≡ owner x → number y < number x) → is_late owner number xs x ≡ false
late_none {X = X} owner number xs x h = any_none (λ y. eqb (owner x) (owner y) && leb (number x) (number y)) xs (λ y c. by y c (eqb (owner x) (owner y)) refl)
  where
    by : (y : X) → Contains xs y → (b : Bool) → eqb (owner x) (owner y) ≡ b → b && leb (number x) (number y) ≡ false
    by y c false e = refl
    by y c true e = not_least (number x) (number y) (h y c (sym (eqb-true (owner x) (owner y) e)))

unlike : (a b : LetterId) → (a ≡ b → ⊥) → same_name a b ≡ false
unlike a b h = by (same_name a b) refl
  where
    by : (c : Bool) → same_name a b ≡ c → c ≡ false
    by false e = refl
    by true e = absurd (h (name_from a b e))

fresh_name : (notes : List AcceptNote) (lost : List LetterId) (id : LetterId) → ((a : AcceptNote) → Contains notes a → a.id ≡ id → ⊥) → ((l : LetterId) → Contains lost l → l ≡ id → ⊥)
    → is_named notes lost id ≡ false
fresh_name notes lost id no_note no_lost = any_none (same_name id) (map (λ a. a.id) notes ++ lost) (λ l c. unlike id l (λ e. elim (Contains-append_cases (map (λ a. a.id) notes) lost l c) [
  | inl o ↦ let a = in_map (λ (a : AcceptNote). a.id) notes l o in no_note a.0 a.1 (a.2 ∙ sym e)
  | inr o ↦ no_lost l o (sym e)
]))

-- what each note keeps alone
record Alone (n : ℕ) (a : AcceptNote) : Type 0 where
  receiver : a.receiver.no < n
  sender : a.id.sender.no < n
  receive : a.receive < MAX_EVENTS
  number : a.id.number < MAX_EVENTS

notes_fit : (n : ℕ) {notes : List AcceptNote} → EachFits NoteFits notes → ((a : AcceptNote) → Contains notes a → Alone n a) → EachFits (FitsNote n) notes
notes_fit n none each = none
notes_fit n (more {xs = xs} {x = a} h fit) each =
    let k = each a (Contains-push xs a) in
    more (notes_fit n h (λ b c. each b (Contains-append_left xs (a ∷ []) b c))) (record {
      receiver = k.receiver;
      receive = omega (arith, k.receive);
      letter = record { sender = k.sender; number = omega (arith, k.number) };
      rises = late_none (λ (b : AcceptNote). b.receiver.no) (λ b. b.receive) xs a fit.later;
      fresh = fresh_name xs [] a.id fit.other (λ l c. absurd (empty l c));
    })

-- what each lost letter keeps beside the notes
record Apart (n : ℕ) (notes : List AcceptNote) (id : LetterId) : Type 0 where
  sender : id.sender.no < n
  number : id.number < MAX_EVENTS
  other : (a : AcceptNote) → Contains notes a → a.id ≡ id → ⊥

lost_fit : (n : ℕ) (notes : List AcceptNote) {lost : List LetterId} → EachFits LostFits lost → ((id : LetterId) → Contains lost id → Apart n notes id) → EachFits (FitsLost n notes) lost
lost_fit n notes none each = none
lost_fit n notes (more {xs = xs} {x = id} h fit) each =
    let k = each id (Contains-push xs id) in
    more (lost_fit n notes h (λ l c. each l (Contains-append_left xs (id ∷ []) l c))) (record {
      letter = record { sender = k.sender; number = omega (arith, k.number) };
      rises = late_none (λ (l : LetterId). l.sender.no) (λ l. l.number) xs id fit.later;
      fresh = fresh_name notes xs id k.other (λ l c e. not_itself id.number (subst (λ (m : LetterId). m.number < id.number) e (fit.later l c (ap (λ (m : LetterId). m.sender.no) e))));
    })
  where
    not_itself : (k : ℕ) → k < k → ⊥
    not_itself k h = omega (arith, h)

pub content_rules : (f : Form) (E : List Event) (t : Content) → IsContentOf f E t → IsHeader t → Sound f.mask E → length E ≤ MAX_EVENTS → IsTrace t
content_rules f E t c header g few =
    let sound : Sound t.mask E = subst (λ m. Sound m E) (sym (ap (λ (o : Form). o.mask) c.form)) g in
    let k = formed E (trace_of t) sound c.trace few in
    record {
      front = record {
        header = header;
        notes = notes_fit t.n k.orderly.notes (λ a d. record { receiver = k.orderly.receivers a d; sender = k.orderly.senders a d; receive = k.receives a d; number = k.sends a d });
        lost = lost_fit t.n t.notes k.orderly.lost (λ id d. record { sender = k.orderly.lost_senders id d; number = k.lost_sends id d; other = λ a e. k.orderly.apart a id e d });
      };
      counts = record {
        each = c.each;
        sum = omega (arith, few, counts_sum t.counts t.n E c.each (λ p l. c.trace.counts p) c.trace.processes);
      };
    }
