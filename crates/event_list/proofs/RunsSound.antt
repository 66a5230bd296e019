-- Every run of lawful scripts is sound.
use Rattle.std.proofs.Common.{◌≡◌, ℕ, ◌+◌, ◌<◌, true, false, cond, List, [], ◌∷◌, ◌++◌, length, Some, refl, sym, ap, ◌∙◌, subst, inl, inr, length-append}
use Rattle.std.specs.Prelude.{filter, filter_map, Contains}
use Rattle.std.specs.List.{cons_option}
use mathlib.Core.Path.{ap₂}
use Rattle.std.proofs.lemmas.Bool.{cases_eq, false_from_ne_true}
use Rattle.std.proofs.lemmas.List.{length_push}
use Rattle.std.proofs.lemmas.List.Elements.{filter-append, filter_map-append, Contains-push, Contains-push_cases, Contains-append_left}
use Rattle.nm_base.specs.declared.letter.LetterId.{LetterId}
use Rattle.nm_base.specs.declared.letter.ProcNo.{ProcNo}
use Rattle.nm_base.specs.declared.kind.Kind.{Kind}
use Rattle.nm_base.specs.declared.kind.Kind.TheVariants.{Line, Sent, Accepted, Printed, Ended, Faulted}
use Rattle.nm_base.specs.Fitting.{none, more}
use Rattle.nm_base.specs.Message.{Message}
use Rattle.nm_base.specs.Scripts.{Script, Next, Goes, Wants, Over, Step, Made, Took, kind_in, message_in, next_after, StepFits, IsHistory, is_send, is_last, IsLawful, message_sent}
use Rattle.event_list.specs.declared.Event.{Event}
use Rattle.event_list.specs.Events.{entries, count, taken, Sends, sends, messages, letter_named, taken_in}
use Rattle.event_list.specs.Runs.{FitsSoundly, Sound, Fits, KindFits, IsRun, MayTake}
use Rattle.event_list.proofs.Members.{filter_map_agree}
use Rattle.event_list.proofs.Entries.{nothing_in, entries_here, count_here, count_there, sends_here, sends_there, taken_grows}
use Rattle.event_list.proofs.Soundness.{old}
use Rattle.event_list.proofs.RaceLaw.{no_letter}
use Rattle.event_list.proofs.Projections.{meaning_same, taken_in_list, messages_same, named_is}

-- the letters that the new entry's process accepted
pub messages_grow : {M : ℕ} {E : List Event} (e : Event) → Sound M E → FitsSoundly M E e → messages (E ++ e ∷ []) e.proc.no ≡ messages E e.proc.no ++ filter_map (letter_named (E ++ e ∷ [])) (taken (e ∷ []))
messages_grow {E = E} e g f =
    let F = E ++ e ∷ [] in
    ap (λ es. filter_map (letter_named F) (taken es)) (entries_here E e e.proc.no refl)
    ∙ ap (filter_map (letter_named F)) (taken_grows (entries E e.proc.no) e)
    ∙ filter_map-append (letter_named F) (taken (entries E e.proc.no)) (taken (e ∷ []))
    ∙ ap (λ xs. xs ++ filter_map (letter_named F) (taken (e ∷ []))) (filter_map_agree (letter_named F) (letter_named E) (taken (entries E e.proc.no)) (λ id c.
    let x = taken_in_list E e.proc.no id c in
    meaning_same (more g f) g (more g f) (λ a h. h) (old E e) id (x.0, x.1, record { in_list = old E e x.0 x.2.in_list; kind = x.2.kind }) (x.0, x.1, x.2)))

-- p's entries in E are a history of its script
record HasHistory (s : Script) (E : List Event) (p : ℕ) : Type 0 where
  steps : List Step
  is : IsHistory s steps
  took : filter_map message_in steps ≡ messages E p
  made : length steps ≡ count E p
  sent : length (filter (λ step. is_send (kind_in step)) steps) ≡ sends E p
  lasts : (a : Event) → Contains E a → a.proc.no ≡ p → is_last a.kind ≡ true → (step : Step) × Contains steps step × (is_last (kind_in step) ≡ true)

send_counts : (p : ProcNo) (k : Kind) (step : Step) → kind_in step ≡ k → length (filter (λ step. is_send (kind_in step)) (step ∷ [])) ≡ length (cons_option (message_sent p k) [])
send_counts p k step e = ap (λ k. length (cond (is_send k) (step ∷ []) [])) e ∙ by_kind k
  where
    by_kind : (k : Kind) → length (cond (is_send k) (step ∷ []) []) ≡ length (cons_option (message_sent p k) [])
    by_kind (Line x) = refl
    by_kind (Sent number dest chan len words) = refl
    by_kind (Accepted set id) = refl
    by_kind (Printed x) = refl
    by_kind (Ended x) = refl
    by_kind (Faulted x) = refl

history_grows : {M : ℕ} {E : List Event} (e : Event) → Sound M E → FitsSoundly M E e → (s : Script) (h : HasHistory s E e.proc.no) (step : Step) → StepFits s h.steps step → kind_in step ≡ e.kind → filter_map message_in (step ∷ []) ≡ filter_map (letter_named (E ++ e ∷ [])) (taken (e ∷ [])) → HasHistory s (E ++ e ∷ []) e.proc.no
history_grows {E = E} e g f s h step fits kind takes =
    record {
      steps = h.steps ++ step ∷ [];
      is = more h.is fits;
      took = filter_map-append message_in h.steps (step ∷ []) ∙ ap₂ (λ xs ys. xs ++ ys) h.took takes ∙ sym (messages_grow e g f);
      made = length_push h.steps step ∙ ap (λ n. n + 1) h.made ∙ sym (count_here E e e.proc.no refl);
      sent = ap length (filter-append (λ step. is_send (kind_in step)) h.steps (step ∷ [])) ∙ length-append (filter (λ step. is_send (kind_in step)) h.steps) _
          ∙ ap₂ (λ m n. m + n) h.sent (send_counts e.proc e.kind step kind) ∙ sym (sends_here E e e.proc.no refl);
      lasts = λ a ha p l. elim (Contains-push_cases E e a ha) [
        | inl o ↦ let r = h.lasts a o p l in (r.0, Contains-append_left h.steps (step ∷ []) r.0 r.1, r.2)
        | inr w ↦ (step, Contains-push h.steps step, ap is_last (kind ∙ ap (λ x. x.kind) w) ∙ l)
      ];
    }

history_stays : {M : ℕ} {E : List Event} (e : Event) → Sound M E → FitsSoundly M E e → (s : Script) (p : ℕ) → (e.proc.no ≡ p → ⊥) → HasHistory s E p → HasHistory s (E ++ e ∷ []) p
history_stays {E = E} e g f s p other h =
    record {
      steps = h.steps;
      is = h.is;
      took = h.took ∙ messages_same g (more g f) (more g f) (old E e) (λ a k. k) p (sym (count_there E e p other));
      made = h.made ∙ sym (count_there E e p other);
      sent = h.sent ∙ sym (sends_there E e p other);
      lasts = λ a ha q l. elim (Contains-push_cases E e a ha) [
        | inl o ↦ h.lasts a o q l
        | inr w ↦ absurd (other (ap (λ x. x.proc.no) w ∙ q))
      ];
    }

goes_wants : (kind : Kind) (set : ℕ) → Goes kind ≡ Wants set → ⊥
goes_wants kind set h = cc

over_goes : (kind : Kind) → Over ≡ Goes kind → ⊥
over_goes kind h = cc

over_wants : (set : ℕ) → Over ≡ Wants set → ⊥
over_wants set h = cc

pub accepted_parts : (s t : ℕ) (a b : LetterId) → Accepted s a ≡ Accepted t b → (s ≡ t) × (a ≡ b)
accepted_parts s t a b h = (cc, cc)

-- a send's number is the script's number of sends
sent_number : (s : Script) → IsLawful s → (h : List Step) → IsHistory s h → (p : ProcNo) (k : Kind) (m : Message) → next_after s h ≡ Goes k → message_sent p k ≡ Some m → m.id.number ≡ length (filter (λ step. is_send (kind_in step)) h)
sent_number s law h is p (Line x) m n l = cc
sent_number s law h is p (Sent number dest chan len words) m n l = number_of _ m l ∙ law.numbered h number dest chan len words is n
  where
    number_of : (l m : Message) → Some l ≡ Some m → m.id.number ≡ l.id.number
    number_of l m h = let e : m ≡ l = cc in ap (λ x. x.id.number) e
sent_number s law h is p (Accepted set id) m n l = cc
sent_number s law h is p (Printed x) m n l = cc
sent_number s law h is p (Ended x) m n l = cc
sent_number s law h is p (Faulted x) m n l = cc

-- what holds of a run so far
record Sofar (s : ℕ → Script) (M : ℕ) (E : List Event) : Type 0 where
  sound : Sound M E
  histories : (p : ℕ) → HasHistory (s p) E p

record Onward (s : ℕ → Script) (M : ℕ) (E : List Event) (e : Event) : Type 0 where
  fits : FitsSoundly M E e
  history : HasHistory (s e.proc.no) (E ++ e ∷ []) e.proc.no

onward : (s : ℕ → Script) → ((p : ℕ) → IsLawful (s p)) → (M : ℕ) (E : List Event) (e : Event) → Sofar s M E → Fits s M E e → Onward s M E e
onward s law M E e far f = go ((s p).next (messages E p) (count E p)) refl f.next_kind
  where
    p : ℕ
    p = e.proc.no

    h : HasHistory (s p) E p
    h = far.histories p

    at : next_after (s p) h.steps ≡ (s p).next (messages E p) (count E p)
    at = ap₂ (s p).next h.took h.made

    goes_on : (n : Next) → (s p).next (messages E p) (count E p) ≡ n → (Over ≡ n → ⊥) → (a : Event) → Contains E a → a.proc.no ≡ p → is_last a.kind ≡ false
    goes_on n e differs a ha q = false_from_ne_true _ (λ l. let r = h.lasts a ha q l in differs (sym ((law p).ends h.steps r.0 h.is r.1 r.2) ∙ at ∙ e))

    go : (n : Next) → (s p).next (messages E p) (count E p) ≡ n → KindFits M E e n → Onward s M E e
    go (Goes kind) n k = record { fits = fits; history = history_grows e far.sound fits (s p) h (Made e.kind) (at ∙ n ∙ ap Goes (sym k)) refl no_message }
      where
        fits : FitsSoundly M E e
        fits = record {
          next_number = f.next_number;
          sends_next = λ m l. sent_number (s p) (law p) h.steps h.is e.proc kind m (at ∙ n) (ap (message_sent e.proc) (sym k) ∙ l) ∙ h.sent;
          takes = λ set id t. absurd ((law p).no_receive h.steps set id h.is (at ∙ n ∙ ap Goes (sym k ∙ t)));
          goes_on = goes_on (Goes kind) n (over_goes kind);
        }

        no_message : [] ≡ filter_map (letter_named (E ++ e ∷ [])) (taken (e ∷ []))
        no_message = by_kind e.kind refl
          where
            by_kind : (x : Kind) → e.kind ≡ x → [] ≡ filter_map (letter_named (E ++ e ∷ [])) (cons_option (taken_in x) [])
            by_kind (Line x) q = refl
            by_kind (Sent number dest chan len words) q = refl
            by_kind (Accepted set id) q = absurd ((law p).no_receive h.steps set id h.is (at ∙ n ∙ ap Goes (sym k ∙ q)))
            by_kind (Printed x) q = refl
            by_kind (Ended x) q = refl
            by_kind (Faulted x) q = refl
    go (Wants set) n k = record { fits = fits; history = history_grows e far.sound fits (s p) h (Took set k.0) (at ∙ n, k.2.in_set) (sym k.1) one_message }
      where
        fits : FitsSoundly M E e
        fits = record {
          next_number = f.next_number;
          sends_next = λ m l. absurd (no_letter e set k.0.id m k.1 l);
          takes = λ t id q. let w = accepted_parts set t k.0.id id (sym k.1 ∙ q) in (k.0, w.1, subst (λ t. MayTake M E p t k.0) w.0 k.2);
          goes_on = goes_on (Wants set) n (over_wants set);
        }

        one_message : k.0 ∷ [] ≡ filter_map (letter_named (E ++ e ∷ [])) (taken (e ∷ []))
        one_message = sym (ap (λ x. filter_map (letter_named (E ++ e ∷ [])) (cons_option (taken_in x) [])) k.1
            ∙ ap (λ o. cons_option o []) (named_is (more far.sound fits) k.0 (k.2.sent.0, record { in_list = old E e k.2.sent.0 k.2.sent.1.in_list; letter = k.2.sent.1.letter })))
    go Over n k = absurd k

so_far : (s : ℕ → Script) → ((p : ℕ) → IsLawful (s p)) → {M : ℕ} {E : List Event} → IsRun s M E → Sofar s M E
so_far s law none = record { sound = none; histories = λ p. record { steps = []; is = none; took = refl; made = refl; sent = refl; lasts = λ a h. absurd (nothing_in a h) } }
so_far s law {M = M} (more {xs = E} {x = e} g f) =
    let far = so_far s law g in
    let w = onward s law M E e far f in
    record {
      sound = more far.sound w.fits;
      histories = λ p. elim (cases_eq e.proc.no p) [
        | inl h ↦ subst (λ q. HasHistory (s q) (E ++ e ∷ []) q) h w.history
        | inr h ↦ history_stays e far.sound w.fits (s p) p h (far.histories p)
      ];
    }

-- every run of lawful scripts is sound
pub runs_sound : (s : ℕ → Script) → ((p : ℕ) → IsLawful (s p)) → {M : ℕ} {E : List Event} → IsRun s M E → Sound M E
runs_sound s law h = (so_far s law h).sound

-- a lawful script's next is no receive by itself
pub no_receive : (s : ℕ → Script) → ((p : ℕ) → IsLawful (s p)) → {M : ℕ} {E : List Event} → IsRun s M E → (p set : ℕ) (id : LetterId) → (s p).next (messages E p) (count E p) ≡ Goes (Accepted set id) → ⊥
no_receive s law h p set id n =
    let k = (so_far s law h).histories p in
    (law p).no_receive k.steps set id k.is (ap₂ (s p).next k.took k.made ∙ n)

-- a letter that a lawful script sends is on a channel from 0 to 31
sent_channel : (s : Script) → IsLawful s → (h : List Step) → IsHistory s h → (p : ProcNo) (k : Kind) (m : Message) → next_after s h ≡ Goes k → message_sent p k ≡ Some m → m.chan < 32
sent_channel s law h is p (Line x) m n l = cc
sent_channel s law h is p (Sent number dest chan len words) m n l = subst (λ c. c < 32) (chan_of _ m l) (law.sized h number dest chan len words is n).0
  where
    chan_of : (l m : Message) → Some l ≡ Some m → l.chan ≡ m.chan
    chan_of l m h = let e : l ≡ m = cc in ap (λ x. x.chan) e
sent_channel s law h is p (Accepted set id) m n l = cc
sent_channel s law h is p (Printed x) m n l = cc
sent_channel s law h is p (Ended x) m n l = cc
sent_channel s law h is p (Faulted x) m n l = cc

pub channel_below : (s : ℕ → Script) → ((p : ℕ) → IsLawful (s p)) → {M : ℕ} {E : List Event} → IsRun s M E → (a : Event) (m : Message) → Sends E a m → m.chan < 32
channel_below s law none a m h = absurd (nothing_in a h.in_list)
channel_below s law {M = M} (more {xs = E} {x = e} g f) a m h = elim (Contains-push_cases E e a h.in_list) [
  | inl o ↦ channel_below s law g a m record { in_list = o; letter = h.letter }
  | inr w ↦ go ((s e.proc.no).next (messages E e.proc.no) (count E e.proc.no)) refl f.next_kind (ap (λ z. message_sent z.proc z.kind) w ∙ h.letter)
]
  where
    go : (n : Next) → (s e.proc.no).next (messages E e.proc.no) (count E e.proc.no) ≡ n → KindFits M E e n → message_sent e.proc e.kind ≡ Some m → m.chan < 32
    go (Goes kind) n k l =
        let r = (so_far s law g).histories e.proc.no in
        sent_channel (s e.proc.no) (law e.proc.no) r.steps r.is e.proc kind m (ap₂ (s e.proc.no).next r.took r.made ∙ n) (ap (message_sent e.proc) (sym k) ∙ l)
    go (Wants set) n k l = absurd (no_letter e set k.0.id m k.1 l)
    go Over n k l = absurd k
