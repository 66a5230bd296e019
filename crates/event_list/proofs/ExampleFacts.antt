-- The worked example.
use Rattle.std.proofs.Common.{◌≡◌, ℕ, zero, suc, ◌<◌, ◌≤◌, true, false, List, [], ◌∷◌, length, refl, sym, ap, ◌∙◌, subst, inl, inr, arith}
use Rattle.std.specs.Prelude.{filter, Contains}
use Rattle.std.proofs.lemmas.Bool.{false≢true}
use Rattle.std.proofs.lemmas.List.Elements.{Contains-push_cases}
use Rattle.nm_base.specs.declared.letter.ProcNo.{ProcNo}
use Rattle.nm_base.specs.declared.letter.LetterId.{LetterId}
use Rattle.nm_base.specs.declared.kind.Kind.{Kind}
use Rattle.nm_base.specs.declared.kind.Kind.TheVariants.{Sent, Accepted}
use Rattle.nm_base.specs.Fitting.{none, more}
use Rattle.nm_base.specs.Channels.{has_channel}
use Rattle.nm_base.specs.Scripts.{Script, Goes, Over, Step, Made, Took, kind_in, StepFits, IsHistory, is_send, is_last, IsLawful}
use Rattle.event_list.specs.declared.Event.{Event}
use Rattle.event_list.specs.Runs.{Sound}
use Rattle.event_list.specs.Races.{IsEarlier, IsLogged}
use Rattle.event_list.specs.Turns.{run_of}
use Rattle.event_list.specs.Example.{receiver_next, sender_next, three, name_of, letter_from, schedule, sending, taking_from, events}
use Rattle.event_list.proofs.Members.{empty, cons_cases}
use Rattle.event_list.proofs.RunsSound.{runs_sound, accepted_parts}
use Rattle.event_list.proofs.Soundness.{numbers}
use Rattle.event_list.proofs.TurnFacts.{run_of_runs}
use Rattle.event_list.proofs.Decisions.{logged_stamp}

receiver_waits : (k : ℕ) (kind : Kind) → receiver_next k ≡ Goes kind → ⊥
receiver_waits zero kind h = cc
receiver_waits (suc zero) kind h = cc
receiver_waits (suc (suc k)) kind h = cc

-- a receiver's history has receives alone
receives_only : {h : List Step} → IsHistory (three 0) h → (step : Step) → Contains h step → is_last (kind_in step) ≡ false
receives_only none step c = absurd (empty step c)
receives_only (more {xs = h} {x = x} g f) step c = elim (Contains-push_cases h x step c) [
  | inl o ↦ receives_only g step o
  | inr e ↦ subst (λ s. is_last (kind_in s) ≡ false) e (by x f)
]
  where
    by : (x : Step) → StepFits (three 0) h x → is_last (kind_in x) ≡ false
    by (Made kind) f = absurd (receiver_waits (length h) kind f)
    by (Took set m) f = refl

receiver_lawful : IsLawful (three 0)
receiver_lawful = record {
  no_receive = λ h set id is n. receiver_waits (length h) (Accepted set id) n;
  numbered = λ h number dest chan len words is n. absurd (receiver_waits (length h) (Sent number dest chan len words) n);
  sized = λ h number dest chan len words is n. absurd (receiver_waits (length h) (Sent number dest chan len words) n);
  ends = λ h step is c l. absurd (false≢true (sym (receives_only is step c) ∙ l));
}

abbrev the_sender : Script
the_sender = record { next = λ letters k. sender_next k }

record SentParts (number : ℕ) (dest : ProcNo) (chan len : ℕ) (words : List ℕ) : Type 0 where
  number_is : 0 ≡ number
  chan_is : 0 ≡ chan
  len_is : 1 ≡ len

sent_parts : (number : ℕ) (dest : ProcNo) (chan len : ℕ) (words : List ℕ) → Goes (Sent 0 (record { no = 0 }) 0 1 (7 ∷ [])) ≡ Goes (Sent number dest chan len words) → SentParts number dest chan len words
sent_parts number dest chan len words h = record { number_is = cc; chan_is = cc; len_is = cc }

over_sends : (kind : Kind) → Over ≡ Goes kind → ⊥
over_sends kind h = cc

sender_lawful : IsLawful the_sender
sender_lawful = record { no_receive = no_receive; numbered = numbered; sized = sized; ends = ends }
  where
    no_receive : (h : List Step) (set : ℕ) (id : LetterId) → IsHistory the_sender h → sender_next (length h) ≡ Goes (Accepted set id) → ⊥
    no_receive [] set id is n = cc
    no_receive (x ∷ h) set id is n = over_sends (Accepted set id) n

    numbered : (h : List Step) (number : ℕ) (dest : ProcNo) (chan len : ℕ) (words : List ℕ) → IsHistory the_sender h → sender_next (length h) ≡ Goes (Sent number dest chan len words) → number ≡ length (filter (λ step. is_send (kind_in step)) h)
    numbered [] number dest chan len words is n = sym (sent_parts number dest chan len words n).number_is
    numbered (x ∷ h) number dest chan len words is n = absurd (over_sends (Sent number dest chan len words) n)

    sized : (h : List Step) (number : ℕ) (dest : ProcNo) (chan len : ℕ) (words : List ℕ) → IsHistory the_sender h → sender_next (length h) ≡ Goes (Sent number dest chan len words) → (chan < 32) × (0 < len) × (len ≤ 8)
    sized [] number dest chan len words is n = let p = sent_parts number dest chan len words n in (omega (arith, p.chan_is), omega (arith, p.len_is), omega (arith, p.len_is))
    sized (x ∷ h) number dest chan len words is n = absurd (over_sends (Sent number dest chan len words) n)

    ends : (h : List Step) (step : Step) → IsHistory the_sender h → Contains h step → is_last (kind_in step) ≡ true → sender_next (length h) ≡ Over
    ends [] step is c l = absurd (empty step c)
    ends (x ∷ h) step is c l = refl

idle_lawful : IsLawful (record { next = λ letters k. Over })
idle_lawful = record {
  no_receive = λ h set id is n. over_sends (Accepted set id) n;
  numbered = λ h number dest chan len words is n. absurd (over_sends (Sent number dest chan len words) n);
  sized = λ h number dest chan len words is n. absurd (over_sends (Sent number dest chan len words) n);
  ends = λ h step is c l. refl;
}

pub lawful : (p : ℕ) → IsLawful (three p)
lawful zero = receiver_lawful
lawful (suc zero) = sender_lawful
lawful (suc (suc zero)) = sender_lawful
lawful (suc (suc (suc p))) = idle_lawful

pub run : run_of three 0 schedule ≡ events
unfolding has_channel
run = refl

sound : Sound 0 events
sound = subst (Sound 0) run (runs_sound three lawful (run_of_runs three lawful 0 schedule))

-- what stands in the list
four_cases : (P : Event → Type 0) (e : Event) → Contains events e → P (sending 1) → P (sending 2) → P (taking_from 1 1) → P (taking_from 2 2) → P e
four_cases P e h a b c d = elim (cons_cases (sending 1) (sending 2 ∷ taking_from 1 1 ∷ taking_from 2 2 ∷ []) e h) [
  | inl q ↦ subst P q a
  | inr h ↦ elim (cons_cases (sending 2) (taking_from 1 1 ∷ taking_from 2 2 ∷ []) e h) [
    | inl q ↦ subst P q b
    | inr h ↦ elim (cons_cases (taking_from 1 1) (taking_from 2 2 ∷ []) e h) [
      | inl q ↦ subst P q c
      | inr h ↦ elim (cons_cases (taking_from 2 2) [] e h) [ inl q ↦ subst P q d | inr h ↦ absurd (empty e h) ]
    ]
  ]
]

not_sent : (set number : ℕ) (dest : ProcNo) (chan len : ℕ) (words : List ℕ) (id : LetterId) → Sent number dest chan len words ≡ Accepted set id → ⊥
not_sent set number dest chan len words id h = cc

in_second : Contains events (sending 2)
in_second = (1, omega arith, refl)

in_third : Contains events (taking_from 1 1)
in_third = (2, omega arith, refl)

in_fourth : Contains events (taking_from 2 2)
in_fourth = (3, omega arith, refl)

names_zero : has_channel 1 0 ≡ true
unfolding has_channel
names_zero = refl

unordered : has_channel 0 0 ≡ true → ⊥
unfolding has_channel
unordered h = false≢true h

earlier : IsEarlier 0 events (letter_from 2) (taking_from 1 1)
earlier = record {
  could = record {
    sent = (sending 2, record { in_list = in_second; letter = refl });
    set = 1;
    took = name_of 1;
    receive = record { in_list = in_third; kind = refl };
    at_dest = refl;
    in_set = names_zero;
    before_own = λ r set h. four_cases (λ e. e.kind ≡ Accepted set (name_of 2) → 1 < e.number) r h.in_list
        (λ k. absurd (not_sent set 0 (record { no = 0 }) 0 1 (7 ∷ []) (name_of 2) k))
        (λ k. absurd (not_sent set 0 (record { no = 0 }) 0 1 (7 ∷ []) (name_of 2) k))
        (λ k. let n = ap (λ id. id.sender.no) (accepted_parts 1 set (name_of 1) (name_of 2) k).1 in absurd (omega (arith, n)))
        (λ k. omega arith) h.kind;
    in_order = λ ordered. absurd (unordered ordered);
  };
  last = λ r c. let n = c.before_own (taking_from 2 2) 1 record { in_list = in_fourth; kind = refl } in omega (arith, n);
}

pub logged : IsLogged 0 events (letter_from 2)
logged = (logged_stamp 0 events sound (letter_from 2) (taking_from 1 1) earlier).1 (omega arith)

pub not_logged : IsLogged 0 events (letter_from 1) → ⊥
not_logged l =
    let n = l.1.could.before_own (taking_from 1 1) 1 record { in_list = in_third; kind = refl } in
    let k = numbers sound l.0 l.1.could.receive.in_list in
    omega (arith, n, k.0)
