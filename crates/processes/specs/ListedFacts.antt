-- A list of kinds that are proper is a lawful script.
use Rattle.std.proofs.Common.{◌≡◌, ℕ, zero, suc, ◌+◌, ◌<◌, Bool, true, false, cond, List, [], ◌∷◌, length, Option, Some, None, refl, sym, ap, ◌∙◌, subst, inl, inr, arith, length-append, add-one}
use Rattle.std.specs.Prelude.{filter, Contains, not, ◌||◌, ◌&&◌, ◌==◌, nat_lt, nat_le, slice_get}
use Rattle.std.proofs.lemmas.Bool.{false≢true, and_parts, eqb-true, ltb-true, leb-true}
use Rattle.std.proofs.lemmas.List.Elements.{filter-append, Contains-push_cases}
use Rattle.nm_base.specs.declared.letter.ProcNo.{ProcNo}
use Rattle.nm_base.specs.declared.letter.LetterId.{LetterId}
use Rattle.nm_base.specs.declared.letter.Letter.{Letter}
use Rattle.nm_base.specs.declared.kind.Kind.{Kind}
use Rattle.nm_base.specs.declared.kind.Kind.TheVariants.{Line, Sent, Accepted, Printed, Ended, Faulted}
use Rattle.nm_base.specs.Fitting.{none, more}
use Rattle.nm_base.specs.Channels.{has_channel}
use Rattle.nm_base.specs.Message.{Message}
use Rattle.nm_base.specs.Scripts.{Script, Goes, Wants, Step, Made, Took, kind_in, StepFits, IsHistory, is_send, is_last, IsLawful}
use Rattle.processes.specs.declared.proc.Look.{Look}
use Rattle.processes.specs.declared.proc.Look.TheVariants.{Able, Waiting}
use Rattle.processes.specs.Standing.{Makes, Shows, CanTake}
use Rattle.processes.specs.Listed.{next_of, look_of, listed, is_end, is_proper, are_proper}

sends_if : Option Kind → ℕ
sends_if None = 0
sends_if (Some kind) = cond (is_send kind) 1 0

-- how many of the first k kinds are sends
sends_before : List Kind → ℕ → ℕ
sends_before kinds zero = 0
sends_before [] (suc k) = 0
sends_before (x ∷ kinds) (suc k) = cond (is_send x) 1 0 + sends_before kinds k

add_one_if : (b : Bool) (n k : ℕ) → cond b (n + 1) n + k ≡ n + (cond b 1 0 + k)
add_one_if true n k = omega arith
add_one_if false n k = omega arith

proper_at : (sent : ℕ) (kinds : List Kind) (k : ℕ) (x : Kind) → are_proper sent kinds ≡ true
    → slice_get kinds k ≡ Some x → is_proper (sent + sends_before kinds k) x ≡ true
unfolding sends_before
proper_at sent [] k x h e = cc
proper_at sent (y ∷ kinds) zero x h e =
    subst (λ n. is_proper n x ≡ true) (omega arith) (subst (λ o. is_proper_if sent o ≡ true) e (and_parts _ _ h).0)
  where
    is_proper_if : ℕ → Option Kind → Bool
    is_proper_if n None = true
    is_proper_if n (Some x) = is_proper n x
proper_at sent (y ∷ kinds) (suc k) x h e =
    subst (λ n. is_proper n x ≡ true) (add_one_if (is_send y) sent (sends_before kinds k))
    (proper_at (cond (is_send y) (sent + 1) sent) kinds k x (and_parts _ _ (and_parts _ _ h).1).1 e)

none_after : (b : Bool) (kinds : List Kind) → (not b || is_end kinds) ≡ true → b ≡ true → (j : ℕ)
    → slice_get kinds j ≡ None
none_after b [] h t j = refl
none_after true (x ∷ kinds) h t j = absurd (false≢true h)
none_after false (x ∷ kinds) h t j = absurd (false≢true t)

is_last_if : Option Kind → Bool
is_last_if None = false
is_last_if (Some kind) = is_last kind

none_past : (sent : ℕ) (kinds : List Kind) (k j : ℕ) → are_proper sent kinds ≡ true
    → is_last_if (slice_get kinds k) ≡ true → k < j → slice_get kinds j ≡ None
unfolding is_last_if
none_past sent [] k j h f l = refl
none_past sent (x ∷ kinds) k zero h f l = absurd (omega (arith, l))
none_past sent (x ∷ kinds) zero (suc j) h f l = none_after (is_last x) kinds (and_parts _ _ (and_parts _ _ h).1).0 f j
none_past sent (x ∷ kinds) (suc k) (suc j) h f l = none_past (cond (is_send x) (sent + 1) sent) kinds k j
    (and_parts _ _ (and_parts _ _ h).1).1 f (omega (arith, l))

-- one more kind
one_more : (kinds : List Kind) (k : ℕ)
    → sends_before kinds (suc k) ≡ sends_before kinds k + sends_if (slice_get kinds k)
unfolding sends_before sends_if
one_more [] zero = refl
one_more [] (suc k) = refl
one_more (x ∷ []) zero = omega arith
one_more (x ∷ y ∷ kinds) zero = omega arith
one_more (x ∷ kinds) (suc k) = ap (λ n. cond (is_send x) 1 0 + n) (one_more kinds k) ∙ omega arith

-- what it does next is the kind at the list's place
goes_at : (o : Option Kind) (kind : Kind) → next_of o ≡ Goes kind → o ≡ Some kind
goes_at None kind h = cc
goes_at (Some (Line line)) kind h = cc
goes_at (Some (Sent number dest chan len words)) kind h = cc
goes_at (Some (Accepted set id)) kind h = cc
goes_at (Some (Printed bytes)) kind h = cc
goes_at (Some (Ended value)) kind h = cc
goes_at (Some (Faulted cause)) kind h = cc

wants_no_send : (o : Option Kind) (set : ℕ) → next_of o ≡ Wants set → sends_if o ≡ 0
unfolding sends_if
wants_no_send None set h = refl
wants_no_send (Some (Line line)) set h = refl
wants_no_send (Some (Sent number dest chan len words)) set h = cc
wants_no_send (Some (Accepted other id)) set h = refl
wants_no_send (Some (Printed bytes)) set h = refl
wants_no_send (Some (Ended value)) set h = refl
wants_no_send (Some (Faulted cause)) set h = refl

no_accepting : (o : Option Kind) (set : ℕ) (id : LetterId) → next_of o ≡ Goes (Accepted set id) → ⊥
no_accepting None set id h = cc
no_accepting (Some (Line line)) set id h = cc
no_accepting (Some (Sent number dest chan len words)) set id h = cc
no_accepting (Some (Accepted other name)) set id h = cc
no_accepting (Some (Printed bytes)) set id h = cc
no_accepting (Some (Ended value)) set id h = cc
no_accepting (Some (Faulted cause)) set id h = cc

sends_of : (kinds : List Kind) (h : List Step) (x : Step) → StepFits (listed kinds) h x
    → length (filter (λ step. is_send (kind_in step)) (x ∷ [])) ≡ sends_if (slice_get kinds (length h))
unfolding sends_if
sends_of kinds h (Made kind) f = by (is_send kind) ∙ sym (ap sends_if (goes_at (slice_get kinds (length h)) kind f))
  where
    by : (b : Bool) → length (cond b (Made kind ∷ []) []) ≡ cond b 1 0
    by true = refl
    by false = refl
sends_of kinds h (Took set m) f = sym (wants_no_send (slice_get kinds (length h)) set f.0)

sends_in : (kinds : List Kind) {h : List Step} → IsHistory (listed kinds) h
    → length (filter (λ step. is_send (kind_in step)) h) ≡ sends_before kinds (length h)
unfolding sends_before
sends_in kinds none = refl
sends_in kinds (more {xs = h} {x = x} g f) =
    ap length (filter-append (λ step. is_send (kind_in step)) h (x ∷ []))
    ∙ length-append (filter (λ step. is_send (kind_in step)) h) _
    ∙ ap (λ n. n + length (filter (λ step. is_send (kind_in step)) (x ∷ []))) (sends_in kinds g)
    ∙ ap (λ n. sends_before kinds (length h) + n) (sends_of kinds h x f)
    ∙ sym (one_more kinds (length h))
    ∙ ap (sends_before kinds) (sym (length-append h (x ∷ []) ∙ add-one (length h)))

last_of : (kinds : List Kind) (h : List Step) (x : Step) → StepFits (listed kinds) h x → is_last (kind_in x) ≡ true
    → is_last_if (slice_get kinds (length h)) ≡ true
unfolding is_last_if
last_of kinds h (Made kind) f l = ap is_last_if (goes_at (slice_get kinds (length h)) kind f) ∙ l
last_of kinds h (Took set m) f l = absurd (false≢true l)

last_in : (kinds : List Kind) {h : List Step} → IsHistory (listed kinds) h → (step : Step) → Contains h step
    → is_last (kind_in step) ≡ true → (k : ℕ) × (k < length h) × (is_last_if (slice_get kinds k) ≡ true)
last_in kinds none step c l = absurd (omega (arith, c.1))
last_in kinds (more {xs = h} {x = x} g f) step c l = elim (Contains-push_cases h x step c) [
  | inl o ↦ let r = last_in kinds g step o l in (r.0, omega (arith, r.1, length-append h (x ∷ [])), r.2)
  | inr e ↦
      (length h, omega (arith, length-append h (x ∷ [])), last_of kinds h x f (ap (λ s. is_last (kind_in s)) e ∙ l))
]

pub listed_lawful : (kinds : List Kind) → are_proper 0 kinds ≡ true → IsLawful (listed kinds)
listed_lawful kinds proper = record {
  no_receive = λ h set id is n. no_accepting (slice_get kinds (length h)) set id n;
  numbered = λ h number dest chan len words is n.
      eqb-true number _ (parts h number dest chan len words n).0 ∙ sym (sends_in kinds is);
  sized = λ h number dest chan len words is n.
      let p = and_parts _ _ (parts h number dest chan len words n).1 in
      let q = and_parts _ _ p.1 in
      (ltb-true chan 32 p.0, ltb-true 0 len q.0, leb-true len 8 q.1);
  ends = λ h step is c l. let r = last_in kinds is step c l in
      ap next_of (none_past 0 kinds r.0 (length h) proper r.2 r.1);
}
  where
    parts : (h : List Step) (number : ℕ) (dest : ProcNo) (chan len : ℕ) (words : List ℕ)
        → next_of (slice_get kinds (length h)) ≡ Goes (Sent number dest chan len words)
        → ((number == sends_before kinds (length h)) ≡ true)
        × ((nat_lt chan 32 && (nat_lt 0 len && nat_le len 8)) ≡ true)
    parts h number dest chan len words n =
        and_parts _ _ (subst (λ k. is_proper k (Sent number dest chan len words) ≡ true) (omega arith)
        (proper_at 0 kinds (length h) (Sent number dest chan len words) proper
        (goes_at (slice_get kinds (length h)) (Sent number dest chan len words) n)))

shows_next : (o : Option Kind) → Shows (look_of o) (next_of o)
shows_next None = tt
shows_next (Some (Line line)) = tt
shows_next (Some (Sent number dest chan len words)) = tt
shows_next (Some (Accepted set id)) = refl
shows_next (Some (Printed bytes)) = tt
shows_next (Some (Ended value)) = tt
shows_next (Some (Faulted cause)) = tt

pub listed_shows : (s : Script) (letters : List Message) (k n : ℕ) (kinds : List Kind) → s ≡ listed kinds → k ≡ n
    → Shows (look_of (slice_get kinds n)) (s.next letters k)
listed_shows s letters k n kinds h e =
    subst (λ (s : Script). Shows (look_of (slice_get kinds n)) (s.next letters k)) (sym h)
    (subst (λ j. Shows (look_of (slice_get kinds n)) (next_of (slice_get kinds j))) (sym e)
    (shows_next (slice_get kinds n)))

pub lawful_at : (s : Script) (kinds : List Kind) → s ≡ listed kinds → are_proper 0 kinds ≡ true → IsLawful s
lawful_at s kinds h proper = subst IsLawful (sym h) (listed_lawful kinds proper)

-- an able process makes the kind at its place
able_goes : (o : Option Kind) (kind : Kind) → o ≡ Some kind → look_of o ≡ Able → next_of o ≡ Goes kind
able_goes None kind e a = cc
able_goes (Some (Line line)) kind e a = cc
able_goes (Some (Sent number dest chan len words)) kind e a = cc
able_goes (Some (Accepted set id)) kind e a = cc
able_goes (Some (Printed bytes)) kind e a = cc
able_goes (Some (Ended value)) kind e a = cc
able_goes (Some (Faulted cause)) kind e a = cc

pub listed_makes : (kinds : List Kind) (n : ℕ) (kind : Kind) → slice_get kinds n ≡ Some kind
    → look_of (slice_get kinds n) ≡ Able
    → Makes (λ s letters k. (s ≡ listed kinds) × (k ≡ n)) (λ s letters k. (s ≡ listed kinds) × (k ≡ n + 1)) kind
listed_makes kinds n kind at able s letters k h = (
  subst (λ (s : Script). s.next letters k ≡ Goes kind) (sym h.0)
      (subst (λ j. next_of (slice_get kinds j) ≡ Goes kind) (sym h.1) (able_goes (slice_get kinds n) kind at able)),
  (h.0, ap (λ j. j + 1) h.1),
)

pub can_take : (look : Look) (l : Letter) (set : ℕ) → look ≡ Waiting set → set ≡ 1 → l.chan ≡ 0 → CanTake look l
unfolding has_channel
can_take look l set h e c = subst (λ look. CanTake look l) (sym h)
    (ap (λ set. has_channel set l.chan) e ∙ ap (has_channel 1) c)
