-- What a session did with an input that is told.
use Rattle.std.proofs.Common.{◌≡◌, ℕ, ◌+◌, ◌<◌, ◌≤◌, true, false, List, [], ◌++◌, length, take, drop, refl, sym, ap, ◌∙◌, subst, append-nil, arith, inl, inr, Option, Some, None, length-append, length-take}
use Rattle.std.specs.Prelude.{◌⊎◌, IfSome}
use Rattle.std.specs.Io.KnownBytes.{Consumes}
use Rattle.std.proofs.lemmas.List.{take_all, take_at, drop_at, take-take, take-append-le, take-append-drop}
use Rattle.std.proofs.lemmas.Bool.{cases_lt}
use Rattle.watchers.specs.Watched.{Watched}
use Rattle.debugger.specs.Sittings.{Sitting}
use Rattle.nm_top.specs.declared.talk.TheConstants.{MAX_INPUT_BYTES}
use Rattle.nm_top.specs.declared.talk.End.{End}
use Rattle.nm_top.specs.declared.talk.End.TheVariants as ends
use Rattle.nm_top.specs.Debugging.{ended_lines, lines_of, before_quit, quits, read_of, IsFront, EndsAfter, Talked}
use Rattle.nm_top.specs.private.Talking.{Origin, Answered, Broken, Short, Finished}
use Rattle.nm_top.proofs.SplitFacts.{front_trans}
use Rattle.nm_top.proofs.QuitFacts.{quits_more, before_more, before_last, before_ended_front, before_all_front}

-- ---- fronts of an input

fronts_by : (most : ℕ) (bytes rest : List ℕ) → (most < length bytes) ⊎ (length bytes ≤ most)
    → take (length bytes) (take most (bytes ++ rest)) ≡ take most bytes
fronts_by most bytes rest (inl long) =
    let front : take most (bytes ++ rest) ≡ take most bytes = take-append-le most bytes rest (omega (arith, long)) in
    let size : length (take most bytes) ≤ length bytes = omega (arith, length-take most bytes) in
    ap (take (length bytes)) front ∙ take_all (length bytes) (take most bytes) size
fronts_by most bytes rest (inr few) =
    take-take (length bytes) most (bytes ++ rest) few ∙ take_at bytes rest (length bytes) refl ∙ sym (take_all most bytes few)

-- the bytes that were taken, as far as they are read
pub fronts : (most : ℕ) (bytes rest : List ℕ) → take (length bytes) (take most (bytes ++ rest)) ≡ take most bytes
fronts most bytes rest = fronts_by most bytes rest (cases_lt most (length bytes))

read_is : (most : ℕ) (bytes rest : List ℕ) → take most (bytes ++ rest) ≡ take most bytes ++ drop (length bytes) (take most (bytes ++ rest))
read_is most bytes rest =
    sym (take-append-drop (length bytes) (take most (bytes ++ rest)))
    ∙ ap (λ xs. xs ++ drop (length bytes) (take most (bytes ++ rest))) (fronts most bytes rest)

-- ---- how the session ended

module _ (n : ℕ) (bytes rest : List ℕ) where
  abbrev input : List ℕ
  input = bytes ++ rest

  abbrev front : List ℕ
  front = take MAX_INPUT_BYTES bytes

  abbrev behind : List ℕ
  behind = drop (length bytes) (read_of input)

  is_read : read_of input ≡ front ++ behind
  is_read = read_is MAX_INPUT_BYTES bytes rest

  -- at a line `quit`
  quit_ends : quits n front ≡ true → EndsAfter n input (length bytes) (before_quit n (ended_lines front)) ends.Over
  quit_ends e =
      let all : quits n (read_of input) ≡ true = ap (quits n) is_read ∙ quits_more n front behind e in (
        sym (before_last n (read_of input) all ∙ ap (λ xs. before_quit n (ended_lines xs)) is_read ∙ before_more n front behind e),
        inl (ap (quits n) (fronts MAX_INPUT_BYTES bytes rest) ∙ e),
      )

  -- at the end of the input
  all_read : rest ≡ [] → length bytes ≤ MAX_INPUT_BYTES → read_of input ≡ bytes
  all_read none few = ap (λ xs. read_of (bytes ++ xs)) none ∙ ap read_of (append-nil bytes) ∙ take_all MAX_INPUT_BYTES bytes few

  over_ends : rest ≡ [] → length bytes ≤ MAX_INPUT_BYTES → EndsAfter n input (length bytes) (before_quit n (lines_of bytes)) ends.Over
  over_ends none few = (
    sym (ap (λ xs. before_quit n (lines_of xs)) (all_read none few)),
    inr (sym (ap (λ xs. length (bytes ++ xs)) none ∙ ap length (append-nil bytes)), few),
  )

  fault_ends : quits n bytes ≡ false → length bytes ≤ MAX_INPUT_BYTES → EndsAfter n input (length bytes) (ended_lines bytes) ends.InputFault
  fault_ends quiet few =
      let is : take (length bytes) input ≡ bytes = take_at bytes rest (length bytes) refl in
      (sym (ap ended_lines is), ap (quits n) is ∙ quiet, few)

  full_ends : quits n front ≡ false → length bytes ≡ MAX_INPUT_BYTES + 1 → EndsAfter n input (length bytes) (ended_lines front) ends.InputFull
  full_ends quiet full =
      let is : read_of input ≡ front = take-append-le MAX_INPUT_BYTES bytes rest (omega (arith, full)) in
      (sym (ap ended_lines is), ap (quits n) is ∙ quiet, full)

  -- at a fault
  some_front : (some : List (List ℕ)) → IsFront some (before_quit n (ended_lines front)) → IsFront some (before_quit n (lines_of (read_of input)))
  some_front some f =
      front_trans some (before_quit n (ended_lines (read_of input))) (before_quit n (lines_of (read_of input)))
      (subst (λ xs. IsFront some (before_quit n (ended_lines xs))) (sym is_read)
      (front_trans some (before_quit n (ended_lines front)) (before_quit n (ended_lines (front ++ behind))) f (before_ended_front n front behind)))
      (before_all_front n (read_of input))

  last_front : (some : List (List ℕ)) → rest ≡ [] → length bytes ≤ MAX_INPUT_BYTES → IsFront some (before_quit n (lines_of bytes))
      → IsFront some (before_quit n (lines_of (read_of input)))
  last_front some none few f = subst (λ xs. IsFront some (before_quit n (lines_of xs))) (sym (all_read none few)) f

-- ---- the whole

module _ {M : Type 0} (o : Origin) (bytes rest : List ℕ) (new : Sitting M) (after : List Watched) (given : Option (List ℕ))
    (few : length bytes ≤ MAX_INPUT_BYTES + 1) where
  abbrev Whole : End → Type 0
  Whole end = Talked o.program o.content o.session o.watch (bytes ++ rest) (Some rest) new after o.given given end

  within : length bytes ≤ length (bytes ++ rest)
  within = omega (arith, length-append bytes rest)

  left_is : Some rest ≡ Some (drop (length bytes) (bytes ++ rest))
  left_is = ap Some (sym (drop_at bytes rest (length bytes) refl))

  answered_over : (lines : List (List ℕ)) → EndsAfter o.content.n (bytes ++ rest) (length bytes) lines ends.Over → Answered o lines new after given → Whole ends.Over
  answered_over lines e x = record {
    k = length bytes;
    lines = lines;
    text = x.text;
    next = x.next;
    watch = after;
    within = within;
    few = few;
    is_left = left_is;
    ends = e;
    talks = x.talks;
    printed = x.printed;
    stands = (x.stands, refl);
  }

  answered_fault : (lines : List (List ℕ)) → EndsAfter o.content.n (bytes ++ rest) (length bytes) lines ends.InputFault → Answered o lines new after given → Whole ends.InputFault
  answered_fault lines e x = record {
    k = length bytes;
    lines = lines;
    text = x.text;
    next = x.next;
    watch = after;
    within = within;
    few = few;
    is_left = left_is;
    ends = e;
    talks = x.talks;
    printed = x.printed;
    stands = (x.stands, refl);
  }

  answered_full : (lines : List (List ℕ)) → EndsAfter o.content.n (bytes ++ rest) (length bytes) lines ends.InputFull → Answered o lines new after given → Whole ends.InputFull
  answered_full lines e x = record {
    k = length bytes;
    lines = lines;
    text = x.text;
    next = x.next;
    watch = after;
    within = within;
    few = few;
    is_left = left_is;
    ends = e;
    talks = x.talks;
    printed = x.printed;
    stands = (x.stands, refl);
  }

  broken : (lines : List (List ℕ)) → IsFront lines (before_quit o.content.n (lines_of (read_of (bytes ++ rest)))) → Broken o lines new after given → Whole ends.Write
  broken lines f x = record {
    k = length bytes;
    lines = lines;
    text = x.text;
    next = x.next;
    watch = after;
    within = within;
    few = few;
    is_left = left_is;
    ends = f;
    talks = x.talks;
    printed = x.printed;
    stands = (x.stands, refl);
  }

  cut_short : (lines : List (List ℕ)) → IsFront lines (before_quit o.content.n (lines_of (read_of (bytes ++ rest)))) → Short o lines given → Whole ends.Memory
  cut_short lines f x = record {
    k = length bytes;
    lines = lines;
    text = x.text;
    next = x.next;
    watch = x.watch;
    within = within;
    few = few;
    is_left = left_is;
    ends = f;
    talks = x.talks;
    printed = x.printed;
    stands = tt;
  }

  abbrev n : ℕ
  n = o.content.n

  whole_of : (end : End) → Finished o bytes (Some rest) new after given end → Whole end
  whole_of ends.Over (inl h) = answered_over _ (quit_ends n bytes rest h.1) h.0
  whole_of ends.Over (inr h) = answered_over _ (over_ends n bytes rest h.1 h.2) h.0
  whole_of ends.InputFault h = answered_fault _ (fault_ends n bytes rest h.1 h.2) h.0
  whole_of ends.InputFull h = answered_full _ (full_ends n bytes rest h.1 h.2) h.0
  whole_of ends.Write (inl h) = broken h.0 (some_front n bytes rest h.0 h.1) h.2
  whole_of ends.Write (inr h) = broken h.0.0 (last_front n bytes rest h.0.0 h.1 h.2 h.0.1) h.0.2
  whole_of ends.Memory (inl h) = cut_short h.0 (some_front n bytes rest h.0 h.1) h.2
  whole_of ends.Memory (inr h) = cut_short h.0.0 (last_front n bytes rest h.0.0 h.1 h.2 h.0.1) h.0.2

pub told : {M : Type 0} (o : Origin) (bytes : List ℕ) (left left' : Option (List ℕ)) (new : Sitting M) (after : List Watched) (given : Option (List ℕ)) (end : End)
    → Consumes left left' bytes → length bytes ≤ MAX_INPUT_BYTES + 1 → Finished o bytes left' new after given end
    → IfSome left (λ input. Talked o.program o.content o.session o.watch input left' new after o.given given end)
told o bytes None left' new after given end takes few h = tt
told o bytes (Some known) None new after given end takes few h = absurd takes
told o bytes (Some known) (Some rest) new after given end takes few h =
    subst (λ xs. Talked o.program o.content o.session o.watch xs (Some rest) new after o.given given end) (sym takes)
    (whole_of o bytes rest new after given few end h)

-- the same over the bytes that were taken, where the source doesn't tell its bytes

ended_by : (left : Option (List ℕ)) {M : Type 0} (o : Origin) (bytes : List ℕ) (new : Sitting M) (after : List Watched) (given : Option (List ℕ)) (end : End)
    → Finished o bytes left new after given end → Finished o bytes (Some []) new after given end
ended_by left o bytes new after given ends.Over (inl h) = inl h
ended_by left o bytes new after given ends.Over (inr h) = inr (h.0, refl, h.2)
ended_by left o bytes new after given ends.InputFault h = h
ended_by left o bytes new after given ends.InputFull h = h
ended_by left o bytes new after given ends.Write (inl h) = inl h
ended_by left o bytes new after given ends.Write (inr h) = inr (h.0, refl, h.2)
ended_by left o bytes new after given ends.Memory (inl h) = inl h
ended_by left o bytes new after given ends.Memory (inr h) = inr (h.0, refl, h.2)

pub taken_alone : {M : Type 0} (o : Origin) (bytes : List ℕ) (left : Option (List ℕ)) (new : Sitting M) (after : List Watched) (given : Option (List ℕ)) (end : End)
    → length bytes ≤ MAX_INPUT_BYTES + 1 → Finished o bytes left new after given end
    → Talked o.program o.content o.session o.watch bytes (Some []) new after o.given given end
taken_alone o bytes left new after given end few h =
    subst (λ xs. Talked o.program o.content o.session o.watch xs (Some []) new after o.given given end) (append-nil bytes)
    (whole_of o bytes [] new after given few end (ended_by left o bytes new after given end h))
