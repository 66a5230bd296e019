-- Sends, receives and prints stand before their events, or before a fault.
use Rattle.std.proofs.Common.{◌≡◌, ℕ, zero, suc, ◌+◌, ◌-◌, ◌<◌, ◌≤◌, ◌^◌, get_or, Bool, true, false, List, [], ◌∷◌, ◌++◌}
use Rattle.std.proofs.Common.{length, take, drop, reverse, refl, sym, ap, ◌∙◌, subst, arith, rules, tests, Vec, Global, Ok, lit<}
use Rattle.std.proofs.lemmas.Bool.{leb-true}
use Rattle.std.specs.Prelude.{IsTrue, nat_lt, nat_le, ◌&&◌, slice_index}
use Rattle.std.proofs.lemmas.List.{append-nil, reverse-append, length-reverse, length-take, get_or-reverse}
use Rattle.nm_base.specs.declared.kind.Kind.TheVariants.{Sent, Printed}
use Rattle.nm_base.specs.declared.kind.FaultCause.TheVariants.{Address, OutputFull}
use Rattle.nm_base.specs.declared.kind.Kind.{Kind}
use Rattle.nm_base.specs.declared.letter.Letter.{Letter}
use Rattle.nm_base.specs.declared.limits.TheConstants.{MAX_OUTPUT_BYTES}
use Rattle.stack_code.specs.declared.instr.Instr.TheVariants as instr
use Rattle.stack_code.specs.Code.{Code}
use Rattle.c_tree.specs.State.{Done, Run, ◌>>=◌, ◌>>◌, pure, read, change, happen}
use Rattle.c_tree.specs.Print.{printed}
use Rattle.c_tree.specs.Expr.{demand, padded, send, send_words, print}
use Rattle.stack_code.specs.Machine.{Control, popped, push, next}
use Rattle.proc_machine.specs.declared.execution.Execution.{Execution}
use Rattle.proc_machine.specs.declared.pause.Pause.TheVariants as pause
use Rattle.proc_machine.specs.private.Outcomes.{pause_by}
use Rattle.proc_machine.specs.View.{control_of, data_with}
use Rattle.proc_machine.specs.private.Moves.{Pauses, Keeps, given, sent_by}
use Rattle.proc_machine.proofs.Calling.{popped_are}

take_one : (xs : List ℕ) (i : ℕ) → i < length xs → take (suc i) xs ≡ take i xs ++ slice_index xs i ∷ []
take_one [] i h = absurd (omega (arith, h))
take_one (x ∷ xs) zero h = refl
take_one (x ∷ xs) (suc i) h = ap (λ l. x ∷ l) (take_one xs i (omega (arith, h)))

reverse_one : (xs : List ℕ) (i : ℕ) → i < length xs → reverse (take (suc i) xs) ≡ slice_index xs i ∷ reverse (take i xs)
reverse_one xs i h = ap reverse (take_one xs i h) ∙ reverse-append (take i xs) (slice_index xs i ∷ [])

-- operands that were taken off, in the order of pushing
pub taken_off : (n : ℕ) (own : List ℕ) → n ≤ length own → popped n own [] ≡ (reverse (take n own), drop n own)
taken_off n own h = popped_are n own [] h ∙ ap (λ (l : List ℕ). (l, drop n own)) (append-nil (reverse (take n own)))

first_of : (xs : List ℕ) → 1 ≤ length xs → (w : ℕ) × (ws : List ℕ) × (xs ≡ w ∷ ws)
first_of [] h = absurd (omega (arith, h))
first_of (w ∷ ws) h = (w, ws, refl)

abbrev sent_if : Bool → ℕ → ℕ → List ℕ → Run ℕ
sent_if b dest chan words = do
  demand b Address
  number ← read (λ s. s.sent)
  happen (Sent number (record { no = dest }) chan (length words) (padded words))
  change (λ s. record s { sent = s.sent + 1 })
  pure 0

abbrev printed_if : Bool → List ℕ → Run ℕ
printed_if b bytes = do
  demand b OutputFull
  happen (Printed (length bytes))
  change (λ s. record s { output = s.output ++ bytes })
  pure (length bytes)

take_all : (n : ℕ) (xs : List ℕ) → length xs ≤ n → take n xs ≡ xs
take_all zero [] h = refl
take_all zero (x ∷ xs) h = absurd (omega (arith, h))
take_all (suc n) [] h = refl
take_all (suc n) (x ∷ xs) h = ap (λ l. x ∷ l) (take_all n xs (omega (arith, h)))

module _ (e : Execution) where
  abbrev own : List ℕ
  own = e.calls.own

  abbrev c : Control
  c = control_of e

  module _ (count words : ℕ) (few : words + 2 ≤ length own) (some : 1 ≤ words) where
    abbrev dest : ℕ
    dest = slice_index own (words + 1)

    abbrev chan : ℕ
    chan = slice_index own words

    -- what is sent
    pub letter_words : (w : ℕ) × (ws : List ℕ) × (reverse (take words own) ≡ w ∷ ws)
    letter_words = first_of (reverse (take words own)) (let a = length-take words own in omega (arith, length-reverse (take words own), a, few, some))

    pub send_is : popped (words + 2) own [] ≡ (dest ∷ chan ∷ letter_words.0 ∷ letter_words.1, drop (words + 2) own)
    send_is =
        let n : words + 2 ≡ suc (words + 1) = omega arith in
        let m : words + 1 ≡ suc words = omega arith in
        let lt : words + 1 < length own = omega (arith, few) in
        let lt2 : words < length own = omega (arith, few) in
        taken_off (words + 2) own few
        ∙ ap (λ (l : List ℕ). (l, drop (words + 2) own)) (ap (λ k. reverse (take k own)) n ∙ reverse_one own (words + 1) lt
        ∙ ap (λ l. dest ∷ l) (ap (λ k. reverse (take k own)) m ∙ reverse_one own words lt2 ∙ ap (λ l. chan ∷ l) letter_words.2))

    abbrev test : Bool
    test = nat_lt dest count && nat_lt chan 32

    abbrev whole : List ℕ
    whole = take 8 (letter_words.0 ∷ letter_words.1)

    abbrev sending : Run Control
    sending = push c (popped (words + 2) own []).1 (send_words count (popped (words + 2) own []).0)

    pub sending_is : sending ≡ push c (drop (words + 2) own) (send count dest chan whole)
    sending_is = ap (λ (p : List ℕ × List ℕ). push c p.1 (send_words count p.0)) send_is

    pub send_pauses : test ≡ true → Pauses sending e pause.Send
    send_pauses h =
        subst (λ run. Pauses run e pause.Send) (sym sending_is)
        (subst (λ b. Pauses (push c (drop (words + 2) own) (sent_if b dest chan whole)) e pause.Send) (sym h) (record { stops = λ events. refl; next_is = λ events. refl; last = tt }))

    pub send_faults : test ≡ false → Pauses sending e (pause.Fault Address)
    send_faults h =
        subst (λ run. Pauses run e (pause.Fault Address)) (sym sending_is)
        (subst (λ b. Pauses (push c (drop (words + 2) own) (sent_if b dest chan whole)) e (pause.Fault Address)) (sym h)
        (record { stops = λ events. refl; next_is = λ events. refl; last = λ events. refl }))

    letter_is : words ≤ 8 → whole ≡ reverse (take words own)
    letter_is most =
        let len = ap (λ (l : List ℕ). length l) letter_words.2 in
        let a = length-take words own in
        let b = length-reverse (take words own) in
        take_all 8 (letter_words.0 ∷ letter_words.1) (omega (arith, len, a, b, most)) ∙ sym letter_words.2

    whole_length : words ≤ 8 → length whole ≡ words
    whole_length most =
        let a = length-take words own in
        let b = length-reverse (take words own) in
        let c = ap (λ (l : List ℕ). length l) (letter_is most) in
        omega (arith, a, b, c, few)

    abbrev kind_sent : Kind
    kind_sent = Sent e.sent (record { no = dest }) chan words (padded (reverse (take words own)))

    send_done : words ≤ 8 → test ≡ true → (events : List Kind)
        → sending (data_with e events 1) ≡ Done (next c (0 ∷ drop (words + 2) own)) (record (data_with e (kind_sent ∷ events) 0) { sent = e.sent + 1 })
    send_done most h events =
        ap (λ (run : Run Control). run (data_with e events 1)) sending_is
        ∙ ap (λ b. push c (drop (words + 2) own) (sent_if b dest chan whole) (data_with e events 1)) h
        ∙ ap (λ n. Done (next c (0 ∷ drop (words + 2) own)) (record (data_with e (Sent e.sent (record { no = dest }) chan n (padded whole) ∷ events) 0) { sent = e.sent + 1 })) (whole_length most)
        ∙ ap (λ l. Done (next c (0 ∷ drop (words + 2) own)) (record (data_with e (Sent e.sent (record { no = dest }) chan words (padded l) ∷ events) 0) { sent = e.sent + 1 })) (letter_is most)

    pub send_makes : (code : Code) (new : Execution) (letter : Letter) → words ≤ 8 → test ≡ true → letter.id.number ≡ e.sent → letter.dest.no ≡ dest → letter.chan ≡ chan → letter.len ≡ words
        → letter.words ≡ padded (reverse (take words own)) → new ≡ given (words + 2) (Ok 0) (record e { sent = e.sent + 1 })
        → ((events : List Kind) → sending (data_with e events 1) ≡ Done (control_of new) (data_with new (sent_by letter ∷ events) 0)) × Keeps code (instr.Send words) e new
    send_makes code new letter most h number to on len ws is =
        let same : kind_sent ≡ sent_by letter =
        ap (λ n. Sent n (record { no = dest }) chan words (padded (reverse (take words own)))) (sym number)
        ∙ ap (λ d. Sent letter.id.number (record { no = d }) chan words (padded (reverse (take words own)))) (sym to)
        ∙ ap (λ d. Sent letter.id.number letter.dest d words (padded (reverse (take words own)))) (sym on)
        ∙ ap (λ d. Sent letter.id.number letter.dest letter.chan d (padded (reverse (take words own)))) (sym len)
        ∙ ap (λ d. Sent letter.id.number letter.dest letter.chan letter.len d) (sym ws) in (
          λ events.
              send_done most h events
              ∙ ap (λ k. Done (next c (0 ∷ drop (words + 2) own)) (record (data_with e (k ∷ events) 0) { sent = e.sent + 1 })) same
              ∙ ap (λ (x : Execution). Done (control_of x) (data_with x (sent_by letter ∷ events) 0)) (sym is),
          subst (λ (x : Execution). Keeps code (instr.Send words) e x) (sym is) (record { small = (lit< tt, tt); height = refl; frames = λ f. f }),
        )

  module _ (text : List ℕ) (n : ℕ) (few : n ≤ length own) where
    abbrev bytes : List ℕ
    bytes = printed text (reverse (take n own))

    abbrev printing : Run Control
    printing = push c (popped n own []).1 (print (printed text (popped n own []).0))

    pub printing_is : printing ≡ push c (drop n own) (print bytes)
    printing_is = ap (λ (p : List ℕ × List ℕ). push c p.1 (print (printed text p.0))) (taken_off n own few)

    abbrev room : Bool
    room = nat_le (length e.output.items + length bytes) MAX_OUTPUT_BYTES

    pub print_pauses : room ≡ true → Pauses printing e pause.Print
    print_pauses h =
        subst (λ run. Pauses run e pause.Print) (sym printing_is)
        (record {
          stops = λ events. ap (λ b. push c (drop n own) (printed_if b bytes) (data_with e events 0)) h;
          next_is = λ events. ap (λ b. pause_by (push c (drop n own) (printed_if b bytes) (data_with e events 1))) h;
          last = tt;
        })

    pub print_faults : room ≡ false → Pauses printing e (pause.Fault OutputFull)
    print_faults h =
        subst (λ run. Pauses run e (pause.Fault OutputFull)) (sym printing_is)
        (record {
          stops = λ events. ap (λ b. push c (drop n own) (printed_if b bytes) (data_with e events 0)) h;
          next_is = λ events. ap (λ b. pause_by (push c (drop n own) (printed_if b bytes) (data_with e events 1))) h;
          last = λ events. ap (λ b. push c (drop n own) (printed_if b bytes) (data_with e events 1)) h;
        })

    print_done : room ≡ true → (events : List Kind)
        → printing (data_with e events 1) ≡ Done (next c (length bytes ∷ drop n own)) (record (data_with e (Printed (length bytes) ∷ events) 0) { output = e.output.items ++ bytes })
    print_done h events =
        ap (λ (run : Run Control). run (data_with e events 1)) printing_is
        ∙ ap (λ b. push c (drop n own) (printed_if b bytes) (data_with e events 1)) h

    pub print_makes : (code : Code) (number : ℕ) (new : Execution) (out : Vec ℕ Global) (len : ℕ) → room ≡ true → len < 2 ^ 32 → len ≡ length bytes → out.items ≡ e.output.items ++ bytes
        → new ≡ given n (Ok len) (record e { output = out })
        → ((events : List Kind) → printing (data_with e events 1) ≡ Done (control_of new) (data_with new (Printed len ∷ events) 0)) × Keeps code (instr.Print number) e new
    print_makes code number new out len h small is items same = (
      λ events.
          print_done h events
          ∙ ap (λ k. Done (next c (k ∷ drop n own)) (record (data_with e (Printed k ∷ events) 0) { output = e.output.items ++ bytes })) (sym is)
          ∙ ap (λ l. Done (next c (len ∷ drop n own)) (record (data_with e (Printed len ∷ events) 0) { output = l })) (sym items)
          ∙ ap (λ (x : Execution). Done (control_of x) (data_with x (Printed len ∷ events) 0)) (sym same),
      subst (λ (x : Execution). Keeps code (instr.Print number) e x) (sym same) (record { small = (small, tt); height = refl; frames = λ f. f }),
    )

pub word_bounds : (words : ℕ) → IsTrue (nat_le 1 words && nat_le words 8) → (1 ≤ words) × (words ≤ 8)
word_bounds words h = let b = both (nat_le 1 words) (nat_le words 8) h in (leb-true 1 words b.0, leb-true words 8 b.1)
  where
    both : (a b : Bool) → (a && b) ≡ true → (a ≡ true) × (b ≡ true)
    both true b h = (refl, h)
    both false b h = cc

pub is_below : (j n : ℕ) → j < n → IsTrue (nat_lt j n)
is_below j n h = search (rules, tests)

got_take : (own : List ℕ) (n j d : ℕ) → j < n → n ≤ length own → get_or (take n own) j d ≡ slice_index own j
got_take own zero j d h m = absurd (omega (arith, h))
got_take [] (suc n) j d h m = absurd (omega (arith, m))
got_take (x ∷ own) (suc n) zero d h m = refl
got_take (x ∷ own) (suc n) (suc j) d h m = got_take own n j d (omega (arith, h)) (omega (arith, m))

pub taken_words : (own : List ℕ) (n : ℕ) → n ≤ length own → ((j : ℕ) → j < n → slice_index own j < 2 ^ 32) → (k d : ℕ) → k < length (reverse (take n own)) → get_or (reverse (take n own)) k d < 2 ^ 32
taken_words own n m h k d lt =
    let len : length (take n own) ≡ n = let a = length-take n own in omega (arith, a, m) in
    let rev = length-reverse (take n own) in
    let k2 : k < length (take n own) = omega (arith, lt, rev) in
    let j = length (take n own) - 1 - k in
    let below : j < n = omega (arith, len, k2) in
    let small : slice_index own j < 2 ^ 32 = h j below in
    let P : ℕ → Type 0 = λ x. x < 2 ^ 32 in
    subst P (sym (get_or-reverse (take n own) k d k2 ∙ got_take own n j d below m)) small

pub has_room : (a b : ℕ) → a ≤ b → nat_le a b ≡ true
has_room a b h = search (rules, tests)

pub no_room : (a b : ℕ) → b < a → nat_le a b ≡ false
no_room a b h = search (rules, tests)
