-- The texts of timestamps with equal parts are equal.
use Rattle.std.proofs.Common.{◌≡◌, ℕ, zero, suc, ◌++◌, sym, ap, ◌∙◌, arith, codes, List}
use Rattle.std.specs.List.{flat_map, range_with_len}
use Rattle.nm_base.specs.Message.{Message}
use Rattle.report.specs.Replies.{AgreeBelow, part_text, parts_text, waiting_line, clock_line, letter_text, word_text, clock_text}
use Rattle.report.proofs.Ranges.{blocks_more}

pub parts_alike : (n : ℕ) (parts other : ℕ → ℕ) → AgreeBelow n parts other → parts_text n parts ≡ parts_text n other
parts_alike zero parts other same = λ i. flat_map (part_text parts) (range_with_len 0 0)
parts_alike (suc n) parts other same =
    let one : part_text parts n ≡ part_text other n = ap (λ k. part_text (λ q. k) n) (same n (omega arith)) in
    let before = parts_alike n parts other (λ q low. same q (omega (arith, low))) in
    blocks_more (part_text parts) n ∙ (λ i. before i ++ one i) ∙ sym (blocks_more (part_text other) n)

pub waiting_alike : (n : ℕ) (m : Message) (parts other : ℕ → ℕ) → AgreeBelow n parts other → waiting_line n m parts ≡ waiting_line n m other
waiting_alike n m parts other same =
    ap (λ (t : List ℕ). letter_text m.id m.chan ++ flat_map word_text m.words ++ (codes " @" ++ t ++ codes "\n")) (parts_alike n parts other same)

pub clock_alike : (p n : ℕ) (parts other : ℕ → ℕ) → AgreeBelow n parts other → clock_line p n parts ≡ clock_line p n other
clock_alike p n parts other same = ap (λ (t : List ℕ). clock_text p ++ t ++ codes "\n") (parts_alike n parts other same)
