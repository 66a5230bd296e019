-- What the words of a row ask.
use Rattle.std.proofs.Common.{◌≡◌, ℕ, Bool, true, false, List, Option, Some, None, refl, sym, ap, ◌∙◌}
use Rattle.std.specs.Prelude.{nat_lt, codes, if◌then◌else◌}
use Rattle.std.specs.Option.{option_map, option_map_or}
use Rattle.std.specs.Str.{bytes_eq}
use Rattle.nm_base.specs.Decimal.{number_of}
use Rattle.report.specs.declared.replies.Spot.TheVariants as spot
use Rattle.debugger.specs.declared.line.Line.{Line}
use Rattle.debugger.specs.declared.rows.Who.{Who}
use Rattle.debugger.specs.declared.rows.Who.TheVariants as who
use Rattle.debugger.specs.declared.rows.Look.{Look}
use Rattle.debugger.specs.declared.rows.Look.TheVariants as look
use Rattle.debugger.specs.Lines.{Asked, NotALine, NotAProcess, SetBreak, Compare, break_at, with_number, with_process, without_process}
use Rattle.debugger.specs.private.Asking.{asked, asks, by_who, order_of, spot_in, who_in}

process_by : (n : ℕ) (word : List ℕ) (ask : ℕ → Asked) → with_process n word ask ≡ by_who (who_in n word) ask
process_by n word ask = by (number_of word)
  where
    test : (p : ℕ) (t : Bool) → (if t then ask p else without_process (ask p)) ≡ by_who (if t then who.Present (record { no = p }) else who.Absent p) ask
    test p true = refl
    test p false = refl

    by : (o : Option ℕ)
        → option_map_or (λ p. if nat_lt p n then ask p else without_process (ask p)) o NotALine
        ≡ by_who (option_map_or (λ p. if nat_lt p n then who.Present (record { no = p }) else who.Absent p) o who.NoNumber) ask
    by None = refl
    by (Some p) = test p (nat_lt p n)

-- a line that asks of the process that a word says
pub asked_process : (n : ℕ) (word : List ℕ) (ask : ℕ → Asked) (w : Who) (l : Line) → w ≡ who_in n word → asked l ≡ by_who w ask → asked l ≡ with_process n word ask
asked_process n word ask w l said asks = asks ∙ ap (λ v. by_who v ask) said ∙ sym (process_by n word ask)

-- the same of a process, by another function
pub asked_alike : (n : ℕ) (word : List ℕ) (ask other : ℕ → Asked) → ((p : ℕ) → ask p ≡ other p) → with_process n word ask ≡ with_process n word other
asked_alike n word ask other same = λ i. with_process n word (λ p. same p i)

none_asked : (w : Who) → by_who w (λ p. NotALine) ≡ NotALine
none_asked who.NoNumber = refl
none_asked (who.Absent p) = refl
none_asked (who.Present p) = refl

-- no line, whatever the process
pub no_line : (n : ℕ) (word : List ℕ) (ask : ℕ → Asked) → ((p : ℕ) → ask p ≡ NotALine) → NotALine ≡ with_process n word ask
no_line n word ask none =
    sym (asked_alike n word ask (λ p. NotALine) none ∙ process_by n word (λ p. NotALine) ∙ none_asked (who_in n word))

pub absent_look : (what : Look) (p : ℕ) → NotAProcess ≡ without_process (asks what p)
absent_look look.Step p = refl
absent_look look.Frames p = refl
absent_look look.Output p = refl
absent_look look.Mail p = refl
absent_look look.Clock p = refl

-- a breakpoint by the spot that a word says
pub break_is : (at : List ℕ) (p : ℕ) → break_at at p ≡ option_map_or (SetBreak p) (spot_in at) NotALine
break_is at p = by (bytes_eq at (codes "recv"))
  where
    lines : (o : Option ℕ) → option_map_or (λ l. SetBreak p (spot.Line l)) o NotALine ≡ option_map_or (SetBreak p) (option_map spot.Line o) NotALine
    lines None = refl
    lines (Some l) = refl

    by : (t : Bool)
        → (if t then SetBreak p spot.Receive else with_number at (λ l. SetBreak p (spot.Line l)))
        ≡ option_map_or (SetBreak p) (if t then Some spot.Receive else option_map spot.Line (number_of at)) NotALine
    by true = refl
    by false = lines (number_of at)

-- ---- two events

module _ (n : ℕ) (a b c d : List ℕ) where
  abbrev by_numbers : Option ℕ → Option ℕ → Asked
  by_numbers m o =
      with_process n a (λ p. option_map_or (λ k. with_process n c (λ q. option_map_or (Compare p k q) o NotALine)) m NotALine)

  pub order_none : None ≡ number_of b → NotALine ≡ order_of n a b c d
  order_none e = no_line n a (λ p. NotALine) (λ p. refl) ∙ ap (λ m. by_numbers m (number_of d)) e

  pub order_half : (k : ℕ) → Some k ≡ number_of b → None ≡ number_of d → NotALine ≡ order_of n a b c d
  order_half k e f =
      no_line n a (λ p. with_process n c (λ q. NotALine)) (λ p. sym (no_line n c (λ q. NotALine) (λ q. refl)))
      ∙ (λ i. by_numbers (e i) (f i))

  pub order_both : (k j : ℕ) (p q : Who) → Some k ≡ number_of b → Some j ≡ number_of d → p ≡ who_in n a → q ≡ who_in n c
      → by_who p (λ r. by_who q (λ s. Compare r k s j)) ≡ order_of n a b c d
  order_both k j p q e f at_a at_c =
      (λ i. by_who (at_a i) (λ r. by_who (at_c i) (λ s. Compare r k s j)))
      ∙ sym (process_by n a (λ r. by_who (who_in n c) (λ s. Compare r k s j)))
      ∙ (λ i. with_process n a (λ r. sym (process_by n c (λ s. Compare r k s j)) i))
      ∙ (λ i. by_numbers (e i) (f i))
