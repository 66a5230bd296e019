-- The lines of a debugger: the words of a line, and what they ask.
use Rattle.std.specs.Prelude.{ℕ, ◌==◌, ◌||◌, nat_lt, Bool, true, false, List, [], ◌∷◌, codes, Option, Some, None, if◌then◌else◌}
use Rattle.std.specs.Option.{option_map_or}
use Rattle.std.specs.Str.{bytes_eq}
use Rattle.nm_base.specs.Decimal.{number_of}
use Rattle.report.specs.declared.replies.Spot.{Spot}
use Rattle.report.specs.declared.replies.Spot.TheVariants as spot

-- ---- words

-- spaces and tabs separate words
abbrev pub is_blank : ℕ → Bool
is_blank b = (b == 32) || (b == 9)

-- a byte before a text with these words, whose first word begins with the text where the flag says so
abbrev pub word_before : ℕ → Bool → List (List ℕ) → List (List ℕ)
word_before b false words = (b ∷ []) ∷ words
word_before b true [] = (b ∷ []) ∷ []
word_before b true (word ∷ words) = (b ∷ word) ∷ words

-- whether the text begins with a word
abbrev pub begins_word : List ℕ → Bool
begins_word [] = false
begins_word (b ∷ text) = if is_blank b then false else true

-- the words of a line
abbrev pub words_of : List ℕ → List (List ℕ)
words_of [] = []
words_of (b ∷ text) = if is_blank b then words_of text else word_before b (begins_word text) (words_of text)

-- ---- what a line asks

pub data Asked : Type 0 where
  -- a line without words, and one that fits no row
  Nothing : Asked
  NotALine : Asked
  -- a line that fits a row, but for a process that there isn't
  NotAProcess : Asked
  -- `break P L`, `break P recv` and `clear K`
  SetBreak : (p : ℕ) → Spot → Asked
  Clear : (k : ℕ) → Asked
  -- `step`, `step P` and `run`
  Step : Asked
  StepOf : (p : ℕ) → Asked
  Run : Asked
  -- `back K`
  Back : (k : ℕ) → Asked
  -- `print P NAME` and `print P NAME I`
  Print : (p : ℕ) → (name : List ℕ) → (index : Option ℕ) → Asked
  -- `frames P`, `where`, `output P`, `mail P`, `clock P` and `last`
  Frames : (p : ℕ) → Asked
  Where : Asked
  Output : (p : ℕ) → Asked
  Mail : (p : ℕ) → Asked
  Clock : (p : ℕ) → Asked
  Last : Asked
  -- `watch` and `detach K`
  Watch : Asked
  Detach : (k : ℕ) → Asked
  -- `stop P K` and `avoid P K`: event K of process P
  Stop : (p k : ℕ) → Asked
  Avoid : (p k : ℕ) → Asked
  -- `order P K Q J`
  Compare : (p k q j : ℕ) → Asked
  -- `quit`
  Quit : Asked

-- asks of a number, if the word is one
abbrev pub with_number : List ℕ → (ℕ → Asked) → Asked
with_number word ask = option_map_or ask (number_of word) NotALine

-- a line that fits a row asks of a process that there isn't
abbrev pub without_process : Asked → Asked
without_process NotALine = NotALine
without_process asked = NotAProcess

-- asks of a process, if the word is the number of one of n
abbrev pub with_process : ℕ → List ℕ → (ℕ → Asked) → Asked
with_process n word ask = with_number word (λ p. if nat_lt p n then ask p else without_process (ask p))

-- ---- lines of one to five words

abbrev pub asked_by_one : List ℕ → Asked
asked_by_one verb =
    if bytes_eq verb (codes "step") then Step
    else (if bytes_eq verb (codes "run") then Run
    else (if bytes_eq verb (codes "where") then Where
    else (if bytes_eq verb (codes "last") then Last
    else (if bytes_eq verb (codes "watch") then Watch
    else (if bytes_eq verb (codes "quit") then Quit else NotALine)))))

abbrev pub asked_by_two : ℕ → List ℕ → List ℕ → Asked
asked_by_two n verb a =
    if bytes_eq verb (codes "step") then with_process n a StepOf
    else (if bytes_eq verb (codes "back") then with_number a Back
    else (if bytes_eq verb (codes "clear") then with_number a Clear
    else (if bytes_eq verb (codes "frames") then with_process n a Frames
    else (if bytes_eq verb (codes "output") then with_process n a Output
    else (if bytes_eq verb (codes "mail") then with_process n a Mail
    else (if bytes_eq verb (codes "clock") then with_process n a Clock
    else (if bytes_eq verb (codes "detach") then with_number a Detach else NotALine)))))))

-- a breakpoint at the receives, or at a line
abbrev pub break_at : List ℕ → ℕ → Asked
break_at at p = if bytes_eq at (codes "recv") then SetBreak p spot.Receive else with_number at
    (λ l. SetBreak p (spot.Line l))

abbrev pub asked_by_three : ℕ → List ℕ → List ℕ → List ℕ → Asked
asked_by_three n verb a b =
    if bytes_eq verb (codes "break") then with_process n a (break_at b)
    else (if bytes_eq verb (codes "print") then with_process n a (λ p. Print p b None)
    else (if bytes_eq verb (codes "stop") then with_process n a (λ p. with_number b (Stop p))
    else (if bytes_eq verb (codes "avoid") then with_process n a (λ p. with_number b (Avoid p)) else NotALine)))

abbrev pub asked_by_four : ℕ → List ℕ → List ℕ → List ℕ → List ℕ → Asked
asked_by_four n verb a b c =
    if bytes_eq verb (codes "print") then with_process n a (λ p. with_number c (λ i. Print p b (Some i))) else NotALine

abbrev pub asked_by_five : ℕ → List ℕ → List ℕ → List ℕ → List ℕ → List ℕ → Asked
asked_by_five n verb a b c d =
    if bytes_eq verb (codes "order")
    then with_process n a (λ p. with_number b (λ k. with_process n c (λ q. with_number d (Compare p k q))))
    else NotALine

-- what the words of a line ask in a session of n processes
abbrev pub asked_by : ℕ → List (List ℕ) → Asked
asked_by n [] = Nothing
asked_by n (verb ∷ []) = asked_by_one verb
asked_by n (verb ∷ a ∷ []) = asked_by_two n verb a
asked_by n (verb ∷ a ∷ b ∷ []) = asked_by_three n verb a b
asked_by n (verb ∷ a ∷ b ∷ c ∷ []) = asked_by_four n verb a b c
asked_by n (verb ∷ a ∷ b ∷ c ∷ d ∷ []) = asked_by_five n verb a b c d
asked_by n more = NotALine

abbrev pub asked_of : ℕ → List ℕ → Asked
asked_of n line = asked_by n (words_of line)
