-- Lines of tokens.
use Rattle.std.proofs.Common.{◌≡◌, ℕ, List, Option, Some, None}
use Rattle.c_lexer.specs.declared.token.Token.{Token}
use Rattle.c_parser.specs.Tokens.{nesting}
use Rattle.c_parser.specs.Faults.{IsLine, IsNestingLine}

-- what is a line of these tokens is one of all
abbrev pub Within : List Token → List Token → Type 0
Within ts all = (line : ℕ) → IsLine ts line → IsLine all line

abbrev pub NestsWithin : List Token → List Token → Type 0
NestsWithin ts all = (line : ℕ) → IsNestingLine ts line → IsNestingLine all line

-- the last nesting line so far, or none, and then all of them are left
abbrev pub NestSo : List Token → Option ℕ → List Token → Type 0
NestSo ts None all = nesting ts ≡ nesting all
NestSo ts (Some line) all = IsNestingLine all line
