-- Why tokens are refused, and on which line.
use Rattle.std.specs.Prelude.{◌≡◌, ◌⊎◌, ℕ, true, List, [], ◌∷◌, Result, Ok, Err}
use Rattle.c_lexer.specs.declared.token.Token.{Token}
use Rattle.c_tree.specs.declared.tree.Tree.{Tree}
use Rattle.c_parser.specs.declared.fault.ParseFault.{ParseFault}
use Rattle.c_parser.specs.declared.fault.ParseFault.TheVariants.{Syntax, Deep, Memory}
use Rattle.c_parser.specs.Tokens.{is_nesting}
use Rattle.c_parser.specs.Unit.{UnitOf}

-- the line is that of some token
abbrev pub IsLine : List Token → ℕ → Type 0
IsLine [] line = ⊥
IsLine (t ∷ ts) line = (t.line ≡ line) ⊎ IsLine ts line

-- the line is that of some nesting token
abbrev pub IsNestingLine : List Token → ℕ → Type 0
IsNestingLine [] line = ⊥
IsNestingLine (t ∷ ts) line = ((is_nesting t.kind ≡ true) × (t.line ≡ line)) ⊎ IsNestingLine ts line

-- the tokens derive no tree without an item higher than 64
abbrev pub IsNoUnit : List Token → Type 0
IsNoUnit ts = (tree : Tree) → UnitOf ts tree → ⊥

-- the tree is answered, unless memory runs out
abbrev pub Answers : Result Tree ParseFault → Tree → Type 0
Answers (Ok x) tree = x ≡ tree
Answers (Err Memory) tree = Unit {0}
Answers (Err _) tree = ⊥

-- what holds where the syntax is refused, of its line
abbrev pub OnSyntax : Result Tree ParseFault → (ℕ → Type 0) → Type 0
OnSyntax (Err (Syntax line)) P = P line
OnSyntax _ P = Unit {0}

-- what holds where the depth is refused, of its line
abbrev pub OnDeep : Result Tree ParseFault → (ℕ → Type 0) → Type 0
OnDeep (Err (Deep line)) P = P line
OnDeep _ P = Unit {0}
