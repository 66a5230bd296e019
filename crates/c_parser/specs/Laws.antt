-- Laws of the definitions alone.
use Rattle.std.specs.Prelude.{◌≡◌, List}
use Rattle.c_lexer.specs.declared.token.Token.{Token}
use Rattle.c_tree.specs.declared.tree.Tree.{Tree}
use Rattle.c_parser.specs.Unit.{UnitOf}

-- no two trees with items at most 64 high derive the same tokens
abbrev pub OneTree : Type 0
OneTree = (tokens : List Token) (a b : Tree) → UnitOf tokens a → UnitOf tokens b → a ≡ b
