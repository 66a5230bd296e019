-- Which program a text is, and why a text is none.
use Rattle.std.specs.Prelude.{◌≡◌, ℕ, ◌≤◌, List, Option, Some, None, codes}
use Rattle.c_lexer.specs.declared.fault.LexFault.{LexFault}
use Rattle.c_lexer.specs.declared.fault.LexFault.TheVariants as lex
use Rattle.c_lexer.specs.declared.token.Token.{Token}
use Rattle.c_lexer.specs.Spelling.{Spells, Refused}
use Rattle.c_parser.specs.declared.fault.ParseFault.{ParseFault}
use Rattle.c_parser.specs.declared.fault.ParseFault.TheVariants as parse
use Rattle.c_parser.specs.Unit.{UnitOf}
use Rattle.c_parser.specs.Tokens.{nesting}
use Rattle.c_parser.specs.Faults.{IsLine, IsNestingLine, IsNoUnit}
use Rattle.c_tree.specs.declared.tree.Tree.{Tree}
use Rattle.c_tree.specs.declared.program.Program.{Program}
use Rattle.c_checker.specs.declared.fault.CheckFault.{CheckFault}
use Rattle.c_checker.specs.declared.fault.CheckFault.TheVariants as check
use Rattle.c_checker.specs.Units.{Checked, Breaks}

-- the text is spelled as tokens that derive this tree, in which no item is higher than 64
pub record HasTree (text : List ℕ) (tree : Tree) : Type 0 where
  pub tokens : List Token
  pub spelled : Spells text tokens
  pub derived : UnitOf tokens tree

-- the text is that of this program: its tree breaks no rule and stands for the program
pub record Reads (text : List ℕ) (program : Program) : Type 0 where
  pub tree : Tree
  pub has : HasTree text tree
  pub checked : Checked tree program

-- a broken rule, by its name, and the line where it is broken
pub record Cause : Type 0 where
  pub kind : List ℕ
  pub line : ℕ

abbrev pub caused : List ℕ → ℕ → Option Cause
caused kind line = Some (record { kind = kind; line = line })

-- the rule of a lexeme
abbrev pub lexer_cause : LexFault → Option Cause
lexer_cause (lex.BadByte line) = caused (codes "BadByte") line
lexer_cause (lex.OpenComment line) = caused (codes "OpenComment") line
lexer_cause (lex.OpenText line) = caused (codes "OpenText") line
lexer_cause (lex.BadConstant line) = caused (codes "BadConstant") line
lexer_cause (lex.BadEscape line) = caused (codes "BadEscape") line
lexer_cause (lex.LongName line) = caused (codes "LongName") line
lexer_cause (lex.LongText line) = caused (codes "LongText") line
lexer_cause lex.Memory = None

abbrev pub parser_cause : ParseFault → Option Cause
parser_cause (parse.Syntax line) = caused (codes "Syntax") line
parser_cause (parse.Deep line) = caused (codes "Deep") line
parser_cause parse.Memory = None

-- a rule of the checker
abbrev pub checker_cause : CheckFault → Option Cause
checker_cause (check.Undeclared line) = caused (codes "Undeclared") line
checker_cause (check.Twice line) = caused (codes "Twice") line
checker_cause (check.Mismatch line) = caused (codes "Mismatch") line
checker_cause (check.NotFunction line) = caused (codes "NotFunction") line
checker_cause (check.Arity line) = caused (codes "Arity") line
checker_cause (check.NotArray line) = caused (codes "NotArray") line
checker_cause (check.NotScalar line) = caused (codes "NotScalar") line
checker_cause (check.VoidValue line) = caused (codes "VoidValue") line
checker_cause (check.NotAssignable line) = caused (codes "NotAssignable") line
checker_cause (check.Format line) = caused (codes "Format") line
checker_cause (check.NotConstant line) = caused (codes "NotConstant") line
checker_cause (check.BadSize line) = caused (codes "BadSize") line
checker_cause (check.NoBody line) = caused (codes "NoBody") line
checker_cause (check.NoMain line) = caused (codes "NoMain") line
checker_cause (check.BreakOutside line) = caused (codes "BreakOutside") line
checker_cause (check.ContinueOutside line) = caused (codes "ContinueOutside") line
checker_cause (check.DoubleCase line) = caused (codes "DoubleCase") line
checker_cause (check.DoubleDefault line) = caused (codes "DoubleDefault") line
checker_cause (check.TooMany line) = caused (codes "TooMany") line
checker_cause check.Memory = None

-- Where tokens derive no tree without an item higher than 64: the line is that of some token; or at least 64 of them
-- nest, and it is the line of one of these.
abbrev pub MayBlame : List Token → ParseFault → Type 0
MayBlame tokens (parse.Syntax line) = IsLine tokens line
MayBlame tokens (parse.Deep line) = (64 ≤ nesting tokens) × IsNestingLine tokens line
MayBlame tokens parse.Memory = ⊥

-- The text is that of no program: its first broken lexeme breaks this rule; or it is spelled as tokens that derive no
-- tree without an item higher than 64; or it has a tree, which breaks this rule.
pub data RefusedFor (text : List ℕ) (why : Cause) : Type 0 where
  by_lexeme : (fault : LexFault) → Refused text fault → lexer_cause fault ≡ Some why → RefusedFor text why
  by_grammar : (tokens : List Token) (fault : ParseFault) → Spells text tokens → IsNoUnit tokens → MayBlame tokens fault
      → parser_cause fault ≡ Some why → RefusedFor text why
  by_rule : (tree : Tree) (fault : CheckFault) → HasTree text tree → Breaks tree fault → checker_cause fault ≡ Some why
      → RefusedFor text why

-- a text has at most one program, and none where it is refused
pub record OneProgram (text : List ℕ) : Type 0 where
  pub one : (p q : Program) → Reads text p → Reads text q → p ≡ q
  pub apart : (p : Program) (why : Cause) → Reads text p → RefusedFor text why → ⊥
