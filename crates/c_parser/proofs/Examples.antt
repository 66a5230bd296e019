-- Expressions, statements and units along their tokens, by computing.
use Rattle.std.proofs.Common.{◌≡◌, ℕ, zero, suc, true, false, List, [], ◌∷◌, Some, None, refl}
use Rattle.std.specs.Prelude.{codes}
use Rattle.std.specs.List.{list_all}
use denote.Hole.Carrier.{hidden}
use Rattle.nm_base.specs.declared.operator.Ctype.TheVariants.{Int}
use Rattle.nm_base.specs.declared.operator.BinaryOp.TheVariants as op
use Rattle.c_lexer.specs.declared.token.Token.{Token}
use Rattle.c_lexer.specs.declared.token.Tok.{Tok}
use Rattle.c_lexer.specs.declared.token.Tok.TheVariants as tok
use Rattle.c_lexer.specs.declared.token.Mark.TheVariants as m
use Rattle.c_tree.specs.declared.tree.Expr.{Expr}
use Rattle.c_tree.specs.declared.tree.Expr.TheVariants as e
use Rattle.c_tree.specs.declared.tree.Expr.TheBlock.{shape-the_row-Expr-0, hidden-the_row-Expr-0}
use Rattle.c_lexer.specs.declared.token.Key.TheVariants as k
use Rattle.c_tree.specs.declared.tree.Stmt.{Stmt}
use Rattle.c_tree.specs.declared.tree.Stmt.TheVariants as stmt
use Rattle.c_tree.specs.declared.tree.Stmt.TheBlock.{shape-the_row-Stmt-0, hidden-the_row-Stmt-0, shape-the_row-Stmt-1, hidden-the_row-Stmt-1}
use Rattle.c_tree.specs.declared.tree.Stmt.TheBlock.{shape-the_row-Arm-2, hidden-the_row-Arm-2}
use Rattle.c_tree.specs.declared.tree.Label.{Label}
use Rattle.c_tree.specs.declared.tree.Head.{Head}
use Rattle.c_tree.specs.declared.tree.Item.{Item}
use Rattle.c_tree.specs.declared.tree.Item.TheVariants as item
use Rattle.c_parser.specs.Walk.{each}
use Rattle.c_parser.specs.Unit.{item_walk, item_fits, item_height}
use Rattle.c_parser.specs.Stmt.{stmt_part}
use Rattle.c_parser.specs.Expr.{part_of}

abbrev on : ℕ → Tok → Token
on line kind = record { kind = kind; bytes = []; line = line; start = 0; end = 0 }

abbrev one : Token
one = on 1 (tok.Const 1 Int)

abbrev num : Expr
num = e.Const 1 Int 1

abbrev sum : List Token
sum = one ∷ on 1 (tok.Mark m.Plus) ∷ one ∷ on 2 (tok.Mark m.Star) ∷ one ∷ on 2 (tok.Mark m.Semicolon) ∷ []

sums : ((part_of (e.Binary op.Add num (e.Binary op.Mul num num 1) 1)).walk sum ≡ Some (on 2 (tok.Mark m.Semicolon) ∷ []))
    × ((part_of (e.Binary op.Add num (e.Binary op.Mul num num 1) 1)).fits ≡ true)
    × ((part_of (e.Binary op.Add num (e.Binary op.Mul num num 1) 1)).height ≡ 3)
    × ((part_of (e.Binary op.Mul (e.Binary op.Add num num 1) num 1)).walk sum ≡ Some (on 2 (tok.Mark m.Semicolon) ∷ []))
    × ((part_of (e.Binary op.Mul (e.Binary op.Add num num 1) num 1)).fits ≡ false)
unfolding part_of hidden shape-the_row-Expr-0 hidden-the_row-Expr-0
sums = (refl, refl, refl, refl, refl)

-- if (1) if (1) ; else ;
abbrev dangling : List Token
dangling =
    let test = λ (rest : List Token). on 1 (tok.Keyword k.If) ∷ on 1 (tok.Mark m.LeftParen) ∷ one ∷ on 1 (tok.Mark m.RightParen) ∷ rest in
    test (test (on 1 (tok.Mark m.Semicolon) ∷ on 1 (tok.Keyword k.Else) ∷ on 1 (tok.Mark m.Semicolon) ∷ []))

abbrev empty : Stmt
empty = stmt.Empty 1

abbrev inner : Stmt
inner = stmt.If num (stmt.If num empty (Some empty) 1) None 1

abbrev outer : Stmt
outer = stmt.If num (stmt.If num empty None 1) (Some empty) 1

-- both trees take the tokens, and one keeps the rule on `else`
branches :
    ((stmt_part inner).walk dangling ≡ Some [])
    × ((stmt_part outer).walk dangling ≡ Some [])
    × ((stmt_part inner).fits ≡ true)
    × ((stmt_part outer).fits ≡ false)
    × ((stmt_part inner).height ≡ 3)
unfolding part_of stmt_part hidden shape-the_row-Expr-0 hidden-the_row-Expr-0 shape-the_row-Stmt-0 hidden-the_row-Stmt-0 shape-the_row-Stmt-1 hidden-the_row-Stmt-1
branches = (refl, refl, refl, refl, refl)

-- switch (1) { case 1: default: ; }
abbrev switched : List Token
switched =
    on 1 (tok.Keyword k.Switch) ∷ on 1 (tok.Mark m.LeftParen) ∷ one ∷ on 1 (tok.Mark m.RightParen) ∷ on 1 (tok.Mark m.LeftBrace) ∷
    on 1 (tok.Keyword k.Case) ∷ one ∷ on 1 (tok.Mark m.Colon) ∷ on 1 (tok.Keyword k.Default) ∷ on 1 (tok.Mark m.Colon) ∷
    on 1 (tok.Mark m.Semicolon) ∷ on 1 (tok.Mark m.RightBrace) ∷ []

abbrev case : Label
case = record { value = Some num; line = 1 }

abbrev default : Label
default = record { value = None; line = 1 }

abbrev switch : List Label → List Stmt → Stmt
switch labels list = stmt.Switch num (record { labels = labels; list = list } ∷ []) 1

-- an arm has a label and a statement
switches :
    ((stmt_part (switch (case ∷ default ∷ []) (empty ∷ []))).walk switched ≡ Some [])
    × ((stmt_part (switch (case ∷ default ∷ []) (empty ∷ []))).fits ≡ true)
    × ((stmt_part (switch (case ∷ default ∷ []) (empty ∷ []))).height ≡ 2)
    × ((stmt_part (switch [] (empty ∷ []))).fits ≡ false)
    × ((stmt_part (switch (case ∷ []) [])).fits ≡ false)
unfolding part_of stmt_part hidden shape-the_row-Expr-0 hidden-the_row-Expr-0 shape-the_row-Stmt-0 hidden-the_row-Stmt-0 shape-the_row-Stmt-1 hidden-the_row-Stmt-1 shape-the_row-Arm-2
    hidden-the_row-Arm-2
switches = (refl, refl, refl, refl, refl)

-- int f(void) { return 1; }
abbrev function : List Token
function =
    on 1 (tok.Keyword k.Int) ∷ record { kind = tok.Name; bytes = codes "f"; line = 1; start = 0; end = 0 } ∷ on 1 (tok.Mark m.LeftParen) ∷ on 1 (tok.Keyword k.Void) ∷
    on 1 (tok.Mark m.RightParen) ∷ on 1 (tok.Mark m.LeftBrace) ∷ on 1 (tok.Keyword k.Return) ∷ one ∷ on 1 (tok.Mark m.Semicolon) ∷ on 1 (tok.Mark m.RightBrace) ∷ []

abbrev head : Head
head = record { result = Some Int; name = codes "f"; params = []; line = 1 }

abbrev returns : Expr → Item
returns x = item.Function head (stmt.Block [] (stmt.Return (Some x) 1 ∷ []) 1)

functions : (each item_walk (returns num ∷ []) function ≡ Some []) × (list_all item_fits (returns num ∷ []) ≡ true) × (item_height (returns num) ≡ 3)
unfolding part_of stmt_part hidden shape-the_row-Expr-0 hidden-the_row-Expr-0 shape-the_row-Stmt-0 hidden-the_row-Stmt-0 shape-the_row-Stmt-1 hidden-the_row-Stmt-1
functions = (refl, refl, refl)

abbrev parenthesized : ℕ → Expr
parenthesized zero = num
parenthesized (suc n) = e.Paren (parenthesized n) 1

-- 61 pairs of parentheses in a returned value are as high as an item may be
heights : (item_height (returns (parenthesized 61)) ≡ 64) × (item_height (returns (parenthesized 62)) ≡ 65)
unfolding part_of stmt_part hidden shape-the_row-Expr-0 hidden-the_row-Expr-0 shape-the_row-Stmt-0 hidden-the_row-Stmt-0 shape-the_row-Stmt-1 hidden-the_row-Stmt-1
heights = (refl, refl)
