-- What `parse` answers, by what is read.
use Rattle.std.proofs.Common.{◌≡◌, ℕ, ◌<◌, ◌≤◌, List, [], ◌∷◌, length, Result, Ok, Err, ap, subst, arith}
use Rattle.c_lexer.specs.declared.token.Token.{Token}
use Rattle.c_tree.specs.declared.tree.Item.{Item}
use Rattle.c_tree.specs.declared.tree.Tree.{Tree}
use Rattle.c_parser.specs.Tokens.{nesting}
use Rattle.c_parser.specs.Unit.{UnitOf, unit_height}
use Rattle.c_parser.specs.Faults.{IsNoUnit}
use Rattle.c_parser.specs.declared.fault.TokenFault.{TokenFault}
use Rattle.c_parser.specs.declared.fault.TokenFault.TheVariants.{Syntax, Deep}
use Rattle.c_parser.specs.private.Reader.{Failure, Wrong, TooDeep, Fails}
use Rattle.c_parser.specs.private.ReadStmt.{repeated}
use Rattle.c_parser.specs.private.ReadUnit.{read_items}
use Rattle.c_parser.proofs.UnitSound.{unit_sound}
use Rattle.c_parser.proofs.UnitFull.{unit_full}
use Rattle.c_parser.proofs.StmtDeep.{unit_deeps}

abbrev Read : Type 0
Read = Result ((List Item × ℕ) × List Token) Failure

pub is_unit : (ts : List Token) (items : List Item) (height : ℕ) (rest : List Token) → read_items ts ≡ Ok ((items, height), rest) → UnitOf ts (record { items = items })
is_unit ts items height rest e = (unit_sound ts).of ((items, height), rest) e

pub is_that : (ts : List Token) (items : List Item) (height : ℕ) (rest : List Token) (tree : Tree) → read_items ts ≡ Ok ((items, height), rest) → UnitOf ts tree → (record { items = items }) ≡ tree
is_that ts items height rest tree e u =
    let f = unit_full ts tree u in
    let same : ((items, height), rest) ≡ ((tree.items, unit_height tree), []) = cc in
    ap (λ (y : (List Item × ℕ) × List Token). record { items = y.0.0 }) same

pub same_tree : (ts : List Token) (a b : Tree) → UnitOf ts a → UnitOf ts b → a ≡ b
same_tree ts a b u w = is_that ts a.items (unit_height a) [] b (unit_full ts a u) w

pub no_unit : (ts : List Token) (f : Failure) → read_items ts ≡ Err f → IsNoUnit ts
no_unit ts f e tree u = let g = unit_full ts tree u in cc

pub wrong_some : (ts : List Token) → read_items ts ≡ Err Wrong → 0 < length ts
unfolding read_items repeated
wrong_some [] e = absurd cc
wrong_some (t ∷ ts) e = omega arith

pub deep_nests : (ts : List Token) → read_items ts ≡ Err TooDeep → 64 ≤ nesting ts
deep_nests ts e = (unit_deeps ts).of e

pub wrong_of : (f : TokenFault) (left : ℕ) (r : Read) → f ≡ Syntax left → Fails f r → r ≡ Err Wrong
wrong_of f left r e h = subst (λ (g : TokenFault). Fails g r) e h

pub deep_of : (f : TokenFault) (left : ℕ) (r : Read) → f ≡ Deep left → Fails f r → r ≡ Err TooDeep
deep_of f left r e h = subst (λ (g : TokenFault). Fails g r) e h
