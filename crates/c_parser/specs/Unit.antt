-- Units: the tree derives the tokens, and no item is higher than 64.
use Rattle.std.specs.Prelude.{◌≡◌, ℕ, max, Bool, true, false, ◌&&◌, nat_le, is_some, if◌then◌else◌, List, [], ◌∷◌, Option, Some, None}
use Rattle.std.specs.List.{list_all}
use Rattle.nm_base.specs.declared.operator.Ctype.{Ctype}
use Rattle.c_lexer.specs.declared.token.Token.{Token}
use Rattle.c_lexer.specs.declared.token.Key.TheVariants as k
use Rattle.c_lexer.specs.declared.token.Mark.TheVariants as m
use Rattle.c_tree.specs.declared.tree.Expr.{Expr}
use Rattle.c_tree.specs.declared.tree.Param.{Param}
use Rattle.c_tree.specs.declared.tree.Head.{Head}
use Rattle.c_tree.specs.declared.tree.Item.{Item}
use Rattle.c_tree.specs.declared.tree.Item.TheVariants as item
use Rattle.c_tree.specs.declared.tree.Tree.{Tree}
use Rattle.c_parser.specs.Tokens.{is_key}
use Rattle.c_parser.specs.Walk.{Walk, ◌>>◌, stay, nowhere, mark, key, named, each, listed, on}
use Rattle.c_parser.specs.Stmt.{highest, any_walk, any_height, any_fits, type_walk, vars_walk, vars_fit, vars_height, stmt_part}

-- ---- heads

abbrev pub array_walk : Bool → Option Expr → Walk
array_walk false None = stay
array_walk false (Some size) = nowhere
array_walk true size = mark m.LeftBracket >> any_walk size >> mark m.RightBracket

-- the line is that of the name, or else of the first token
abbrev pub param_begin : Ctype → Option (List ℕ) → ℕ → Walk
param_begin of None line = on line >> type_walk of
param_begin of (Some name) line = type_walk of >> on line >> named name

abbrev pub param_walk : Param → Walk
param_walk p = param_begin p.of p.name p.line >> array_walk p.array p.size

abbrev pub param_fits : Param → Bool
param_fits p = any_fits 12 p.size

abbrev pub param_height : Param → ℕ
param_height p = any_height p.size

abbrev pub past_void : Walk
past_void [] = Some []
past_void (t ∷ ts) = Some (if is_key k.Void t.kind then ts else t ∷ ts)

-- no parameter is spelled by nothing or by `void`
abbrev pub params_walk : List Param → Walk
params_walk [] = past_void
params_walk (p ∷ ps) = listed param_walk (p ∷ ps)

abbrev pub params_named : List Param → Bool
params_named ps = list_all (λ (p : Param). is_some p.name) ps

abbrev pub result_walk : Option Ctype → Walk
result_walk None = key k.Void
result_walk (Some of) = type_walk of

abbrev pub head_walk : Head → Walk
head_walk h =
    result_walk h.result >> on h.line >> named h.name >> mark m.LeftParen >> params_walk h.params >> mark m.RightParen

abbrev pub head_fits : Head → Bool
head_fits h = list_all param_fits h.params

abbrev pub head_height : Head → ℕ
head_height h = highest param_height h.params

-- ---- items

abbrev pub item_walk : Item → Walk
item_walk (item.Vars v) = vars_walk v
item_walk (item.Proto h) = head_walk h >> mark m.Semicolon
item_walk (item.Function h body) = head_walk h >> (stmt_part body).walk

-- in a definition each parameter has a name
abbrev pub item_fits : Item → Bool
item_fits (item.Vars v) = vars_fit v
item_fits (item.Proto h) = head_fits h
item_fits (item.Function h body) =
    head_fits h && params_named h.params && (stmt_part body).is_block && (stmt_part body).fits

abbrev pub item_height : Item → ℕ
item_height (item.Vars v) = max 1 (vars_height v)
item_height (item.Proto h) = max 1 (head_height h)
item_height (item.Function h body) = max (head_height h) (stmt_part body).height

-- the tokens derive the tree
pub record Derives (tokens : List Token) (tree : Tree) : Type 0 where
  pub walk : each item_walk tree.items tokens ≡ Some []
  pub fits : list_all item_fits tree.items ≡ true

abbrev pub unit_height : Tree → ℕ
unit_height tree = highest item_height tree.items

pub record UnitOf (tokens : List Token) (tree : Tree) : Type 0 where
  pub derives : Derives tokens tree
  pub low : nat_le (unit_height tree) 64 ≡ true
