use Rattle.std.proofs.Common.{arith}
use Rattle.c_parser.specs.private.Reader.{Wrong, TooDeep}
use Rattle.c_parser.proofs.Answered.{is_unit, is_that, no_unit, wrong_some, deep_nests, wrong_of, deep_of}
use Rattle.c_parser.proofs.UnitFull.{unit_nests}
use Rattle.c_parser.proofs.parser.parse.Goals as goal

pub syntax_line-requires : goal.syntax_line-requires
syntax_line-requires c = wrong_some c.args.tokens.now (wrong_of _ _ _ c.in-Err-Syntax.field-0-is c.in-Err-Syntax.ensures)

pub nesting_line-requires : goal.nesting_line-requires
nesting_line-requires c =
    let d = deep_nests c.args.tokens.now (deep_of _ _ _ c.in-Err-Deep.field-0-is c.in-Err-Deep.ensures) in
    omega (arith, d)

pub returns-in-Ok-clause-found : goal.returns-in-Ok-clause-found
returns-in-Ok-clause-found c = rw c.from_vec.ensures (is_unit c.args.tokens.now _ _ _ c.in-Ok.ensures)

pub returns-in-Ok-clause-only : goal.returns-in-Ok-clause-only
returns-in-Ok-clause-only c = λ tree u. rw c.from_vec.ensures (is_that c.args.tokens.now _ _ _ tree c.in-Ok.ensures u)

pub returns-in-Ok-clause-nests : goal.returns-in-Ok-clause-nests
returns-in-Ok-clause-nests c = λ tree d high. unit_nests c.args.tokens.now tree d high

pub returns-in-Err-Syntax-clause-only : goal.returns-in-Err-Syntax-clause-only
returns-in-Err-Syntax-clause-only c = no_unit c.args.tokens.now Wrong (wrong_of _ _ _ c.in-Err-Syntax.field-0-is c.in-Err-Syntax.ensures)

pub returns-in-Err-Syntax-clause-syntax : goal.returns-in-Err-Syntax-clause-syntax
returns-in-Err-Syntax-clause-syntax c = no_unit c.args.tokens.now Wrong (wrong_of _ _ _ c.in-Err-Syntax.field-0-is c.in-Err-Syntax.ensures)

pub returns-in-Err-Syntax-clause-nests : goal.returns-in-Err-Syntax-clause-nests
returns-in-Err-Syntax-clause-nests c = λ tree d high. unit_nests c.args.tokens.now tree d high

pub returns-in-Err-Deep-clause-only : goal.returns-in-Err-Deep-clause-only
returns-in-Err-Deep-clause-only c = no_unit c.args.tokens.now TooDeep (deep_of _ _ _ c.in-Err-Deep.field-0-is c.in-Err-Deep.ensures)

pub returns-in-Err-Deep-clause-deep : goal.returns-in-Err-Deep-clause-deep
returns-in-Err-Deep-clause-deep c = no_unit c.args.tokens.now TooDeep (deep_of _ _ _ c.in-Err-Deep.field-0-is c.in-Err-Deep.ensures)

pub returns-in-Err-Deep-clause-deep_nests : goal.returns-in-Err-Deep-clause-deep_nests
returns-in-Err-Deep-clause-deep_nests c = deep_nests c.args.tokens.now (deep_of _ _ _ c.in-Err-Deep.field-0-is c.in-Err-Deep.ensures)

pub returns-in-Err-Deep-clause-nests : goal.returns-in-Err-Deep-clause-nests
returns-in-Err-Deep-clause-nests c = λ tree d high. unit_nests c.args.tokens.now tree d high

pub returns-in-Err-Memory-clause-nests : goal.returns-in-Err-Memory-clause-nests
returns-in-Err-Memory-clause-nests c = λ tree d high. unit_nests c.args.tokens.now tree d high
