-- The code of a program, computed.
use Rattle.std.proofs.Common.{◌≡◌, ℕ, true, List, [], ◌∷◌, ◌++◌, map, replicate, refl, ap, ◌∙◌}
use denote.Hole.Carrier.{hidden}
use Rattle.c_tree.specs.declared.program.PKind.TheBlock.{shape-the_row-PExpr-0, hidden-the_row-PExpr-0, shape-the_row-PExpr-1, hidden-the_row-PExpr-1}
use Rattle.c_tree.specs.declared.program.PStmt.TheBlock.{shape-the_row-PStmt-0, hidden-the_row-PStmt-0, shape-the_row-PStmt-1, hidden-the_row-PStmt-1}
use Rattle.c_tree.specs.declared.program.Global.{Global}
use Rattle.c_tree.specs.declared.program.Function.{Function}
use Rattle.c_tree.specs.Checks.{is_checked}
use Rattle.stack_code.specs.Code.{steps_of}
use Rattle.c_compile.specs.StmtCode.{program_code}
use Rattle.c_compile.specs.private.Example.{the_global, the_main, instrs}

abbrev lists : List (List (List ℕ))
lists = replicate 1 [] ++ replicate 18 ((0 ∷ []) ∷ []) ++ replicate 23 ([] ∷ (0 ∷ []) ∷ []) ++ replicate 7 ((0 ∷ []) ∷ [])

pub is_program : is_checked (the_global ∷ []) (the_main ∷ []) [] 0 ≡ true
unfolding hidden shape-the_row-PExpr-0 hidden-the_row-PExpr-0 shape-the_row-PExpr-1 hidden-the_row-PExpr-1 shape-the_row-PStmt-0 hidden-the_row-PStmt-0 shape-the_row-PStmt-1 hidden-the_row-PStmt-1
is_program = refl

pub is_program_by : (globals : List Global) (functions : List Function) (texts : List (List ℕ)) → globals ≡ the_global ∷ [] → functions ≡ the_main ∷ [] → texts ≡ []
    → is_checked globals functions texts 0 ≡ true
is_program_by globals functions texts e1 e2 e3 =
    ap (λ x. is_checked x functions texts 0) e1 ∙ ap (λ x. is_checked (the_global ∷ []) x texts 0) e2 ∙ ap (λ x. is_checked (the_global ∷ []) (the_main ∷ []) x 0) e3 ∙ is_program

instrs_are : map (λ x. x.instr) (steps_of (program_code (the_global ∷ []) (the_main ∷ []) [] 0) 0) ≡ instrs
unfolding hidden shape-the_row-PExpr-0 hidden-the_row-PExpr-0 shape-the_row-PExpr-1 hidden-the_row-PExpr-1 shape-the_row-PStmt-0 hidden-the_row-PStmt-0 shape-the_row-PStmt-1 hidden-the_row-PStmt-1
instrs_are = refl

blocks_are : map (λ x. x.entered) (steps_of (program_code (the_global ∷ []) (the_main ∷ []) [] 0) 0) ≡ lists
unfolding hidden shape-the_row-PExpr-0 hidden-the_row-PExpr-0 shape-the_row-PExpr-1 hidden-the_row-PExpr-1 shape-the_row-PStmt-0 hidden-the_row-PStmt-0 shape-the_row-PStmt-1 hidden-the_row-PStmt-1
blocks_are = refl
