-- A program, as the checker makes it:
--     int g;
--     int main(void)
--     {
--         int i = 3;
--         while (i && g) {
--             if (i == 1) break;
--             g = i--;
--         }
--         return g;
--     }
-- and the code that it has.
use Rattle.std.specs.Prelude.{ℕ, false, List, [], ◌∷◌, Some, None}
use Rattle.nm_base.specs.declared.operator.Ctype.TheVariants.{Int}
use Rattle.nm_base.specs.declared.operator.BinaryOp.TheVariants.{Equal, Differ, Sub}
use Rattle.c_tree.specs.declared.program.Global.{Global}
use Rattle.c_tree.specs.declared.program.Function.{Function}
use Rattle.c_tree.specs.declared.program.Slot.{Slot}
use Rattle.c_tree.specs.declared.program.PExpr.{PExpr}
use Rattle.c_tree.specs.declared.program.PKind.{PKind}
use Rattle.c_tree.specs.declared.program.PKind.TheVariants as kind
use Rattle.c_tree.specs.declared.program.PStmt.{PStmt}
use Rattle.c_tree.specs.declared.program.PStmt.TheVariants as stmt
use Rattle.c_tree.specs.declared.program.Target.TheVariants as target
use Rattle.stack_code.specs.declared.instr.Instr.{Instr}
use Rattle.stack_code.specs.declared.instr.Instr.TheVariants as instr

-- an expression of type int in a line
abbrev pub int_in : ℕ → PKind → PExpr
int_in line kind = record { kind = kind; of = Some Int; line = line }

abbrev pub number_in : ℕ → ℕ → PExpr
number_in line bits = int_in line (kind.Const bits)

abbrev pub local_in : ℕ → PExpr
local_in line = int_in line (kind.Name (target.Slot 0))

abbrev pub global_in : ℕ → PExpr
global_in line = int_in line (kind.Name (target.Global 0))

abbrev pub loop_test : PExpr
loop_test = int_in 5 (kind.And (local_in 5) (global_in 5))

abbrev pub leave : PStmt
leave = stmt.If (int_in 6 (kind.Binary Equal (local_in 6) (number_in 6 1))) (stmt.Break 6) None 6

abbrev pub turn : PStmt
turn = stmt.Run (int_in 7 (kind.Assign None (global_in 7) (int_in 7 (kind.Bump false false (local_in 7))))) 7

abbrev pub loop_body : PStmt
loop_body = stmt.Block [] (leave ∷ turn ∷ []) 5

abbrev pub main_body : PStmt
main_body =
    stmt.Block
    (record { slot = 0; value = Some (number_in 4 3); line = 4 } ∷ [])
    (stmt.While loop_test loop_body 5 ∷ stmt.Return (Some (global_in 9)) 9 ∷ [])
    3

abbrev pub the_local : Slot
the_local = record { name = 105 ∷ []; of = Int; length = None; array_param = false; block = 0 }

abbrev pub the_main : Function
the_main = record {
  name = 109 ∷ 97 ∷ 105 ∷ 110 ∷ [];
  result = Some Int;
  params = [];
  locals = the_local ∷ [];
  body = main_body;
  line = 2;
}

abbrev pub the_global : Global
the_global = record { name = 103 ∷ []; of = Int; length = None; start = 0 }

-- ---- its code

abbrev pub instrs : List Instr
instrs =
    instr.Line 2
    ∷ instr.Zero 0 1
    ∷ instr.Line 4
    ∷ instr.Push 3
    ∷ instr.LocalPlace 0
    ∷ instr.Swap
    ∷ instr.Store
    ∷ instr.Drop
    -- 8: the loop, whose test takes the right operand only where the left one isn't 0
    ∷ instr.Line 5
    ∷ instr.LocalPlace 0
    ∷ instr.Load
    ∷ instr.JumpZero 17
    ∷ instr.GlobalPlace 0
    ∷ instr.Load
    ∷ instr.Push 0
    ∷ instr.Binary Differ Int
    ∷ instr.Jump 18
    ∷ instr.Push 0
    ∷ instr.JumpZero 43
    -- 19: the first statement of its body
    ∷ instr.Line 6
    ∷ instr.LocalPlace 0
    ∷ instr.Load
    ∷ instr.Push 1
    ∷ instr.Binary Equal Int
    ∷ instr.JumpZero 28
    ∷ instr.Line 6
    ∷ instr.Jump 43
    ∷ instr.Jump 28
    -- 28: the second
    ∷ instr.Line 7
    ∷ instr.GlobalPlace 0
    ∷ instr.LocalPlace 0
    ∷ instr.Dup
    ∷ instr.Load
    ∷ instr.Swap
    ∷ instr.Dup
    ∷ instr.Load
    ∷ instr.Push 1
    ∷ instr.Binary Sub Int
    ∷ instr.Store
    ∷ instr.Drop
    ∷ instr.Store
    ∷ instr.Drop
    ∷ instr.Jump 8
    -- 43: after the loop, and the end of the body
    ∷ instr.Line 9
    ∷ instr.GlobalPlace 0
    ∷ instr.Load
    ∷ instr.Return
    ∷ instr.Push 0
    ∷ instr.Return
    ∷ []
