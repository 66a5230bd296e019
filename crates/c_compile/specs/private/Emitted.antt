-- What is written: code that is laid out after other code.
use Rattle.std.specs.Prelude.{ℕ, ◌+◌, List, [], ◌++◌, length, map, Option, Some, None}
use Rattle.c_tree.specs.declared.program.PExpr.{PExpr}
use Rattle.c_tree.specs.declared.program.PStmt.{PStmt}
use Rattle.c_tree.specs.declared.program.PArm.{PArm}
use Rattle.c_tree.specs.declared.program.PLabel.{PLabel}
use Rattle.c_tree.specs.declared.program.Slot.{Slot}
use Rattle.c_tree.specs.declared.program.Start.{Start}
use Rattle.c_tree.specs.declared.program.BuiltIn.{BuiltIn}
use Rattle.c_tree.specs.declared.program.Callee.{Callee}
use Rattle.c_tree.specs.Stmt.{is_default}
use Rattle.stack_code.specs.declared.instr.Instr.{Instr}
use Rattle.stack_code.specs.declared.instr.Instr.TheVariants as instr
use Rattle.c_compile.specs.Asm.{Asm, Laid, one, end_of, ◌⨾◌, lay}
use Rattle.c_compile.specs.ExprCode as spec
use Rattle.c_compile.specs.ExprCode.{Shape, typed_code, expr_code}
use Rattle.c_compile.specs.StmtCode.{Blocks, Exits, shape, stmt_code, arm_code, sequence_code, sequence_ends, zeros, starts}
use Rattle.c_compile.specs.StmtCode.{arms_code, arms_ends, arms_cases, cases_code, place_of_label, switch_code}
use Rattle.c_compile.specs.declared.scope.Scope.{Scope}

-- a list, and the code that stands at its end
unfoldable pub after : {A : Type 0} → List A → (ℕ → List A) → List A
after before code = before ++ code (length before)

-- a program by what a scope has of it
abbrev pub shape_of : Scope → Shape
shape_of scope = shape scope.program.now.globals scope.program.now.functions scope.program.now.texts scope.function.now

unfoldable pub value_of : Shape → PExpr → Asm
value_of sh e = (expr_code sh e).value

unfoldable pub place_of : Shape → PExpr → Asm
place_of sh e = (expr_code sh e).place

unfoldable pub argument_of : Shape → PExpr → Asm
argument_of sh e = (expr_code sh e).argument

-- all arguments, in their order
unfoldable pub arguments_of : Shape → List PExpr → Asm
arguments_of sh args = spec.argument_code (map (typed_code sh) args)

unfoldable pub width_of : Shape → List PExpr → ℕ
width_of sh args = spec.width_of (map (typed_code sh) args)

unfoldable pub call_of : Shape → Callee → List PExpr → Asm
call_of sh what args = (spec.called sh what (map (typed_code sh) args)).0

unfoldable pub built_in_of : Shape → BuiltIn → List PExpr → Asm
built_in_of sh what args = (spec.built_in sh what (map (typed_code sh) args)).0

-- the argument that a name passes: its value, or an array
abbrev pub passed : Instr → Option Instr → Asm × ℕ
passed place None = (one place ⨾ one instr.Load, 1)
passed place (Some array) = (one array, 2)

-- the place after an expression's value, by that of its first instruction
unfoldable pub end_of_value : Shape → PExpr → ℕ → ℕ
end_of_value sh e p = end_of (value_of sh e) p

-- the places after statements, arms and the parts of blocks and switches
unfoldable pub end_of_stmt : Shape → PStmt → ℕ → ℕ
end_of_stmt sh s p = (stmt_code sh s).ends p

unfoldable pub end_of_list : Shape → List PStmt → ℕ → ℕ
end_of_list sh list p = sequence_ends (map (stmt_code sh) list) p

unfoldable pub end_of_arms : Shape → List PArm → ℕ → ℕ
end_of_arms sh arms p = arms_ends sh (map (arm_code sh) arms) p

unfoldable pub end_of_cases : Shape → List PArm → ℕ → ℕ
end_of_cases sh arms p = end_of (arms_cases sh (map (arm_code sh) arms) 0 []) p

unfoldable pub end_of_labels : Shape → List PLabel → ℕ → ℕ
end_of_labels sh labels p = end_of (cases_code sh labels 0 []) p

unfoldable pub end_of_zeros : Shape → List Start → ℕ → ℕ
end_of_zeros sh locals p = end_of (zeros sh locals []) p

unfoldable pub end_of_starts : Shape → List Start → ℕ → ℕ
end_of_starts sh locals p = end_of (starts sh locals []) p

-- at most one instruction makes a local 0
abbrev pub zero_words : Option Slot → ℕ
zero_words None = 0
zero_words (Some x) = 1

-- the place after an initialiser
abbrev pub start_end_by : Shape → Option PExpr → ℕ → ℕ
start_end_by sh None p = p
start_end_by sh (Some e) p = end_of_value sh e (p + 1) + 4

-- a case takes six instructions
abbrev pub label_words : Option ℕ → ℕ
label_words None = 0
label_words (Some bits) = 6

-- the code of statements and of their parts, by the blocks round it
unfoldable pub code_of_value : Shape → PExpr → Blocks → Laid
code_of_value sh e blocks = lay blocks (value_of sh e)

unfoldable pub code_of_stmt : Shape → PStmt → Exits → Blocks → Laid
code_of_stmt sh s exits blocks = (stmt_code sh s).code exits blocks

unfoldable pub code_of_list : Shape → List PStmt → Exits → Blocks → Laid
code_of_list sh list exits blocks = sequence_code (map (stmt_code sh) list) exits blocks

unfoldable pub code_of_arms : Shape → List PArm → Exits → Blocks → Laid
code_of_arms sh arms exits blocks = arms_code sh (map (arm_code sh) arms) exits blocks

-- by the place of the first arm
unfoldable pub code_of_cases : Shape → List PArm → ℕ → Blocks → Laid
code_of_cases sh arms start blocks = arms_cases sh (map (arm_code sh) arms) start blocks

-- the place of the arm with `default`, or after all arms
unfoldable pub default_place_of : Shape → List PArm → ℕ → ℕ
default_place_of sh arms start = place_of_label sh is_default (map (arm_code sh) arms) start

unfoldable pub code_of_labels : Shape → List PLabel → ℕ → Blocks → Laid
code_of_labels sh labels target blocks = cases_code sh labels target blocks

unfoldable pub code_of_zeros : Shape → List Start → Blocks → Laid
code_of_zeros sh locals blocks = zeros sh locals blocks

unfoldable pub code_of_starts : Shape → List Start → Blocks → Laid
code_of_starts sh locals blocks = starts sh locals blocks

-- what stands in a block, by this block and those round it
unfoldable pub code_of_inside : Shape → List Start → List PStmt → Exits → Blocks → Laid
code_of_inside sh locals list exits blocks =
    zeros sh locals blocks ⨾ (starts sh locals blocks ⨾ sequence_code (map (stmt_code sh) list) exits blocks)

unfoldable pub code_of_switch : Shape → PExpr → List PArm → ℕ → Exits → Blocks → Laid
code_of_switch sh on arms line exits blocks = switch_code sh on (map (arm_code sh) arms) line exits blocks

-- the code of a statement as the body of a function, and the blocks that are open at its end
unfoldable pub body_of_stmt : Shape → PStmt → Exits → Blocks → Laid
body_of_stmt sh s exits blocks = (stmt_code sh s).body exits blocks

unfoldable pub inside_of_stmt : Shape → PStmt → Blocks → Blocks
inside_of_stmt sh s blocks = (stmt_code sh s).inside blocks
