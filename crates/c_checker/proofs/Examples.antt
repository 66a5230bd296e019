-- What small trees stand for, and the rules that they break, by computing.
use Rattle.std.proofs.Common.{◌≡◌, ℕ, zero, suc, true, false, List, [], ◌∷◌, map, Option, Some, None, refl}
use Rattle.std.specs.Prelude.{codes}
use denote.Hole.Carrier.{hidden}
use Rattle.nm_base.specs.declared.operator.Ctype.{Ctype}
use Rattle.nm_base.specs.declared.operator.Ctype.TheVariants.{Int, Unsigned}
use Rattle.nm_base.specs.declared.operator.BinaryOp.TheVariants as op
use Rattle.nm_base.specs.declared.operator.UnaryOp.TheVariants as u
use Rattle.c_tree.specs.declared.tree.Expr.{Expr}
use Rattle.c_tree.specs.declared.tree.Expr.TheVariants as e
use Rattle.c_tree.specs.declared.tree.Expr.TheBlock.{shape-the_row-Expr-0, hidden-the_row-Expr-0, shape-the_row-Expr-1, hidden-the_row-Expr-1}
use Rattle.c_tree.specs.declared.tree.Stmt.{Stmt}
use Rattle.c_tree.specs.declared.tree.Stmt.TheVariants as s
use Rattle.c_tree.specs.declared.tree.Stmt.TheBlock.{shape-the_row-Stmt-0, hidden-the_row-Stmt-0, shape-the_row-Stmt-1, hidden-the_row-Stmt-1}
use Rattle.c_tree.specs.declared.tree.Stmt.TheBlock.{shape-the_row-Arm-2, hidden-the_row-Arm-2}
use Rattle.c_tree.specs.declared.tree.Arm.{Arm}
use Rattle.c_tree.specs.declared.tree.Label.{Label}
use Rattle.c_tree.specs.declared.tree.Declr.{Declr}
use Rattle.c_tree.specs.declared.tree.Vars.{Vars}
use Rattle.c_tree.specs.declared.tree.Param.{Param}
use Rattle.c_tree.specs.declared.tree.Head.{Head}
use Rattle.c_tree.specs.declared.tree.Item.{Item}
use Rattle.c_tree.specs.declared.tree.Item.TheVariants as item
use Rattle.c_checker.specs.declared.fault.CheckFault.{CheckFault}
use Rattle.c_checker.specs.declared.fault.CheckFault.TheVariants as f
use Rattle.c_checker.specs.Constants.{constant_of}
use Rattle.c_checker.specs.Expressions.{part_of}
use Rattle.c_checker.specs.Statements.{stmt_of, arm_of}
use Rattle.c_checker.specs.Units.{checks}

-- ---- parts of trees

abbrev num : ℕ → Expr
num n = e.Const n Int 2

abbrev name : List ℕ → Expr
name x = e.Name x 2

abbrev call : List ℕ → List Expr → Expr
call x args = e.Call x args 2

abbrev run : Expr → Stmt
run x = s.Run x 2

abbrev returns : Expr → Stmt
returns x = s.Return (Some x) 2

abbrev scalar : List ℕ → Declr
scalar x = record { name = x; size = None; start = None; line = 1 }

abbrev array : List ℕ → Expr → Declr
array x n = record { name = x; size = Some n; start = None; line = 1 }

abbrev started : List ℕ → Expr → Declr
started x y = record { name = x; size = None; start = Some y; line = 1 }

abbrev ints : List Declr → Vars
ints list = record { of = Int; list = list }

abbrev param : Ctype → Option (List ℕ) → Param
param of x = record { of = of; name = x; array = false; size = None; line = 1 }

abbrev array_param : Ctype → List ℕ → Param
array_param of x = record { of = of; name = Some x; array = true; size = None; line = 1 }

abbrev head : Option Ctype → List ℕ → List Param → Head
head result x params = record { result = result; name = x; params = params; line = 1 }

abbrev vars : List Declr → Item
vars list = item.Vars (ints list)

abbrev proto : List ℕ → List Param → Item
proto x params = item.Proto (head (Some Int) x params)

abbrev void_function : List ℕ → List Param → List Stmt → Item
void_function x params list = item.Function (head None x params) (s.Block [] list 1)

abbrev main_of : List Vars → List Stmt → Item
main_of locals list = item.Function (head (Some Int) (codes "main") []) (s.Block locals list 1)

abbrev main : List Stmt → Item
main list = main_of [] list

-- a switch over 1 of one arm
abbrev switch : List Label → List Stmt → Stmt
switch labels list = s.Switch (num 1) (record { labels = labels; list = list } ∷ []) 2

abbrev case : Expr → ℕ → Label
case x line = record { value = Some x; line = line }

abbrev default : ℕ → Label
default line = record { value = None; line = line }

-- so many zeros
abbrev zeros : ℕ → List Expr
zeros zero = []
zeros (suc n) = num 0 ∷ zeros n

-- ---- units, each after its text, and the rules that they break

record Row : Type 0 where
  unit : List Item
  faults : List CheckFault

-- (nothing)
abbrev nothing : Row
nothing = record { unit = []; faults = f.NoMain 1 ∷ [] }

-- int main(void) { break; }
abbrev break_outside : Row
break_outside = record { unit = main (s.Break 2 ∷ []) ∷ []; faults = f.BreakOutside 2 ∷ [] }

-- int main(void) { switch (1) { default: break; continue; } }
abbrev continue_in_a_switch : Row
continue_in_a_switch = record {
  unit = main (switch (default 2 ∷ []) (s.Break 2 ∷ s.Continue 3 ∷ []) ∷ []) ∷ [];
  faults = f.ContinueOutside 3 ∷ [];
}

-- int a[0]; int main(void) {}
abbrev empty_global : Row
empty_global = record { unit = vars (array (codes "a") (num 0) ∷ []) ∷ main [] ∷ []; faults = f.BadSize 1 ∷ [] }

-- int main(void) { int a[0]; return 0; }
abbrev empty_local : Row
empty_local = record { unit = main_of (ints (array (codes "a") (num 0) ∷ []) ∷ []) (returns (num 0) ∷ []) ∷ []; faults = f.BadSize 1 ∷ [] }

-- int f(int a); int f(unsigned a) { return 0; } int main(void) {}
abbrev two_heads : Row
two_heads = record {
  unit = proto (codes "f") (param Int (Some (codes "a")) ∷ [])
      ∷ item.Function (head (Some Int) (codes "f") (param Unsigned (Some (codes "a")) ∷ [])) (s.Block [] (returns (num 0) ∷ []) 1) ∷ main [] ∷ [];
  faults = f.Mismatch 1 ∷ [];
}

-- int f(void); int main(void) { return f(1 - 1); }
abbrev one_argument : Row
one_argument = record {
  unit = proto (codes "f") [] ∷ main (returns (call (codes "f") (e.Binary op.Sub (num 1) (num 1) 2 ∷ [])) ∷ []) ∷ [];
  faults = f.Arity 2 ∷ f.NoBody 1 ∷ [];
}

-- int f(int); int main(void) { return f(); }
abbrev no_argument : Row
no_argument = record { unit = proto (codes "f") (param Int None ∷ []) ∷ main (returns (call (codes "f") []) ∷ []) ∷ []; faults = f.Arity 2 ∷ f.NoBody 1 ∷ [] }

-- int f(void); int main(void) { return f(); }
abbrev no_body : Row
no_body = record { unit = proto (codes "f") [] ∷ main (returns (call (codes "f") []) ∷ []) ∷ []; faults = f.NoBody 1 ∷ [] }

-- void f(void) {} int main(void) { return f(); }
abbrev void_value : Row
void_value = record {
  unit = void_function (codes "f") [] [] ∷ main (returns (call (codes "f") []) ∷ []) ∷ [];
  faults = f.VoidValue 2 ∷ [];
}

-- int main(int a) { return a; }
abbrev main_with_a_parameter : Row
main_with_a_parameter = record {
  unit = item.Function (head (Some Int) (codes "main") (param Int (Some (codes "a")) ∷ [])) (s.Block [] (returns (name (codes "a")) ∷ []) 1) ∷ [];
  faults = f.NoMain 1 ∷ [];
}

-- int a[3]; int main(void) { return a; }
abbrev array_value : Row
array_value = record { unit = vars (array (codes "a") (num 3) ∷ []) ∷ main (returns (name (codes "a")) ∷ []) ∷ []; faults = f.NotScalar 2 ∷ [] }

-- int main(void) { return x; }
abbrev unknown_name : Row
unknown_name = record { unit = main (returns (name (codes "x")) ∷ []) ∷ []; faults = f.Undeclared 2 ∷ [] }

-- int main(void) { f(x); }
abbrev unknown_call : Row
unknown_call = record { unit = main (run (call (codes "f") (name (codes "x") ∷ [])) ∷ []) ∷ []; faults = f.Undeclared 2 ∷ f.Undeclared 2 ∷ [] }

-- int main(void) { printf("%d"); return 0; }
abbrev no_value_printed : Row
no_value_printed = record { unit = main (run (call (codes "printf") (e.Text (codes "%d") 2 ∷ [])) ∷ returns (num 0) ∷ []) ∷ []; faults = f.Format 2 ∷ [] }

-- int main(void) { printf("%d", 1); printf("%q"); }
abbrev unknown_conversion : Row
unknown_conversion = record {
  unit = main (run (call (codes "printf") (e.Text (codes "%d") 2 ∷ num 1 ∷ [])) ∷ run (call (codes "printf") (e.Text (codes "%q") 3 ∷ [])) ∷ []) ∷ [];
  faults = f.Format 3 ∷ [];
}

-- int main(void) { 1 + x = 1; }
abbrev no_target : Row
no_target = record {
  unit = main (run (e.Assign None (e.Binary op.Add (num 1) (name (codes "x")) 3) (num 1) 3) ∷ []) ∷ [];
  faults = f.NotAssignable 3 ∷ f.Undeclared 2 ∷ [];
}

-- int main, send; int main(void) {}
abbrev taken_names : Row
taken_names = record { unit = vars (scalar (codes "main") ∷ scalar (codes "send") ∷ []) ∷ main [] ∷ []; faults = f.Twice 1 ∷ f.Twice 1 ∷ [] }

-- int main(void) { switch (1) { case 1: case 1: default: default: ; } }
abbrev double_labels : Row
double_labels = record {
  unit = main (switch (case (num 1) 2 ∷ case (num 1) 3 ∷ default 4 ∷ default 5 ∷ []) (s.Empty 2 ∷ []) ∷ []) ∷ [];
  faults = f.DoubleCase 3 ∷ f.DoubleDefault 5 ∷ [];
}

-- int main(void) { switch (1) { case 4294967295u: case -1: ; } }
abbrev one_pattern : Row
one_pattern = record {
  unit = main (switch (case (e.Const 4294967295 Unsigned 2) 2 ∷ case (e.Unary u.Minus (num 1) 3) 3 ∷ []) (s.Empty 2 ∷ []) ∷ []) ∷ [];
  faults = f.DoubleCase 3 ∷ [];
}

-- int main(void) {} int main;
abbrev main_again : Row
main_again = record { unit = main [] ∷ vars (scalar (codes "main") ∷ []) ∷ []; faults = f.Twice 1 ∷ [] }

-- int f(void); int f; int f(void) {} int main(void) { return f(); }
abbrev function_as_global : Row
function_as_global = record {
  unit = proto (codes "f") [] ∷ vars (scalar (codes "f") ∷ []) ∷ item.Function (head (Some Int) (codes "f") []) (s.Block [] [] 1)
      ∷ main (returns (call (codes "f") []) ∷ []) ∷ [];
  faults = f.Twice 1 ∷ [];
}

-- int main(void) {} int main(void) {}
abbrev second_body : Row
second_body = record { unit = main [] ∷ main [] ∷ []; faults = f.Twice 1 ∷ [] }

-- void f(int a) { int a; int b; int b; } int main(void) { int f; }
abbrev local_again : Row
local_again = record {
  unit = item.Function (head None (codes "f") (param Int (Some (codes "a")) ∷ []))
      (s.Block (ints (scalar (codes "a") ∷ scalar (codes "b") ∷ scalar (codes "b") ∷ []) ∷ []) [] 1)
      ∷ main_of (ints (scalar (codes "f") ∷ []) ∷ []) [] ∷ [];
  faults = f.Twice 1 ∷ f.Twice 1 ∷ [];
}

-- void f(int a, int a, int send) {} int main(void) {}
abbrev parameter_again : Row
parameter_again = record {
  unit = void_function (codes "f") (param Int (Some (codes "a")) ∷ param Int (Some (codes "a")) ∷ param Int (Some (codes "send")) ∷ []) [] ∷ main [] ∷ [];
  faults = f.Twice 1 ∷ f.Twice 1 ∷ [];
}

-- int x; int main(void) { x(); return x[0]; }
abbrev scalar_used : Row
scalar_used = record {
  unit = vars (scalar (codes "x") ∷ []) ∷ main (run (call (codes "x") []) ∷ returns (e.At (codes "x") (num 0) 3) ∷ []) ∷ [];
  faults = f.NotFunction 2 ∷ f.NotArray 3 ∷ [];
}

-- void f(unsigned a[]) {} int b[2]; int main(void) { f(b); f(1); }
abbrev other_arrays : Row
other_arrays = record {
  unit = void_function (codes "f") (array_param Unsigned (codes "a") ∷ []) [] ∷ vars (array (codes "b") (num 2) ∷ [])
      ∷ main (run (call (codes "f") (name (codes "b") ∷ [])) ∷ run (call (codes "f") (num 1 ∷ [])) ∷ []) ∷ [];
  faults = f.Mismatch 2 ∷ f.NotArray 2 ∷ [];
}

-- int n, a[n], b[b], c = c; int main(void) { switch (1) { case 1 / 0: ; } }
abbrev no_constants : Row
no_constants = record {
  unit = vars (scalar (codes "n") ∷ array (codes "a") (name (codes "n")) ∷ array (codes "b") (name (codes "b")) ∷ started (codes "c") (name (codes "c")) ∷ [])
      ∷ main (switch (case (e.Binary op.Div (num 1) (num 0) 3) 3 ∷ []) (s.Empty 2 ∷ []) ∷ []) ∷ [];
  faults = f.NotConstant 2 ∷ f.NotConstant 2 ∷ f.NotScalar 2 ∷ f.NotConstant 2 ∷ f.NotConstant 3 ∷ [];
}

-- int a[1 || 1 / 0], b = 0 && 1 / 0; int main(void) { int x = x; }
abbrev unneeded_operands : Row
unneeded_operands = record {
  unit = vars (array (codes "a") (e.Or (num 1) (e.Binary op.Div (num 1) (num 0) 2) 2) ∷ started (codes "b") (e.And (num 0) (e.Binary op.Div (num 1) (num 0) 2) 2) ∷ [])
      ∷ main_of (ints (started (codes "x") (name (codes "x")) ∷ []) ∷ []) [] ∷ [];
  faults = [];
}

-- int a[65536]; int b; int main(void) { int c[65537]; }
abbrev large_arrays : Row
large_arrays = record {
  unit = vars (array (codes "a") (num 65536) ∷ scalar (codes "b") ∷ []) ∷ main_of (ints (array (codes "c") (num 65537) ∷ []) ∷ []) [] ∷ [];
  faults = f.BadSize 1 ∷ f.BadSize 1 ∷ [];
}

-- void f(void) {} int main(void) { f(), f(); return (f(), 1), f(); }
abbrev void_operands : Row
void_operands = record {
  unit = void_function (codes "f") [] [] ∷ main (run (e.Comma (call (codes "f") []) (call (codes "f") []) 2)
      ∷ returns (e.Comma (e.Paren (e.Comma (call (codes "f") []) (num 1) 3) 3) (e.Call (codes "f") [] 4) 3) ∷ []) ∷ [];
  faults = f.VoidValue 4 ∷ [];
}

-- void f(void) { return 1; } int main(void) {}
abbrev void_returns : Row
void_returns = record { unit = void_function (codes "f") [] (returns (num 1) ∷ []) ∷ main [] ∷ []; faults = f.VoidValue 2 ∷ [] }

-- int main(void) { main(0, .., 0); } with 32 arguments
abbrev many_arguments : Row
many_arguments = record { unit = main (run (call (codes "main") (zeros 32)) ∷ []) ∷ []; faults = f.TooMany 2 ∷ f.Arity 2 ∷ [] }

-- the third case of the program below
abbrev third_case : ℕ → Arm
third_case n = record { labels = record { value = Some (e.Const n Int 8); line = 8 } ∷ []; list = s.Continue 8 ∷ [] }

abbrev prints : List ℕ → ℕ → Stmt
prints text line = s.Run (e.Call (codes "printf") (e.Text text line ∷ []) line) line

-- int main(void)
-- {
--     int i;
--     for (i = 0; i < 4; i++)
--         switch (i) {
--         case 0: printf("a");
--         case 1: printf("b"); break;
--         case n: continue;
--         default: printf("d");
--         }
--     return 0;
-- }
abbrev counting : ℕ → List Item
counting n = item.Function (head (Some Int) (codes "main") []) (s.Block (ints (record { name = codes "i"; size = None; start = None; line = 3 } ∷ []) ∷ [])
    (s.For (Some (e.Assign None (e.Name (codes "i") 4) (e.Const 0 Int 4) 4)) (Some (e.Binary op.Less (e.Name (codes "i") 4) (e.Const 4 Int 4) 4))
    (Some (e.Bump true false (e.Name (codes "i") 4) 4))
    (s.Switch (e.Name (codes "i") 5) (
    record { labels = record { value = Some (e.Const 0 Int 6); line = 6 } ∷ []; list = prints (codes "a") 6 ∷ [] }
    ∷ record { labels = record { value = Some (e.Const 1 Int 7); line = 7 } ∷ []; list = prints (codes "b") 7 ∷ s.Break 7 ∷ [] }
    ∷ third_case n
    ∷ record { labels = record { value = None; line = 9 } ∷ []; list = prints (codes "d") 9 ∷ [] } ∷ []) 5) 4
    ∷ s.Return (Some (e.Const 0 Int 11)) 11 ∷ []) 2) ∷ []

abbrev three_cases : Row
three_cases = record { unit = counting 2; faults = [] }

abbrev double_case : Row
double_case = record { unit = counting 1; faults = f.DoubleCase 8 ∷ [] }

abbrev rows : List Row
rows = nothing ∷ break_outside ∷ continue_in_a_switch ∷ empty_global ∷ empty_local ∷ two_heads ∷ one_argument ∷ no_argument ∷ no_body ∷ void_value ∷ main_with_a_parameter ∷ array_value
    ∷ unknown_name ∷ unknown_call ∷ no_value_printed ∷ unknown_conversion ∷ no_target ∷ taken_names ∷ double_labels ∷ one_pattern ∷ main_again ∷ function_as_global ∷ second_body ∷ local_again ∷ parameter_again ∷ scalar_used
    ∷ other_arrays ∷ no_constants ∷ unneeded_operands ∷ large_arrays ∷ void_operands ∷ void_returns ∷ many_arguments ∷ three_cases ∷ double_case ∷ []

-- Each unit breaks these rules and no others.
each_row : map (λ row. (checks (record { items = row.unit })).faults) rows ≡ map (λ row. row.faults) rows
unfolding part_of constant_of stmt_of arm_of hidden shape-the_row-Expr-0 hidden-the_row-Expr-0 shape-the_row-Expr-1 hidden-the_row-Expr-1
    shape-the_row-Stmt-0 hidden-the_row-Stmt-0 shape-the_row-Stmt-1 hidden-the_row-Stmt-1 shape-the_row-Arm-2 hidden-the_row-Arm-2
each_row = refl
