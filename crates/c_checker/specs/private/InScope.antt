-- What names, statements and arms stand for in a scope.
use Rattle.c_tree.specs.declared.tree.Stmt.{Stmt}
use Rattle.c_tree.specs.declared.tree.Arm.{Arm}
use Rattle.c_checker.specs.declared.scope.Scope.{Scope}
use Rattle.c_checker.specs.declared.stmts.Within.{Within}
use Rattle.c_checker.specs.Scope.{ScopeNames, names_of}
use Rattle.c_checker.specs.Statements.{StmtPart, ArmPart, stmt_of, arm_of}

abbrev pub names_in : Scope → ScopeNames
names_in scope = names_of scope.entries.now scope.functions.now

abbrev pub stmt_in : Within → Stmt → StmtPart
stmt_in within = stmt_of within.functions.now within.returns

abbrev pub arm_in : Within → Arm → ArmPart
arm_in within = arm_of within.functions.now within.returns
