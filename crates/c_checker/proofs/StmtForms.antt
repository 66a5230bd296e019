-- What the definitions of statements say of each form.
use Rattle.std.proofs.Common.{◌≡◌, ℕ, List, map, Option, Some, None, Result, subst, sym, ap, ◌∙◌}
use Rattle.std.specs.Prelude.{option_map}
use denote.Hole.Carrier.{out, roll}
use Rattle.nm_base.specs.declared.operator.Ctype.{Ctype}
use Rattle.c_tree.specs.declared.tree.Expr.{Expr}
use Rattle.c_tree.specs.declared.tree.Vars.{Vars}
use Rattle.c_tree.specs.declared.tree.Arm.{Arm, roll-Arm, out-roll-Arm}
use Rattle.c_tree.specs.declared.tree.Stmt.{Stmt, roll-Stmt, out-Stmt, out-roll-Stmt}
use Rattle.c_tree.specs.declared.tree.Stmt.TheOpen.{Stmt-F, Arm-F}
use Rattle.c_tree.specs.declared.tree.Stmt.TheVariants as s
use Rattle.c_tree.specs.declared.tree.Stmt.TheBlock.{the_family, the_fold, body-Stmt, body-Arm, lays-Stmt, lays-Arm}
use Rattle.c_tree.specs.declared.tree.Stmt.TheFolds.{family, steps, map-Stmt, map_is-Stmt, map-Arm, map_is-Arm}
use Rattle.c_tree.specs.declared.program.PStmt.{PStmt}
use Rattle.c_checker.specs.declared.fault.CheckFault.{CheckFault}
use Rattle.c_checker.specs.declared.headings.Heading.{Heading}
use Rattle.c_checker.specs.declared.state.Body.{Body}
use Rattle.c_checker.specs.declared.state.Around.{Around}
use Rattle.c_checker.specs.Found.{CheckGives}
use Rattle.c_checker.specs.Statements.{Writes, StmtPart, ArmPart, alone, plain, stmt_step, arm_step, stmt_of, arm_of}

module _ (functions : List Heading) (result : Option Ctype) where
  pub stmt_roll : (x : Stmt-F Stmt Arm)
      → stmt_of functions result (roll-Stmt x) ≡ stmt_step functions result (map-Stmt Stmt Arm StmtPart ArmPart (stmt_of functions result) (arm_of functions result) x)
  unfolding stmt_of arm_of out-Stmt roll-Stmt out
  stmt_roll x =
      let A = family StmtPart ArmPart in
      let S = steps StmtPart ArmPart (stmt_step functions result) (arm_step functions result) in
      lays-Stmt A S (roll-Stmt x)
      ∙ ap (λ l. stmt_step functions result ((body-Stmt).map the_family A (the_fold A S) l)) (out-roll-Stmt x)
      ∙ ap (stmt_step functions result) (map_is-Stmt the_family A (the_fold A S) x)

  pub arm_roll : (x : Arm-F Stmt Arm) → arm_of functions result (roll-Arm x) ≡ arm_step functions result (map-Arm Stmt Arm StmtPart ArmPart (stmt_of functions result) (arm_of functions result) x)
  unfolding stmt_of arm_of out roll
  arm_roll x =
      let A = family StmtPart ArmPart in
      let S = steps StmtPart ArmPart (stmt_step functions result) (arm_step functions result) in
      lays-Arm A S (roll-Arm x)
      ∙ ap (λ l. arm_step functions result ((body-Arm).map the_family A (the_fold A S) l)) (out-roll-Arm x)
      ∙ ap (arm_step functions result) (map_is-Arm the_family A (the_fold A S) x)

  pub stmt_block : (vars : List Vars) (list : List Stmt) (line : ℕ)
      → stmt_of functions result (s.Block vars list line) ≡ stmt_step functions result (Stmt-F.Block vars (map (stmt_of functions result) list) line)
  stmt_block vars list line = sym (ap (stmt_of functions result) (s.rolls-Block vars list line)) ∙ stmt_roll (Stmt-F.Block vars list line)

  pub stmt_empty : (line : ℕ) → stmt_of functions result (s.Empty line) ≡ stmt_step functions result (Stmt-F.Empty line)
  stmt_empty line = sym (ap (stmt_of functions result) (s.rolls-Empty line)) ∙ stmt_roll (Stmt-F.Empty line)

  pub stmt_run : (part : Expr) (line : ℕ) → stmt_of functions result (s.Run part line) ≡ stmt_step functions result (Stmt-F.Run part line)
  stmt_run part line = sym (ap (stmt_of functions result) (s.rolls-Run part line)) ∙ stmt_roll (Stmt-F.Run part line)

  pub stmt_if : (test : Expr) (first : Stmt) (second : Option Stmt) (line : ℕ)
      → stmt_of functions result (s.If test first second line) ≡ stmt_step functions result (Stmt-F.If test (stmt_of functions result first) (option_map (stmt_of functions result) second) line)
  stmt_if test first None line = sym (ap (stmt_of functions result) (s.rolls-If test first None line)) ∙ stmt_roll (Stmt-F.If test first None line)
  stmt_if test first (Some second) line = sym (ap (stmt_of functions result) (s.rolls-If test first (Some second) line)) ∙ stmt_roll (Stmt-F.If test first (Some second) line)

  pub stmt_while : (test : Expr) (body : Stmt) (line : ℕ) → stmt_of functions result (s.While test body line) ≡ stmt_step functions result (Stmt-F.While test (stmt_of functions result body) line)
  stmt_while test body line = sym (ap (stmt_of functions result) (s.rolls-While test body line)) ∙ stmt_roll (Stmt-F.While test body line)

  pub stmt_do : (body : Stmt) (test : Expr) (line : ℕ) → stmt_of functions result (s.Do body test line) ≡ stmt_step functions result (Stmt-F.Do (stmt_of functions result body) test line)
  stmt_do body test line = sym (ap (stmt_of functions result) (s.rolls-Do body test line)) ∙ stmt_roll (Stmt-F.Do body test line)

  pub stmt_for : (first : Option Expr) (test : Option Expr) (third : Option Expr) (body : Stmt) (line : ℕ)
      → stmt_of functions result (s.For first test third body line) ≡ stmt_step functions result (Stmt-F.For first test third (stmt_of functions result body) line)
  stmt_for first test third body line = sym (ap (stmt_of functions result) (s.rolls-For first test third body line)) ∙ stmt_roll (Stmt-F.For first test third body line)

  pub stmt_break : (line : ℕ) → stmt_of functions result (s.Break line) ≡ stmt_step functions result (Stmt-F.Break line)
  stmt_break line = sym (ap (stmt_of functions result) (s.rolls-Break line)) ∙ stmt_roll (Stmt-F.Break line)

  pub stmt_continue : (line : ℕ) → stmt_of functions result (s.Continue line) ≡ stmt_step functions result (Stmt-F.Continue line)
  stmt_continue line = sym (ap (stmt_of functions result) (s.rolls-Continue line)) ∙ stmt_roll (Stmt-F.Continue line)

  pub stmt_return : (value : Option Expr) (line : ℕ) → stmt_of functions result (s.Return value line) ≡ stmt_step functions result (Stmt-F.Return value line)
  stmt_return value line = sym (ap (stmt_of functions result) (s.rolls-Return value line)) ∙ stmt_roll (Stmt-F.Return value line)

  pub stmt_switch : (on : Expr) (arms : List Arm) (line : ℕ)
      → stmt_of functions result (s.Switch on arms line) ≡ stmt_step functions result (Stmt-F.Switch on (map (arm_of functions result) arms) line)
  stmt_switch on arms line = sym (ap (stmt_of functions result) (s.rolls-Switch on arms line)) ∙ stmt_roll (Stmt-F.Switch on arms line)

  pub arm_form : (x : Arm) → arm_of functions result x ≡ arm_step functions result (record { labels = x.labels; list = map (stmt_of functions result) x.list })
  unfolding roll out
  arm_form x = arm_roll (record { labels = x.labels; list = x.list })

-- what a statement stands for, by its form
pub check_form : (functions : List Heading) (result : Option Ctype) (x form : Stmt) (p : StmtPart) (around : Around) (s t : Body) (r : Result PStmt CheckFault) → x ≡ form
    → stmt_of functions result form ≡ p → CheckGives (p.check around s) r t → CheckGives ((stmt_of functions result x).check around s) r t
check_form functions result x form p around s t r is same h = subst (λ (p : StmtPart). CheckGives (p.check around s) r t) (sym (ap (stmt_of functions result) is ∙ same)) h

-- the same of a function's body
pub body_form : (functions : List Heading) (result : Option Ctype) (x form : Stmt) (p : StmtPart) (from : ℕ) (s t : Body) (r : Result PStmt CheckFault) → x ≡ form
    → stmt_of functions result form ≡ p → CheckGives (p.body from s) r t → CheckGives ((stmt_of functions result x).body from s) r t
body_form functions result x form p from s t r is same h = subst (λ (p : StmtPart). CheckGives (p.body from s) r t) (sym (ap (stmt_of functions result) is ∙ same)) h

-- a statement that isn't a block
pub record IsPlain (functions : List Heading) (x : StmtPart) (line : ℕ) : Type 0 where
  pub check : Around → Writes PStmt
  pub same : x ≡ plain functions line check

-- as a function's body it stands for a block of it alone
pub alone_form : (functions : List Heading) (x : StmtPart) (line from : ℕ) (s t : Body) (r : Result PStmt CheckFault) → IsPlain functions x line → CheckGives (alone functions x.check line from s) r t
    → CheckGives (x.body from s) r t
alone_form functions x line from s t r is h = subst (λ (x : StmtPart). CheckGives (alone functions x.check line from s) r t → CheckGives (x.body from s) r t) (sym is.same) (λ g. g) h
