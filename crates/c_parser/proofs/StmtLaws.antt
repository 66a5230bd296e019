-- What the definitions of statements say of each form.
use Rattle.std.proofs.Common.{◌≡◌, ℕ, List, map, Option, Some, None, sym, ap, ◌∙◌}
use Rattle.std.specs.Prelude.{option_map}
use denote.Hole.Carrier.{out, roll}
use Rattle.c_tree.specs.declared.tree.Expr.{Expr}
use Rattle.c_tree.specs.declared.tree.Vars.{Vars}
use Rattle.c_tree.specs.declared.tree.Arm.{Arm, roll-Arm, out-roll-Arm}
use Rattle.c_tree.specs.declared.tree.Stmt.{Stmt, roll-Stmt, out-Stmt, out-roll-Stmt}
use Rattle.c_tree.specs.declared.tree.Stmt.TheOpen.{Stmt-F, Arm-F}
use Rattle.c_tree.specs.declared.tree.Stmt.TheVariants as s
use Rattle.c_tree.specs.declared.tree.Stmt.TheBlock.{the_family, the_fold, body-Stmt, body-Arm, lays-Stmt, lays-Arm}
use Rattle.c_tree.specs.declared.tree.Stmt.TheFolds.{family, steps, map-Stmt, map_is-Stmt, map-Arm, map_is-Arm}
use Rattle.c_parser.specs.Stmt.{StmtPart, ArmPart, stmt_step, arm_step, stmt_part, arm_part}

pub stmt_roll : (x : Stmt-F Stmt Arm) → stmt_part (roll-Stmt x) ≡ stmt_step (map-Stmt Stmt Arm StmtPart ArmPart stmt_part arm_part x)
unfolding stmt_part arm_part out-Stmt roll-Stmt out
stmt_roll x =
    let A = family StmtPart ArmPart in
    let S = steps StmtPart ArmPart stmt_step arm_step in
    lays-Stmt A S (roll-Stmt x)
    ∙ ap (λ l. stmt_step ((body-Stmt).map the_family A (the_fold A S) l)) (out-roll-Stmt x)
    ∙ ap stmt_step (map_is-Stmt the_family A (the_fold A S) x)

pub arm_roll : (x : Arm-F Stmt Arm) → arm_part (roll-Arm x) ≡ arm_step (map-Arm Stmt Arm StmtPart ArmPart stmt_part arm_part x)
unfolding stmt_part arm_part out roll
arm_roll x =
    let A = family StmtPart ArmPart in
    let S = steps StmtPart ArmPart stmt_step arm_step in
    lays-Arm A S (roll-Arm x)
    ∙ ap (λ l. arm_step ((body-Arm).map the_family A (the_fold A S) l)) (out-roll-Arm x)
    ∙ ap arm_step (map_is-Arm the_family A (the_fold A S) x)

pub part-Block : (locals : List Vars) (list : List Stmt) (line : ℕ) → stmt_part (s.Block locals list line) ≡ stmt_step (Stmt-F.Block locals (map stmt_part list) line)
part-Block locals list line = sym (ap stmt_part (s.rolls-Block locals list line)) ∙ stmt_roll (Stmt-F.Block locals list line)

pub part-Empty : (line : ℕ) → stmt_part (s.Empty line) ≡ stmt_step (Stmt-F.Empty line)
part-Empty line = sym (ap stmt_part (s.rolls-Empty line)) ∙ stmt_roll (Stmt-F.Empty line)

pub part-Run : (part : Expr) (line : ℕ) → stmt_part (s.Run part line) ≡ stmt_step (Stmt-F.Run part line)
part-Run part line = sym (ap stmt_part (s.rolls-Run part line)) ∙ stmt_roll (Stmt-F.Run part line)

pub part-If : (test : Expr) (first : Stmt) (second : Option Stmt) (line : ℕ) → stmt_part (s.If test first second line) ≡ stmt_step (Stmt-F.If test (stmt_part first) (option_map stmt_part second) line)
part-If test first None line = sym (ap stmt_part (s.rolls-If test first None line)) ∙ stmt_roll (Stmt-F.If test first None line)
part-If test first (Some second) line = sym (ap stmt_part (s.rolls-If test first (Some second) line)) ∙ stmt_roll (Stmt-F.If test first (Some second) line)

pub part-While : (test : Expr) (body : Stmt) (line : ℕ) → stmt_part (s.While test body line) ≡ stmt_step (Stmt-F.While test (stmt_part body) line)
part-While test body line = sym (ap stmt_part (s.rolls-While test body line)) ∙ stmt_roll (Stmt-F.While test body line)

pub part-Do : (body : Stmt) (test : Expr) (line : ℕ) → stmt_part (s.Do body test line) ≡ stmt_step (Stmt-F.Do (stmt_part body) test line)
part-Do body test line = sym (ap stmt_part (s.rolls-Do body test line)) ∙ stmt_roll (Stmt-F.Do body test line)

pub part-For : (start test third : Option Expr) (body : Stmt) (line : ℕ) → stmt_part (s.For start test third body line) ≡ stmt_step (Stmt-F.For start test third (stmt_part body) line)
part-For start test third body line = sym (ap stmt_part (s.rolls-For start test third body line)) ∙ stmt_roll (Stmt-F.For start test third body line)

pub part-Break : (line : ℕ) → stmt_part (s.Break line) ≡ stmt_step (Stmt-F.Break line)
part-Break line = sym (ap stmt_part (s.rolls-Break line)) ∙ stmt_roll (Stmt-F.Break line)

pub part-Continue : (line : ℕ) → stmt_part (s.Continue line) ≡ stmt_step (Stmt-F.Continue line)
part-Continue line = sym (ap stmt_part (s.rolls-Continue line)) ∙ stmt_roll (Stmt-F.Continue line)

pub part-Return : (value : Option Expr) (line : ℕ) → stmt_part (s.Return value line) ≡ stmt_step (Stmt-F.Return value line)
part-Return value line = sym (ap stmt_part (s.rolls-Return value line)) ∙ stmt_roll (Stmt-F.Return value line)

pub part-Switch : (test : Expr) (arms : List Arm) (line : ℕ) → stmt_part (s.Switch test arms line) ≡ stmt_step (Stmt-F.Switch test (map arm_part arms) line)
part-Switch test arms line = sym (ap stmt_part (s.rolls-Switch test arms line)) ∙ stmt_roll (Stmt-F.Switch test arms line)

pub part-Arm : (x : Arm) → arm_part x ≡ arm_step (record { labels = x.labels; list = map stmt_part x.list })
unfolding roll out
part-Arm x = arm_roll (record { labels = x.labels; list = x.list })
