use Rattle.std.proofs.Common.{◌≡◌, ℕ, List, map, Option, inl, inr, ap, ◌∙◌}
use Rattle.std.specs.Prelude.{◌⊎◌, option_map}
use Rattle.nm_base.specs.declared.operator.Ctype.{Ctype}
use Rattle.c_tree.specs.declared.program.PStmt.TheVariants as s
use Rattle.c_tree.specs.declared.tree.Expr.{Expr}
use Rattle.c_tree.specs.declared.tree.Arm.{Arm}
use Rattle.c_tree.specs.declared.tree.Stmt.{Stmt}
use Rattle.c_tree.specs.declared.tree.Stmt.TheVariants as t
use Rattle.c_checker.specs.declared.headings.Heading.{Heading}
use Rattle.c_checker.specs.Found.{pure}
use Rattle.c_checker.specs.Statements.{run, if_stmt, while_stmt, do_stmt, for_stmt, break_stmt, continue_stmt, return_stmt, switch_stmt, stmt_of, arm_of}
use Rattle.c_checker.proofs.StmtForms as forms
use Rattle.c_checker.proofs.StmtForms.{IsPlain, alone_form, body_form}
use Rattle.c_checker.proofs.stmts.function_body.Goals as goal

-- a statement that isn't a block, by its form
is_plain : (f : List Heading) (r : Option Ctype) (x : Stmt) (line : ℕ)
    → ((x ≡ t.Empty line) ⊎ (((e : Expr) × (x ≡ t.Run e line)) ⊎ (((test : Expr) × (first : Stmt) × (second : Option Stmt) × (x ≡ t.If test first second line)) ⊎
    (((test : Expr) × (body : Stmt) × (x ≡ t.While test body line)) ⊎ (((body : Stmt) × (test : Expr) × (x ≡ t.Do body test line)) ⊎
    (((first : Option Expr) × (test : Option Expr) × (third : Option Expr) × (body : Stmt) × (x ≡ t.For first test third body line)) ⊎
    ((x ≡ t.Break line) ⊎ ((x ≡ t.Continue line) ⊎ (((value : Option Expr) × (x ≡ t.Return value line)) ⊎
    ((on : Expr) × (arms : List Arm) × (x ≡ t.Switch on arms line)))))))))))
    → IsPlain f (stmt_of f r x) line
is_plain f r x line (inl is) = record { check = λ around. pure (s.Empty line); same = ap (stmt_of f r) is ∙ forms.stmt_empty f r line }
is_plain f r x line (inr (inl (e, is))) = record { check = λ around. run f e line; same = ap (stmt_of f r) is ∙ forms.stmt_run f r e line }
is_plain f r x line (inr (inr (inl (test, first, second, is)))) = record {
  check = if_stmt f test (stmt_of f r first) (option_map (stmt_of f r) second) line;
  same = ap
      (stmt_of f r) is ∙ forms.stmt_if f r test first second line;
}
is_plain f r x line (inr (inr (inr (inl (test, body, is))))) = record { check = λ around. while_stmt f test (stmt_of f r body) line; same = ap (stmt_of f r) is ∙ forms.stmt_while f r test body line }
is_plain f r x line (inr (inr (inr (inr (inl (body, test, is)))))) = record { check = λ around. do_stmt f (stmt_of f r body) test line; same = ap (stmt_of f r) is ∙ forms.stmt_do f r body test line }
is_plain f r x line (inr (inr (inr (inr (inr (inl (first, test, third, body, is))))))) = record {
  check = λ around. for_stmt f first test third (stmt_of f r body) line;
  same
      = ap (stmt_of f r) is ∙ forms.stmt_for f r first test third body line;
}
is_plain f r x line (inr (inr (inr (inr (inr (inr (inl is))))))) = record { check = break_stmt f line; same = ap (stmt_of f r) is ∙ forms.stmt_break f r line }
is_plain f r x line (inr (inr (inr (inr (inr (inr (inr (inl is)))))))) = record { check = continue_stmt f line; same = ap (stmt_of f r) is ∙ forms.stmt_continue f r line }
is_plain f r x line (inr (inr (inr (inr (inr (inr (inr (inr (inl (value, is)))))))))) = record {
  check = λ around. return_stmt f r value line;
  same = ap (stmt_of f r) is ∙
      forms.stmt_return f r value line;
}
is_plain f r x line (inr (inr (inr (inr (inr (inr (inr (inr (inr (on, arms, is)))))))))) = record {
  check = switch_stmt f on (map (arm_of f r) arms) line;
  same = ap
      (stmt_of f r) is ∙ forms.stmt_switch f r on arms line;
}

pub returns-in-Block : goal.returns-in-Block
returns-in-Block c =
    let h0 = rw c.as_slice-in-Block.ensures at c.block_from.ensures in
    let h1 = rw c.as_slice.ensures at h0 in
    let h2 = rw c.outside.ensures at h1 in
    body_form _ _ _ _ _ _ _ _ _ c.in-Block.is (forms.stmt_block _ _ c.in-Block.locals c.in-Block.list c.in-Block.line) h2

pub returns-in-Empty : goal.returns-in-Empty
returns-in-Empty c = alone_form _ _ _ _ _ _ _ (is_plain c.args.within.now.functions.now c.args.within.now.returns c.args.s.now c.in-Empty.line c.in-Empty.is) c.alone.ensures
