-- Where the parts of code end.
use Rattle.std.proofs.Common.{◌≡◌, ℕ, ◌+◌, List, [], ◌∷◌, Option, Some, None, refl, sym, ap, ◌∙◌, arith, length-append}
use Rattle.c_tree.specs.declared.program.PLabel.{PLabel}
use Rattle.c_tree.specs.declared.program.PExpr.{PExpr}
use Rattle.stack_code.specs.declared.instr.Instr.{Instr}
use Rattle.stack_code.specs.declared.instr.Instr.TheVariants as instr
use Rattle.stack_code.specs.Code.{Placed}
use Rattle.c_compile.specs.Asm.{end_of, ◌⨾◌}
use Rattle.c_compile.specs.ExprCode.{Shape, expr_code}
use Rattle.c_compile.specs.StmtCode.{Blocks, ArmCode, put, value_code, test_code, test_ends, effect_code, effect_ends, case_code, cases_code, arms_cases}
use Rattle.c_compile.proofs.Lies.{in_block_length}

pub end_of_seq : (a b : ℕ → List Placed) (p : ℕ) → end_of (a ⨾ b) p ≡ end_of b (end_of a p)
end_of_seq a b p = omega (arith, length-append (a p) (b (end_of a p)))

-- the place after an instruction and some code
pub end_of_put : (blocks : Blocks) (i : Instr) (b : ℕ → List Placed) (p : ℕ) → end_of (put blocks i ⨾ b) p ≡ end_of b (p + 1)
end_of_put blocks i b p = end_of_seq (put blocks i) b p

pub end_of_last : (blocks : Blocks) (i : Instr) (a : ℕ → List Placed) (p q : ℕ) → end_of a p ≡ q → end_of (a ⨾ put blocks i) p ≡ q + 1
end_of_last blocks i a p q e = end_of_seq a (put blocks i) p ∙ ap (λ n. n + 1) e

module _ (sh : Shape) where
  pub value_end : (blocks : Blocks) (e : PExpr) (p : ℕ) → end_of (value_code sh e blocks) p ≡ end_of (expr_code sh e).value p
  value_end blocks e p = ap (λ n. p + n) (in_block_length blocks ((expr_code sh e).value p))

  pub test_end : (blocks : Blocks) (o : Option PExpr) (exit p : ℕ) → end_of (test_code sh o exit blocks) p ≡ test_ends sh o p
  test_end blocks None exit p = omega arith
  test_end blocks (Some e) exit p = end_of_last blocks (instr.JumpZero exit) (value_code sh e blocks) p _ (value_end blocks e p)

  pub effect_end : (blocks : Blocks) (o : Option PExpr) (p : ℕ) → end_of (effect_code sh o blocks) p ≡ effect_ends sh o p
  effect_end blocks None p = omega arith
  effect_end blocks (Some e) p = end_of_last blocks instr.Drop (value_code sh e blocks) p _ (value_end blocks e p)

  -- ---- the comparisons of a switch, wherever they lead

  case_length : (o : Option ℕ) (t t' : ℕ) (a b : Blocks) (p : ℕ) → end_of (case_code sh o t a) p ≡ end_of (case_code sh o t' b) p
  case_length None t t' a b p = refl
  case_length (Some n) t t' a b p = refl

  cases_length : (xs : List PLabel) (t t' : ℕ) (a b : Blocks) (p : ℕ) → end_of (cases_code sh xs t a) p ≡ end_of (cases_code sh xs t' b) p
  cases_length [] t t' a b p = refl
  cases_length (x ∷ xs) t t' a b p =
      end_of_seq (case_code sh x.value t a) (cases_code sh xs t a) p
      ∙ cases_length xs t t' a b (end_of (case_code sh x.value t a) p)
      ∙ ap (λ n. end_of (cases_code sh xs t' b) n) (case_length x.value t t' a b p)
      ∙ sym (end_of_seq (case_code sh x.value t' b) (cases_code sh xs t' b) p)

  pub arms_cases_length : (cs : List ArmCode) (s s' : ℕ) (a b : Blocks) (p : ℕ) → end_of (arms_cases sh cs s a) p ≡ end_of (arms_cases sh cs s' b) p
  arms_cases_length [] s s' a b p = refl
  arms_cases_length (c ∷ cs) s s' a b p =
      end_of_seq (cases_code sh c.labels s a) (arms_cases sh cs (c.ends s) a) p
      ∙ arms_cases_length cs (c.ends s) (c.ends s') a b (end_of (cases_code sh c.labels s a) p)
      ∙ ap (λ n. end_of (arms_cases sh cs (c.ends s') b) n) (cases_length c.labels s s' a b p)
      ∙ sym (end_of_seq (cases_code sh c.labels s' b) (arms_cases sh cs (c.ends s') b) p)
