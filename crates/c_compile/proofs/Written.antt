-- The code of each kind of statement, as it is written.
use Rattle.std.proofs.Common.{◌≡◌, ℕ, ◌+◌, ◌<◌, List, [], ◌∷◌, map, length, drop, get_or, Option, Some, None, refl, ap, ◌∙◌}
use Rattle.c_tree.specs.declared.program.Start.{Start}
use Rattle.c_tree.specs.declared.program.PExpr.{PExpr}
use Rattle.c_tree.specs.declared.program.PArm.{PArm}
use Rattle.c_tree.specs.declared.program.PStmt.{PStmt, Block, Empty, Run, If, While, Do, For, Break, Continue, Return, Switch}
use Rattle.c_tree.specs.declared.program.PStmt.TheVariants.{rolls-Block, rolls-Empty, rolls-Run, rolls-If, rolls-While, rolls-Do, rolls-For, rolls-Break, rolls-Continue, rolls-Return, rolls-Switch}
use Rattle.c_tree.specs.declared.program.PStmt.TheOpen.{PStmt-F}
use Rattle.stack_code.specs.declared.instr.Instr.TheVariants as instr
use Rattle.c_compile.specs.Asm.{Laid, nothing, ◌⨾◌}
use Rattle.c_compile.specs.ExprCode.{Shape}
use Rattle.c_compile.specs.StmtCode.{Blocks, Exits, stmt_code, put, effect_code, effect_ends, test_code, returned, if_code, while_code, do_code, for_code}
use Rattle.c_compile.specs.private.Emitted.{value_of, code_of_value, code_of_zeros, code_of_starts, code_of_stmt, code_of_list, code_of_arms, code_of_cases, code_of_inside, code_of_switch, end_of_value}
use Rattle.c_compile.specs.private.Emitted.{end_of_stmt, end_of_arms, end_of_cases, default_place_of}
use Rattle.c_compile.specs.declared.body.Body.{Body}
use Rattle.c_compile.specs.private.Body.{steps_of, blocks_of, Wrote}
use Rattle.c_compile.proofs.Bodies.{wrote_nothing, wrote_both, wrote_as, Onward, onward_more}
use Rattle.c_compile.proofs.ByStmt.{stmt_is}
use Rattle.c_compile.proofs.Writing.{drops}

-- ---- the code of each kind, by its parts

module _ (sh : Shape) (exits : Exits) where
  pub code_block : (locals : List Start) (list : List PStmt) (line : ℕ)
      → code_of_stmt sh (Block locals list line) exits ≡ (λ blocks. code_of_inside sh locals list exits (map (λ x. x.slot) locals ∷ blocks))
  unfolding code_of_stmt code_of_inside
  code_block locals list line = ap (λ c. c.code exits) (stmt_is sh (Block locals list line) (PStmt-F.Block locals list line) (rolls-Block locals list line))

  pub code_empty : (line : ℕ) → code_of_stmt sh (Empty line) exits ≡ (λ blocks. put blocks (instr.Line line))
  unfolding code_of_stmt
  code_empty line = ap (λ c. c.code exits) (stmt_is sh (Empty line) (PStmt-F.Empty line) (rolls-Empty line))

  pub code_run : (part : PExpr) (line : ℕ) → code_of_stmt sh (Run part line) exits ≡ (λ blocks. put blocks (instr.Line line) ⨾ effect_code sh (Some part) blocks)
  unfolding code_of_stmt
  code_run part line = ap (λ c. c.code exits) (stmt_is sh (Run part line) (PStmt-F.Run part line) (rolls-Run part line))

  pub code_if : (test : PExpr) (first : PStmt) (line : ℕ) → code_of_stmt sh (If test first None line) exits
      ≡ (λ blocks. put blocks (instr.Line line) ⨾ if_code sh test (stmt_code sh first) None exits blocks)
  unfolding code_of_stmt
  code_if test first line = ap (λ c. c.code exits) (stmt_is sh (If test first None line) (PStmt-F.If test first None line) (rolls-If test first None line))

  pub code_if_else : (test : PExpr) (first second : PStmt) (line : ℕ)
      → code_of_stmt sh (If test first (Some second) line) exits ≡ (λ blocks. put blocks (instr.Line line) ⨾ if_code sh test (stmt_code sh first) (Some (stmt_code sh second)) exits blocks)
  unfolding code_of_stmt
  code_if_else test first second line = ap (λ c. c.code exits) (stmt_is sh (If test first (Some second) line) (PStmt-F.If test first (Some second) line) (rolls-If test first (Some second) line))

  pub code_while : (test : PExpr) (body : PStmt) (line : ℕ) → code_of_stmt sh (While test body line) exits ≡ (λ blocks. while_code sh test (stmt_code sh body) line blocks)
  unfolding code_of_stmt
  code_while test body line = ap (λ c. c.code exits) (stmt_is sh (While test body line) (PStmt-F.While test body line) (rolls-While test body line))

  pub code_do : (body : PStmt) (test : PExpr) (line : ℕ) → code_of_stmt sh (Do body test line) exits ≡ (λ blocks. do_code sh (stmt_code sh body) test line blocks)
  unfolding code_of_stmt
  code_do body test line = ap (λ c. c.code exits) (stmt_is sh (Do body test line) (PStmt-F.Do body test line) (rolls-Do body test line))

  pub code_for : (first test third : Option PExpr) (body : PStmt) (line : ℕ)
      → code_of_stmt sh (For first test third body line) exits ≡ (λ blocks. for_code sh first test third (stmt_code sh body) line blocks)
  unfolding code_of_stmt
  code_for first test third body line = ap (λ c. c.code exits) (stmt_is sh (For first test third body line) (PStmt-F.For first test third body line) (rolls-For first test third body line))

  pub code_break : (line : ℕ) → code_of_stmt sh (Break line) exits ≡ (λ blocks. put blocks (instr.Line line) ⨾ put blocks (instr.Jump exits.breaks))
  unfolding code_of_stmt
  code_break line = ap (λ c. c.code exits) (stmt_is sh (Break line) (PStmt-F.Break line) (rolls-Break line))

  pub code_continue : (line : ℕ) → code_of_stmt sh (Continue line) exits ≡ (λ blocks. put blocks (instr.Line line) ⨾ put blocks (instr.Jump exits.continues))
  unfolding code_of_stmt
  code_continue line = ap (λ c. c.code exits) (stmt_is sh (Continue line) (PStmt-F.Continue line) (rolls-Continue line))

  pub code_return : (value : Option PExpr) (line : ℕ) → code_of_stmt sh (Return value line) exits ≡ (λ blocks. put blocks (instr.Line line) ⨾ (returned sh value blocks ⨾ put blocks instr.Return))
  unfolding code_of_stmt
  code_return value line = ap (λ c. c.code exits) (stmt_is sh (Return value line) (PStmt-F.Return value line) (rolls-Return value line))

  pub code_switch : (on : PExpr) (arms : List PArm) (line : ℕ) → code_of_stmt sh (Switch on arms line) exits ≡ code_of_switch sh on arms line exits
  unfolding code_of_stmt code_of_switch
  code_switch on arms line = ap (λ c. c.code exits) (stmt_is sh (Switch on arms line) (PStmt-F.Switch on arms line) (rolls-Switch on arms line))

pub ruleset codes = (code_block, code_empty, code_run, code_if, code_if_else, code_while, code_do, code_for, code_break, code_continue, code_return, code_switch)

-- ---- simple statements

module _ (sh : Shape) {a b c d : Body} where
  pub run_written : (part : PExpr) (line : ℕ) → Wrote a b (λ blocks. put blocks (instr.Line line)) → Wrote b c (code_of_value sh part) → Wrote c d (λ blocks. put blocks instr.Drop)
      → Wrote a d (λ blocks. put blocks (instr.Line line) ⨾ effect_code sh (Some part) blocks)
  unfolding code_of_value value_of
  run_written part line h1 h2 h3 = wrote_both h1 (wrote_both h2 h3)

  pub return_written : (value : Option PExpr) (line : ℕ) → Wrote a b (λ blocks. put blocks (instr.Line line)) → Wrote b c (λ blocks. returned sh value blocks)
      → Wrote c d (λ blocks. put blocks instr.Return) → Wrote a d (λ blocks. put blocks (instr.Line line) ⨾ (returned sh value blocks ⨾ put blocks instr.Return))
  return_written value line h1 h2 h3 = wrote_both h1 (wrote_both h2 h3)

  pub inside_written : (locals : List Start) (list : List PStmt) (exits : Exits) → Wrote a b (code_of_zeros sh locals) → Wrote b c (code_of_starts sh locals)
      → Wrote c d (code_of_list sh list exits) → Wrote a d (code_of_inside sh locals list exits)
  unfolding code_of_zeros code_of_starts code_of_list code_of_inside
  inside_written locals list exits h1 h2 h3 = wrote_both h1 (wrote_both h2 h3)

-- ---- lists

module _ (sh : Shape) (exits : Exits) where
  pub list_none : code_of_list sh [] exits ≡ (λ blocks. nothing)
  unfolding code_of_list
  list_none = refl

  pub arms_none : code_of_arms sh [] exits ≡ (λ blocks. nothing)
  unfolding code_of_arms
  arms_none = refl

module _ (sh : Shape) (exits : Exits) {a b c : Body} where
  pub list_more : (xs : List PStmt) (i : ℕ) (x : PStmt) → i < length xs → x ≡ get_or xs i x → Onward a b (code_of_list sh (drop i xs) exits) (code_of_list sh xs exits)
      → Wrote b c (code_of_stmt sh x exits) → Onward a c (code_of_list sh (drop (i + 1) xs) exits) (code_of_list sh xs exits)
  unfolding code_of_list code_of_stmt
  list_more xs i x lt is h w = onward_more h w (ap (λ l. code_of_list sh l exits) (drops xs i x lt is))

  pub arms_more : (xs : List PArm) (i : ℕ) (x : PArm) → i < length xs → x ≡ get_or xs i x → Onward a b (code_of_arms sh (drop i xs) exits) (code_of_arms sh xs exits)
      → Wrote b c (code_of_list sh x.list exits) → Onward a c (code_of_arms sh (drop (i + 1) xs) exits) (code_of_arms sh xs exits)
  unfolding code_of_arms code_of_list
  arms_more xs i x lt is h w = onward_more h w (ap (λ l. code_of_arms sh l exits) (drops xs i x lt is))

-- ---- choices

module _ (sh : Shape) {a b c d e f : Body} where
  pub if_written : (test : PExpr) (when : PStmt) (line : ℕ) (exits : Exits) (place end : ℕ) → place ≡ length (steps_of a)
      → end ≡ end_of_stmt sh when (end_of_value sh test (place + 1) + 1) + 1 → Wrote a b (λ blocks. put blocks (instr.Line line)) → Wrote b c (code_of_value sh test)
      → Wrote c d (λ blocks. put blocks (instr.JumpZero end)) → Wrote d e (code_of_stmt sh when exits) → Wrote e f (λ blocks. put blocks (instr.Jump end))
      → Wrote a f (λ blocks. put blocks (instr.Line line) ⨾ if_code sh test (stmt_code sh when) None exits blocks)
  unfolding code_of_value value_of code_of_stmt end_of_stmt end_of_value
  if_written test when line exits place end at_place at_end h1 h2 h3 h4 h5 =
      let p = length (steps_of a) in
      let Q : ℕ → Blocks → Laid = λ n. λ blocks. put blocks (instr.Line line) ⨾
      (code_of_value sh test blocks ⨾ (put blocks (instr.JumpZero n) ⨾ (code_of_stmt sh when exits blocks ⨾ (put blocks (instr.Jump n) ⨾ nothing)))) in
      let all = wrote_both h1 (wrote_both h2 (wrote_both h3 (wrote_both h4 (wrote_both h5 (wrote_nothing f h5.fine))))) in
      let end_is = at_end ∙ ap (λ n. end_of_stmt sh when (end_of_value sh test (n + 1) + 1) + 1) at_place in
      wrote_as (λ blocks. put blocks (instr.Line line) ⨾ if_code sh test (stmt_code sh when) None exits blocks) all (ap (λ n. Q n (blocks_of a) p) end_is)

  pub if_else_written : {g : Body} (test : PExpr) (when other : PStmt) (line : ℕ) (exits : Exits) (place second end : ℕ) → place ≡ length (steps_of a)
      → second ≡ end_of_stmt sh when (end_of_value sh test (place + 1) + 1) + 1 → end ≡ end_of_stmt sh other second → Wrote a b (λ blocks. put blocks (instr.Line line))
      → Wrote b c (code_of_value sh test) → Wrote c d (λ blocks. put blocks (instr.JumpZero second)) → Wrote d e (code_of_stmt sh when exits) → Wrote e f (λ blocks. put blocks (instr.Jump end))
      → Wrote f g (code_of_stmt sh other exits) → Wrote a g (λ blocks. put blocks (instr.Line line) ⨾ if_code sh test (stmt_code sh when) (Some (stmt_code sh other)) exits blocks)
  unfolding code_of_value value_of code_of_stmt end_of_stmt end_of_value
  if_else_written test when other line exits place second end at_place at_second at_end h1 h2 h3 h4 h5 h6 =
      let p = length (steps_of a) in
      let Q : ℕ → ℕ → Blocks → Laid = λ n m. λ blocks. put blocks (instr.Line line) ⨾
      (code_of_value sh test blocks ⨾ (put blocks (instr.JumpZero n) ⨾ (code_of_stmt sh when exits blocks ⨾ (put blocks (instr.Jump m) ⨾ code_of_stmt sh other exits blocks)))) in
      let all = wrote_both h1 (wrote_both h2 (wrote_both h3 (wrote_both h4 (wrote_both h5 h6)))) in
      let second_is = at_second ∙ ap (λ n. end_of_stmt sh when (end_of_value sh test (n + 1) + 1) + 1) at_place in
      wrote_as (λ blocks. put blocks (instr.Line line) ⨾ if_code sh test (stmt_code sh when) (Some (stmt_code sh other)) exits blocks) all
      (ap (λ n. Q second n (blocks_of a) p) at_end ∙ ap (λ n. Q n (end_of_stmt sh other n) (blocks_of a) p) second_is)

-- ---- loops

module _ (sh : Shape) {a b c d e f : Body} where
  pub while_written : (test : PExpr) (inner : PStmt) (line start back end : ℕ) → start ≡ length (steps_of a) → back ≡ end_of_stmt sh inner (end_of_value sh test (start + 1) + 1) → end ≡ back + 1
      → Wrote a b (λ blocks. put blocks (instr.Line line)) → Wrote b c (code_of_value sh test) → Wrote c d (λ blocks. put blocks (instr.JumpZero end))
      → Wrote d e (code_of_stmt sh inner (record { breaks = end; continues = back })) → Wrote e f (λ blocks. put blocks (instr.Jump start))
      → Wrote a f (λ blocks. while_code sh test (stmt_code sh inner) line blocks)
  unfolding code_of_value value_of code_of_stmt end_of_stmt end_of_value
  while_written test inner line start back end at_start at_back at_end h1 h2 h3 h4 h5 =
      let p = length (steps_of a) in
      let Q : ℕ → ℕ → ℕ → Blocks → Laid = λ n m k. λ blocks. put blocks (instr.Line line) ⨾
      ((code_of_value sh test blocks ⨾ put blocks (instr.JumpZero n)) ⨾ (code_of_stmt sh inner (record { breaks = n; continues = m }) blocks ⨾ put blocks (instr.Jump k))) in
      let all = wrote_both h1 (wrote_both (wrote_both h2 h3) (wrote_both h4 h5)) in
      let back_is = at_back ∙ ap (λ n. end_of_stmt sh inner (end_of_value sh test (n + 1) + 1)) at_start in
      wrote_as (λ blocks. while_code sh test (stmt_code sh inner) line blocks) all (ap (λ n. Q n back start (blocks_of a) p) at_end ∙ ap (λ n. Q (n + 1) n start (blocks_of a) p) back_is
      ∙ ap (λ n. Q (end_of_stmt sh inner (end_of_value sh test (p + 1) + 1) + 1) (end_of_stmt sh inner (end_of_value sh test (p + 1) + 1)) n (blocks_of a) p) at_start)

  pub do_written : (inner : PStmt) (test : PExpr) (line start first again back end : ℕ) → start ≡ length (steps_of a) → first ≡ start + 1 → again ≡ end_of_stmt sh inner first
      → back ≡ end_of_value sh test again + 1 → end ≡ back + 1 → Wrote a b (λ blocks. put blocks (instr.Line line)) → Wrote b c (code_of_stmt sh inner (record { breaks = end; continues = again }))
      → Wrote c d (code_of_value sh test) → Wrote d e (λ blocks. put blocks (instr.JumpZero end)) → Wrote e f (λ blocks. put blocks (instr.Jump start))
      → Wrote a f (λ blocks. do_code sh (stmt_code sh inner) test line blocks)
  unfolding code_of_value value_of code_of_stmt end_of_stmt end_of_value
  do_written inner test line start first again back end at_start at_first at_again at_back at_end h1 h2 h3 h4 h5 =
      let p = length (steps_of a) in
      let Q : ℕ → ℕ → ℕ → Blocks → Laid = λ n m k. λ blocks. put blocks (instr.Line line) ⨾
      (code_of_stmt sh inner (record { breaks = n; continues = m }) blocks ⨾ ((code_of_value sh test blocks ⨾ put blocks (instr.JumpZero n)) ⨾ put blocks (instr.Jump k))) in
      let all = wrote_both h1 (wrote_both h2 (wrote_both (wrote_both h3 h4) h5)) in
      let A = end_of_stmt sh inner (p + 1) in
      let again_is : again ≡ A = at_again ∙ ap (λ n. end_of_stmt sh inner n) (at_first ∙ ap (λ n. n + 1) at_start) in
      let end_is : end ≡ end_of_value sh test again + 1 + 1 = at_end ∙ ap (λ n. n + 1) at_back in
      wrote_as (λ blocks. do_code sh (stmt_code sh inner) test line blocks) all
      (ap (λ n. Q n again start (blocks_of a) p) end_is ∙ ap (λ n. Q (end_of_value sh test n + 1 + 1) n start (blocks_of a) p) again_is
      ∙ ap (λ n. Q (end_of_value sh test A + 1 + 1) A n (blocks_of a) p) at_start)

  pub for_written : {g h i : Body} (first test third : Option PExpr) (inner : PStmt) (line start top again back end next : ℕ) → start ≡ length (steps_of a)
      → top ≡ effect_ends sh first (start + 1) + 1 → again ≡ end_of_stmt sh inner (effect_ends sh test (top + 1)) → back ≡ effect_ends sh third again → end ≡ back + 1 → next ≡ top + 1
      → Wrote a b (λ blocks. put blocks (instr.Line line)) → Wrote b c (λ blocks. effect_code sh first blocks) → Wrote c d (λ blocks. put blocks (instr.Jump next))
      → Wrote d e (λ blocks. put blocks (instr.Line line)) → Wrote e f (λ blocks. test_code sh test end blocks) → Wrote f g (code_of_stmt sh inner (record { breaks = end; continues = again }))
      → Wrote g h (λ blocks. effect_code sh third blocks) → Wrote h i (λ blocks. put blocks (instr.Jump top)) → Wrote a i (λ blocks. for_code sh first test third (stmt_code sh inner) line blocks)
  unfolding code_of_stmt end_of_stmt
  for_written first test third inner line start top again back end next at_start at_top at_again at_back at_end at_next h1 h2 h3 h4 h5 h6 h7 h8 =
      let p = length (steps_of a) in
      let Q : ℕ → ℕ → ℕ → ℕ → Blocks → Laid = λ n m e t. λ blocks. put blocks (instr.Line line) ⨾
      (effect_code sh first blocks ⨾
      (put blocks (instr.Jump n) ⨾ (put blocks (instr.Line line) ⨾
      (test_code sh test e blocks ⨾ (code_of_stmt sh inner (record { breaks = e; continues = m }) blocks ⨾ (effect_code sh third blocks ⨾ put blocks (instr.Jump t))))))) in
      let all = wrote_both h1 (wrote_both h2 (wrote_both h3 (wrote_both h4 (wrote_both h5 (wrote_both h6 (wrote_both h7 h8)))))) in
      let A : ℕ → ℕ = λ t. end_of_stmt sh inner (effect_ends sh test (t + 1)) in
      let top_is : top ≡ effect_ends sh first (p + 1) + 1 = at_top ∙ ap (λ n. effect_ends sh first (n + 1) + 1) at_start in
      let end_is : end ≡ effect_ends sh third again + 1 = at_end ∙ ap (λ n. n + 1) at_back in
      wrote_as (λ blocks. for_code sh first test third (stmt_code sh inner) line blocks) all
      (ap (λ n. Q n again end top (blocks_of a) p) at_next ∙ ap (λ n. Q (top + 1) again n top (blocks_of a) p) end_is
      ∙ ap (λ n. Q (top + 1) n (effect_ends sh third n + 1) top (blocks_of a) p) at_again ∙ ap (λ n. Q (n + 1) (A n) (effect_ends sh third (A n) + 1) n (blocks_of a) p) top_is)

  pub switch_written : {g : Body} (on : PExpr) (arms : List PArm) (line : ℕ) (exits : Exits) (start first end default : ℕ) → start ≡ length (steps_of a)
      → first ≡ end_of_cases sh arms (end_of_value sh on (start + 1)) + 2 → end ≡ end_of_arms sh arms first → default ≡ default_place_of sh arms first
      → Wrote a b (λ blocks. put blocks (instr.Line line)) → Wrote b c (code_of_value sh on) → Wrote c d (code_of_cases sh arms first) → Wrote d e (λ blocks. put blocks instr.Drop)
      → Wrote e f (λ blocks. put blocks (instr.Jump default)) → Wrote f g (code_of_arms sh arms (record { breaks = end; continues = exits.continues }))
      → Wrote a g (code_of_switch sh on arms line exits)
  unfolding code_of_value value_of end_of_value code_of_cases code_of_arms end_of_cases end_of_arms default_place_of code_of_switch
  switch_written on arms line exits start first end default at_start at_first at_end at_default h1 h2 h3 h4 h5 h6 =
      let p = length (steps_of a) in
      let Q : ℕ → ℕ → ℕ → Blocks → Laid = λ n m k. λ blocks. put blocks (instr.Line line) ⨾
      (code_of_value sh on blocks ⨾ (code_of_cases sh arms n blocks ⨾
      (put blocks instr.Drop ⨾ (put blocks (instr.Jump m) ⨾ code_of_arms sh arms (record { breaks = k; continues = exits.continues }) blocks)))) in
      let all = wrote_both h1 (wrote_both h2 (wrote_both h3 (wrote_both h4 (wrote_both h5 h6)))) in
      let first_is : first ≡ end_of_cases sh arms (end_of_value sh on (p + 1)) + 2 = at_first ∙ ap (λ n. end_of_cases sh arms (end_of_value sh on (n + 1)) + 2) at_start in
      wrote_as (code_of_switch sh on arms line exits) all (ap (λ n. Q first n end (blocks_of a) p) at_default ∙ ap (λ n. Q first (default_place_of sh arms first) n (blocks_of a) p) at_end
      ∙ ap (λ n. Q n (default_place_of sh arms n) (end_of_arms sh arms n) (blocks_of a) p) first_is)
