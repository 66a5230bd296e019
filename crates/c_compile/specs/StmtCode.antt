-- The code of statements. A place after a part doesn't depend on where its breaks lead to, so it is known before the
-- part is laid out.
use Rattle.std.specs.Prelude.{ℕ, ◌+◌, Bool, true, false, ◌&&◌, List, [], ◌∷◌, map, length, Option, Some, None, slice_get}
use Rattle.std.specs.List.{list_any}
use Rattle.nm_base.specs.declared.operator.Ctype.TheVariants.{Int}
use Rattle.nm_base.specs.declared.operator.BinaryOp.TheVariants.{Equal}
use Rattle.c_tree.specs.declared.program.Function.{Function}
use Rattle.c_tree.specs.declared.program.Global.{Global}
use Rattle.c_tree.specs.declared.program.Slot.{Slot}
use Rattle.c_tree.specs.declared.program.Start.{Start}
use Rattle.c_tree.specs.declared.program.PLabel.{PLabel}
use Rattle.c_tree.specs.declared.program.PExpr.{PExpr}
use Rattle.c_tree.specs.declared.program.PArm.{PArm}
use Rattle.c_tree.specs.declared.program.PStmt.{PStmt}
use Rattle.c_tree.specs.declared.program.PStmt.TheOpen.{PStmt-F, PArm-F}
use Rattle.c_tree.specs.declared.program.PStmt.TheBlock.{laid-PStmt, laid-PArm}
use Rattle.c_tree.specs.declared.program.PStmt.TheFolds.{family, steps}
use Rattle.c_tree.specs.Storage.{words_of_slot, words_of, words_before, first_words}
use Rattle.c_tree.specs.Expr.{slots_of, frame_words}
use Rattle.c_tree.specs.Stmt.{is_default}
use Rattle.stack_code.specs.declared.instr.Instr.{Instr}
use Rattle.stack_code.specs.declared.instr.Instr.TheVariants as instr
use Rattle.stack_code.specs.Code.{FunctionCode, Code}
use Rattle.c_compile.specs.Asm.{Laid, nothing, one, end_of, ◌⨾◌, lay}
use Rattle.c_compile.specs.ExprCode.{Shape, expr_code}
pub use Rattle.c_compile.specs.declared.exits.Exits.{Exits}
use Rattle.c_compile.specs.Variables.{globals_from, slots_from}

-- the blocks round a statement
abbrev pub Blocks : Type 0
Blocks = List (List ℕ)

pub record StmtCode : Type 0 where
  pub code : Exits → Blocks → Laid
  -- the place after the code, by that of its first instruction
  pub ends : ℕ → ℕ
  -- as the body of a function, at whose end these blocks are entered
  pub body : Exits → Blocks → Laid
  pub inside : Blocks → Blocks
  pub fits : Bool

pub record ArmCode : Type 0 where
  pub labels : List PLabel
  pub code : Exits → Blocks → Laid
  pub ends : ℕ → ℕ
  pub fits : Bool

abbrev pub plain : (Exits → Blocks → Laid) → (ℕ → ℕ) → Bool → StmtCode
plain code ends fits = record { code = code; ends = ends; body = code; inside = λ blocks. blocks; fits = fits }

abbrev pub put : Blocks → Instr → Laid
put blocks i = one (record { instr = i; entered = blocks })

-- ---- sequences

abbrev pub sequence_code : List StmtCode → Exits → Blocks → Laid
sequence_code [] exits blocks = nothing
sequence_code (x ∷ xs) exits blocks = x.code exits blocks ⨾ sequence_code xs exits blocks

abbrev pub sequence_ends : List StmtCode → ℕ → ℕ
sequence_ends [] p = p
sequence_ends (x ∷ xs) p = sequence_ends xs (x.ends p)

abbrev pub all_fit : List StmtCode → Bool
all_fit [] = true
all_fit (x ∷ xs) = x.fits && all_fit xs

-- ---- choices

abbrev pub else_code : Option StmtCode → Exits → Blocks → Laid
else_code None exits blocks = nothing
else_code (Some x) exits blocks = x.code exits blocks

abbrev pub else_ends : Option StmtCode → ℕ → ℕ
else_ends None p = p
else_ends (Some x) p = x.ends p

abbrev pub else_fits : Option StmtCode → Bool
else_fits None = true
else_fits (Some x) = x.fits

module _ (sh : Shape) where
  abbrev pub value_code : PExpr → Blocks → Laid
  value_code e blocks = lay blocks (expr_code sh e).value

  -- ---- parts of loops

  -- a test that leads to an exit where it fails
  abbrev pub test_code : Option PExpr → ℕ → Blocks → Laid
  test_code None exit blocks = nothing
  test_code (Some e) exit blocks = value_code e blocks ⨾ put blocks (instr.JumpZero exit)

  abbrev pub test_ends : Option PExpr → ℕ → ℕ
  test_ends None p = p
  test_ends (Some e) p = end_of (expr_code sh e).value p + 1

  abbrev pub effect_code : Option PExpr → Blocks → Laid
  effect_code None blocks = nothing
  effect_code (Some e) blocks = value_code e blocks ⨾ put blocks instr.Drop

  abbrev pub effect_ends : Option PExpr → ℕ → ℕ
  effect_ends None p = p
  effect_ends (Some e) p = end_of (expr_code sh e).value p + 1

  abbrev pub fits_if_any : Option PExpr → Bool
  fits_if_any None = true
  fits_if_any (Some e) = (expr_code sh e).fits

  -- ---- blocks

  abbrev pub zero_by : Option Slot → ℕ → Blocks → Laid
  zero_by None base blocks = nothing
  zero_by (Some x) base blocks = put blocks (instr.Zero base (words_of_slot x))

  abbrev pub zeros : List Start → Blocks → Laid
  zeros [] blocks = nothing
  zeros (x ∷ xs) blocks =
      zero_by (slice_get sh.slots x.slot) (words_before words_of_slot sh.slots x.slot) blocks ⨾ zeros xs blocks

  abbrev pub start_by : ℕ → ℕ → Option PExpr → Blocks → Laid
  start_by slot line None blocks = nothing
  start_by slot line (Some e) blocks =
      put blocks (instr.Line line)
      ⨾ (value_code e blocks
      ⨾ (put blocks (instr.LocalPlace (words_before words_of_slot sh.slots slot))
      ⨾ (put blocks instr.Swap ⨾ (put blocks instr.Store ⨾ put blocks instr.Drop))))

  abbrev pub starts : List Start → Blocks → Laid
  starts [] blocks = nothing
  starts (x ∷ xs) blocks = start_by x.slot x.line x.value blocks ⨾ starts xs blocks

  abbrev pub starts_fit : List Start → Bool
  starts_fit [] = true
  starts_fit (x ∷ xs) = fits_if_any x.value && starts_fit xs

  abbrev pub block_code : List Start → List StmtCode → Exits → Blocks → Laid
  block_code locals list exits blocks =
      let inner = map (λ x. x.slot) locals ∷ blocks in
      zeros locals inner ⨾ (starts locals inner ⨾ sequence_code list exits inner)

  abbrev pub block_ends : List Start → List StmtCode → ℕ → ℕ
  block_ends locals list p = sequence_ends list (end_of (starts locals []) (end_of (zeros locals []) p))

  -- ---- statements

  abbrev pub returned : Option PExpr → Blocks → Laid
  returned None blocks = put blocks (instr.Push 0)
  returned (Some e) blocks = value_code e blocks

  abbrev pub returned_ends : Option PExpr → ℕ → ℕ
  returned_ends None p = p + 1
  returned_ends (Some e) p = end_of (expr_code sh e).value p

  abbrev pub if_code : PExpr → StmtCode → Option StmtCode → Exits → Blocks → Laid
  if_code test first second exits blocks p =
      let a = end_of (expr_code sh test).value p + 1 in
      let b = first.ends a + 1 in
      (value_code test blocks
      ⨾ (put blocks (instr.JumpZero b)
      ⨾ (first.code exits blocks ⨾ (put blocks (instr.Jump (else_ends second b)) ⨾ else_code second exits blocks)))) p

  -- a test, the body and a jump to the Line at the loop's beginning
  abbrev pub while_code : PExpr → StmtCode → ℕ → Blocks → Laid
  while_code test body line blocks p =
      let back = body.ends (test_ends (Some test) (p + 1)) in
      (put blocks (instr.Line line)
      ⨾ (test_code (Some test) (back + 1) blocks
      ⨾ (body.code (record { breaks = back + 1; continues = back }) blocks ⨾ put blocks (instr.Jump p)))) p

  abbrev pub do_code : StmtCode → PExpr → ℕ → Blocks → Laid
  do_code body test line blocks p =
      let again = body.ends (p + 1) in
      let back = test_ends (Some test) again in
      (put blocks (instr.Line line)
      ⨾ (body.code (record { breaks = back + 1; continues = again }) blocks
      ⨾ (test_code (Some test) (back + 1) blocks ⨾ put blocks (instr.Jump p)))) p

  -- the Line of each later turn stands before the test, and the first turn jumps over it
  abbrev pub for_code : Option PExpr → Option PExpr → Option PExpr → StmtCode → ℕ → Blocks → Laid
  for_code first test third body line blocks p =
      let top = effect_ends first (p + 1) + 1 in
      let again = body.ends (test_ends test (top + 1)) in
      let back = effect_ends third again in
      (put blocks (instr.Line line)
      ⨾ (effect_code first blocks
      ⨾ (put blocks (instr.Jump (top + 1))
      ⨾ (put blocks (instr.Line line)
      ⨾ (test_code test (back + 1) blocks
      ⨾ (body.code (record { breaks = back + 1; continues = again }) blocks
      ⨾ (effect_code third blocks ⨾ put blocks (instr.Jump top)))))))) p

  abbrev pub for_ends : Option PExpr → Option PExpr → Option PExpr → StmtCode → ℕ → ℕ
  for_ends first test third body p =
      effect_ends third (body.ends (test_ends test (effect_ends first (p + 1) + 1 + 1))) + 1

  -- ---- switches

  -- a comparison with the value, and a jump that takes it off
  abbrev pub case_code : Option ℕ → ℕ → Blocks → Laid
  case_code None target blocks p = []
  case_code (Some bits) target blocks p =
      (put blocks instr.Dup
      ⨾ (put blocks (instr.Push bits)
      ⨾ (put blocks (instr.Binary Equal Int)
      ⨾ (put blocks (instr.JumpZero (p + 6)) ⨾ (put blocks instr.Drop ⨾ put blocks (instr.Jump target)))))) p

  abbrev pub cases_code : List PLabel → ℕ → Blocks → Laid
  cases_code [] target blocks = nothing
  cases_code (x ∷ xs) target blocks = case_code x.value target blocks ⨾ cases_code xs target blocks

  abbrev pub arms_cases : List ArmCode → ℕ → Blocks → Laid
  arms_cases [] start blocks = nothing
  arms_cases (arm ∷ arms) start blocks = cases_code arm.labels start blocks ⨾ arms_cases arms (arm.ends start) blocks

  abbrev pub arms_code : List ArmCode → Exits → Blocks → Laid
  arms_code [] exits blocks = nothing
  arms_code (arm ∷ arms) exits blocks = arm.code exits blocks ⨾ arms_code arms exits blocks

  abbrev pub arms_ends : List ArmCode → ℕ → ℕ
  arms_ends [] p = p
  arms_ends (arm ∷ arms) p = arms_ends arms (arm.ends p)

  abbrev pub arms_fit : List ArmCode → Bool
  arms_fit [] = true
  arms_fit (arm ∷ arms) = arm.fits && arms_fit arms

  -- the place of the first arm with such a label, or the end
  abbrev pub place_of_label : (PLabel → Bool) → List ArmCode → ℕ → ℕ
  place_of_label test [] start = start
  place_of_label test (arm ∷ arms) start =
      elim (list_any test arm.labels) [ true ↦ start | false ↦ place_of_label test arms (arm.ends start) ]

  abbrev pub switch_code : PExpr → List ArmCode → ℕ → Exits → Blocks → Laid
  switch_code on arms line exits blocks p =
      let cases = end_of (expr_code sh on).value (p + 1) in
      let start = end_of (arms_cases arms 0 []) cases + 2 in
      let after = arms_ends arms start in
      (put blocks (instr.Line line)
      ⨾ (value_code on blocks
      ⨾ (arms_cases arms start blocks
      ⨾ (put blocks instr.Drop
      ⨾ (put blocks (instr.Jump (place_of_label is_default arms start))
      ⨾ arms_code arms (record { breaks = after; continues = exits.continues }) blocks))))) p

  -- ---- all statements

  abbrev pub stmt_step : PStmt-F StmtCode ArmCode → StmtCode
  stmt_step (PStmt-F.Block locals list line) = record {
    code = block_code locals list;
    ends = block_ends locals list;
    body = block_code locals list;
    inside = λ blocks. map (λ x. x.slot) locals ∷ blocks;
    fits = starts_fit locals && all_fit list;
  }
  stmt_step (PStmt-F.Empty line) = plain (λ exits blocks. put blocks (instr.Line line)) (λ p. p + 1) true
  stmt_step (PStmt-F.Run part line) =
      plain
      (λ exits blocks. put blocks (instr.Line line) ⨾ effect_code (Some part) blocks)
      (λ p. effect_ends (Some part) (p + 1))
      (expr_code sh part).fits
  stmt_step (PStmt-F.If test first second line) =
      plain
      (λ exits blocks. put blocks (instr.Line line) ⨾ if_code test first second exits blocks)
      (λ p. else_ends second (first.ends (end_of (expr_code sh test).value (p + 1) + 1) + 1))
      ((expr_code sh test).fits && (first.fits && else_fits second))
  stmt_step (PStmt-F.While test body line) =
      plain
      (λ exits blocks. while_code test body line blocks)
      (λ p. body.ends (test_ends (Some test) (p + 1)) + 1)
      ((expr_code sh test).fits && body.fits)
  stmt_step (PStmt-F.Do body test line) =
      plain
      (λ exits blocks. do_code body test line blocks)
      (λ p. test_ends (Some test) (body.ends (p + 1)) + 1)
      (body.fits && (expr_code sh test).fits)
  stmt_step (PStmt-F.For first test third body line) =
      plain
      (λ exits blocks. for_code first test third body line blocks)
      (for_ends first test third body)
      (fits_if_any first && (fits_if_any test && (fits_if_any third && body.fits)))
  stmt_step (PStmt-F.Break line) =
      plain (λ exits blocks. put blocks (instr.Line line) ⨾ put blocks (instr.Jump exits.breaks)) (λ p. p + 1 + 1) true
  stmt_step (PStmt-F.Continue line) =
      plain (λ exits blocks. put blocks (instr.Line line) ⨾ put blocks (instr.Jump exits.continues))
      (λ p. p + 1 + 1) true
  stmt_step (PStmt-F.Return value line) =
      plain
      (λ exits blocks. put blocks (instr.Line line) ⨾ (returned value blocks ⨾ put blocks instr.Return))
      (λ p. returned_ends value (p + 1) + 1)
      (fits_if_any value)
  stmt_step (PStmt-F.Switch on arms line) =
      plain
      (switch_code on arms line)
      (λ p. arms_ends arms (end_of (arms_cases arms 0 []) (end_of (expr_code sh on).value (p + 1)) + 2))
      ((expr_code sh on).fits && arms_fit arms)

  abbrev pub arm_step : PArm-F StmtCode ArmCode → ArmCode
  arm_step arm = record {
    labels = arm.labels;
    code = sequence_code arm.list;
    ends = sequence_ends arm.list;
    fits = all_fit arm.list;
  }

  abbrev pub stmt_code : PStmt → StmtCode
  stmt_code x = laid-PStmt (family StmtCode ArmCode) (steps StmtCode ArmCode stmt_step arm_step) x

  abbrev pub arm_code : PArm → ArmCode
  arm_code x = laid-PArm (family StmtCode ArmCode) (steps StmtCode ArmCode stmt_step arm_step) x

  -- ---- functions

  -- the place after the body, where the function gives 0
  abbrev pub body_code : StmtCode → ℕ → Laid
  body_code body line p =
      let after = body.ends (p + 1) in
      (put [] (instr.Line line)
      ⨾ (body.body (record { breaks = after; continues = after }) []
      ⨾ (put (body.inside []) (instr.Push 0) ⨾ put (body.inside []) instr.Return))) p

module _ (globals : List Global) (functions : List Function) (texts : List (List ℕ)) where
  abbrev pub shape : Function → Shape
  shape f = record { globals = globals; functions = functions; texts = texts; slots = slots_of f }

  abbrev pub function_code : Function → FunctionCode
  function_code f = record {
    name = f.name;
    steps = body_code (shape f) (stmt_code (shape f) f.body) f.line 0;
    line = f.line;
    param_words = words_of words_of_slot f.params;
    frame_words = frame_words f;
    param_count = length f.params;
    slots = slots_from 0 (slots_of f);
  }

  abbrev pub function_fits : Function → Bool
  function_fits f = (stmt_code (shape f) f.body).fits

  abbrev pub all_functions_fit : List Function → Bool
  all_functions_fit [] = true
  all_functions_fit (f ∷ fs) = function_fits f && all_functions_fit fs

  -- each call in the program passes as many words as it must
  abbrev pub program_fits : Bool
  program_fits = all_functions_fit functions

  abbrev pub program_code : ℕ → Code
  program_code main = record {
    functions = map function_code functions;
    main = main;
    texts = texts;
    globals = first_words globals;
    variables = globals_from 0 globals;
  }
