-- The code of a checked program finds its operands, whatever way control takes.
use Rattle.std.proofs.Common.{◌≡◌, ℕ, zero, suc, ◌+◌, ◌≤◌, Bool, true, false, List, [], ◌∷◌, ◌++◌, length, Option, Some, None, refl, sym, ap, ◌∙◌, subst, arith}
use Rattle.std.specs.Prelude.{◌&&◌, ◌==◌, not, slice_get}
use Rattle.std.specs.List.{list_all}
use Rattle.std.proofs.lemmas.Bool.{eqb-true}
use Rattle.std.proofs.lemmas.Grind.{merely}
use Rattle.c_tree.specs.declared.program.Global.{Global}
use Rattle.c_tree.specs.declared.program.Slot.{Slot}
use Rattle.c_tree.specs.declared.program.Function.{Function}
use Rattle.c_tree.specs.Typing.{Declarations}
use Rattle.c_tree.specs.Checks as check
use Rattle.c_tree.specs.Checks.{local_fits, in_order, is_block_slot, blocks_fit, check_of, names_of, is_checked}
use Rattle.c_tree.specs.Play.{PlaySetting}
use Rattle.stack_code.specs.Code.{FunctionCode, Code}
use Rattle.stack_code.specs.Valid.{finds, FindsOperands, operands_of, operands_by, is_within, IsSound}
use Rattle.c_compile.specs.StmtCode.{stmt_code, program_code, program_fits}
use Rattle.c_compile.proofs.Parts.{both_true}
use Rattle.c_compile.proofs.Sorts.{and_true}
use Rattle.c_compile.proofs.Programs as programs
use Rattle.c_compile.proofs.Programs.{all_lie}
use Rattle.c_compile.proofs.Ways as ways
use Rattle.c_compile.proofs.Ways.{item_of_map}
use Rattle.c_compile.proofs.CheckFacts.{ProgramFacts, item_passes, outside, function_facts, program_facts}
use Rattle.c_compile.proofs.Checked as checks
use Rattle.c_compile.proofs.Finds.{Finds}
use Rattle.c_compile.proofs.ExprStacks.{Knows, param_operands}
use Rattle.c_compile.proofs.StmtStacks as stacks
use Rattle.c_compile.proofs.TreeStacks as trees
use Rattle.c_compile.proofs.Limits as limits

-- a slot behind the parameters is a local
later_slot : (ps ls : List Slot) (i : ℕ) (x : Slot) → length ps ≤ i → list_all local_fits ls ≡ true → slice_get (ps ++ ls) i ≡ Some x → not x.array_param ≡ true
later_slot [] ls i x le h e = (both_true _ (not x.array_param) (item_passes local_fits ls i x h e)).1
later_slot (p ∷ ps) ls zero x le h e = absurd (omega (arith, le))
later_slot (p ∷ ps) ls (suc i) x le h e = later_slot ps ls i x (omega (arith, le)) h e

module _ (ps ls : List Slot) (fit : list_all local_fits ls ≡ true) where
  abbrev local_in : ℕ → Bool
  local_in i = elim (slice_get (ps ++ ls) i) [ None ↦ false | Some x ↦ not x.array_param ]

  slot_local :
      (i block : ℕ) (o : Option Slot) → slice_get (ps ++ ls) i ≡ o → length ps ≤ i → elim o [ None ↦ false | Some x ↦ x.block == block ] ≡ true
      → elim o [ None ↦ false | Some x ↦ not x.array_param ] ≡ true
  slot_local i block None e le h = h
  slot_local i block (Some x) e le h = later_slot ps ls i x le fit e

  block_local : (xs : List ℕ) (from block : ℕ) → length ps ≤ from → in_order from xs ≡ true → list_all (is_block_slot (ps ++ ls) block) xs ≡ true → list_all local_in xs ≡ true
  block_local [] from block le o h = refl
  block_local (x ∷ xs) from block le o h =
      let a = both_true (x == from) (in_order (from + 1) xs) o in
      let b = both_true (is_block_slot (ps ++ ls) block x) (list_all (is_block_slot (ps ++ ls) block) xs) h in
      let first : length ps ≤ x = omega (arith, le, eqb-true x from a.0) in
      and_true _ _ (slot_local x block (slice_get (ps ++ ls) x) refl first b.0) (block_local xs (from + 1) block (omega (arith, le)) a.1 b.1)

  blocks_local : (bs : List (List ℕ)) (from block : ℕ) → length ps ≤ from → blocks_fit (ps ++ ls) from block bs ≡ true → list_all (λ b. list_all local_in b) bs ≡ true
  blocks_local [] from block le h = refl
  blocks_local (b ∷ bs) from block le h =
      let slots = list_all (is_block_slot (ps ++ ls) block) b in
      let h2 = both_true (in_order from b && slots) (blocks_fit (ps ++ ls) (from + length b) (block + 1) bs) h in
      let h1 = both_true (in_order from b) slots h2.0 in
      and_true _ _ (block_local b from block le h1.0 h1.1) (blocks_local bs (from + length b) (block + 1) (omega (arith, le)) h2.1)

module _ (globals : List Global) (functions : List Function) (texts : List (List ℕ)) (main : ℕ) (ok : is_checked globals functions texts main ≡ true) where
  abbrev set : PlaySetting
  set = record { globals = globals; functions = functions; main = main; texts = texts; count = 1; me = 0 }

  abbrev code : Code
  code = program_code globals functions texts main

  abbrev compiled : Function → FunctionCode
  compiled fn = programs.compiled set fn

  abbrev names : Function → Declarations
  names fn = names_of globals functions texts fn

  facts : ProgramFacts globals functions texts main
  facts = program_facts globals functions texts main ok

  fits : program_fits globals functions texts ≡ true
  fits = checks.functions_ok globals functions texts facts.functions_fit functions facts.functions_fit

  operands_known : (g : ℕ) (fn : Function) → slice_get functions g ≡ Some fn → operands_by (slice_get code.functions g) ≡ param_operands fn.params
  operands_known g fn e =
      ap operands_by (programs.code_at set g fn e) ∙ ap operands_of (limits.params_are globals functions texts fn) ∙ limits.param_operands_are fn.params 0

  knows : (fn : Function) → Knows code (compiled fn) (names fn)
  knows fn = record {
    texts = refl;
    scalar_global = limits.scalar_global globals;
    array_global = limits.array_global globals;
    scalar_slot = limits.scalar_slot (fn.params ++ fn.locals);
    array_slot = limits.array_slot (fn.params ++ fn.locals);
    array_param = limits.array_param (fn.params ++ fn.locals);
    whole_slot = limits.whole_slot (fn.params ++ fn.locals);
    functions = operands_known;
  }

  function_finds : (g : ℕ) (fn : Function) → slice_get functions g ≡ Some fn → (n : ℕ) → Finds code (compiled fn) n 0 []
  function_finds g fn e n =
      let fit = function_facts globals functions texts fn (item_passes (check.function_fits globals functions texts) functions g fn facts.functions_fit e) in
      let c = check_of (names fn) fn.result fn.body in
      let locals = blocks_local fn.params fn.locals fit.locals c.blocks (length fn.params) 0 (omega arith) fit.blocks in
      let sh = programs.sh set fn in
      let passes = trees.tree_passes code (compiled fn) (names fn) (knows fn) fn.result (ways.ends set fits g fn e) (ways.arm_ends set fits g fn e) fn.body outside fit.body locals in
      let ends = ways.body_ends set fits g fn e fn.body in
      stacks.function_finds code (compiled fn) (names fn) (knows fn) fn.result (stmt_code sh fn.body) fn.line passes.body_passes ends (all_lie (compiled fn).steps) n

  pub checked_finds : FindsOperands code
  checked_finds g f h n =
      let fn = item_of_map compiled functions g f h in
      let same : Some (compiled fn.0) ≡ Some f = sym (programs.code_at set g fn.0 fn.1) ∙ h in
      let one : compiled fn.0 ≡ f = cc in
      subst (λ k. finds code k n 0 [] ≡ true) one ((function_finds g fn.0 fn.1 n).by n (omega arith))

pub checked_sound :
    (globals : List Global) (functions : List Function) (texts : List (List ℕ)) (main : ℕ) → is_checked globals functions texts main ≡ true
    → IsSound (program_code globals functions texts main)
checked_sound globals functions texts main h = record {
  forward = checks.checked_forward globals functions texts main h;
  operands = checked_finds globals functions texts main h;
}

-- the same of code that is that of a checked program, as what keeps code requires it
module _
    (code : Code) (globals : List Global) (functions : List Function) (texts : List (List ℕ)) (main : ℕ)
    (ok : is_checked globals functions texts main ≡ true)
    (same : code ≡ program_code globals functions texts main) where
  pub sound_by : ∥ IsSound code ∥₁
  sound_by = merely (subst IsSound (sym same) (checked_sound globals functions texts main ok))

  pub within_by : is_within code ≡ true
  within_by = subst (λ c. is_within c ≡ true) (sym same) (limits.checked_within globals functions texts main ok)
