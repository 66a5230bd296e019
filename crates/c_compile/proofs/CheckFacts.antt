-- What the check of a program says of its parts.
use Rattle.std.proofs.Common.{◌≡◌, ℕ, zero, suc, ◌+◌, Bool, true, false, List, [], ◌∷◌, ◌++◌, length, Some, subst}
use Rattle.std.specs.Prelude.{◌&&◌, nat_le, slice_get}
use Rattle.std.specs.List.{list_all}
use Rattle.nm_base.specs.declared.limits.TheConstants.{MAX_DATA_WORDS}
use Rattle.c_tree.specs.declared.program.Global.{Global}
use Rattle.c_tree.specs.declared.program.Function.{Function}
use Rattle.c_tree.specs.Storage.{words_of_global, words_of}
use Rattle.c_tree.specs.Checks as check
use Rattle.c_tree.specs.Checks.{Around, is_name, param_fits, local_fits, global_fits, main_fits, body_fits, blocks_fit, check_of, names_of, is_checked}
use Rattle.c_compile.proofs.Parts.{both_true}

pub item_passes : {A : Type 0} (test : A → Bool) (xs : List A) (i : ℕ) (x : A) → list_all test xs ≡ true → slice_get xs i ≡ Some x → test x ≡ true
item_passes test [] i x h e = cc
item_passes test (y ∷ ys) zero x h e = let same : y ≡ x = cc in subst (λ z. test z ≡ true) same (both_true (test y) (list_all test ys) h).0
item_passes test (y ∷ ys) (suc i) x h e = item_passes test ys i x (both_true (test y) (list_all test ys) h).1 e

-- outside all loops and switches
abbrev pub outside : Around
outside = record { loop = false; breaks = false }

pub record FunctionFacts (globals : List Global) (functions : List Function) (texts : List (List ℕ)) (f : Function) : Type 0 where
  pub name : is_name f.name ≡ true
  pub params : list_all param_fits f.params ≡ true
  pub locals : list_all local_fits f.locals ≡ true
  pub few_params : nat_le (length f.params) 31 ≡ true
  pub few_slots : nat_le (length f.params + length f.locals) 256 ≡ true
  pub body : (check_of (names_of globals functions texts f) f.result f.body).is_fine outside ≡ true
  pub blocks : blocks_fit (f.params ++ f.locals) (length f.params) 0 (check_of (names_of globals functions texts f) f.result f.body).blocks ≡ true

pub record ProgramFacts (globals : List Global) (functions : List Function) (texts : List (List ℕ)) (main : ℕ) : Type 0 where
  pub few_functions : nat_le (length functions) 512 ≡ true
  pub few_words : nat_le (words_of words_of_global globals) MAX_DATA_WORDS ≡ true
  pub functions_fit : list_all (check.function_fits globals functions texts) functions ≡ true
  pub short_texts : list_all (λ t. nat_le (length t) 509) texts ≡ true
  pub main_fit : main_fits globals functions texts (slice_get functions main) ≡ true

module _ (globals : List Global) (functions : List Function) (texts : List (List ℕ)) where
  pub function_facts : (f : Function) → check.function_fits globals functions texts f ≡ true → FunctionFacts globals functions texts f
  function_facts f h =
      let names = is_name f.name in
      let params = list_all param_fits f.params in
      let locals = list_all local_fits f.locals in
      let few = nat_le (length f.params) 31 in
      let slots = nat_le (length f.params + length f.locals) 256 in
      let c = check_of (names_of globals functions texts f) f.result f.body in
      let body = body_fits (f.params ++ f.locals) (length f.params) c in
      let h5 = both_true (names && params && locals && few && slots) body h in
      let h4 = both_true (names && params && locals && few) slots h5.0 in
      let h3 = both_true (names && params && locals) few h4.0 in
      let h2 = both_true (names && params) locals h3.0 in
      let b = both_true (c.is_block && c.is_fine outside) (blocks_fit (f.params ++ f.locals) (length f.params) 0 c.blocks) h5.1 in
      let first = both_true names params h2.0 in
      record {
        name = first.0;
        params = first.1;
        locals = h2.1;
        few_params = h3.1;
        few_slots = h4.1;
        body = (both_true c.is_block (c.is_fine outside) b.0).1;
        blocks = b.1;
      }

  pub program_facts : (main : ℕ) → is_checked globals functions texts main ≡ true → ProgramFacts globals functions texts main
  program_facts main h =
      let many = nat_le (length functions) 512 in
      let names = nat_le (length globals) 1024 in
      let words = nat_le (words_of words_of_global globals) MAX_DATA_WORDS in
      let sized = list_all global_fits globals in
      let fit = list_all (check.function_fits globals functions texts) functions in
      let short = list_all (λ t. nat_le (length t) 509) texts in
      let h6 = both_true (many && names && words && sized && fit && short) (main_fits globals functions texts (slice_get functions main)) h in
      let h5 = both_true (many && names && words && sized && fit) short h6.0 in
      let h4 = both_true (many && names && words && sized) fit h5.0 in
      let h3 = both_true (many && names && words) sized h4.0 in
      let h2 = both_true (many && names) words h3.0 in
      record { few_functions = (both_true many names h2.0).0; few_words = h2.1; functions_fit = h4.1; short_texts = h5.1; main_fit = h6.1 }
