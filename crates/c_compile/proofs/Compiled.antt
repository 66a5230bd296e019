-- The code of a program, as it is made.
use Rattle.std.proofs.Common.{◌≡◌, ℕ, zero, suc, ◌+◌, ◌^◌, ◌<◌, Bool, true, List, [], ◌∷◌, ◌++◌, map, length, drop, get_or, refl, sym, ap, ◌∙◌, subst, arith, append_assoc}
use Rattle.std.specs.Prelude.{◌&&◌}
use Rattle.std.specs.List.{list_all}
use Rattle.std.proofs.lemmas.Bool.{leb-true}
use Rattle.std.proofs.lemmas.List.{append-nil}
use Rattle.std.proofs.lemmas.List.Folds.{list_all-append}
use Rattle.nm_base.specs.declared.limits.TheConstants.{MAX_DATA_WORDS}
use Rattle.c_tree.specs.declared.program.Global.{Global}
use Rattle.c_tree.specs.declared.program.Function.{Function}
use Rattle.c_tree.specs.Checks as check
use Rattle.c_tree.specs.Checks.{is_name, is_checked}
use Rattle.c_tree.specs.Expr.{slots_of}
use Rattle.c_tree.specs.Storage.{words_of, words_of_global, words_of_slot, first_words}
use Rattle.stack_code.specs.declared.code.CodeFunction.{CodeFunction}
use Rattle.stack_code.specs.declared.code.Variable.{Variable}
use Rattle.stack_code.specs.Code.{FunctionCode, Code}
use Rattle.stack_code.specs.Blocks.{function_of, is_kept, view_of}
use Rattle.c_compile.specs.Variables.{globals_from}
use Rattle.c_compile.specs.StmtCode.{function_code, program_code}
use Rattle.c_compile.specs.Correct.{CodeStandsFor}
use Rattle.c_compile.proofs.Parts.{both_true}
use Rattle.c_compile.proofs.CheckFacts.{program_facts, function_facts}
use Rattle.c_compile.proofs.Checked.{checked_stands}
use Rattle.c_compile.proofs.Limits.{frame_bound}
use Rattle.c_compile.proofs.Writing.{drops, drop_all}

all_at : {A : Type 0} (test : A → Bool) (xs : List A) (i : ℕ) (x : A) → list_all test xs ≡ true → i < length xs → x ≡ get_or xs i x → test x ≡ true
all_at test [] i x h lt is = absurd (omega (arith, lt))
all_at test (y ∷ xs) zero x h lt is = ap test is ∙ (both_true (test y) (list_all test xs) h).0
all_at test (y ∷ xs) (suc i) x h lt is = all_at test xs i x (both_true (test y) (list_all test xs) h).1 (omega (arith, lt)) is

-- each function of a checked program has a name
pub function_named : (globals : List Global) (functions : List Function) (texts : List (List ℕ)) (main i : ℕ) (f : Function) → is_checked globals functions texts main ≡ true → i < length functions
    → f ≡ get_or functions i f → is_name f.name ≡ true
function_named globals functions texts main i f ok lt is =
    let all = (program_facts globals functions texts main ok).functions_fit in
    (function_facts globals functions texts f (all_at (check.function_fits globals functions texts) functions i f all lt is)).name

-- its frame and the globals have few words
pub frame_fits : (globals : List Global) (functions : List Function) (texts : List (List ℕ)) (main i : ℕ) (f : Function) → is_checked globals functions texts main ≡ true → i < length functions
    → f ≡ get_or functions i f → words_of words_of_slot (slots_of f) < 2 ^ 32
frame_fits globals functions texts main i f ok lt is =
    let all = (program_facts globals functions texts main ok).functions_fit in
    let bound = frame_bound globals functions texts f (all_at (check.function_fits globals functions texts) functions i f all lt is) in
    omega (arith, bound)

pub globals_fit : (globals : List Global) (functions : List Function) (texts : List (List ℕ)) (main : ℕ) → is_checked globals functions texts main ≡ true → words_of words_of_global globals < 2 ^ 32
globals_fit globals functions texts main ok =
    let bound = leb-true (words_of words_of_global globals) MAX_DATA_WORDS (program_facts globals functions texts main ok).few_words in
    omega (arith, bound)

map_both : {A B : Type 0} (f : A → B) (xs ys : List A) → map f (xs ++ ys) ≡ map f xs ++ map f ys
map_both f [] ys = refl
map_both f (x ∷ xs) ys = ap (λ l. f x ∷ l) (map_both f xs ys)

pub functions_more : (code : Function → FunctionCode) (xs : List Function) (i : ℕ) (made more : List CodeFunction) (x : Function) (c : CodeFunction) (whole : List FunctionCode) → i < length xs
    → x ≡ get_or xs i x → function_of c ≡ code x → more ≡ made ++ c ∷ [] → map function_of made ++ map code (drop i xs) ≡ whole → map function_of more ++ map code (drop (i + 1) xs) ≡ whole
functions_more code xs i made more x c whole lt is e at inv =
    ap (λ l. map function_of l ++ map code (drop (i + 1) xs)) at
    ∙ ap (λ l. l ++ map code (drop (i + 1) xs)) (map_both function_of made (c ∷ []) ∙ ap (λ y. map function_of made ++ y ∷ []) e)
    ∙ append_assoc (map function_of made) (code x ∷ []) (map code (drop (i + 1) xs))
    ∙ ap (λ l. map function_of made ++ map code l) (sym (drops xs i x lt is))
    ∙ inv

pub functions_end : (code : Function → FunctionCode) (xs : List Function) (i : ℕ) (made : List CodeFunction) (whole : List FunctionCode) → i ≡ length xs
    → map function_of made ++ map code (drop i xs) ≡ whole → map function_of made ≡ whole
functions_end code xs i made whole e inv =
    sym (append-nil (map function_of made)) ∙ ap (λ l. map function_of made ++ map code l) (sym (drop_all xs)) ∙ ap (λ n. map function_of made ++ map code (drop n xs)) (sym e) ∙ inv

pub kept_more : (made more : List CodeFunction) (c : CodeFunction) → more ≡ made ++ c ∷ [] → list_all is_kept made ≡ true → is_kept c ≡ true → list_all is_kept more ≡ true
kept_more made more c at all one =
    ap (list_all is_kept) at ∙ list_all-append is_kept made (c ∷ []) ∙ ap (λ b. b && list_all is_kept (c ∷ [])) all ∙ ap (λ b. b && true) one

-- ---- the whole

pub view_is : (globals : List Global) (functions : List Function) (texts : List (List ℕ)) (main : ℕ) (made : List CodeFunction) (copies : List (List ℕ)) (words : List ℕ)
    (variables : List Variable) → map function_of made ≡ map (function_code globals functions texts) functions → copies ≡ texts → words ≡ first_words globals → variables ≡ globals_from 0 globals
    → view_of made main copies words variables ≡ program_code globals functions texts main
view_is globals functions texts main made copies words variables e1 e2 e3 e4 =
    let F : List FunctionCode → List (List ℕ) → List ℕ → List Variable → Code = λ a b c d. record { functions = a; main = main; texts = b; globals = c; variables = d } in
    let all = map (function_code globals functions texts) functions in
    ap (λ x. F x copies words variables) e1 ∙ ap (λ x. F all x words variables) e2 ∙ ap (λ x. F all texts x variables) e3 ∙ ap (λ x. F all texts (first_words globals) x) e4

pub stands_by : (globals : List Global) (functions : List Function) (texts : List (List ℕ)) (main : ℕ) (code : Code) → is_checked globals functions texts main ≡ true
    → code ≡ program_code globals functions texts main → (count me : ℕ) → CodeStandsFor (record { globals = globals; functions = functions; main = main; texts = texts; count = count; me = me }) code
stands_by globals functions texts main code ok same count me =
    subst (CodeStandsFor (record { globals = globals; functions = functions; main = main; texts = texts; count = count; me = me })) (sym same) (checked_stands globals functions texts main count me ok)
