-- Texts and their programs.
use Rattle.std.proofs.Common.{◌≡◌, ℕ, ◌≤◌, List, [], ◌∷◌, Option, None, Some, Err, refl, sym, ap, ◌∙◌, subst, inl, inr}
use Rattle.std.specs.Prelude.{IfSome}
use Rattle.std.proofs.Math.Bool.{Bool-set}
use Rattle.c_lexer.specs.declared.fault.LexFault.{LexFault}
use Rattle.c_lexer.specs.declared.fault.LexFault.TheVariants as lex
use Rattle.c_lexer.specs.declared.token.Token.{Token}
use Rattle.c_lexer.specs.Spelling.{Spells, IsCause}
use Rattle.c_lexer.proofs.Readings.{spelled_once, not_both}
use Rattle.c_parser.specs.declared.fault.ParseFault.{ParseFault}
use Rattle.c_parser.specs.declared.fault.ParseFault.TheVariants as parse
use Rattle.c_parser.specs.Unit.{UnitOf, unit_height}
use Rattle.c_parser.specs.Tokens.{nesting}
use Rattle.c_parser.specs.Faults.{IsLine, IsNestingLine, IsNoUnit, OnSyntax, OnDeep}
use Rattle.c_parser.proofs.UnitFull.{unit_full}
use Rattle.c_parser.proofs.Answered.{is_that}
use Rattle.c_tree.specs.declared.tree.Tree.{Tree}
use Rattle.c_tree.specs.declared.program.Program.{Program}
use Rattle.c_checker.specs.declared.fault.CheckFault.{CheckFault}
use Rattle.c_checker.specs.Found.{IsIn, Refuses}
use Rattle.c_checker.specs.Units.{Parts, checks, parts_of}
use Rattle.c_checker.specs.Laws.{IsChecked}
use Rattle.nm_top.specs.Programs.{Cause, lexer_cause, parser_cause, checker_cause, HasTree, Reads, RefusedFor, by_lexeme, by_grammar, by_rule, OneProgram}

-- ---- why a text is refused

some_is : {A : Type 0} (o : Option A) (P : A → Type 0) → ((x : A) → o ≡ Some x → P x) → IfSome o P
some_is None P h = tt
some_is (Some x) P h = h x refl

none_is : {A : Type 0} (o : Option A) (P : A → Type 0) → o ≡ None → IfSome o P
none_is None P e = tt
none_is (Some x) P e = absurd cc

pub lexeme_unread : (text : List ℕ) (fault : LexFault) (o : Option Cause) → o ≡ lexer_cause fault → IsCause text fault → IfSome o (RefusedFor text)
lexeme_unread text (lex.BadByte line) o e c = some_is o (RefusedFor text) (λ why k. by_lexeme (lex.BadByte line) c (sym e ∙ k))
lexeme_unread text (lex.OpenComment line) o e c = some_is o (RefusedFor text) (λ why k. by_lexeme (lex.OpenComment line) c (sym e ∙ k))
lexeme_unread text (lex.OpenText line) o e c = some_is o (RefusedFor text) (λ why k. by_lexeme (lex.OpenText line) c (sym e ∙ k))
lexeme_unread text (lex.BadConstant line) o e c = some_is o (RefusedFor text) (λ why k. by_lexeme (lex.BadConstant line) c (sym e ∙ k))
lexeme_unread text (lex.BadEscape line) o e c = some_is o (RefusedFor text) (λ why k. by_lexeme (lex.BadEscape line) c (sym e ∙ k))
lexeme_unread text (lex.LongName line) o e c = some_is o (RefusedFor text) (λ why k. by_lexeme (lex.LongName line) c (sym e ∙ k))
lexeme_unread text (lex.LongText line) o e c = some_is o (RefusedFor text) (λ why k. by_lexeme (lex.LongText line) c (sym e ∙ k))
lexeme_unread text lex.Memory o e c = none_is o (RefusedFor text) e

pub grammar_unread : (text : List ℕ) (tokens : List Token) (fault : ParseFault) (o : Option Cause) → o ≡ parser_cause fault → Spells text tokens
    → OnSyntax (Err fault) (λ line. IsNoUnit tokens) → OnSyntax (Err fault) (λ line. IsLine tokens line)
    → OnDeep (Err fault) (λ line. IsNoUnit tokens) → OnDeep (Err fault) (λ line. 64 ≤ nesting tokens) → OnDeep (Err fault) (λ line. IsNestingLine tokens line)
    → IfSome o (RefusedFor text)
grammar_unread text tokens (parse.Syntax line) o e spelled none at deep nests deep_at = some_is o (RefusedFor text) (λ why k. by_grammar tokens (parse.Syntax line) spelled none at (sym e ∙ k))
grammar_unread text tokens (parse.Deep line) o e spelled none at deep nests deep_at = some_is o (RefusedFor text) (λ why k. by_grammar tokens (parse.Deep line) spelled deep (nests, deep_at)
    (sym e ∙ k))
grammar_unread text tokens parse.Memory o e spelled none at deep nests deep_at = none_is o (RefusedFor text) e

pub rule_unread : (text : List ℕ) (tree : Tree) (fault : CheckFault) (o : Option Cause) → o ≡ checker_cause fault → HasTree text tree → Refuses (checks tree).faults fault → IfSome o (RefusedFor text)
rule_unread text tree fault o e has r = elim r.cause [
  | inl m ↦ none_is o (RefusedFor text) (e ∙ ap checker_cause m)
  | inr k ↦ some_is o (RefusedFor text) (λ why q. by_rule tree fault has k (sym e ∙ q))
]

-- ---- one program

same_tokens : (text : List ℕ) (tree : Tree) (tokens : List Token) (h : HasTree text tree) → Spells text tokens → UnitOf tokens tree
same_tokens text tree tokens h s = subst (λ ts. UnitOf ts tree) (spelled_once text h.tokens tokens h.spelled s) h.derived

only_tree : (text : List ℕ) (a b : Tree) → HasTree text a → HasTree text b → a ≡ b
only_tree text a b h k =
    let u = same_tokens text a k.tokens h k.spelled in
    is_that k.tokens a.items (unit_height a) [] b (unit_full k.tokens a u) k.derived

program_with : (x : Parts) → IsChecked x → Program
program_with x h = record { globals = x.globals; functions = x.functions; main = x.main; texts = x.texts; checked = h }

with_parts : (x y : Parts) → x ≡ y → (h : IsChecked x) (k : IsChecked y) → program_with x h ≡ program_with y k
with_parts x y e h = subst (λ y. (k : IsChecked y) → program_with x h ≡ program_with y k) e (λ k. ap (program_with x) (prop h k))
  where
    prop : IsProp (IsChecked x)
    prop = hlevel (Bool-set)

same_program : (p q : Program) → parts_of p ≡ parts_of q → p ≡ q
unfolding program_with
same_program p q e = with_parts (parts_of p) (parts_of q) e p.checked q.checked

none_in : (f : CheckFault) (faults : List CheckFault) → faults ≡ [] → IsIn f faults → ⊥
none_in f [] e k = k
none_in f (g ∷ gs) e k = cc

unrefused : (text : List ℕ) (p : Program) (why : Cause) → Reads text p → RefusedFor text why → ⊥
unrefused text p why r (by_lexeme fault c e) = not_both text r.has.tokens fault r.has.spelled c
unrefused text p why r (by_grammar tokens fault s none blame e) = none r.tree (same_tokens text r.tree tokens r.has s)
unrefused text p why r (by_rule tree fault has k e) =
    none_in fault (checks tree).faults (subst (λ (t : Tree). (checks t).faults ≡ []) (only_tree text r.tree tree r.has has) r.checked.unbroken) k

pub only_program : (text : List ℕ) → OneProgram text
only_program text = record {
  one = λ p q a b. same_program p q
      (a.checked.same ∙ ap (λ (t : Tree). (checks t).value) (only_tree text a.tree b.tree a.has b.has) ∙ sym b.checked.same);
  apart = unrefused text;
}
