use Rattle.std.proofs.Common.{List, sym, subst}
use Rattle.c_lexer.specs.declared.token.Token.{Token}
use Rattle.c_lexer.specs.Spelling.{Spells}
use Rattle.nm_top.proofs.ProgramLaws.{lexeme_unread, grammar_unread}
use Rattle.nm_top.proofs.program.tree_of.Goals as goal

pub returns-in-Err-clause-refused : goal.returns-in-Err-clause-refused
returns-in-Err-clause-refused c = lexeme_unread c.args.text.now c.in-Err.fault _ c.broken_lexeme.ensures c.in-Err.ensures.refused

pub returns-clause-refused : goal.returns-clause-refused
returns-clause-refused c =
    let k = c.in-Err-parse.ensures in
    let spelled = subst (λ (ts : List Token). Spells c.args.text.now ts) (sym c.deref.ensures.value) c.in-Ok.ensures.found in
    grammar_unread c.args.text.now c.deref.result.now c.in-Err-parse.fault _ c.broken_grammar.ensures spelled k.syntax k.syntax_line k.deep k.deep_nests k.deep_line
