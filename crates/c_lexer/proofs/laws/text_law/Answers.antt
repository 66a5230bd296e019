use Rattle.c_lexer.proofs.TextLaws.{text_law}
use Rattle.c_lexer.proofs.laws.text_law.Goals as goal

pub returns : goal.returns
returns c = text_law
