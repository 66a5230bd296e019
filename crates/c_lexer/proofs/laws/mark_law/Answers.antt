use Rattle.c_lexer.proofs.MarkLaws.{mark_law, no_mark_law}
use Rattle.c_lexer.proofs.laws.mark_law.Goals as goal

pub returns : goal.returns
returns c = record { found = mark_law; none = no_mark_law }
