use Rattle.c_lexer.proofs.WordLaws.{name_law, number_law}
use Rattle.c_lexer.proofs.laws.word_law.Goals as goal

pub returns : goal.returns
returns c = record { names = name_law; numbers = number_law }
