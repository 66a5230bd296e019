use Rattle.c_lexer.proofs.Readings.{spelled_once, refused_once, not_both}
use Rattle.c_lexer.proofs.Totals.{each_has_reading}
use Rattle.c_lexer.proofs.laws.reading_law.Goals as goal

pub returns : goal.returns
returns c = record {
  some = each_has_reading;
  one = λ text. record { spelled = spelled_once text; refused = refused_once text; apart = not_both text };
}
