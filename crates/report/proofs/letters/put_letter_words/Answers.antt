use Rattle.std.proofs.Common.{List, ℕ, subst}
use Rattle.std.specs.List.{flat_map}
use Rattle.report.specs.Printing.{Prints}
use Rattle.report.specs.Replies.{word_text}
use Rattle.report.proofs.letters.put_letter_words.Goals as goal

pub returns : goal.returns
returns g c =
    subst (λ (words : List ℕ). Prints (g.O.Sink.given c.args.out.now) (g.O.Sink.given c.put_words.new.out) (g.O.Sink.faults c.args.out.now) (g.O.Sink.faults c.put_words.new.out)
    (flat_map word_text words) c.put_words.result) c.words_of.ensures c.put_words.ensures
