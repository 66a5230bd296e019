use Rattle.std.proofs.Common.{take, Ok}
use Rattle.std.specs.List.{flat_map}
use Rattle.report.specs.Printing.{Prints}
use Rattle.report.specs.Replies.{word_text}
use Rattle.report.proofs.letters.put_words.Given as goal

abbrev pub invariant-loop-word : goal.invariant-loop-word
invariant-loop-word g l =
    Prints (g.O.Sink.given l.initial.out) (g.O.Sink.given l.out) (g.O.Sink.faults l.initial.out) (g.O.Sink.faults l.out) (flat_map word_text (take l.word-index l.words)) (Ok tt)
