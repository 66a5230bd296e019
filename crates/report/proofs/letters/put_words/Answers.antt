use Rattle.report.specs.Replies.{word_text}
use Rattle.report.proofs.Each.{each_failed}
use Rattle.report.proofs.letters.put_words.Goals as goal

pub returns-in_err-put_word : goal.returns-in_err-put_word
returns-in_err-put_word g c =
    each_failed _ _ _ _ _ _ word_text c.args.words.now c.loop-word.word-index _ c.loop-word-test.true c.loop-word.invariant c.put_word.result c.from_residual.result
    c.in_err-put_word.field-0.0 c.in_err-put_word.was c.from_residual.ensures.0 c.put_word.ensures
