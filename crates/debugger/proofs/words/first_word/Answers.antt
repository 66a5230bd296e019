use Rattle.std.proofs.Common.{ap, ◌∙◌}
use Rattle.debugger.specs.Lines.{words_of}
use Rattle.debugger.proofs.WordFacts.{same_words, word_found, none_seen, some_seen}
use Rattle.debugger.proofs.words.first_word.Goals as goal

pub returns-then-is_empty : goal.returns-then-is_empty
returns-then-is_empty c =
    let seen = c.split_at.result.1.now in
    same_words c.args.text.now seen c.blank_length.result c.blank_length.ensures c.split_at.ensures.back
    ∙ ap words_of (none_seen seen c.is_empty.result c.is_empty.ensures c.if-is_empty.true)

pub returns : goal.returns
returns c =
    let seen = c.split_at.result.1.now in
    let some = some_seen seen c.is_empty.result c.is_empty.ensures c.if-is_empty.false in
    word_found c.args.text.now seen c.blank_length.result c.blank_length.ensures c.split_at.ensures.back c.word_length.result c.split_at-2.result.0.now c.split_at-2.result.1.now some
    c.word_length.ensures c.split_at-2.ensures.front c.split_at-2.ensures.back
