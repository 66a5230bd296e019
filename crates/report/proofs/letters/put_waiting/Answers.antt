use Rattle.std.proofs.Common.{◌++◌, slice_index, take}
use Rattle.std.specs.List.{flat_map}
use Rattle.report.specs.Replies as replies
use Rattle.report.proofs.Pieces.{still_failed, failed_first, both}
use Rattle.report.proofs.letters.put_waiting.Goals as goal

pub returns-in_err-put_letter : goal.returns-in_err-put_letter
returns-in_err-put_letter g c =
    let first = replies.letter_text c.args.letter.now.id c.args.letter.now.chan in
    let second = flat_map replies.word_text (take c.args.letter.now.len c.args.letter.now.words) in
    let third = replies.stamp_text c.args.n (slice_index c.args.letter.now.stamp.parts) in
    let failed = failed_first _ _ _ _ first second c.put_letter.result c.from_residual.result c.in_err-put_letter.field-0.0 c.in_err-put_letter.was c.from_residual.ensures.0 c.put_letter.ensures in
    still_failed _ _ _ _ (first ++ second) third c.from_residual.result c.from_residual.ensures.0 failed

pub returns-in_err-put_letter_words : goal.returns-in_err-put_letter_words
returns-in_err-put_letter_words g c =
    let first = replies.letter_text c.args.letter.now.id c.args.letter.now.chan in
    let second = flat_map replies.word_text (take c.args.letter.now.len c.args.letter.now.words) in
    let third = replies.stamp_text c.args.n (slice_index c.args.letter.now.stamp.parts) in
    let given = both _ _ _ _ _ _ first second c.put_letter.result c.put_letter_words.result c.in_ok-put_letter.was c.put_letter.ensures c.put_letter_words.ensures in
    failed_first _ _ _ _ (first ++ second) third c.put_letter_words.result c.from_residual-in_err-put_letter_words.result c.in_err-put_letter_words.field-0.0 c.in_err-put_letter_words.was
    c.from_residual-in_err-put_letter_words.ensures.0 given

pub returns : goal.returns
returns g c =
    let first = replies.letter_text c.args.letter.now.id c.args.letter.now.chan in
    let second = flat_map replies.word_text (take c.args.letter.now.len c.args.letter.now.words) in
    let third = replies.stamp_text c.args.n (slice_index c.args.letter.now.stamp.parts) in
    let given = both _ _ _ _ _ _ first second c.put_letter.result c.put_letter_words.result c.in_ok-put_letter.was c.put_letter.ensures c.put_letter_words.ensures in
    both _ _ _ _ _ _ (first ++ second) third c.put_letter_words.result c.put_stamp.result c.in_ok-put_letter_words.was given c.put_stamp.ensures
