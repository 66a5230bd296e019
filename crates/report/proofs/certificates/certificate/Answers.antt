use Rattle.std.proofs.Common.{◌++◌, ap}
use Rattle.report.specs.Texts as texts
use Rattle.report.proofs.Pieces.{still_failed, failed_first, both, same_text}
use Rattle.report.proofs.certificates.certificate.Goals as goal

pub returns-in_err-put_letter : goal.returns-in_err-put_letter
returns-in_err-put_letter g c =
    let w = c.args.w.now in
    let letter = texts.letter_line w.id w.dest.no w.chan w.received in
    let earlier = texts.earlier_line w.earlier_receive w.earlier_event w.set in
    let turns = texts.taken_turns w.turns in
    let failed = failed_first _ _ _ _ letter earlier c.put_letter.result c.from_residual.result c.in_err-put_letter.field-0.0 c.in_err-put_letter.was c.from_residual.ensures.0 c.put_letter.ensures in
    still_failed _ _ _ _ (letter ++ earlier) turns c.from_residual.result c.from_residual.ensures.0 failed

pub returns-in_err-put_earlier : goal.returns-in_err-put_earlier
returns-in_err-put_earlier g c =
    let w = c.args.w.now in
    let letter = texts.letter_line w.id w.dest.no w.chan w.received in
    let earlier = texts.earlier_line w.earlier_receive w.earlier_event w.set in
    let turns = texts.taken_turns w.turns in
    let given = both _ _ _ _ _ _ letter earlier c.put_letter.result c.put_earlier.result c.in_ok-put_letter.was c.put_letter.ensures c.put_earlier.ensures in
    failed_first _ _ _ _ (letter ++ earlier) turns c.put_earlier.result c.from_residual-in_err-put_earlier.result c.in_err-put_earlier.field-0.0 c.in_err-put_earlier.was c.from_residual-in_err-put_earlier.ensures.0 given

pub returns : goal.returns
returns g c =
    let w = c.args.w.now in
    let letter = texts.letter_line w.id w.dest.no w.chan w.received in
    let earlier = texts.earlier_line w.earlier_receive w.earlier_event w.set in
    let turns = texts.taken_turns w.turns in
    let given = both _ _ _ _ _ _ letter earlier c.put_letter.result c.put_earlier.result c.in_ok-put_letter.was c.put_letter.ensures c.put_earlier.ensures in
    both _ _ _ _ _ _ (letter ++ earlier) turns c.put_earlier.result c.put_turns.result c.in_ok-put_earlier.was given
    (same_text _ _ _ _ _ turns c.put_turns.result (ap texts.taken_turns c.as_slice.ensures) c.put_turns.ensures)
