use Rattle.std.proofs.Common.{◌++◌, codes}
use Rattle.report.specs.Texts as texts
use Rattle.report.proofs.Pieces.{still_failed, failed_first, both}
use Rattle.report.proofs.refusals.put_digests.Goals as goal

pub returns-in_err-put_digest : goal.returns-in_err-put_digest
returns-in_err-put_digest g c =
    let of_trace = texts.digest_after (codes "other program: ") c.args.of_trace.now in
    let of_file = texts.digest_after (codes " ") c.args.of_file.now in
    let failed = failed_first _ _ _ _ of_trace of_file c.put_digest.result c.from_residual.result c.in_err-put_digest.field-0.0 c.in_err-put_digest.was c.from_residual.ensures.0 c.put_digest.ensures in
    still_failed _ _ _ _ (of_trace ++ of_file) (codes "\n") c.from_residual.result c.from_residual.ensures.0 failed

pub returns-in_err-put_digest-2 : goal.returns-in_err-put_digest-2
returns-in_err-put_digest-2 g c =
    let of_trace = texts.digest_after (codes "other program: ") c.args.of_trace.now in
    let of_file = texts.digest_after (codes " ") c.args.of_file.now in
    let given = both _ _ _ _ _ _ of_trace of_file c.put_digest.result c.put_digest-2.result c.in_ok-put_digest.was c.put_digest.ensures c.put_digest-2.ensures in
    failed_first _ _ _ _ (of_trace ++ of_file) (codes "\n") c.put_digest-2.result c.from_residual-in_err-put_digest-2.result c.in_err-put_digest-2.field-0.0 c.in_err-put_digest-2.was c.from_residual-in_err-put_digest-2.ensures.0 given

pub returns : goal.returns
returns g c =
    let of_trace = texts.digest_after (codes "other program: ") c.args.of_trace.now in
    let of_file = texts.digest_after (codes " ") c.args.of_file.now in
    let given = both _ _ _ _ _ _ of_trace of_file c.put_digest.result c.put_digest-2.result c.in_ok-put_digest.was c.put_digest.ensures c.put_digest-2.ensures in
    both _ _ _ _ _ _ (of_trace ++ of_file) (codes "\n") c.put_digest-2.result c.put_pieces.result c.in_ok-put_digest-2.was given c.put_pieces.ensures
