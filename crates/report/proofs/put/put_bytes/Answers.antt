use Rattle.std.proofs.Common.{◌∙◌, arith}
use Rattle.report.specs.Texts.{byte_digits}
use Rattle.report.proofs.Pieces.{same_text}
use Rattle.report.proofs.Each.{each_failed}
use Rattle.report.proofs.put.put_bytes.Goals as goal

pub returns-in_err-put_pieces : goal.returns-in_err-put_pieces
returns-in_err-put_pieces g c =
    each_failed _ _ _ _ _ _ byte_digits c.args.digest.now c.loop-byte.byte-index _ (omega (arith, c.loop-byte-test.true, c.told-digest)) c.loop-byte.invariant c.put_pieces.result c.from_residual.result
    c.in_err-put_pieces.field-0.0 c.in_err-put_pieces.was c.from_residual.ensures.0
    (same_text _ _ _ _ _ _ c.put_pieces.result (c.as_slice.ensures ∙ c.byte_digits.ensures) c.put_pieces.ensures)
