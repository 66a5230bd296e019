use Rattle.std.proofs.Common.{◌+◌, refl, sym, ◌∙◌, arith}
use Rattle.schedules.proofs.TextFacts.{one_digit, number_too_great}
use Rattle.schedules.proofs.reader.number.Goals as goal

pub returns-then-value-gt4294967295 : goal.returns-then-value-gt4294967295
returns-then-value-gt4294967295 c =
    sym (number_too_great c.args.digits.now (c.loop-d.d-index + 1) _ (one_digit c.args.digits.now c.loop-d.d-index c.loop-d.value c.loop-d.invariant.same _ c.loop-d-test.true
    (sym c.is_digit.ensures ∙ c.if-not-is_digit.false) refl) (omega arith))
