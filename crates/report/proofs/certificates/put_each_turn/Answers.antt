use Rattle.report.specs.Texts.{turn_text}
use Rattle.report.proofs.Each.{each_failed}
use Rattle.report.proofs.certificates.put_each_turn.Goals as goal

pub returns-in_err-put_turn : goal.returns-in_err-put_turn
returns-in_err-put_turn g c =
    each_failed _ _ _ _ _ _ turn_text c.args.turns.now c.loop-turn.turn-index _ c.loop-turn-test.true c.loop-turn.invariant c.put_turn.result c.from_residual.result
    c.in_err-put_turn.field-0.0 c.in_err-put_turn.was c.from_residual.ensures.0 c.put_turn.ensures
