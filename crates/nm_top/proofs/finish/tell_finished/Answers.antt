use Rattle.report.specs.Texts.{turns_line}
use Rattle.nm_top.specs.Finishing.{finished}
use Rattle.nm_top.specs.Watches.{given}
use Rattle.nm_top.proofs.TellLaws.{at_world, finish_ok, finish_err}
use Rattle.nm_top.proofs.finish.tell_finished.Goals as goal

pub returns-in-Ok-clause-told : goal.returns-in-Ok-clause-told
returns-in-Ok-clause-told g c = λ p t first h reached turns idle hear.
    finish_ok p t (given first _) _ _ _ _ c.put_replay.result _ c.in-Ok.is c.args.replay.now c.args.round.turns c.args.round.idle h reached turns idle hear
    (at_world c.world.result.now c.args.replay.now.world c.world.ensures p (finished p t).events (turns_line c.args.round.turns c.args.round.idle) _ _ _ _ _ c.put_replay.result
    (c.put_replay.ensures p (finished p t).events) h.runs)

pub returns-in-Err-clause-told : goal.returns-in-Err-clause-told
returns-in-Err-clause-told g c = λ p t first h reached turns idle hear.
    finish_err p t (given first _) _ _ _ _ c.put_replay.result c.in-Err.field-0 c.in-Err.is c.args.replay.now c.args.round.turns c.args.round.idle h reached turns idle hear
    (at_world c.world.result.now c.args.replay.now.world c.world.ensures p (finished p t).events (turns_line c.args.round.turns c.args.round.idle) _ _ _ _ _ c.put_replay.result
    (c.put_replay.ensures p (finished p t).events) h.runs)
