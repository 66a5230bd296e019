use Rattle.std.proofs.Common.{subst, ◌∙◌}
use Rattle.nm_top.specs.private.Replaying.{HasFinishedRun, IfStuck}
use Rattle.nm_top.specs.private.Tellings.{IsStuckStop}
use Rattle.nm_top.proofs.HeardLaws.{was_unfinished}
use Rattle.nm_top.proofs.WatchLaws.{heard_of}
use Rattle.nm_top.proofs.finish.tell_finish.Goals as goal

pub returns-in-Ok-clause-told : goal.returns-in-Ok-clause-told
returns-in-Ok-clause-told g c = λ p t h stops.
    let k = subst (HasFinishedRun c.args.replay.now p t) c.in-Ok.is h in
    c.tell_finished.ensures.told p t _ k.0 k.1 k.2 k.3 (heard_of _ c.events.result.now.events _ _ (c.events.ensures ∙ k.0.replays.events) c.tell_each.ensures)

pub returns-in-Ok-clause-heard : goal.returns-in-Ok-clause-heard
returns-in-Ok-clause-heard g c = λ p t h stops.
    let k = subst (HasFinishedRun c.args.replay.now p t) c.in-Ok.is h in
    c.tell_finished.ensures.heard p t _ (heard_of _ c.events.result.now.events _ _ (c.events.ensures ∙ k.0.replays.events) c.tell_each.ensures)

pub returns-in-Err-clause-told : goal.returns-in-Err-clause-told
returns-in-Err-clause-told g c = λ p t h stops.
    c.tell_unfinished.ensures.told p t _ (was_unfinished c.args.replay.now p t _ c.args.stuck.now c.in-Err.fault (subst (HasFinishedRun c.args.replay.now p t) c.in-Err.is h)
    (subst (λ r. IfStuck r (λ events. IsStuckStop t events c.args.stuck.now)) c.in-Err.is stops) (heard_of _ c.events.result.now.events _ _ c.events.ensures c.tell_each.ensures))

pub returns-in-Err-clause-heard : goal.returns-in-Err-clause-heard
returns-in-Err-clause-heard g c = λ p t h stops.
    c.tell_unfinished.ensures.heard p t _ (was_unfinished c.args.replay.now p t _ c.args.stuck.now c.in-Err.fault (subst (HasFinishedRun c.args.replay.now p t) c.in-Err.is h)
    (subst (λ r. IfStuck r (λ events. IsStuckStop t events c.args.stuck.now)) c.in-Err.is stops) (heard_of _ c.events.result.now.events _ _ c.events.ensures c.tell_each.ensures))
