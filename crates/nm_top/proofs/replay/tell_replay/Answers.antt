use Rattle.std.proofs.Common.{subst, ◌∙◌}
use Rattle.report.specs.Texts.{turns_line}
use Rattle.nm_top.specs.Finishing.{replayed}
use Rattle.nm_top.specs.private.Replaying.{HasReplayed}
use Rattle.nm_top.proofs.TellLaws.{at_world, replay_same, replay_nothing, replay_ok, replay_err}
use Rattle.nm_top.proofs.WatchLaws.{heard_of}
use Rattle.nm_top.proofs.replay.tell_replay.Goals as goal

pub returns-in_default-clause-told : goal.returns-in_default-clause-told
returns-in_default-clause-told g c = λ p t ts h turns. replay_nothing p t ts _ _ _

pub returns-in_default-clause-heard : goal.returns-in_default-clause-heard
returns-in_default-clause-heard g c = λ p t ts h.
    let k = subst (HasReplayed c.args.replay.now p t ts) c.in_default.is h in
    (k.0, heard_of _ c.events.result.now.events _ _ (c.events.ensures ∙ k.1.replays.events) c.tell_each.ensures)

pub returns-in-Ok-put_replay-clause-told : goal.returns-in-Ok-put_replay-clause-told
returns-in-Ok-put_replay-clause-told g c = λ p t ts h turns.
    let k = subst (HasReplayed c.args.replay.now p t ts) c.in-Ok.is h in
    replay_ok p t ts _ _ _ _ _ c.put_replay.result _ (heard_of _ c.events.result.now.events _ _ (c.events.ensures ∙ k.0.replays.events) c.tell_each.ensures)
    (replay_same c.args.replay.now p t ts c.args.turns c.in-Ok.idle k.0 turns k.1)
    (at_world c.world.result.now c.args.replay.now.world c.world.ensures p (replayed p t ts) (turns_line c.args.turns c.in-Ok.idle) _ _ _ _ _ c.put_replay.result
    (c.put_replay.ensures p (replayed p t ts)) k.0.runs) _ c.in-Ok-put_replay.is

pub returns-in-Ok-put_replay-clause-heard : goal.returns-in-Ok-put_replay-clause-heard
returns-in-Ok-put_replay-clause-heard g c = λ p t ts h.
    let k = subst (HasReplayed c.args.replay.now p t ts) c.in-Ok.is h in
    heard_of _ c.events.result.now.events _ _ (c.events.ensures ∙ k.0.replays.events) c.tell_each.ensures

pub returns-in-Err-clause-told : goal.returns-in-Err-clause-told
returns-in-Err-clause-told g c = λ p t ts h turns.
    let k = subst (HasReplayed c.args.replay.now p t ts) c.in-Ok.is h in
    replay_err p t ts _ _ _ _ _ c.put_replay.result _ (heard_of _ c.events.result.now.events _ _ (c.events.ensures ∙ k.0.replays.events) c.tell_each.ensures)
    (replay_same c.args.replay.now p t ts c.args.turns c.in-Ok.idle k.0 turns k.1)
    (at_world c.world.result.now c.args.replay.now.world c.world.ensures p (replayed p t ts) (turns_line c.args.turns c.in-Ok.idle) _ _ _ _ _ c.put_replay.result
    (c.put_replay.ensures p (replayed p t ts)) k.0.runs) c.in-Err.field-0 c.in-Err.is

pub returns-in-Err-clause-heard : goal.returns-in-Err-clause-heard
returns-in-Err-clause-heard g c = λ p t ts h.
    let k = subst (HasReplayed c.args.replay.now p t ts) c.in-Ok.is h in
    heard_of _ c.events.result.now.events _ _ (c.events.ensures ∙ k.0.replays.events) c.tell_each.ensures
