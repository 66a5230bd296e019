use Rattle.std.proofs.Common.{subst}
use Rattle.nm_top.specs.private.Replaying.{WasUnfinished}
use Rattle.nm_top.proofs.TellLaws.{finish_nothing, finish_stuck}
use Rattle.nm_top.proofs.HeardLaws.{stuck_hears}
use Rattle.nm_top.proofs.finish.tell_unfinished.Goals as goal

pub returns-in-Stuck-clause-told : goal.returns-in-Stuck-clause-told
returns-in-Stuck-clause-told g c = λ p t x h.
    let k = subst (WasUnfinished p t x c.args.stuck.now) c.in-Stuck.is h in
    finish_stuck p t x _ _ _ _ c.args.stuck.now _ c.tell.result k.0 k.1 k.2 c.tell.ensures

pub returns-in-Stuck-clause-heard : goal.returns-in-Stuck-clause-heard
returns-in-Stuck-clause-heard g c = λ p t x h.
    let k = subst (WasUnfinished p t x c.args.stuck.now) c.in-Stuck.is h in
    stuck_hears p t x _ c.args.stuck.now k.0 k.3 _ _ _ _ c.tell.result c.tell.ensures

pub returns-in-Memory-clause-told : goal.returns-in-Memory-clause-told
returns-in-Memory-clause-told g c = λ p t x h. finish_nothing p t x _ _

pub returns-in-Memory-clause-heard : goal.returns-in-Memory-clause-heard
returns-in-Memory-clause-heard g c = λ p t x h. subst (WasUnfinished p t x c.args.stuck.now) c.in-Memory.is h
