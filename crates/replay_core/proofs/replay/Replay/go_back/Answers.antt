use Rattle.std.proofs.Common.{sym, subst, take}
use Rattle.replay_core.specs.Replaying.{IsReplayOf}
use Rattle.replay_core.proofs.BackLaws.{cut_view}
use Rattle.replay_core.proofs.replay.Replay.go_back.Goals as goal

pub invariant_of-self : goal.invariant_of-self
invariant_of-self g c =
    let k = c.requires.way in
    let view = cut_view c.args.self.now _ c.in_ok-world.world c.args.to c.cut.new.self.events c.self.view_is c.cut.ensures in (
      k.scripts,
      k.trace,
      take c.args.to k.run,
      subst (λ v. IsReplayOf g.P.Proc.stands_for v k.scripts k.trace (take c.args.to k.run)) (sym view)
          (c.in_ok-world.ensures.made k.scripts k.trace k.run k.way),
    )

pub returns-clause-back : goal.returns-clause-back
returns-clause-back g c s T R way =
    let view = cut_view c.args.self.now _ c.in_ok-world.world c.args.to c.cut.new.self.events c.self.view_is c.cut.ensures in
    subst (λ v. IsReplayOf g.P.Proc.stands_for v s T (take c.args.to R)) (sym view) (c.in_ok-world.ensures.made s T R way)
