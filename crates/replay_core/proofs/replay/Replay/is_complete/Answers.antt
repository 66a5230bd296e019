use Rattle.std.proofs.Common.{sym, subst, ◌∙◌}
use Rattle.std.specs.Prelude.{◌==◌}
use Rattle.replay_core.specs.Replaying.{IsReplayOf}
use Rattle.replay_core.proofs.ReplayLaws.{complete}
use Rattle.replay_core.proofs.replay.Replay.is_complete.Goals as goal

pub returns : goal.returns
returns g c s T R h =
    let e = c.events.ensures in
    let t = c.total.ensures in
    (λ i. e i == t i) ∙ complete g.P.Proc.stands_for _ s T R (subst (λ v. IsReplayOf g.P.Proc.stands_for v s T R) (sym c.self.view_is) h)
