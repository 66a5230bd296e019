use Rattle.std.proofs.Common.{◌≡◌, ◌∙◌}
use Rattle.replay_core.proofs.RoundLaws.{idled_so}
use Rattle.replay_core.proofs.round.Round.after.Goals as goal

pub returns-in-Idle-clause-is : goal.returns-in-Idle-clause-is
returns-in-Idle-clause-is c T f n h = idled_so c.idled.result T f c.args.turned.now c.in-Idle.field-0 c.in-Idle.is (λ why. c.idled.ensures.is T f why n h)
