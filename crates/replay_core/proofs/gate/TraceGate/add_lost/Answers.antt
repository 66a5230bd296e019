use Rattle.std.proofs.Common.{refl, sym, subst}
use Rattle.replay_core.specs.private.Held.{Holds}
use Rattle.replay_core.proofs.GateLaws.{holds_lost}
use Rattle.replay_core.proofs.gate.TraceGate.add_lost.Goals as goal

pub returns-clause-held : goal.returns-clause-held
returns-clause-held c notes lost h =
    holds_lost _ _ c.args.id.now notes lost (λ r. refl) c.in_ok-name_letter.ensures (subst (λ g. Holds g notes lost) (sym c.self.view_is) h)
