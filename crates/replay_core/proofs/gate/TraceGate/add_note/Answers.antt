use Rattle.std.proofs.Common.{sym, subst, []}
use Rattle.replay_core.specs.private.Held.{Holds}
use Rattle.replay_core.proofs.GateLaws.{holds_note}
use Rattle.replay_core.proofs.gate.TraceGate.add_note.Goals as goal

pub returns-clause-held : goal.returns-clause-held
returns-clause-held c notes h =
    holds_note _ _ c.args.note.now notes c.in_ok-note_first.ensures c.in_ok-name_letter.ensures (subst (λ g. Holds g notes []) (sym c.self.view_is) h)
