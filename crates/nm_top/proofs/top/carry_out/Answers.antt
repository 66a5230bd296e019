use Rattle.std.proofs.Common.{refl, None, []}
use Rattle.nm_top.specs.Commands as commands
use Rattle.nm_top.specs.Watches.{Call, call, given}
use Rattle.nm_top.proofs.HeardLaws.{quiet_hears}
use Rattle.nm_top.proofs.CarryLaws.{never_full, takes_none}
use Rattle.nm_top.proofs.SoakCarries.{soak_carries, soak_own}
use Rattle.nm_top.proofs.top.carry_out.Goals as goal

pub returns-in-Run-clause-told : goal.returns-in-Run-clause-told
returns-in-Run-clause-told g c = rw c.in-Run.is (quiet_hears (g.C.Cabinet.files c.args.files.now) _ (commands.Run c.in-Run.program.now c.in-Run.processes c.in-Run.schedule.now c.in-Run.mask) c.run.result refl (λ held. refl))

pub returns-in-Record-clause-told : goal.returns-in-Record-clause-told
returns-in-Record-clause-told g c = rw c.in-Record.is (quiet_hears (g.C.Cabinet.files c.args.files.now) _ (commands.Record c.in-Record.program.now c.in-Record.processes c.in-Record.schedule.now c.in-Record.trace.now c.in-Record.version c.in-Record.mask) c.record.result refl (λ held. refl))

pub returns-in-Certify-clause-told : goal.returns-in-Certify-clause-told
returns-in-Certify-clause-told g c = rw c.in-Certify.is (quiet_hears (g.C.Cabinet.files c.args.files.now) _ (commands.Certify c.in-Certify.program.now c.in-Certify.trace.now) c.certify.result refl (λ held. refl))

pub returns-in-Upgrade-clause-told : goal.returns-in-Upgrade-clause-told
returns-in-Upgrade-clause-told g c = rw c.in-Upgrade.is (quiet_hears (g.C.Cabinet.files c.args.files.now) _ (commands.Upgrade c.in-Upgrade.trace.now c.in-Upgrade.new.now) c.upgrade.result refl (λ held. refl))

pub returns-in-Soak-clause-told : goal.returns-in-Soak-clause-told
returns-in-Soak-clause-told g c = rw c.in-Soak.is (quiet_hears (g.C.Cabinet.files c.args.files.now) _ (commands.Soak c.in-Soak.seed) c.soak.result refl (λ held. refl))

pub returns-in-Run-clause-carries : goal.returns-in-Run-clause-carries
returns-in-Run-clause-carries g c = rw c.in-Run.is (takes_none _ _ (λ r h. h) _ _ _ c.run.result (c.run.ensures _))

pub returns-in-Record-clause-carries : goal.returns-in-Record-clause-carries
returns-in-Record-clause-carries g c = rw c.in-Record.is (takes_none _ _ (λ r h. h) _ _ _ c.record.result (c.record.ensures _))

pub returns-in-Certify-clause-carries : goal.returns-in-Certify-clause-carries
returns-in-Certify-clause-carries g c = rw c.in-Certify.is (takes_none _ _ (λ r h. h) _ _ _ c.certify.result (c.certify.ensures _))

pub returns-in-Upgrade-clause-carries : goal.returns-in-Upgrade-clause-carries
returns-in-Upgrade-clause-carries g c = rw c.in-Upgrade.is (takes_none _ _ (λ r h. h) _ _ _ c.upgrade.result (c.upgrade.ensures _))

pub returns-in-Replay-clause-carries : goal.returns-in-Replay-clause-carries
returns-in-Replay-clause-carries g c = rw c.in-Replay.is (takes_none _ _ (λ r h. h) _ _ _ c.replay.result (c.replay.ensures.carries _))

pub returns-in-Finish-clause-carries : goal.returns-in-Finish-clause-carries
returns-in-Finish-clause-carries g c = rw c.in-Finish.is (takes_none _ _ (λ r h. h) _ _ _ c.finish.result (c.finish.ensures.carries _))

pub returns-in-Soak-clause-carries : goal.returns-in-Soak-clause-carries
returns-in-Soak-clause-carries g c = rw c.in-Soak.is (takes_none _ _ (λ r h. h) _ _ _ c.soak.result (soak_carries _ c.in-Soak.seed _ _ _ _ _ _ _ _ _ c.soak.result c.soak.ensures))

pub returns-in-Debug-clause-input : goal.returns-in-Debug-clause-input
returns-in-Debug-clause-input g c = rw c.in-Debug.is (λ n. absurd (n tt))

-- a call for which nothing is told
none : Call
none = call None (given [] [])

pub returns-in-Run-clause-full : goal.returns-in-Run-clause-full
returns-in-Run-clause-full g c = λ e. absurd (never_full none _ (λ r h. h) _ _ c.run.result (c.run.ensures none) e)

pub returns-in-Record-clause-full : goal.returns-in-Record-clause-full
returns-in-Record-clause-full g c = λ e. absurd (never_full none _ (λ r h. h) _ _ c.record.result (c.record.ensures none) e)

pub returns-in-Certify-clause-full : goal.returns-in-Certify-clause-full
returns-in-Certify-clause-full g c = λ e. absurd (never_full none _ (λ r h. h) _ _ c.certify.result (c.certify.ensures none) e)

pub returns-in-Upgrade-clause-full : goal.returns-in-Upgrade-clause-full
returns-in-Upgrade-clause-full g c = λ e. absurd (never_full none _ (λ r h. h) _ _ c.upgrade.result (c.upgrade.ensures none) e)

pub returns-in-Replay-clause-full : goal.returns-in-Replay-clause-full
returns-in-Replay-clause-full g c = λ e. absurd (never_full _ _ (λ r h. h) _ _ c.replay.result (c.replay.ensures.carries None) e)

pub returns-in-Finish-clause-full : goal.returns-in-Finish-clause-full
returns-in-Finish-clause-full g c = λ e. absurd (never_full _ _ (λ r h. h) _ _ c.finish.result (c.finish.ensures.carries None) e)

pub returns-in-Soak-clause-full : goal.returns-in-Soak-clause-full
returns-in-Soak-clause-full g c = λ e. absurd (never_full none (commands.Soak c.in-Soak.seed) (λ r h. h) _ _ c.soak.result (soak_carries none c.in-Soak.seed None 0 0 0 None _ _ _ _ c.soak.result c.soak.ensures) e)

pub returns-in-Soak-clause-own : goal.returns-in-Soak-clause-own
returns-in-Soak-clause-own g c = rw c.in-Soak.is (soak_own c.in-Soak.seed _ _ _ _ c.soak.result c.soak.ensures)

pub returns-in-Run-clause-own : goal.returns-in-Run-clause-own
returns-in-Run-clause-own g c = rw c.in-Run.is tt

pub returns-in-Record-clause-own : goal.returns-in-Record-clause-own
returns-in-Record-clause-own g c = rw c.in-Record.is tt

pub returns-in-Replay-clause-own : goal.returns-in-Replay-clause-own
returns-in-Replay-clause-own g c = rw c.in-Replay.is tt

pub returns-in-Finish-clause-own : goal.returns-in-Finish-clause-own
returns-in-Finish-clause-own g c = rw c.in-Finish.is tt

pub returns-in-Certify-clause-own : goal.returns-in-Certify-clause-own
returns-in-Certify-clause-own g c = rw c.in-Certify.is tt

pub returns-in-Debug-clause-own : goal.returns-in-Debug-clause-own
returns-in-Debug-clause-own g c = rw c.in-Debug.is tt

pub returns-in-Upgrade-clause-own : goal.returns-in-Upgrade-clause-own
returns-in-Upgrade-clause-own g c = rw c.in-Upgrade.is tt
