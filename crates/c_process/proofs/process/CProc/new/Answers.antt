use Rattle.std.proofs.Common.{[], refl, sym, ap, ◌∙◌, subst, arith}
use Rattle.nm_base.specs.Scripts.{Script}
use Rattle.c_tree.specs.Play.{script_of}
use Rattle.stack_code.specs.View.{seen_code}
use Rattle.proc_machine.specs.declared.machine.Machine.{Machine}
use Rattle.proc_machine.specs.Machines.{MachineSetting, MachineStandsFor, machine_setting, next_of, letters_sent}
use Rattle.proc_machine.specs.Pauses.{status_of}
use Rattle.c_process.specs.Shown.{look_of}
use Rattle.c_process.specs.Standing.{IsCodeOf}
use Rattle.c_process.specs.Following.{Follows}
use Rattle.c_process.proofs.Looks.{begins_seen}
use Rattle.c_process.proofs.Standing.{begins}
use Rattle.c_process.proofs.process.CProc.new.Goals as goal

pub invariant_of-result-clause-runs : goal.invariant_of-result-clause-runs
invariant_of-result-clause-runs c = ap (λ (set : MachineSetting). set.code) (ap machine_setting c.in_ok-machine.ensures ∙ c.in_ok-new.ensures.setting)

pub invariant_of-result-clause-named : goal.invariant_of-result-clause-named
invariant_of-result-clause-named c = ap (λ (set : MachineSetting). set.me) (ap machine_setting c.in_ok-machine.ensures ∙ c.in_ok-new.ensures.setting)

pub invariant_of-result-clause-few : goal.invariant_of-result-clause-few
invariant_of-result-clause-few c =
    let sent = ap letters_sent c.in_ok-machine.ensures in
    omega (arith, sent, c.in_ok-new.ensures.sent)

pub invariant_of-result-clause-seen : goal.invariant_of-result-clause-seen
invariant_of-result-clause-seen c =
    begins_seen c.look_at-look.result (next_of c.in_ok-machine.machine.value)
    (c.look_at-look.ensures.looks [] refl ∙ ap (λ q. look_of (status_of q) []) (c.pending.ensures.same ∙ ap next_of c.deref.ensures))

pub returns-clause-stands : goal.returns-clause-stands
returns-clause-stands c = λ p is.
    let m = c.in_ok-machine.machine.value in
    let ok = c.in_ok-new.ensures in
    let setting = ap machine_setting c.in_ok-machine.ensures ∙ ok.setting in
    let stands = subst (λ (m : Machine). MachineStandsFor m [] []) (sym c.in_ok-machine.ensures) ok.stands in
    let looks = c.look_at-look.ensures.looks [] refl ∙ ap (λ q. look_of (status_of q) []) (c.pending.ensures.same ∙ ap next_of c.deref.ensures) in
    let code = subst (λ (set : MachineSetting). IsCodeOf p set.code) (sym setting) is in
    let start = begins m c.look_at-look.result p stands looks code in
    let script = ap (λ (set : MachineSetting). script_of p set.count set.me.no) setting in
    (subst (λ (s : Script). Follows m c.look_at-look.result s [] 0) script start, refl)

pub returns-clause-origin : goal.returns-clause-origin
returns-clause-origin c =
    ap (λ (set : MachineSetting). (seen_code c.args.code.now, set.count)) (ap machine_setting c.in_ok-machine.ensures ∙ c.in_ok-new.ensures.setting)
