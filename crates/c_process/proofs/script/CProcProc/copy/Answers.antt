use Rattle.std.proofs.Common.{sym, ap, ◌∙◌, subst, arith}
use Rattle.proc_machine.specs.declared.machine.Machine.{Machine}
use Rattle.proc_machine.specs.Machines.{MachineSetting, machine_setting, next_of, letters_sent}
use Rattle.c_process.specs.Following.{Follows, looks_at}
use Rattle.c_process.proofs.Standing.{stays}
use Rattle.c_process.proofs.script.CProcProc.copy.Goals as goal

pub invariant_of-result-clause-runs : goal.invariant_of-result-clause-runs
invariant_of-result-clause-runs c =
    ap (λ (set : MachineSetting). set.code) (ap machine_setting c.in_ok-machine.ensures ∙ c.in_ok-copy.ensures.same.setting ∙ ap machine_setting c.deref.ensures) ∙ c.args.self.now.runs

pub invariant_of-result-clause-named : goal.invariant_of-result-clause-named
invariant_of-result-clause-named c =
    ap (λ (set : MachineSetting). set.me) (ap machine_setting c.in_ok-machine.ensures ∙ c.in_ok-copy.ensures.same.setting ∙ ap machine_setting c.deref.ensures) ∙ c.args.self.now.named

pub invariant_of-result-clause-few : goal.invariant_of-result-clause-few
invariant_of-result-clause-few c =
    let boxed = ap letters_sent c.in_ok-machine.ensures in
    let held = ap letters_sent c.deref.ensures in
    omega (arith, boxed, c.in_ok-copy.ensures.same.sent, held, c.args.self.now.few)

pub invariant_of-result-clause-seen : goal.invariant_of-result-clause-seen
invariant_of-result-clause-seen c =
    ap (looks_at c.args.self.now.look) (ap next_of c.in_ok-machine.ensures ∙ c.in_ok-copy.ensures.same.next ∙ ap next_of c.deref.ensures) ∙ c.args.self.now.seen

pub returns-clause-same : goal.returns-clause-same
returns-clause-same c = λ s letters k f.
    let old = c.deref.result.now in
    let look = c.args.self.now.look in
    let ok = c.in_ok-copy.ensures in
    let copied = stays old c.in_ok-copy.field-0 look s letters k ok.same ok.stands (subst (λ (m : Machine). Follows m look s letters k) (sym c.deref.ensures) f.0) in
    (subst (λ (m : Machine). Follows m look s letters k) (sym c.in_ok-machine.ensures) copied, f.1)
