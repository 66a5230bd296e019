use Rattle.stack_code.specs.View.{seen_code}
use Rattle.proc_machine.proofs.Alikes.{kept_alike, comes_alike}
use Rattle.proc_machine.proofs.machine.Machine.reserve_output.Goals as goal

pub invariant_of-self : goal.invariant_of-self
invariant_of-self c =
    let m = c.args.self.now in
    record { kept = kept_alike (seen_code m.setting.code.now) m.setting.count m.setting.me.no m.execution c.reserve.new.self c.reserve.ensures.items m.begun m.next m.kept }

pub returns-clause-stands : goal.returns-clause-stands
returns-clause-stands c =
    let m = c.args.self.now in
    λ inputs events s. comes_alike (seen_code m.setting.code.now) m.setting.count m.setting.me.no m.execution c.reserve.new.self c.reserve.ensures.items m.begun m.next inputs events s
