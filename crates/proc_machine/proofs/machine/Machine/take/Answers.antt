use Rattle.std.proofs.Common.{refl}
use Rattle.stack_code.specs.View.{seen_code}
use Rattle.proc_machine.specs.declared.pause.Pause.TheVariants as pause
use Rattle.proc_machine.proofs.Going.{holds_there, kept_there, accepts_there}
use Rattle.proc_machine.proofs.Knows.{at_receive, set_known, set_some}
use Rattle.proc_machine.proofs.machine.Machine.take.Goals as goal

pub go_past_receive-self-requires-clause-holds : goal.go_past_receive-self-requires-clause-holds
go_past_receive-self-requires-clause-holds c = holds_there c.args.self.now (pause.Receive c.args.set) c.requires refl

pub go_past_receive-self-requires-clause-there : goal.go_past_receive-self-requires-clause-there
go_past_receive-self-requires-clause-there c =
    let m = c.args.self.now in
    at_receive (seen_code m.setting.code.now) m.setting.count m.setting.me.no m.execution m.begun m.next m.kept c.args.set c.requires

pub go_past_receive-self-requires-clause-set_is : goal.go_past_receive-self-requires-clause-set_is
go_past_receive-self-requires-clause-set_is c =
    let m = c.args.self.now in
    set_known (seen_code m.setting.code.now) m.setting.count m.setting.me.no m.execution m.begun m.next m.kept c.args.set c.requires

pub go_past_receive-self-requires-clause-some : goal.go_past_receive-self-requires-clause-some
go_past_receive-self-requires-clause-some c =
    let m = c.args.self.now in
    set_some (seen_code m.setting.code.now) m.setting.count m.setting.me.no m.execution m.begun m.next m.kept c.args.set c.requires

pub invariant_of-self : goal.invariant_of-self
invariant_of-self c =
    let went = c.go_past_receive-self in
    record { kept = kept_there c.args.self.now (pause.Receive c.args.set) c.requires refl went.new.self went.result went.ensures.holds went.ensures.after.stands }

pub returns : goal.returns
returns c =
    let went = c.go_past_receive-self in
    record {
      kind_is = refl;
      stands = accepts_there c.args.self.now (pause.Receive c.args.set) c.requires refl went.new.self went.result c.args.set c.args.letter went.ensures.after;
      setting = refl;
      sent = went.ensures.sent;
    }
