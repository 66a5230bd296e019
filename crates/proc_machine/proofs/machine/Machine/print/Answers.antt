use Rattle.std.proofs.Common.{refl, sym, arith}
use Rattle.stack_code.specs.View.{seen_code}
use Rattle.nm_base.specs.declared.kind.Kind.TheVariants as kind
use Rattle.proc_machine.specs.declared.pause.Pause.TheVariants as pause
use Rattle.proc_machine.proofs.Going.{holds_there, waits_there, kept_there, makes_there}
use Rattle.proc_machine.proofs.Knows.{at_print}
use Rattle.proc_machine.proofs.machine.Machine.print.Goals as goal

pub text_to_print-text-requires-clause-holds : goal.text_to_print-text-requires-clause-holds
text_to_print-text-requires-clause-holds c = holds_there c.args.self.now pause.Print c.requires.waits refl

pub text_to_print-text-requires-clause-waits : goal.text_to_print-text-requires-clause-waits
text_to_print-text-requires-clause-waits c = waits_there c.args.self.now pause.Print c.requires.waits refl

pub go_past_print-bytes-requires-clause-holds : goal.go_past_print-bytes-requires-clause-holds
go_past_print-bytes-requires-clause-holds c = holds_there c.args.self.now pause.Print c.requires.waits refl

pub go_past_print-bytes-requires-clause-room : goal.go_past_print-bytes-requires-clause-room
go_past_print-bytes-requires-clause-room c =
    let m = c.args.self.now in
    at_print (seen_code m.setting.code.now) m.setting.count m.setting.me.no m.execution m.begun m.next m.kept c.text_to_print-text.result c.requires.waits c.text_to_print-text.ensures

pub invariant_of-self : goal.invariant_of-self
invariant_of-self c =
    let went = c.go_past_print-bytes in
    record { kept = kept_there c.args.self.now pause.Print c.requires.waits refl went.new.self went.result.1 went.ensures.holds went.ensures.after.stands }

pub returns-clause-made : goal.returns-clause-made
returns-clause-made c =
    let went = c.go_past_print-bytes in
    record {
      stands = makes_there c.args.self.now pause.Print c.requires.waits refl went.new.self went.result.1 (kind.Printed went.result.0) went.ensures.after;
      fits = sym c.requires.waits;
      setting = refl;
      sent = omega (arith, went.ensures.sent);
    }
