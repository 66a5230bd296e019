use Rattle.std.proofs.Common.{refl, sym, arith}
use Rattle.stack_code.specs.View.{seen_code}
use Rattle.nm_base.specs.declared.kind.Kind.TheVariants as kind
use Rattle.proc_machine.specs.declared.pause.Pause.TheVariants as pause
use Rattle.proc_machine.proofs.Going.{holds_there, kept_there, makes_there}
use Rattle.proc_machine.proofs.Knows.{at_line}
use Rattle.proc_machine.proofs.machine.Machine.come_to_line.Goals as goal

pub go_past_line-self-requires-clause-holds : goal.go_past_line-self-requires-clause-holds
go_past_line-self-requires-clause-holds c = holds_there c.args.self.now (pause.Line c.args.line) c.requires refl

pub go_past_line-self-requires-clause-there : goal.go_past_line-self-requires-clause-there
go_past_line-self-requires-clause-there c =
    let m = c.args.self.now in
    at_line (seen_code m.setting.code.now) m.setting.count m.setting.me.no m.execution m.begun m.next m.kept c.args.line c.requires

pub invariant_of-self : goal.invariant_of-self
invariant_of-self c =
    let went = c.go_past_line-self in
    record { kept = kept_there c.args.self.now (pause.Line c.args.line) c.requires refl went.new.self went.result went.ensures.holds went.ensures.after.stands }

pub returns-clause-made : goal.returns-clause-made
returns-clause-made c =
    let went = c.go_past_line-self in
    record {
      stands = makes_there c.args.self.now (pause.Line c.args.line) c.requires refl went.new.self went.result (kind.Line c.args.line) went.ensures.after;
      fits = sym c.requires;
      setting = refl;
      sent = omega (arith, went.ensures.sent);
    }
