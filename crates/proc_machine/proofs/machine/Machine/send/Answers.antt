use Rattle.std.proofs.Common.{refl, sym, arith}
use Rattle.stack_code.specs.View.{seen_code}
use Rattle.proc_machine.specs.declared.pause.Pause.TheVariants as pause
use Rattle.proc_machine.specs.private.Moves.{sent_by}
use Rattle.proc_machine.proofs.Going.{holds_there, waits_there, kept_there, makes_there}
use Rattle.proc_machine.proofs.Knows.{at_send}
use Rattle.proc_machine.proofs.Letters.{letter_is}
use Rattle.proc_machine.proofs.machine.Machine.send.Goals as goal

pub words_to_send-words-requires-clause-holds : goal.words_to_send-words-requires-clause-holds
words_to_send-words-requires-clause-holds c = holds_there c.args.self.now pause.Send c.requires.waits refl

pub words_to_send-words-requires-clause-waits : goal.words_to_send-words-requires-clause-waits
words_to_send-words-requires-clause-waits c = waits_there c.args.self.now pause.Send c.requires.waits refl

pub go_past_send-next-requires-clause-holds : goal.go_past_send-next-requires-clause-holds
go_past_send-next-requires-clause-holds c = holds_there c.args.self.now pause.Send c.requires.waits refl

pub go_past_send-next-requires-clause-addressed : goal.go_past_send-next-requires-clause-addressed
go_past_send-next-requires-clause-addressed c =
    let m = c.args.self.now in
    at_send (seen_code m.setting.code.now) m.setting.count m.setting.me.no m.execution m.begun m.next m.kept c.words_to_send-words.result c.requires.waits c.words_to_send-words.ensures

pub invariant_of-self : goal.invariant_of-self
invariant_of-self c =
    let went = c.go_past_send-next in
    record { kept = kept_there c.args.self.now pause.Send c.requires.waits refl went.new.self went.result.1 went.ensures.holds went.ensures.after.stands }

pub returns-clause-made : goal.returns-clause-made
returns-clause-made c =
    let went = c.go_past_send-next in
    record {
      stands = makes_there c.args.self.now pause.Send c.requires.waits refl went.new.self went.result.1 (sent_by went.result.0) went.ensures.after;
      fits = sym c.requires.waits;
      setting = refl;
      sent = omega (arith, went.ensures.sent);
    }

pub returns-clause-letter : goal.returns-clause-letter
returns-clause-letter c =
    let ok = c.go_past_send-next.ensures in
    letter_is c.args.self.now.setting.me c.args.self.now.execution.sent c.go_past_send-next.result.0 ok.named ok.unposted.0 ok.unposted.1
