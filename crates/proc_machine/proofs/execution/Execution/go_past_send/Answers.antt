use Rattle.stack_code.specs.declared.instr.Instr.TheVariants as instr
use Rattle.stack_code.specs.View.{seen_code}
use Rattle.proc_machine.specs.private.Moves.{sent_by}
use Rattle.proc_machine.proofs.Stepping.{ready_by}
use Rattle.proc_machine.proofs.Onwards.{after_by, holds_made}
use Rattle.proc_machine.proofs.execution.Execution.go_past_send.Goals as goal

pub send_letter-letter-requires-clause-ready : goal.send_letter-letter-requires-clause-ready
send_letter-letter-requires-clause-ready c = ready_by (seen_code c.args.at.code.now) c.args.at.count c.args.at.me.no c.args.self.now (instr.Send c.args.words) c.requires.holds c.requires.there

pub run-next-requires : goal.run-next-requires
run-next-requires c = holds_made (seen_code c.args.at.code.now) c.args.at.count c.args.at.me.no c.args.self.now c.send_letter-letter.new.self c.send_letter-letter.new.self
    (instr.Send c.args.words) c.requires.there (sent_by c.send_letter-letter.result) c.send_letter-letter.ensures.made c.requires.holds

pub returns-clause-after : goal.returns-clause-after
returns-clause-after c =
    after_by (seen_code c.args.at.code.now) c.args.at.count c.args.at.me.no c.args.self.now c.send_letter-letter.new.self c.run-next.new.self (instr.Send c.args.words) c.requires.there
    (sent_by c.send_letter-letter.result) c.run-next.result c.send_letter-letter.ensures.made c.run-next.ensures.reaches c.run-next.ensures.stands
