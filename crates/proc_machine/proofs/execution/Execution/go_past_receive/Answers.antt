use Rattle.stack_code.specs.declared.instr.Instr.TheVariants as instr
use Rattle.stack_code.specs.View.{seen_code}
use Rattle.proc_machine.proofs.Stepping.{ready_by}
use Rattle.proc_machine.proofs.Onwards.{accepts_by, holds_taken}
use Rattle.proc_machine.proofs.execution.Execution.go_past_receive.Goals as goal

pub take_letter-requires-clause-ready : goal.take_letter-requires-clause-ready
take_letter-requires-clause-ready c = ready_by (seen_code c.args.at.code.now) c.args.at.count c.args.at.me.no c.args.self.now instr.Receive c.requires.holds c.requires.there

pub run-requires : goal.run-requires
run-requires c = holds_taken (seen_code c.args.at.code.now) c.args.at.count c.args.at.me.no c.args.self.now c.take_letter.new.self c.args.set c.args.letter c.requires.there c.take_letter.ensures.made
    c.requires.holds

pub returns-clause-after : goal.returns-clause-after
returns-clause-after c =
    accepts_by (seen_code c.args.at.code.now) c.args.at.count c.args.at.me.no c.args.self.now c.take_letter.new.self c.run.new.self c.args.set c.args.letter c.run.result c.requires.there
    c.take_letter.ensures.made c.run.ensures.reaches c.run.ensures.stands
