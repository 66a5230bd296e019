use Rattle.stack_code.specs.View.{seen_code}
use Rattle.proc_machine.proofs.Stepping.{ready_by, holds_by, steps_by}
use Rattle.proc_machine.proofs.execution.Execution.step.Goals as goal

pub execute-requires : goal.execute-requires
execute-requires c = ready_by (seen_code c.args.at.code.now) c.args.at.count c.args.at.me.no c.args.self.now c.next_instr-instr.result c.requires c.next_instr-instr.ensures

pub returns-clause-holds : goal.returns-clause-holds
returns-clause-holds c =
    holds_by (seen_code c.args.at.code.now) c.args.at.count c.args.at.me.no c.args.self.now c.execute.new.self c.next_instr-instr.result c.execute.result c.requires c.next_instr-instr.ensures c.execute.ensures

pub returns-clause-steps : goal.returns-clause-steps
returns-clause-steps c =
    steps_by (seen_code c.args.at.code.now) c.args.at.count c.args.at.me.no c.args.self.now c.execute.new.self c.next_instr-instr.result c.execute.result c.requires c.next_instr-instr.ensures c.execute.ensures
