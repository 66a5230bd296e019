use Rattle.stack_code.specs.declared.instr.Instr.TheVariants as instr
use Rattle.nm_base.specs.declared.kind.Kind.TheVariants as kind
use Rattle.stack_code.specs.View.{seen_code}
use Rattle.proc_machine.proofs.Stepping.{ready_by}
use Rattle.proc_machine.proofs.Onwards.{after_by, holds_made}
use Rattle.proc_machine.proofs.execution.Execution.go_past_line.Goals as goal

pub pass_line-requires : goal.pass_line-requires
pass_line-requires c = ready_by (seen_code c.args.at.code.now) c.args.at.count c.args.at.me.no c.args.self.now (instr.Line c.args.line) c.requires.holds c.requires.there

pub run-requires : goal.run-requires
run-requires c = holds_made (seen_code c.args.at.code.now) c.args.at.count c.args.at.me.no c.args.self.now c.pass_line.new.self c.pass_line.new.self (instr.Line c.args.line) c.requires.there
    (kind.Line c.args.line) c.pass_line.ensures.made c.requires.holds

pub returns-clause-after : goal.returns-clause-after
returns-clause-after c =
    after_by (seen_code c.args.at.code.now) c.args.at.count c.args.at.me.no c.args.self.now c.pass_line.new.self c.run.new.self (instr.Line c.args.line) c.requires.there
    (kind.Line c.args.line) c.run.result c.pass_line.ensures.made c.run.ensures.reaches c.run.ensures.stands
