use Rattle.stack_code.specs.declared.instr.Instr.TheVariants as instr
use Rattle.nm_base.specs.declared.kind.Kind.TheVariants as kind
use Rattle.stack_code.specs.View.{seen_code}
use Rattle.proc_machine.proofs.Stepping.{ready_by}
use Rattle.proc_machine.proofs.Onwards.{after_by, holds_made}
use Rattle.proc_machine.proofs.execution.Execution.go_past_print.Goals as goal

pub print_bytes-bytes-requires-clause-ready : goal.print_bytes-bytes-requires-clause-ready
print_bytes-bytes-requires-clause-ready c = ready_by (seen_code c.args.at.code.now) c.args.at.count c.args.at.me.no c.args.self.now (instr.Print c.args.text) c.requires.holds c.requires.there

pub run-next-requires : goal.run-next-requires
run-next-requires c = holds_made (seen_code c.args.at.code.now) c.args.at.count c.args.at.me.no c.args.self.now c.print_bytes-bytes.new.self c.print_bytes-bytes.new.self
    (instr.Print c.args.text) c.requires.there (kind.Printed c.print_bytes-bytes.result) c.print_bytes-bytes.ensures.made c.requires.holds

pub returns-clause-after : goal.returns-clause-after
returns-clause-after c =
    after_by (seen_code c.args.at.code.now) c.args.at.count c.args.at.me.no c.args.self.now c.print_bytes-bytes.new.self c.run-next.new.self (instr.Print c.args.text) c.requires.there
    (kind.Printed c.print_bytes-bytes.result) c.run-next.result c.print_bytes-bytes.ensures.made c.run-next.ensures.reaches c.run-next.ensures.stands
