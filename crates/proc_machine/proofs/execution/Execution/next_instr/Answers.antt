use Rattle.stack_code.specs.View.{seen_code}
use Rattle.proc_machine.proofs.Stepping.{index_within, fetched_is}
use Rattle.proc_machine.proofs.execution.Execution.next_instr.Goals as goal

pub fetch-requires : goal.fetch-requires
fetch-requires c = index_within (seen_code c.args.at.code.now) c.args.self.now c.requires

pub returns : goal.returns
returns c = fetched_is (seen_code c.args.at.code.now) c.args.self.now c.fetch.result c.requires c.fetch.ensures
