use Rattle.proc_machine.proofs.Pending.{stops_of, makes_of}
use Rattle.proc_machine.proofs.machine.Machine.pending.Goals as goal

pub returns-clause-stops : goal.returns-clause-stops
returns-clause-stops c = λ inputs events s. stops_of c.args.self.now inputs events s

pub returns-clause-next : goal.returns-clause-next
returns-clause-next c = λ inputs events s. makes_of c.args.self.now inputs events s
