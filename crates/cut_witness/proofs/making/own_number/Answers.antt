use Rattle.std.proofs.Common.{subst}
use Rattle.cut_witness.specs.private.Steps.{IsOwn}
use Rattle.cut_witness.proofs.MakingFacts.{received_at}
use Rattle.cut_witness.proofs.making.own_number.Goals as goal

pub returns-in-Some : goal.returns-in-Some
returns-in-Some c id own = received_at id c.in-Some.e c.receive_number.result c.receive_number.ensures (subst (IsOwn c.args.events.now.events id) c.in-Some.is own)

pub returns-in-None : goal.returns-in-None
returns-in-None c id own = subst (IsOwn c.args.events.now.events id) c.in-None.is own
