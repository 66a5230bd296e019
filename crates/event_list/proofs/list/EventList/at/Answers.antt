use Rattle.std.proofs.Common.{length, sym, ap, arith}
use Rattle.event_list.proofs.list.EventList.at.Goals as goal

pub returns-clause-process : goal.returns-clause-process
returns-clause-process c =
    c.self.invariant.below c.index.result.now (_, omega (arith, c.requires, ap (λ v. length v.events) c.self.view_is), sym c.index.ensures)
