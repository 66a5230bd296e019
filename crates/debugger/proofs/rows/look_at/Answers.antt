use Rattle.debugger.specs.private.Asking.{asks}
use Rattle.debugger.proofs.RowFacts.{asked_process}
use Rattle.debugger.proofs.rows.look_at.Goals as goal

pub returns-clause-asked : goal.returns-clause-asked
returns-clause-asked c =
    asked_process c.args.n c.args.word.now (asks c.args.what) c.who_in.result c.look_by.result c.who_in.ensures.who c.look_by.ensures.asked
