use Rattle.debugger.proofs.RowFacts.{absent_look}
use Rattle.debugger.proofs.rows.look_by.Goals as goal

pub returns-in-Absent-clause-asked : goal.returns-in-Absent-clause-asked
returns-in-Absent-clause-asked c = rw c.in-Absent.is (absent_look c.args.what c.in-Absent.number)
