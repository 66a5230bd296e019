use Rattle.debugger.proofs.rows.compare_of.Goals as goal

pub returns-in-Absent-clause-asked : goal.returns-in-Absent-clause-asked
returns-in-Absent-clause-asked c = rw c.in-Absent.is (c.compare_none.ensures.asked c.in-Absent.number c.args.k c.args.j)

pub returns-in-Absent-clause-among : goal.returns-in-Absent-clause-among
returns-in-Absent-clause-among c = λ n _ _. c.compare_none.ensures.among n
