use Rattle.nm_top.proofs.run.run_program.Goals as goal

pub run_code-requires-clause-code : goal.run_code-requires-clause-code
run_code-requires-clause-code g c = (c.args.program.now, c.in-Ok.ensures)

pub returns : goal.returns
returns g c = c.run_code.ensures c.args.program.now c.in-Ok.ensures
