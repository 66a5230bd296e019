use Rattle.std.proofs.Common.{None}
use Rattle.debugger.specs.Lines as lines
use Rattle.debugger.proofs.RowFacts.{asked_process}
use Rattle.debugger.proofs.rows.print.Goals as goal

pub returns-clause-asked : goal.returns-clause-asked
returns-clause-asked c =
    asked_process c.args.n c.args.word.now (λ p. lines.Print p c.args.name.now None) c.who_in.result c.print_of.result c.who_in.ensures.who c.print_of.ensures.asked
