use Rattle.std.proofs.Common.{Some, sym, ap, ◌∙◌}
use Rattle.debugger.specs.Lines as lines
use Rattle.debugger.specs.Lines.{NotALine, with_number}
use Rattle.std.specs.Option.{option_map_or}
use Rattle.debugger.proofs.RowFacts.{asked_process, asked_alike, no_line}
use Rattle.debugger.proofs.rows.print_at.Goals as goal

pub returns-in-None-clause-asked : goal.returns-in-None-clause-asked
returns-in-None-clause-asked c =
    let name = c.args.name.now in
    no_line c.args.n c.args.word.now (λ p. with_number c.args.index.now (λ i. lines.Print p name (Some i)))
    (λ p. ap (λ o. option_map_or (λ i. lines.Print p name (Some i)) o NotALine) (sym c.in-None.ensures))

pub returns-in-Some-clause-asked : goal.returns-in-Some-clause-asked
returns-in-Some-clause-asked c =
    let n = c.args.n in
    let word = c.args.word.now in
    let name = c.args.name.now in
    asked_process n word (λ p. lines.Print p name (Some c.in-Some.i)) c.who_in.result c.print_of.result c.who_in.ensures.who c.print_of.ensures.asked
    ∙ asked_alike n word (λ p. lines.Print p name (Some c.in-Some.i)) (λ p. with_number c.args.index.now (λ i. lines.Print p name (Some i)))
    (λ p. ap (λ o. option_map_or (λ i. lines.Print p name (Some i)) o NotALine) c.in-Some.ensures)
