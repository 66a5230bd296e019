use Rattle.std.proofs.Common.{sym, ap, ◌∙◌}
use Rattle.debugger.specs.Lines as lines
use Rattle.debugger.specs.Lines.{NotALine, with_number}
use Rattle.std.specs.Option.{option_map_or}
use Rattle.debugger.proofs.RowFacts.{asked_process, asked_alike, no_line}
use Rattle.debugger.proofs.rows.stop.Goals as goal

pub returns-in-None-clause-asked : goal.returns-in-None-clause-asked
returns-in-None-clause-asked c =
    no_line c.args.n c.args.word.now (λ p. with_number c.args.event.now (lines.Stop p)) (λ p. ap (λ o. option_map_or (lines.Stop p) o NotALine) (sym c.in-None.ensures))

pub returns-in-Some-clause-asked : goal.returns-in-Some-clause-asked
returns-in-Some-clause-asked c =
    let n = c.args.n in
    let word = c.args.word.now in
    asked_process n word (λ p. lines.Stop p c.in-Some.k) c.who_in.result c.stop_of.result c.who_in.ensures.who c.stop_of.ensures.asked
    ∙ asked_alike n word (λ p. lines.Stop p c.in-Some.k) (λ p. with_number c.args.event.now (lines.Stop p)) (λ p. ap (λ o. option_map_or (lines.Stop p) o NotALine) c.in-Some.ensures)
