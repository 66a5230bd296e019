use Rattle.std.proofs.Common.{sym, ap, ◌∙◌}
use Rattle.debugger.specs.Lines.{NotALine, SetBreak, break_at}
use Rattle.std.specs.Option.{option_map_or}
use Rattle.debugger.proofs.RowFacts.{asked_process, asked_alike, no_line, break_is}
use Rattle.debugger.proofs.rows.set_break.Goals as goal

pub returns-in-None-clause-asked : goal.returns-in-None-clause-asked
returns-in-None-clause-asked c =
    let at = c.args.at.now in
    no_line c.args.n c.args.word.now (break_at at) (λ p. break_is at p ∙ ap (λ o. option_map_or (SetBreak p) o NotALine) (sym c.in-None.ensures))

pub returns-in-Some-clause-asked : goal.returns-in-Some-clause-asked
returns-in-Some-clause-asked c =
    let n = c.args.n in
    let word = c.args.word.now in
    let at = c.args.at.now in
    asked_process n word (λ p. SetBreak p c.in-Some.at) c.who_in.result c.break_of.result c.who_in.ensures.who c.break_of.ensures.asked
    ∙ asked_alike n word (λ p. SetBreak p c.in-Some.at) (break_at at) (λ p. ap (λ o. option_map_or (SetBreak p) o NotALine) c.in-Some.ensures ∙ sym (break_is at p))
