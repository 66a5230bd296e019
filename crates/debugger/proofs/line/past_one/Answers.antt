use Rattle.std.proofs.Common.{ℕ, List, ◌∷◌, sym, ap, ◌∙◌}
use Rattle.debugger.specs.Lines.{asked_by}
use Rattle.debugger.proofs.line.past_one.Goals as goal

pub returns-in-None-clause-asked : goal.returns-in-None-clause-asked
returns-in-None-clause-asked c = c.of_one.ensures.asked ∙ ap (λ (words : List (List ℕ)). asked_by c.args.n (c.args.verb.now ∷ words)) (sym c.in-None.ensures)

pub returns-in-Some-clause-asked : goal.returns-in-Some-clause-asked
returns-in-Some-clause-asked c = c.past_two.ensures.asked ∙ ap (λ (words : List (List ℕ)). asked_by c.args.n (c.args.verb.now ∷ words)) (sym c.in-Some.ensures)
