use Rattle.std.proofs.Common.{◌≡◌, ◌++◌, [], ◌∷◌, Some, cond, not, ap, ◌∙◌}
use Rattle.std.specs.Prelude.{map}
use Rattle.cut_witness.specs.declared.certificates.WitnessTurn.{WitnessTurn}
use Rattle.cut_witness.specs.Certificates.{move_at}
use Rattle.cut_witness.proofs.KeptFacts.{turns_last}
use Rattle.cut_witness.proofs.making.turns_to.Goals as goal

pub returns : goal.returns
returns c =
    let turn : WitnessTurn = record { proc = c.args.p; took = Some c.args.id } in
    let turns = c.in_ok-turns.turns.items in
    let pushed : c.push.new.self.items ≡ turns ++ turn ∷ [] = c.push.ensures.items ∙ ap (λ b. cond b (turns ++ turn ∷ []) turns) (c.is_err.ensures.negation ∙ ap not c.if-is_err.false) in
    ap (map move_at) (c.from_vec.ensures ∙ pushed) ∙ turns_last turns turn ∙ ap (λ ms. ms ++ move_at turn ∷ []) c.in_ok-turns.ensures
