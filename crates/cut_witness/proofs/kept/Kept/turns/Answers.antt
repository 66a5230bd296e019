use Rattle.std.proofs.Common.{◌≡◌, ◌++◌, [], ◌∷◌, cond, not, ap, ◌∙◌, arith}
use Rattle.std.specs.Prelude.{map}
use Rattle.cut_witness.specs.Certificates.{move_at}
use Rattle.cut_witness.specs.private.Steps.{is_kept}
use Rattle.cut_witness.proofs.KeptFacts.{turns_more, turns_same, turns_all}
use Rattle.cut_witness.proofs.kept.Kept.turns.Goals as goal

pub loop-i-preserved-then-not-holds : goal.loop-i-preserved-then-not-holds
loop-i-preserved-then-not-holds c =
    turns_same (is_kept c.args.self.now) c.args.events.now.events c.loop-i.i c.at-e.result.now c.at-e.ensures.event c.holds.result c.holds.ensures c.if-not-holds.true c.loop-i.turns.items c.loop-i.invariant

pub loop-i-preserved : goal.loop-i-preserved
loop-i-preserved c =
    let pushed : c.push.new.self.items ≡ c.loop-i.turns.items ++ c.turn_of.result ∷ [] = c.push.ensures.items ∙ ap (λ b. cond b (c.loop-i.turns.items ++ c.turn_of.result ∷ []) c.loop-i.turns.items) (c.is_err.ensures.negation ∙ ap not c.if-is_err.false) in
    ap (map move_at) pushed ∙ turns_more (is_kept c.args.self.now) c.args.events.now.events c.loop-i.i c.at-e.result.now c.at-e.ensures.event c.holds.result c.holds.ensures c.if-not-holds.false c.loop-i.turns.items c.turn_of.result c.turn_of.ensures.proc c.turn_of.ensures.took c.loop-i.invariant

pub returns : goal.returns
returns c = turns_all (is_kept c.args.self.now) c.args.events.now.events c.loop-i.i (omega arith) c.loop-i.turns.items c.loop-i.invariant
