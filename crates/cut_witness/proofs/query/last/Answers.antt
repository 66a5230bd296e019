use Rattle.std.proofs.Common.{◌≡◌, drop, subst, arith}
use Rattle.cut_witness.specs.private.Queries.{meets, NonePasses}
use Rattle.cut_witness.proofs.QueryFacts.{none_behind, none_at, last_at}
use Rattle.cut_witness.proofs.query.last.Goals as goal

pub loop-i-init : goal.loop-i-init
loop-i-init c = none_behind (meets c.args.query.now) c.args.events.now.events _ (omega arith)

pub loop-i-preserved : goal.loop-i-preserved
loop-i-preserved c =
    none_at (meets c.args.query.now) c.args.events.now.events _ c.loop-i.i (omega (arith, c.loop-i-test.true)) c.at-e.result.now c.at-e.ensures.event c.is_met.result c.is_met.ensures c.if-is_met.false c.loop-i.invariant

pub returns-then-is_met : goal.returns-then-is_met
returns-then-is_met c =
    last_at (meets c.args.query.now) c.args.events.now.events _ c.loop-i.i (omega (arith, c.loop-i-test.true)) c.at-e.result.now c.at-e.ensures.event c.is_met.result c.is_met.ensures c.if-is_met.true c.loop-i.invariant

pub returns : goal.returns
returns c =
    let z : c.loop-i.i ≡ 0 = omega (arith, c.loop-i-test.false) in
    subst (λ j. NonePasses (meets c.args.query.now) (drop j c.args.events.now.events)) z c.loop-i.invariant
