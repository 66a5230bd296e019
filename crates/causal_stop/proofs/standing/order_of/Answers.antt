use Rattle.std.proofs.Common.{◌∙◌, sym, ap, arith}
use Rattle.std.specs.Prelude.{◌==◌}
use Rattle.std.proofs.lemmas.Bool.{false≢true, and_from, and_parts, eq-eqb, eqb-true}
use Rattle.causal_stop.proofs.PlaceFacts.{entry_same}
use Rattle.causal_stop.proofs.PastFacts.{stands_before, not_before}
use Rattle.causal_stop.proofs.standing.order_of.Goals as goal

pub returns-then-is_same-clause-order : goal.returns-then-is_same-clause-order
returns-then-is_same-clause-order c a b ha hb =
    let t = and_parts (c.args.p.no == c.args.q.no) (c.args.k == c.args.j) (sym c.is_same.ensures ∙ c.if-is_same.true) in
    entry_same c.requires a b ha hb (eqb-true c.args.p.no c.args.q.no t.0) (eqb-true c.args.k c.args.j t.1)

pub returns-then-k-part-clause-order : goal.returns-then-k-part-clause-order
returns-then-k-part-clause-order c a b ha hb =
    stands_before c.requires a b c.args.p.no c.args.k c.args.q.no c.args.j ha hb _ c.in_ok-second.ensures.least
    (λ e n. false≢true (sym c.if-is_same.false ∙ c.is_same.ensures ∙ and_from (c.args.p.no == c.args.q.no) (c.args.k == c.args.j) (eq-eqb c.args.p.no c.args.q.no e) (eq-eqb c.args.k c.args.j n)))
    (omega (arith, c.if-k-part.true, c.part.ensures))

pub returns-then-j-part-clause-order : goal.returns-then-j-part-clause-order
returns-then-j-part-clause-order c a b ha hb =
    stands_before c.requires b a c.args.q.no c.args.j c.args.p.no c.args.k hb ha _ c.in_ok-first.ensures.least
    (λ e n. false≢true (sym c.if-is_same.false ∙ c.is_same.ensures ∙ and_from (c.args.p.no == c.args.q.no) (c.args.k == c.args.j) (eq-eqb c.args.p.no c.args.q.no (sym e)) (eq-eqb c.args.k c.args.j (sym n))))
    (omega (arith, c.if-j-part.true, c.part-2.ensures))

pub returns-clause-order : goal.returns-clause-order
returns-clause-order c a b ha hb = (
  (λ e. false≢true (sym c.if-is_same.false ∙ c.is_same.ensures ∙ and_from (c.args.p.no == c.args.q.no) (c.args.k == c.args.j) (eq-eqb c.args.p.no c.args.q.no (sym ha.of_p ∙ ap (λ x. x.proc.no) e ∙ hb.of_p)) (eq-eqb c.args.k c.args.j (sym ha.numbered ∙ ap (λ x. x.number) e ∙ hb.numbered)))),
  not_before c.requires a b c.args.p.no c.args.k c.args.q.no c.args.j ha hb _ c.in_ok-second.ensures.least (omega (arith, c.if-k-part.false, c.part.ensures)),
  not_before c.requires b a c.args.q.no c.args.j c.args.p.no c.args.k hb ha _ c.in_ok-first.ensures.least (omega (arith, c.if-j-part.false, c.part-2.ensures)),
)
