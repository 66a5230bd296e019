use Rattle.std.proofs.Common.{◌∷◌, ◌++◌, List, drop, subst, sym}
use Rattle.c_tree.specs.declared.tree.Label.{Label}
use Rattle.c_tree.specs.declared.program.PLabel.{PLabel}
use Rattle.c_checker.specs.Found.{Refuses}
use Rattle.c_checker.specs.Statements as spec
use Rattle.c_checker.proofs.Found.{gives_err, refuses_left, first_is}
use Rattle.c_checker.proofs.labels.make_labels.Goals as goal

pub returns-in_err-made-clause-found : goal.returns-in_err-made-clause-found
returns-in_err-made-clause-found c = λ names s.
    let xs = c.loop-list.list.now in
    let first = c.first-item.result in
    let head = first_is xs first c.in-len1-up.len_at_least c.first-item.is in
    let f = c.in_err-made.field-0.0 in
    let refused = λ (ys : List Label). Refuses (spec.labels names c.args.before.now c.loop-list.these ys s).faults f in
    let label : Refuses (spec.label names (c.args.before.now ++ c.loop-list.these) first.value first.line s).faults f =
    subst (λ (b : List PLabel). Refuses (spec.label names b first.value first.line s).faults f) c.loop-list.invariant.added (c.in_err-made.ensures.no names s) in
    let here : refused (first ∷ drop 1 xs) = refuses_left (spec.label names (c.args.before.now ++ c.loop-list.these) first.value first.line s).faults _ f label in
    gives_err _ _ _ f (subst (λ found. Refuses found.faults f) (sym (c.loop-list.invariant.found names s)) (subst refused (sym head) here)) c.from_residual.ensures.1
