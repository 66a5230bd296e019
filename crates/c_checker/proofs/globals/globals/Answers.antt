use Rattle.std.proofs.Common.{◌∷◌, List, drop, subst, sym}
use Rattle.c_tree.specs.declared.tree.Declr.{Declr}
use Rattle.c_checker.specs.Found.{Refuses}
use Rattle.c_checker.specs.Units as spec
use Rattle.c_checker.proofs.Found.{gives_err, refuses_left, first_is}
use Rattle.c_checker.proofs.globals.globals.Goals as goal

pub returns-in_err-global : goal.returns-in_err-global
returns-in_err-global c =
    let xs = c.loop-list.list.now in
    let first = c.d-item.result in
    let head = first_is xs first c.in-len1-up.len_at_least c.d-item.is in
    let f = c.in_err-global.field-0.0 in
    let refused = λ (ys : List Declr). Refuses (spec.globals c.args.of ys c.loop-list.file).faults f in
    let here : refused (first ∷ drop 1 xs) = refuses_left (spec.global c.args.of first c.loop-list.file).faults _ f c.in_err-global.ensures in
    gives_err _ _ _ f (subst (λ found. Refuses found.faults f) (sym c.loop-list.invariant) (subst refused (sym head) here)) c.from_residual.ensures.1
