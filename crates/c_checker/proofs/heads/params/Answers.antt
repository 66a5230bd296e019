use Rattle.std.proofs.Common.{◌∷◌, List, drop, subst, sym}
use Rattle.c_tree.specs.declared.tree.Param.{Param}
use Rattle.c_checker.specs.Found.{Refuses}
use Rattle.c_checker.specs.Statements.{size}
use Rattle.c_checker.specs.Units as spec
use Rattle.c_checker.proofs.Found.{gives_err, refuses_left, refuses_right, first_is}
use Rattle.c_checker.proofs.heads.params.Goals as goal

pub returns-in_err-test_param : goal.returns-in_err-test_param
returns-in_err-test_param c = λ names.
    let xs = c.loop-list.list.now in
    let first = c.param-item.result in
    let head = first_is xs first c.in-len1-up.len_at_least c.param-item.is in
    let f = c.in_err-test_param.field-0.0 in
    let refused = λ (ys : List Param). Refuses (spec.params names c.args.defines c.loop-list.before ys).faults f in
    let named = rw c.as_slice.ensures at c.in_err-test_param.ensures in
    let here : refused (first ∷ drop 1 xs) = refuses_left (spec.param_faults c.args.defines c.loop-list.before first) _ f named in
    gives_err _ _ _ f (subst (λ found. Refuses found.faults f) (sym (c.loop-list.invariant names)) (subst refused (sym head) here)) c.from_residual.ensures.1

pub returns-in_err-size : goal.returns-in_err-size
returns-in_err-size c = λ names.
    let xs = c.loop-list.list.now in
    let first = c.param-item.result in
    let head = first_is xs first c.in-len1-up.len_at_least c.param-item.is in
    let f = c.in_err-size.field-0.0 in
    let refused = λ (ys : List Param). Refuses (spec.params names c.args.defines c.loop-list.before ys).faults f in
    let sized = refuses_left (size (names c.loop-list.before) first.size first.line).faults _ f (c.in_err-size.ensures (names c.loop-list.before)) in
    let here : refused (first ∷ drop 1 xs) = refuses_right (spec.param_faults c.args.defines c.loop-list.before first) _ f sized in
    gives_err _ _ _ f (subst (λ found. Refuses found.faults f) (sym (c.loop-list.invariant names)) (subst refused (sym head) here)) c.from_residual-in_err-size.ensures.1
