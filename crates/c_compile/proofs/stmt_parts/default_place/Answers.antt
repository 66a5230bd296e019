use Rattle.std.proofs.Common.{◌≡◌, length, arith, ap, sym, ◌∙◌}
use Rattle.std.specs.List.{list_any}
use Rattle.c_tree.specs.Stmt.{is_default}
use Rattle.c_compile.specs.private.Emitted.{shape_of, end_of_list}
use Rattle.c_compile.proofs.Writing.{default_here, default_later, default_none}
use Rattle.c_compile.proofs.stmt_parts.default_place.Goals as goal

pub returns-then-has_default : goal.returns-then-has_default
returns-then-has_default c =
    let sh = shape_of c.args.scope.now in
    let has = ap (list_any is_default) (sym c.as_slice.ensures) ∙ sym c.has_default.ensures ∙ c.if-has_default.true in
    let here = sym (default_here sh c.args.arms.now c.loop-arm.arm-index c.loop-arm.start c.arm-item.result c.loop-arm-test.true c.arm-item.is has) ∙ c.loop-arm.invariant in
    search (here)

pub loop-arm-preserved : goal.loop-arm-preserved
loop-arm-preserved c =
    let sh = shape_of c.args.scope.now in
    let has = ap (list_any is_default) (sym c.as_slice.ensures) ∙ sym c.has_default.ensures ∙ c.if-has_default.false in
    let next = c.in_ok-start.ensures ∙ ap (λ l. end_of_list sh l c.loop-arm.start) c.as_slice-in-loop-arm.ensures in
    sym (default_later sh c.args.arms.now c.loop-arm.arm-index c.loop-arm.start c.in_ok-start.start c.arm-item.result c.loop-arm-test.true c.arm-item.is has next) ∙ c.loop-arm.invariant

pub returns : goal.returns
returns c =
    let sh = shape_of c.args.scope.now in
    let i : c.loop-arm.arm-index ≡ length c.args.arms.now = omega arith in
    sym (default_none sh c.args.arms.now c.loop-arm.arm-index c.loop-arm.start i) ∙ c.loop-arm.invariant
