use Rattle.std.proofs.Common.{◌≡◌, length, arith, ap, ◌∙◌, subst}
use Rattle.c_compile.specs.private.Emitted.{shape_of, code_of_cases, code_of_labels, end_of_list}
use Rattle.c_compile.specs.private.Body.{Wrote}
use Rattle.c_compile.proofs.Bodies.{onward_start}
use Rattle.c_compile.proofs.Writing.{cases_end, cases_more}
use Rattle.c_compile.proofs.stmt_parts.put_cases.Goals as goal

pub loop-arm-init : goal.loop-arm-init
loop-arm-init c = onward_start c.args.body.now (code_of_cases (shape_of c.args.scope.now) c.args.arms.now c.args.first) c.requires

pub put_labels-requires : goal.put_labels-requires
put_labels-requires c = c.loop-arm.invariant.fine

pub loop-arm-preserved : goal.loop-arm-preserved
loop-arm-preserved c =
    let sh = shape_of c.args.scope.now in
    let x = c.arm-item.result in
    let next = c.in_ok-start.ensures ∙ ap (λ l. end_of_list sh l c.loop-arm.start) c.as_slice-in-loop-arm.ensures in
    let wrote = subst (λ l. Wrote c.loop-arm.body c.put_labels.new.body (code_of_labels sh l c.loop-arm.start)) c.as_slice.ensures (c.in_ok-put_labels.ensures sh) in
    cases_more sh c.args.arms.now c.args.first c.loop-arm.arm-index c.loop-arm.start c.in_ok-start.start x c.loop-arm-test.true c.arm-item.is next c.loop-arm.invariant wrote

pub returns : goal.returns
returns c =
    let xs = c.args.arms.now in
    let i : c.loop-arm.arm-index ≡ length xs = omega arith in
    cases_end (shape_of c.args.scope.now) xs c.args.first c.loop-arm.start c.loop-arm.arm-index i c.loop-arm.invariant
