use Rattle.std.proofs.Common.{◌≡◌, [], None, get_or, length, arith}
use Rattle.std.proofs.lemmas.List.{get_or_default}
use Rattle.c_tree.specs.declared.program.PLabel.{PLabel}
use Rattle.c_compile.specs.ExprCode.{Shape}
use Rattle.c_compile.specs.private.Emitted.{code_of_labels}
use Rattle.c_compile.proofs.Bodies.{onward_start}
use Rattle.c_compile.proofs.Writing.{loop_end, labels_none, labels_more}
use Rattle.c_compile.proofs.stmt_parts.put_labels.Goals as goal

pub loop-label-init : goal.loop-label-init
loop-label-init c = (c.requires, λ sh. onward_start c.args.body.now (code_of_labels sh c.args.labels.now c.args.target) c.requires)

pub put_case-requires : goal.put_case-requires
put_case-requires c = c.loop-label.invariant.0

any_shape : Shape
any_shape = record { globals = []; functions = []; texts = []; slots = [] }

pub loop-label-preserved : goal.loop-label-preserved
loop-label-preserved c =
    let xs = c.args.labels.now in
    let i = c.loop-label.label-index in
    let none : PLabel = record { value = None; line = 0 } in
    let x = get_or xs i none in
    let wrote = c.in_ok-put_case.ensures in
    ((wrote any_shape).fine, λ sh. labels_more sh xs c.args.target i x c.loop-label-test.true (get_or_default xs i none x c.loop-label-test.true) (c.loop-label.invariant.1 sh) (wrote sh))

pub returns : goal.returns
returns c = λ sh.
    let xs = c.args.labels.now in
    let i : c.loop-label.label-index ≡ length xs = omega arith in
    loop_end (λ l. code_of_labels sh l c.args.target) xs c.loop-label.label-index (labels_none sh c.args.target) i (c.loop-label.invariant.1 sh)
