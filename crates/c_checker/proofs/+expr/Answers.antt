use Rattle.std.proofs.Common.{arith, ◌≡◌, ℕ, ◌≤◌, List, ◌∷◌, length, map, drop, subst, sym, ap, ◌∙◌}
use Rattle.std.proofs.lemmas.List.{length-map}
use Rattle.c_tree.specs.declared.tree.Expr.{Expr}
use Rattle.c_tree.specs.declared.tree.Expr.TheVariants.{Call}
use Rattle.c_tree.specs.declared.program.Slot.{Slot}
use Rattle.c_checker.specs.declared.entries.Thing.{Thing}
use Rattle.c_checker.specs.Found.{CheckGives, Refuses}
use Rattle.c_checker.specs.Scope.{names_of, find}
use Rattle.c_checker.specs.Expressions as spec
use Rattle.c_checker.specs.Expressions.{part_of}
use Rattle.c_checker.proofs.Found.{gives_err, refuses_left, first_is}
use Rattle.c_checker.proofs.Forms as forms
use Rattle.c_checker.proofs.Forms.{part_call}
use Rattle.c_checker.proofs.ValueForms.{arguments_err, value_form, place_form, as_place}
use Rattle.c_checker.proofs.+expr.Goals as goal

pub expr::value-returns-in-Call : goal.expr::value-returns-in-Call
expr::value-returns-in-Call t c =
    let names = names_of c.args.scope.now.entries.now c.args.scope.now.functions.now in
    let gives = λ (thing : Thing) (xs : List Expr). CheckGives (spec.call names thing (map (part_of names) xs) c.in-Call.line c.args.used c.args.texts.now) c.call.result c.call.new.texts in
    let named = c.find-thing-in-Call.ensures ∙ ap (find c.args.scope.now.entries.now) c.as_slice-in-Call.ensures in
    let called = subst (λ th. gives th c.in-Call.args) named (subst (gives c.find-thing-in-Call.result) c.as_slice-in-Call-2.ensures c.call.ensures) in
    let shown : c.args.e.now ≡ Call c.in-Call.name c.in-Call.args c.in-Call.line = c.in-Call.is in
    subst (λ p. CheckGives (p.value c.args.used c.args.texts.now) c.call.result c.call.new.texts) (sym (ap (part_of names) shown ∙ part_call names c.in-Call.name c.in-Call.args c.in-Call.line)) called

pub calls::print_text-returns-in_err-test_format : goal.calls::print_text-returns-in_err-test_format
calls::print_text-returns-in_err-test_format t c =
    let part = part_of (names_of c.args.scope.now.entries.now c.args.scope.now.functions.now) in
    let f = c.in_err-test_format.field-0.0 in
    let faults = λ (text : List ℕ) (n : ℕ). spec.format_faults text n c.args.at c.args.line in
    let by_text : Refuses (faults c.args.text.now (length c.args.more.now)) f =
    subst (λ text. Refuses (faults text (length c.args.more.now)) f) c.as_slice.ensures c.in_err-test_format.ensures in
    let by_length : Refuses (faults c.args.text.now (length (map part c.args.more.now))) f =
    subst (λ n. Refuses (faults c.args.text.now n) f) (sym (length-map c.args.more.now part)) by_text in
    gives_err _ _ _ f (refuses_left (faults c.args.text.now (length (map part c.args.more.now))) _ f by_length) c.from_residual.ensures.1

pub expr::value-returns-in-Unary : goal.expr::value-returns-in-Unary
expr::value-returns-in-Unary t c =
    let h0 = rw c.get-in-Unary.ensures at c.unary.ensures in
    value_form _ _ _ _ _ _ _ _ c.in-Unary.is (forms.part_unary _ c.in-Unary.op c.in-Unary.part c.in-Unary.line) h0

pub expr::value-returns-in-Bump : goal.expr::value-returns-in-Bump
expr::value-returns-in-Bump t c =
    let h0 = rw c.get-in-Bump.ensures at c.bump.ensures in
    value_form _ _ _ _ _ _ _ _ c.in-Bump.is (forms.part_bump _ c.in-Bump.up c.in-Bump.before c.in-Bump.part c.in-Bump.line) h0

pub expr::value-returns-in-Binary : goal.expr::value-returns-in-Binary
expr::value-returns-in-Binary t c =
    let h0 = rw c.get-in-Binary.ensures at c.binary.ensures in
    let h1 = rw c.get-in-Binary-2.ensures at h0 in
    value_form _ _ _ _ _ _ _ _ c.in-Binary.is (forms.part_binary _ c.in-Binary.op c.in-Binary.left c.in-Binary.right c.in-Binary.line) h1

pub expr::value-returns-in-And : goal.expr::value-returns-in-And
expr::value-returns-in-And t c =
    let h0 = rw c.get-in-And.ensures at c.and.ensures in
    let h1 = rw c.get-in-And-2.ensures at h0 in
    value_form _ _ _ _ _ _ _ _ c.in-And.is (forms.part_and _ c.in-And.left c.in-And.right c.in-And.line) h1

pub expr::value-returns-in-Or : goal.expr::value-returns-in-Or
expr::value-returns-in-Or t c =
    let h0 = rw c.get-in-Or.ensures at c.or.ensures in
    let h1 = rw c.get-in-Or-2.ensures at h0 in
    value_form _ _ _ _ _ _ _ _ c.in-Or.is (forms.part_or _ c.in-Or.left c.in-Or.right c.in-Or.line) h1

pub expr::value-returns-in-Choose : goal.expr::value-returns-in-Choose
expr::value-returns-in-Choose t c =
    let h0 = rw c.get-in-Choose.ensures at c.choose.ensures in
    let h1 = rw c.get-in-Choose-2.ensures at h0 in
    let h2 = rw c.get-in-Choose-3.ensures at h1 in
    value_form _ _ _ _ _ _ _ _ c.in-Choose.is (forms.part_choose _ c.in-Choose.test c.in-Choose.yes c.in-Choose.no c.in-Choose.line) h2

pub expr::value-returns-in-Comma : goal.expr::value-returns-in-Comma
expr::value-returns-in-Comma t c =
    let h0 = rw c.get-in-Comma.ensures at c.comma.ensures in
    let h1 = rw c.get-in-Comma-2.ensures at h0 in
    value_form _ _ _ _ _ _ _ _ c.in-Comma.is (forms.part_comma _ c.in-Comma.left c.in-Comma.right c.in-Comma.line) h1

pub expr::value-returns-in-Assign : goal.expr::value-returns-in-Assign
expr::value-returns-in-Assign t c =
    let h0 = rw c.get-in-Assign.ensures at c.assign.ensures in
    let h1 = rw c.get-in-Assign-2.ensures at h0 in
    value_form _ _ _ _ _ _ _ _ c.in-Assign.is (forms.part_assign _ c.in-Assign.op c.in-Assign.place c.in-Assign.value c.in-Assign.line) h1

pub expr::value-returns-in-At : goal.expr::value-returns-in-At
expr::value-returns-in-At t c =
    let h0 = rw c.get.ensures at c.element.ensures in
    let h1 = rw c.find-thing.ensures at h0 in
    let h2 = rw c.as_slice-in-At.ensures at h1 in
    value_form _ _ _ _ _ _ _ _ c.in-At.is (forms.part_at _ c.in-At.name c.in-At.index c.in-At.line) h2

pub expr::place-returns-in-At : goal.expr::place-returns-in-At
expr::place-returns-in-At t c =
    let h0 = rw c.get.ensures at c.element.ensures in
    let h1 = rw c.find-thing.ensures at h0 in
    let h2 = rw c.as_slice-in-At.ensures at h1 in
    place_form _ _ _ _ _ _ _ _ c.in-At.is (forms.part_at _ c.in-At.name c.in-At.index c.in-At.line) (as_place (find c.args.scope.now.entries.now c.in-At.name) c.in-At.line
    (part_of (names_of c.args.scope.now.entries.now c.args.scope.now.functions.now) c.in-At.index) c.args.target c.args.texts.now c.element.new.texts c.element.result h2)

pub calls::arguments-returns-in_err-part : goal.calls::arguments-returns-in_err-part
calls::arguments-returns-in_err-part t c =
    let part = part_of (names_of c.args.scope.now.entries.now c.args.scope.now.functions.now) in
    let xs = c.loop-args.args.now in
    let ps = c.loop-args.params.now in
    let long : 1 ≤ length xs = grind arith in
    let longer : 1 ≤ length ps = grind arith in
    let head : xs ≡ c.arg-item.result ∷ drop 1 xs = first_is xs c.arg-item.result long c.arg-item.is in
    let first : ps ≡ c.param-item.result ∷ drop 1 ps = first_is ps c.param-item.result longer c.param-item.is in
    let f = c.in_err-part.field-0.0 in
    let refused = λ (qs : List Slot) (ys : List Expr). Refuses (spec.arguments qs c.loop-args.list (map part ys) c.loop-args.texts).faults f in
    let here : refused (c.param-item.result ∷ drop 1 ps) (c.arg-item.result ∷ drop 1 xs) = arguments_err c.param-item.result (drop 1 ps) c.loop-args.list
    (part c.arg-item.result) (map part (drop 1 xs)) c.loop-args.texts f c.in_err-part.ensures in
    let there : refused ps xs = subst (λ ys. refused ps ys) (sym head) (subst (λ qs. refused qs (c.arg-item.result ∷ drop 1 xs)) (sym first) here) in
    gives_err _ _ _ f (subst (λ found. Refuses found.faults f) (sym c.loop-args.invariant.found) there) c.from_residual.ensures.1
