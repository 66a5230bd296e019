use Rattle.std.proofs.Common.{ap, subst, sym}
use Rattle.c_checker.specs.declared.state.File.{File}
use Rattle.c_checker.specs.Found.{Refuses}
use Rattle.c_checker.specs.Units as spec
use Rattle.c_checker.proofs.Found.{refuses_err, refuses_left, refuses_right}
use Rattle.c_checker.proofs.functions.check.Goals as goal

pub returns-in_err-items-clause-no : goal.returns-in_err-items-clause-no
returns-in_err-items-clause-no c =
    let f = c.in_err-items.field-0.0 in
    let h0 = rw c.as_slice.ensures at c.in_err-items.ensures in
    let h1 = rw c.empty_file-file.ensures at h0 in
    refuses_err _ _ f (refuses_left (spec.items c.args.tree.now.items spec.empty_file).faults _ f h1) c.from_residual.ensures.1

pub returns-in_err-main-clause-no : goal.returns-in_err-main-clause-no
returns-in_err-main-clause-no c =
    let f = c.in_err-main.field-0.0 in
    let h0 = rw c.as_slice.ensures at c.in_ok-items.ensures in
    let h1 = rw c.empty_file-file.ensures at h0 in
    let all = spec.items c.args.tree.now.items spec.empty_file in
    let here : Refuses (spec.whole c.items.new.file).faults f = refuses_right (spec.missing c.items.new.file.headings) _ f c.in_err-main.ensures.no in
    let there : Refuses (spec.whole all.state).faults f = subst (λ (t : File). Refuses (spec.whole t).faults f) (sym (ap (λ x. x.state) h1)) here in
    refuses_err _ _ f (refuses_right all.faults _ f there) c.from_residual-in_err-main.ensures.1
