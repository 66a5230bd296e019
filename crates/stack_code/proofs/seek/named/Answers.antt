use Rattle.std.proofs.Common.{◌≡◌, length, sym, ap, ◌∙◌, arith, true, false, drop}
use Rattle.std.specs.Str.{bytes_eq}
use Rattle.stack_code.specs.Seek.{first_named}
use Rattle.stack_code.proofs.Seeks.{named_here, named_later, named_none}
use Rattle.stack_code.proofs.seek.named.Goals as goal

pub returns-then-eq : goal.returns-then-eq
returns-then-eq c =
    let e : bytes_eq c.variable-item.result.name c.args.name.now ≡ true =
    ap (λ l. bytes_eq l c.args.name.now) (sym c.as_slice.ensures) ∙ sym c.eq.ensures ∙ c.if-eq.true in
    sym (named_here c.args.name.now c.args.variables.now c.loop-variable.variable-index c.variable-item.result c.loop-variable-test.true c.variable-item.is e)
    ∙ c.loop-variable.invariant

pub loop-variable-preserved : goal.loop-variable-preserved
loop-variable-preserved c =
    let e : bytes_eq c.variable-item.result.name c.args.name.now ≡ false =
    ap (λ l. bytes_eq l c.args.name.now) (sym c.as_slice.ensures) ∙ sym c.eq.ensures ∙ c.if-eq.false in
    sym (named_later c.args.name.now c.args.variables.now c.loop-variable.variable-index c.variable-item.result c.loop-variable-test.true c.variable-item.is e)
    ∙ c.loop-variable.invariant

pub returns : goal.returns
returns c =
    let n : c.loop-variable.variable-index ≡ length c.args.variables.now = omega arith in
    sym (named_none c.args.name.now c.args.variables.now)
    ∙ ap (λ k. first_named c.args.name.now (drop k c.args.variables.now)) (sym n)
    ∙ c.loop-variable.invariant
