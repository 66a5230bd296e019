use Rattle.std.proofs.Common.{◌≡◌, ◌≤◌, ◌-◌, length, drop, take, reverse, ap, ◌∙◌, arith}
use Rattle.std.proofs.lemmas.List.{length-reverse, length-take, length-drop}
use Rattle.std.proofs.Math.Seq.{take-length}
use Rattle.proc_machine.specs.private.Stacked.{OperandStack}
use Rattle.proc_machine.proofs.Upper.{last_are}
use Rattle.proc_machine.proofs.operands.Operands.last.Goals as goal

pub returns : goal.returns
returns c =
    let o = c.self.inside in
    let xs = o.items.items in
    let base : o.base ≤ length xs = omega (arith, c.self.invariant.0, o.items.ok.0) in
    let own = ap (λ (v : OperandStack). length v.own) c.self.view_is in
    let len = length-take (length (reverse xs) - o.base) (reverse xs) in
    let few : c.args.n ≤ length xs - o.base = omega (arith, c.requires, own, len, length-reverse xs) in
    let ys = c.as_slice.result.now in
    let k : c.len.result - c.args.n ≡ length xs - c.args.n = omega (arith, c.len.ensures, o.items.ok.0) in
    let rest : length ys - (c.len.result - c.args.n) ≡ length (drop (c.len.result - c.args.n) ys) = let d = length-drop (c.len.result - c.args.n) ys in omega (arith, d) in
    ap (λ m. take m (drop (c.len.result - c.args.n) ys)) rest
    ∙ take-length (drop (c.len.result - c.args.n) ys)
    ∙ ap (λ l. drop (c.len.result - c.args.n) l) c.as_slice.ensures.value
    ∙ ap (λ m. drop m xs) k
    ∙ last_are xs c.args.n o.base few base
    ∙ ap (λ (v : OperandStack). reverse (take c.args.n v.own)) c.self.view_is
