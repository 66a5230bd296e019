use Rattle.std.proofs.Common.{◌≡◌, ◌≤◌, ◌-◌, length, drop, take, reverse, ap, ◌∙◌, arith}
use Rattle.std.proofs.lemmas.List.{length-reverse, length-take}
use Rattle.proc_machine.specs.private.Stacked.{OperandStack}
use Rattle.proc_machine.proofs.Upper.{stack_at, cut_off}
use Rattle.proc_machine.proofs.operands.Operands.discard.Goals as goal

pub returns : goal.returns
returns c =
    let o = c.self.inside in
    let xs = o.items.items in
    let base : o.base ≤ length xs = omega (arith, c.self.invariant.0, o.items.ok.0) in
    let own = ap (λ (v : OperandStack). length v.own) c.self.view_is in
    let len = length-take (length (reverse xs) - o.base) (reverse xs) in
    let few : c.args.n ≤ length xs - o.base = omega (arith, c.requires, own, len, length-reverse xs) in
    let k : c.len.result - c.args.n ≡ length xs - c.args.n = omega (arith, c.len.ensures, o.items.ok.0) in
    ap (λ l. stack_at (reverse l) o.base o.limit) c.truncate.ensures.items
    ∙ ap (λ m. stack_at (reverse (take m xs)) o.base o.limit) k
    ∙ cut_off xs c.args.n o.base o.limit few base
    ∙ ap (λ (v : OperandStack). record v { own = drop c.args.n v.own }) c.self.view_is
