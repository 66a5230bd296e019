use Rattle.std.proofs.Common.{◌-◌, arith}
use Rattle.debugger.proofs.MovedReplies.{back_gone, back_refused, len_of}
use Rattle.debugger.proofs.backward.back_by.Goals as goal

pub returns-then-made-k-clause-replies : goal.returns-then-made-k-clause-replies
returns-then-made-k-clause-replies g c =
    let many =
    len_of _ _ c.session.view_is c.len-made.result c.events.result.now.events c.len-made.ensures.exact
    c.events.ensures in
    back_refused c.args.session.now c.args.k (omega (arith, many, c.if-made-k.true))

pub returns-clause-replies : goal.returns-clause-replies
returns-clause-replies g c =
    let many =
    len_of _ _ c.session.view_is c.len-made.result c.events.result.now.events c.len-made.ensures.exact
    c.events.ensures in
    back_gone c.args.session.now c.go_back.new.session c.args.k (c.len-made.result - c.args.k)
    (omega (arith, many, c.if-made-k.false))
    c.in_ok-go_back.ensures.back
