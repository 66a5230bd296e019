use Rattle.debugger.proofs.Noting.{some_made, all_made}
use Rattle.debugger.proofs.forward.note.Goals as goal

pub invariant_of-session : goal.invariant_of-session
invariant_of-session g c = some_made _ c.args.event.now c.push.new.self c.push.ensures c.session.invariant

pub returns-clause-noted : goal.returns-clause-noted
returns-clause-noted g c =
    all_made _ c.args.event.now c.push.new.self c.push.ensures _ c.keep.new.session c.session.view_is c.keep.result
    c.keep.ensures.kept
