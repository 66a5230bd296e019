use Rattle.debugger.proofs.Noting.{some_kept, all_kept}
use Rattle.debugger.proofs.forward.keep.Goals as goal

pub invariant_of-session : goal.invariant_of-session
invariant_of-session g c =
    some_kept _ c.keep.new.self _ c.world-2.ensures c.keep.result c.keep.ensures.kept c.keep.ensures.refused
    c.session.invariant

pub returns-clause-kept : goal.returns-clause-kept
returns-clause-kept g c =
    all_kept _ c.keep.new.self _ c.world-2.ensures c.keep.result c.keep.ensures.kept c.keep.ensures.refused _
    c.session.view_is
