use Rattle.debugger.proofs.GoingBack.{some_anew, all_anew}
use Rattle.debugger.proofs.backward.begin_anew.Goals as goal

pub invariant_of-session : goal.invariant_of-session
invariant_of-session g c =
    some_anew _ c.session.invariant c.in_ok-replay.replay c.replace.new.dest c.in_ok-kept.kept c.replace-2.new.dest
    c.replace.ensures.after c.replace-2.ensures.after c.in_ok-kept.ensures c.in_ok-replay.ensures

pub returns-clause-anew : goal.returns-clause-anew
returns-clause-anew g c =
    all_anew _ _ c.session.view_is c.in_ok-replay.replay c.replace.new.dest c.in_ok-kept.kept c.replace-2.new.dest
    c.replace.ensures.after c.replace-2.ensures.after c.in_ok-kept.ensures c.in_ok-replay.ensures
