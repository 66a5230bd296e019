use Rattle.debugger.proofs.GoingBack.{all_back, origins_of, some_back, way_of, within_of}
use Rattle.debugger.proofs.backward.go_back.Goals as goal

pub go_back-requires-clause-way : goal.go_back-requires-clause-way
go_back-requires-clause-way g c =
    way_of _ _ c.session.view_is c.in_ok-from.from c.in_ok-from.ensures.world c.session.invariant

pub go_back-requires-clause-within : goal.go_back-requires-clause-within
go_back-requires-clause-within g c =
    within_of _ _ c.session.view_is c.in_ok-from.from c.in_ok-from.ensures.world c.args.session.now c.args.to
    c.requires.within
    c.in_ok-from.ensures.replay

pub go_back-requires-clause-origins : goal.go_back-requires-clause-origins
go_back-requires-clause-origins g c =
    origins_of _ _ c.session.view_is c.in_ok-from.from c.in_ok-from.ensures.world c.session.invariant

pub invariant_of-session : goal.invariant_of-session
invariant_of-session g c =
    some_back _ _ c.session.view_is c.in_ok-from.from c.in_ok-from.ensures.world c.args.session.now c.args.to
    c.requires.within
    c.in_ok-from.ensures.replay c.in_ok-from.ensures.kept c.go_back.new.self c.go_back.ensures.same c.go_back.result
    c.go_back.ensures.back c.go_back.ensures.refused c.session.invariant

pub returns-clause-back : goal.returns-clause-back
returns-clause-back g c =
    all_back _ _ c.session.view_is c.in_ok-from.from c.in_ok-from.ensures.world c.args.session.now c.args.to
    c.requires.within
    c.in_ok-from.ensures.replay c.in_ok-from.ensures.kept c.go_back.new.self c.go_back.ensures.same c.go_back.result
    c.go_back.ensures.back c.in_ok-from.ensures.still
