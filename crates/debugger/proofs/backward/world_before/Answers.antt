use Rattle.debugger.proofs.GoingBack.{all_fewer, few_copied, kept_few, many_copied, new_copied, none_copied, on_ok, some_fewer, some_left}
use Rattle.debugger.proofs.backward.world_before.Goals as goal

pub invariant_of-session : goal.invariant_of-session
invariant_of-session g c = some_left _ c.session.invariant c.back_to.new.self c.in_err-world.ensures.refused

pub invariant_of-session-in-Some : goal.invariant_of-session-in-Some
invariant_of-session-in-Some g c =
    some_fewer _ c.session.invariant c.args.to c.back_to.new.self c.in_ok-world.ensures.dropped

pub invariant_of-session-in-None : goal.invariant_of-session-in-None
invariant_of-session-in-None g c =
    some_fewer _ c.session.invariant c.args.to c.back_to.new.self c.in_ok-world.ensures.dropped

pub returns-in-Some-clause-world : goal.returns-in-Some-clause-world
returns-in-Some-clause-world g c =
    new_copied _ c.args.to c.back_to.new.self c.in_ok-world.field-0 c.in-Some.world c.in_ok-world.ensures.dropped
    c.in-Some.is
    c.in_ok-world.ensures.copy

pub returns-in-Some-clause-reached : goal.returns-in-Some-clause-reached
returns-in-Some-clause-reached g c =
    few_copied c.args.to c.session.inside.kept c.in_ok-world.field-0 c.in-Some.world c.in-Some.is
    c.in_ok-world.ensures.copy

pub returns-in-Some-clause-nearest : goal.returns-in-Some-clause-nearest
returns-in-Some-clause-nearest g c =
    many_copied _ _ c.session.view_is c.args.to c.in_ok-world.field-0 c.in-Some.world c.in-Some.is c.in_ok-world.ensures.copy

pub returns-in-Some-clause-kept : goal.returns-in-Some-clause-kept
returns-in-Some-clause-kept g c =
    kept_few c.args.to c.session.inside.kept c.back_to.new.self c.in_ok-world.ensures.dropped

pub returns-in-Some-clause-still : goal.returns-in-Some-clause-still
returns-in-Some-clause-still g c =
    all_fewer _ _ c.session.view_is c.args.to c.back_to.new.self c.in_ok-world.ensures.dropped

pub returns-in-None-clause-nearest : goal.returns-in-None-clause-nearest
returns-in-None-clause-nearest g c =
    none_copied _ _ c.session.view_is c.args.to c.in_ok-world.field-0 c.first_world.result c.in-None.is c.in_ok-world.ensures.copy c.first_world.ensures.none

pub returns-in-None-clause-kept : goal.returns-in-None-clause-kept
returns-in-None-clause-kept g c =
    on_ok c.first_world.result
    (kept_few c.args.to c.session.inside.kept c.back_to.new.self c.in_ok-world.ensures.dropped)

pub returns-in-None-clause-still : goal.returns-in-None-clause-still
returns-in-None-clause-still g c =
    all_fewer _ _ c.session.view_is c.args.to c.back_to.new.self c.in_ok-world.ensures.dropped
