use Rattle.debugger.specs.private.Making.{without_break}
use Rattle.debugger.proofs.PlaceFacts.{some_changed, all_changed}
use Rattle.debugger.proofs.placing.free_place.Goals as goal

pub invariant_of-session : goal.invariant_of-session
invariant_of-session g c =
    some_changed _ c.clear.new.self (without_break c.args.k) c.clear.ensures.places c.session.invariant

pub returns-clause-stands : goal.returns-clause-stands
returns-clause-stands g c =
    all_changed _ c.clear.new.self (without_break c.args.k) c.clear.ensures.places _ c.session.view_is
