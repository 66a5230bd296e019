use Rattle.std.proofs.Common.{sym, ◌∙◌}
use Rattle.event_list.specs.Events.{letter_of}
use Rattle.cut_witness.proofs.ListingFacts.{lost_none, lost_taken, lost_unlogged, lost_logged, found_is}
use Rattle.cut_witness.proofs.listing.lost_at.Goals as goal

pub returns-in_err-id : goal.returns-in_err-id
returns-in_err-id c = rw c.from_residual.ensures (lost_none c.args.mask c.args.events.now.events (letter_of c.args.e.now) c.in_err-id.ensures)

pub returns-then-not-is_logged : goal.returns-then-not-is_logged
returns-then-not-is_logged c =
    lost_unlogged c.args.mask c.args.events.now.events c.in_ok-id.id (letter_of c.args.e.now) c.in_ok-id.ensures
    (found_is c.is_logged.result c.is_logged.ensures c.if-not-is_logged.true)

pub returns-then-is_some : goal.returns-then-is_some
returns-then-is_some c =
    lost_taken c.args.mask c.args.events.now.events c.in_ok-id.id (letter_of c.args.e.now) c.in_ok-id.ensures c.receive_of.result c.receive_of.ensures (sym c.is_some.ensures ∙ c.if-is_some.true)

pub returns : goal.returns
returns c =
    lost_logged c.args.mask c.args.events.now.events c.in_ok-id.id (letter_of c.args.e.now) c.in_ok-id.ensures c.receive_of.result c.receive_of.ensures (sym c.is_some.ensures ∙ c.if-is_some.false)
    (c.is_logged.ensures.0 c.if-not-is_logged.false)
