use Rattle.cut_witness.proofs.KeptFacts.{own_entry}
use Rattle.cut_witness.proofs.MakingFacts.{sound_unmasked}
use Rattle.cut_witness.proofs.ListingFacts.{note_none, note_unlogged, note_logged, found_is}
use Rattle.cut_witness.proofs.listing.note_at.Goals as goal

pub receive_number-requires : goal.receive_number-requires
receive_number-requires c = sound_unmasked c.requires.sound

pub returns-in_err-id : goal.returns-in_err-id
returns-in_err-id c h = rw c.from_residual.ensures (note_none c.args.mask c.args.events.now.events c.args.e.now c.in_err-id.ensures)

pub returns-then-not-is_logged : goal.returns-then-not-is_logged
returns-then-not-is_logged c h =
    note_unlogged c.args.mask c.args.events.now.events c.args.e.now c.in_ok-id.id c.in_ok-id.ensures (found_is c.is_logged.result c.is_logged.ensures c.if-not-is_logged.true)

pub returns : goal.returns
returns c h =
    note_logged c.args.mask c.args.events.now.events c.args.e.now c.in_ok-id.id c.in_ok-id.ensures (c.is_logged.ensures.0 c.if-not-is_logged.false)
    c.receive_number.result (c.receive_number.ensures c.args.e.now (own_entry c.args.e.now h))
