use Rattle.cut_witness.proofs.EarlierFacts.{since_free, since_none, since_some}
use Rattle.cut_witness.proofs.earlier.since.Goals as goal

pub returns-then-not-has_channel : goal.returns-then-not-has_channel
returns-then-not-has_channel c a m h = since_free c.args.mask c.args.events.now.events c.requires a m c.args.letter.now h c.has_channel.result c.has_channel.ensures c.if-not-has_channel.true

pub returns-in-Some : goal.returns-in-Some
returns-in-Some c a m h =
    since_some c.args.mask c.args.events.now.events c.requires a m c.args.letter.now h c.has_channel.result c.has_channel.ensures c.if-not-has_channel.false c.in-Some.sent c.in-Some.ensures c.received_at.result c.received_at.ensures

pub returns-in-None : goal.returns-in-None
returns-in-None c a m h = since_none c.args.mask c.args.events.now.events c.requires a m c.args.letter.now h c.in-None.ensures
