use Rattle.mailboxes.proofs.SearchFacts.{before_start}
use Rattle.mailboxes.proofs.ordered_mail.start_for.Goals as goal

pub returns-then-before-posted : goal.returns-then-before-posted
returns-then-before-posted c =
    before_start c.args.posted c.args.slots.now c.loop-start.start _ c.requires c.loop-start-test.true c.loop-start.invariant c.if-before.true c.if-before-posted.true
