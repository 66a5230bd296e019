use Rattle.mailboxes.proofs.QueueFacts.{posted_rises, posted_distinct}
use Rattle.mailboxes.proofs.ordered_mail.OrderedMailMail.post.Goals as goal

pub invariant_of-self : goal.invariant_of-self
invariant_of-self c =
    let k = c.push.ensures in
    let old = c.args.self.now.queues.slots in
    record {
      rising = posted_rises c.push.result old c.push.new.self.slots c.args.l k.pushed k.refused c.args.self.now.rising c.requires.last c.requires.fits;
      distinct = posted_distinct c.push.result old c.push.new.self.slots c.args.l k.pushed k.refused c.args.self.now.distinct c.requires.unnamed;
    }
