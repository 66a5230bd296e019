use Rattle.std.proofs.Common.{subst, sym, ap}
use Rattle.mailboxes.specs.Letters.{Rises}
use Rattle.mailboxes.specs.Queues.{waiting_in}
use Rattle.mailboxes.proofs.ListFacts.{distinct_none}
use Rattle.mailboxes.proofs.ordered_mail.OrderedMailMail.empty.Goals as goal

pub invariant_of-result : goal.invariant_of-result
invariant_of-result c = record {
  rising = subst (λ xs. Rises 0 (waiting_in xs)) (sym c.new.ensures) tt;
  distinct = distinct_none _ (ap waiting_in c.new.ensures);
}
