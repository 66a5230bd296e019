use Rattle.mailboxes.proofs.ListFacts.{distinct_none}
use Rattle.mailboxes.proofs.list_mail.ListMailMail.empty.Goals as goal

pub invariant_of-result-clause-distinct : goal.invariant_of-result-clause-distinct
invariant_of-result-clause-distinct c = distinct_none _ c.new.ensures.items
