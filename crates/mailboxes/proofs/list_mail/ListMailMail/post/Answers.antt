use Rattle.std.proofs.Common.{subst, sym}
use Rattle.std.specs.Prelude.{is_ok}
use Rattle.std.specs.List.{IsDistinct}
use Rattle.mailboxes.specs.Letters.{Rises, same_letter}
use Rattle.mailboxes.proofs.ListFacts.{rises_pushed, distinct_pushed}
use Rattle.mailboxes.proofs.list_mail.ListMailMail.post.Goals as goal

pub invariant_of-self : goal.invariant_of-self
invariant_of-self c =
    record {
      rising = subst (Rises 0) (sym c.push.ensures.items) (rises_pushed (is_ok c.push.result) _ c.args.l c.args.self.now.rising c.requires.last c.requires.fits);
      distinct = subst (IsDistinct same_letter) (sym c.push.ensures.items) (distinct_pushed (is_ok c.push.result) _ c.args.l c.args.self.now.distinct c.requires.unnamed);
    }
