use Rattle.std.proofs.Common.{not, List, subst, ap, ◌∙◌}
use Rattle.std.specs.Prelude.{Contains}
use Rattle.std.specs.List.{list_any}
use Rattle.nm_base.specs.declared.letter.Letter.{Letter}
use Rattle.mailboxes.specs.Letters.{precedes, is_first}
use Rattle.mailboxes.proofs.ListFacts.{asked_of}
use Rattle.mailboxes.proofs.list_mail.ListMailMail.is_first.Goals as goal

pub returns : goal.returns
returns c w h m =
    let v = c.as_slice-letters.ensures.value in
    let ls = c.args.self.now.waiting.items in
    let l = c.letter_named.result.now in
    let waits = subst (λ (ms : List Letter). Contains ms l) v c.letter_named.ensures.waits in
    asked_of c.args.id ls l w _ (is_first ls) c.args.self.now.distinct waits c.letter_named.ensures.name h m
    (ap not (c.is_preceded.ensures ∙ ap (list_any (λ k. precedes k l)) v))
