use Rattle.std.proofs.Common.{◌≡◌, ◌<◌, true, false, List, length, take, subst, sym, ap, ◌∙◌}
use Rattle.std.specs.Prelude.{slice_index_or, Contains}
use Rattle.nm_base.specs.declared.letter.Letter.{Letter}
use Rattle.std.specs.List.{IsDistinct}
use Rattle.mailboxes.specs.Letters.{Rises, same_letter, Leaves, is_named}
use Rattle.mailboxes.proofs.ListFacts.{rises_without, distinct_without, leaves_at, named_is}
use Rattle.mailboxes.proofs.list_mail.ListMailMail.take.Goals as goal

pub invariant_of-self : goal.invariant_of-self
invariant_of-self c =
    record {
      rising = subst (Rises 0) (sym c.remove.ensures.items) (rises_without 0 c.args.self.now.waiting.items c.place_of-place.result c.args.self.now.rising);
      distinct = subst (IsDistinct same_letter) (sym c.remove.ensures.items) (distinct_without c.args.self.now.waiting.items c.place_of-place.result c.args.self.now.distinct);
    }

pub returns-clause-taken : goal.returns-clause-taken
returns-clause-taken c =
    let v = c.as_slice.ensures.value in
    let ls = c.args.self.now.waiting.items in
    let l = c.remove.result in
    let i = c.place_of-place.result in
    let within = subst (λ (ms : List Letter). i < length ms) v c.place_of-place.ensures.within in
    let here = subst (λ (ms : List Letter). is_named c.args.id (slice_index_or ms i l) ≡ true) v (c.place_of-place.ensures.here l) in
    let first = subst (λ (ms : List Letter). (w : Letter) → Contains (take i ms) w → is_named c.args.id w ≡ false) v c.place_of-place.ensures.first in
    let name = named_is c.args.id l (ap (is_named c.args.id) c.remove.ensures.value ∙ here) in
    subst (Leaves ls l) (sym c.remove.ensures.items) (leaves_at ls i c.args.id l within c.remove.ensures.value name first)
