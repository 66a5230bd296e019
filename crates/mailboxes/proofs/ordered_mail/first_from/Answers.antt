use Rattle.std.proofs.Common.{sym, ◌∙◌}
use Rattle.std.specs.Prelude.{nat_le}
use Rattle.mailboxes.proofs.QueueFacts.{read_at, find_here, find_past, find_end}
use Rattle.mailboxes.proofs.ordered_mail.first_from.Goals as goal

pub returns-then-is_from : goal.returns-then-is_from
returns-then-is_from c =
    sym (find_here (λ k. nat_le c.args.posted k.posted) c.args.slots.now c.loop-place.place _ (read_at c.args.slots.now c.loop-place.place _ c.loop-place-test.true) (sym c.is_from.ensures ∙ c.if-is_from.true)) ∙ c.loop-place.invariant

pub loop-place-preserved : goal.loop-place-preserved
loop-place-preserved c =
    sym (find_past (λ k. nat_le c.args.posted k.posted) c.args.slots.now c.loop-place.place _ (read_at c.args.slots.now c.loop-place.place _ c.loop-place-test.true) (sym c.is_from.ensures ∙ c.if-is_from.false)) ∙ c.loop-place.invariant

pub returns : goal.returns
returns c = sym (find_end (λ k. nat_le c.args.posted k.posted) c.args.slots.now c.loop-place.place c.loop-place-test.false) ∙ c.loop-place.invariant
