use Rattle.std.proofs.Common.{sym, ◌∙◌}
use Rattle.std.specs.Prelude.{◌&&◌}
use Rattle.mailboxes.specs.Letters.{is_named}
use Rattle.mailboxes.proofs.ListFacts.{none_more}
use Rattle.mailboxes.proofs.QueueFacts.{no_slot}
use Rattle.mailboxes.proofs.ordered_mail.place_of.Goals as goal

pub loop-i-preserved : goal.loop-i-preserved
loop-i-preserved c =
    none_more (λ s. s.waits && is_named c.args.id s.letter) c.args.slots.now c.loop-i.i _ c.loop-i-test.true c.loop-i.invariant (sym c.is_waiting_named.ensures ∙ c.if-is_waiting_named.false)

pub unreachable-requires : goal.unreachable-requires
unreachable-requires c = no_slot c.args.slots.now c.args.id c.loop-i.i c.loop-i-test.false c.loop-i.invariant c.requires.0 c.requires.1 c.requires.2
