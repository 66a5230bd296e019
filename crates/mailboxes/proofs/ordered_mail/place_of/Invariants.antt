use Rattle.std.proofs.Common.{◌≡◌, take, false}
use Rattle.std.specs.Prelude.{Contains, ◌&&◌}
use Rattle.mailboxes.specs.declared.queues.Slot.{Slot}
use Rattle.mailboxes.specs.Letters.{is_named}
use Rattle.mailboxes.proofs.ordered_mail.place_of.Given as goal

abbrev pub invariant-loop-i : goal.invariant-loop-i
invariant-loop-i l = (s : Slot) → Contains (take l.i l.slots) s → (s.waits && is_named l.id s.letter) ≡ false
