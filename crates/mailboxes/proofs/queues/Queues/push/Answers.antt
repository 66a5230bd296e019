use Rattle.std.proofs.Common.{◌≡◌, true, ◌<◌, length, ◌∙◌, arith}
use Rattle.mailboxes.specs.declared.queues.Slot.{Slot}
use Rattle.mailboxes.specs.Queues.{no_place}
use Rattle.mailboxes.proofs.QueueFacts.{linked_push, when_ok}
use Rattle.mailboxes.proofs.queues.Queues.push.Goals as goal

pub invariant_of-self-2 : goal.invariant_of-self-2
invariant_of-self-2 c =
    let s : Slot = record { letter = c.args.letter; waits = true } in
    let k = c.link.ensures in
    let slots = c.self.inside.slots.items in
    let place : c.len-place.result ≡ length slots = omega (arith, c.len-place.ensures, c.self.inside.slots.ok) in
    let few : length slots < no_place = omega (arith, c.self.inside.slots.ok, c.self.inside.slots.small, c.push-2.ensures.len) in
    linked_push slots c.push-2.new.self.items s c.self.inside.next.items c.self.inside.heads c.self.inside.tails c.push.new.self.items c.link.new.next.items c.link.new.heads c.link.new.tails c.queue_of-queue.result c.len-place.result c.self.invariant few
    (c.push.ensures.items ∙ when_ok c.push.result _ _ c.is_err.result c.is_err.ensures.value c.if-is_err.false) k.many record { next_here = k.next_here; next_there = k.next_there; head_here = k.head_here; head_there = k.head_there; tail_here = k.tail_here; tail_there = k.tail_there }
    c.queue_of-queue.ensures.queue place (c.push-2.ensures.items ∙ when_ok c.push-2.result _ _ c.is_err-2.result c.is_err-2.ensures.value c.if-is_err-2.false)
