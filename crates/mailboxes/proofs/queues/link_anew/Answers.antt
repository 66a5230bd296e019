use Rattle.std.proofs.Common.{◌≡◌, ◌+◌, ◌<◌, [], ◌∷◌, take, length, length-append, refl, sym, ap, ◌∙◌, subst, arith}
use Rattle.std.proofs.lemmas.List.{length-take-le}
use Rattle.std.proofs.Math.Seq.{take-length}
use Rattle.mailboxes.specs.Queues.{Linked, no_place}
use Rattle.mailboxes.proofs.QueueFacts.{linked_none, linked_push}
use Rattle.mailboxes.proofs.SearchFacts.{upto_next}
use Rattle.mailboxes.proofs.queues.link_anew.Goals as goal

pub loop-place-init : goal.loop-place-init
loop-place-init c = (linked_none _ _ _ _ refl c.clear.ensures.items c.no_places.ensures c.no_places-2.ensures, omega (arith, c.requires.room, c.clear.ensures.capacity))

pub unreachable-requires : goal.unreachable-requires
unreachable-requires c =
    let many = c.loop-place.invariant.0.chain.many in
    omega (arith, c.in-Err.ensures.full, c.loop-place.next.ok.0, c.loop-place.next.ok.1, many, length-take-le c.loop-place.place c.args.slots.now c.loop-place.auto.place-end, c.loop-place-test.true, c.loop-place.invariant.1)

pub link-requires-clause-next : goal.link-requires-clause-next
link-requires-clause-next c =
    let many = c.loop-place.invariant.0.chain.many in
    omega (arith, ap length c.in-Ok.ensures.items, length-append c.loop-place.next.items (no_place ∷ []), many, length-take-le c.loop-place.place c.args.slots.now c.loop-place.auto.place-end)

pub loop-place-preserved : goal.loop-place-preserved
loop-place-preserved c =
    let slots = c.args.slots.now in
    let place = c.loop-place.place in
    let k = c.link.ensures in
    let before = length-take-le place slots c.loop-place.auto.place-end in
    let few : length (take place slots) < no_place = omega (arith, before, c.loop-place-test.true, c.loop-place.invariant.1, c.loop-place.next.ok.1, c.loop-place.next.small) in (
      linked_push (take place slots) (take (place + 1) slots) _ c.loop-place.next.items c.loop-place.heads c.loop-place.tails c.push.new.self.items c.link.new.next.items c.link.new.heads c.link.new.tails c.queue_of.result place c.loop-place.invariant.0 few
          c.in-Ok.ensures.items k.many record { next_here = k.next_here; next_there = k.next_there; head_here = k.head_here; head_there = k.head_there; tail_here = k.tail_here; tail_there = k.tail_there }
          c.queue_of.ensures.queue (sym before) (upto_next slots place _ c.loop-place-test.true),
      omega (arith, c.loop-place.invariant.1, c.push.ensures.capacity, k.room),
    )

pub returns : goal.returns
returns c =
    let all : c.loop-place.place ≡ length c.args.slots.now = omega (arith, c.loop-place-test.false, c.loop-place.auto.place-end) in
    record { linked = subst (λ xs. Linked xs c.loop-place.next.items c.loop-place.heads c.loop-place.tails) (ap (λ i. take i c.args.slots.now) all ∙ take-length c.args.slots.now) c.loop-place.invariant.0 }
