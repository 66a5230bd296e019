use Rattle.std.proofs.Common.{◌∙◌, ap, arith, length}
use Rattle.mailboxes.specs.Queues.{waiting_in}
use Rattle.mailboxes.proofs.SearchFacts.{waiting_kept, fewer_kept}
use Rattle.mailboxes.proofs.queues.Queues.compact.Goals as goal

pub link_anew-requires : goal.link_anew-requires
link_anew-requires c = record {
  room = omega (arith, ap length c.as_slice.ensures.value, fewer_kept c.self.inside.slots.items c.keep_waiting.new.slots.items c.keep_waiting.ensures, c.self.invariant.chain.many, c.self.inside.next.ok.0, c.self.inside.next.ok.1);
}

pub returns : goal.returns
returns c = waiting_kept c.self.inside.slots.items c.keep_waiting.new.slots.items c.keep_waiting.ensures ∙ ap (λ v. waiting_in v.slots) c.self.view_is
