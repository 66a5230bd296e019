use Rattle.std.proofs.Common.{sym, ap, ◌∙◌, arith}
use Rattle.std.specs.Prelude.{◌&&◌}
use Rattle.mailboxes.specs.Letters.{are_rivals}
use Rattle.mailboxes.specs.Queues.{queue_of}
use Rattle.mailboxes.proofs.QueueFacts.{step_at, weaker, none_preceding}
use Rattle.mailboxes.proofs.queues.is_preceded.Goals as goal

pub loop-i-init : goal.loop-i-init
loop-i-init c = weaker c.args.slots.now (λ s. s.waits) (λ s. s.waits && are_rivals s.letter c.args.l.now) (queue_of c.args.l.now) c.args.from (λ s h. ap (λ b. b && are_rivals s.letter c.args.l.now) h) c.requires.from

pub loop-i-preserved : goal.loop-i-preserved
loop-i-preserved c =
    step_at c.args.slots.now c.args.next.now (λ s. s.waits && are_rivals s.letter c.args.l.now) (queue_of c.args.l.now) c.loop-i.i _ c.requires.chain c.loop-i.invariant (omega (arith, c.loop-i-test.true, c.requires.below)) (sym c.is_waiting_rival.ensures ∙ c.if-is_waiting_rival.false)

pub returns : goal.returns
returns c = sym (none_preceding c.args.slots.now c.args.l.now c.loop-i.i c.args.place (omega (arith, c.loop-i-test.false)) c.loop-i.invariant)
