use Rattle.std.proofs.Common.{◌∷◌, ◌+◌, drop, Some, sym, ap, ◌∙◌}
use Rattle.std.specs.Prelude.{filter, map, slice_get}
use Rattle.mailboxes.specs.declared.queues.Slot.{Slot}
use Rattle.mailboxes.specs.Queues.{is_ready}
use Rattle.mailboxes.proofs.ListFacts.{found}
use Rattle.mailboxes.proofs.QueueFacts.{slot_at, read_is, kept_from, left_from, get_after}
use Rattle.mailboxes.proofs.ready.kth_ready.Goals as goal

pub returns-then-left-eq0 : goal.returns-then-left-eq0
returns-then-left-eq0 g c =
    let slots = c.args.slots.now in
    let ready = is_ready c.args.mask (g.G.Gate.lets c.args.gate.now c.args.dest.no c.args.receive) c.args.dest.no c.args.set slots in
    let i = c.loop-i.i in
    let x = slot_at slots i c.loop-i-test.true in
    let k = kept_from ready slots i x.0 x.1 (sym (c.is_ready.ensures x.0 x.1) ∙ c.if-not-is_ready.false) in
    sym c.loop-i.invariant ∙ ap (λ ys. slice_get (map (λ (s : Slot). s.letter.id) ys) c.loop-i.left) k
    ∙ ap (slice_get (map (λ (s : Slot). s.letter.id) (x.0 ∷ filter ready (drop (i + 1) slots)))) c.if-left-eq0.true ∙ ap (λ (s : Slot). Some s.letter.id) (sym (read_is slots i _ x.0 c.loop-i-test.true x.1))

pub loop-i-preserved : goal.loop-i-preserved
loop-i-preserved g c =
    let slots = c.args.slots.now in
    let ready = is_ready c.args.mask (g.G.Gate.lets c.args.gate.now c.args.dest.no c.args.receive) c.args.dest.no c.args.set slots in
    let i = c.loop-i.i in
    let x = slot_at slots i c.loop-i-test.true in
    let k = kept_from ready slots i x.0 x.1 (sym (c.is_ready.ensures x.0 x.1) ∙ c.if-not-is_ready.false) in
    sym (get_after x.0.letter.id (map (λ (s : Slot). s.letter.id) (filter ready (drop (i + 1) slots))) c.loop-i.left c.if-left-eq0.false)
    ∙ sym (ap (λ ys. slice_get (map (λ (s : Slot). s.letter.id) ys) c.loop-i.left) k) ∙ c.loop-i.invariant

pub loop-i-preserved-then-not-is_ready : goal.loop-i-preserved-then-not-is_ready
loop-i-preserved-then-not-is_ready g c =
    let slots = c.args.slots.now in
    let ready = is_ready c.args.mask (g.G.Gate.lets c.args.gate.now c.args.dest.no c.args.receive) c.args.dest.no c.args.set slots in
    let i = c.loop-i.i in
    let x = slot_at slots i c.loop-i-test.true in
    ap (λ ys. slice_get (map (λ (s : Slot). s.letter.id) ys) c.loop-i.left) (sym (left_from ready slots i x.0 x.1 (sym (c.is_ready.ensures x.0 x.1) ∙ c.if-not-is_ready.true))) ∙ c.loop-i.invariant

pub unreachable-requires : goal.unreachable-requires
unreachable-requires g c =
    let slots = c.args.slots.now in
    let ready = is_ready c.args.mask (g.G.Gate.lets c.args.gate.now c.args.dest.no c.args.receive) c.args.dest.no c.args.set slots in
    found (λ (s : Slot). s.letter.id) ready slots c.loop-i.i c.loop-i.left c.args.k c.loop-i-test.false c.requires.below c.loop-i.invariant
