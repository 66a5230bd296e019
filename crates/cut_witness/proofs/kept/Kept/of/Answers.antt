use Rattle.std.proofs.Common.{refl, arith}
use Rattle.std.proofs.lemmas.Bool.{false≢true}
use Rattle.cut_witness.specs.declared.kept.Kept.{Kept}
use Rattle.cut_witness.proofs.KeptFacts.{posted_entry, own_entry, counted, both_counted}
use Rattle.cut_witness.proofs.kept.Kept.of.Goals as goal

pub returns-in_err-send : goal.returns-in_err-send
returns-in_err-send c a m id h hq t = absurd (false≢true (c.in_err-send.ensures.found.1 (a, posted_entry h)))

pub returns-in_err-past : goal.returns-in_err-past
returns-in_err-past c a m id h hq t = absurd (false≢true (c.in_err-past.ensures.found.1 (c.args.receive.now, own_entry c.args.receive.now hq)))

pub returns-then-receive-counted : goal.returns-then-receive-counted
returns-then-receive-counted c a m id h hq t =
    counted 0 c.args.events.now.events c.requires a m c.args.letter.now h c.args.receive.now hq id t _ c.in_ok-send.ensures.least (omega (arith, c.if-receive-counted.true, c.part-counted.ensures))

pub returns : goal.returns
returns c a m id h hq t =
    let k : Kept = record { send = c.in_ok-send.send; receive = c.in_ok-past.past; without = c.args.receive.now.proc; number = c.args.receive.now.number } in
    both_counted 0 c.args.events.now.events c.requires a m c.args.letter.now h c.args.receive.now hq id t _ c.in_ok-send.ensures.least k (omega (arith, c.if-receive-counted.false, c.part-counted.ensures)) c.in_ok-past.ensures.least (λ x. refl) refl refl
