use Rattle.std.proofs.Common.{refl, sym, ap, ◌∙◌}
use Rattle.std.specs.Prelude.{nat_lt, ◌&&◌, ◌+◌, slice_index}
use Rattle.proc_machine.proofs.Sending.{send_pauses, send_faults, word_bounds}
use Rattle.proc_machine.proofs.execution.Execution.send.Goals as goal

pub returns-then-is_address : goal.returns-then-is_address
returns-then-is_address c =
    let same = ap (λ d. nat_lt d c.args.at.count && nat_lt c.top-chan.result 32) c.top-dest.ensures
    ∙ ap (λ d. nat_lt (slice_index c.args.self.now.calls.own (c.args.words + 1)) c.args.at.count && nat_lt d 32) c.top-chan.ensures in
    (refl, refl, send_pauses c.args.self.now c.args.at.count c.args.words c.requires.some (word_bounds c.args.words c.requires.named).0 (sym same ∙ sym c.is_address.ensures ∙ c.if-is_address.true))

pub returns-else-is_address : goal.returns-else-is_address
returns-else-is_address c =
    let same = ap (λ d. nat_lt d c.args.at.count && nat_lt c.top-chan.result 32) c.top-dest.ensures
    ∙ ap (λ d. nat_lt (slice_index c.args.self.now.calls.own (c.args.words + 1)) c.args.at.count && nat_lt d 32) c.top-chan.ensures in
    (refl, refl, send_faults c.args.self.now c.args.at.count c.args.words c.requires.some (word_bounds c.args.words c.requires.named).0 (sym same ∙ sym c.is_address.ensures ∙ c.if-is_address.false))
