use Rattle.std.proofs.Common.{◌++◌, List, ℕ, codes, subst, ◌∙◌}
use Rattle.report.specs.Printing.{Prints}
use Rattle.report.proofs.one_process.put_status.Goals as goal

pub returns-in-Waiting : goal.returns-in-Waiting
returns-in-Waiting g c =
    rw c.in-Waiting.is
    (subst (λ (digits : List ℕ). Prints (g.O.Sink.given c.args.out.now) (g.O.Sink.given c.put_pieces-in-Waiting.new.out) (g.O.Sink.faults c.args.out.now)
    (g.O.Sink.faults c.put_pieces-in-Waiting.new.out) (codes "waiting 0x" ++ digits) c.put_pieces-in-Waiting.result) (c.as_slice.ensures ∙ c.hex_digits.ensures) c.put_pieces-in-Waiting.ensures)
