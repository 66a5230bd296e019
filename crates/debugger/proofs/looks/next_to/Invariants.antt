use Rattle.std.proofs.Common.{◌≡◌, ◌-◌}
use Rattle.std.specs.Prelude.{find}
use Rattle.debugger.specs.private.Looking.{letters_to, is_from}
use Rattle.debugger.proofs.looks.next_to.Given as goal

abbrev pub decreases-loop-letter : goal.decreases-loop-letter
decreases-loop-letter g l = 4294967296 - l.from

abbrev pub invariant-loop-letter : goal.invariant-loop-letter
invariant-loop-letter g l =
    find (is_from l.start) (letters_to l.p.no (g.M.Mail.letters l.mail))
    ≡ find (is_from l.from) (letters_to l.p.no (g.M.Mail.letters l.mail))
