use Rattle.cut_witness.proofs.WorkedFacts.{run_sound}
use Rattle.cut_witness.proofs.tests.run.Goals as goal

pub returns : goal.returns
returns c =
    rw (c.in_ok-fourth.ensures.pushed, c.in_ok-third.ensures.pushed, c.in_ok-second.ensures.pushed, c.in_ok-first.ensures.pushed, c.in_ok-list.ensures, c.sending.ensures, c.sending-2.ensures, c.taking.ensures, c.taking-2.ensures) run_sound
