use Rattle.std.proofs.Common.{length, slice_index, refl, ap}
use Rattle.c_tree.specs.Play.{script_of}
use Rattle.event_list.specs.Clocks.{clocks}
use Rattle.report.specs.Replies.{clock_line}
use Rattle.report.proofs.Pieces.{same_text}
use Rattle.debugger.proofs.looks.put_clock.Goals as goal

pub returns-clause-text : goal.returns-clause-text
returns-clause-text g c = λ program E k.
    let p = c.args.p.no in
    let clock = (clocks E).clock p in
    same_text _ _ _ _ _ _ _ (ap (λ n. clock_line p n clock) c.n.ensures)
    (c.clock_line.ensures clock
    (λ q low. c.clock.ensures (script_of program (length c.args.world.now.processes)) E k.stands q))

pub returns-clause-cause : goal.returns-clause-cause
returns-clause-cause g c = (c.clock_line.ensures (slice_index c.clock.result.now.parts) (λ q low. refl)).cause
