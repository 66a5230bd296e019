use Rattle.std.proofs.Common.{◌≡◌, List, Ok}
use Rattle.std.specs.List.{flat_map, range_with_len}
use Rattle.c_tree.specs.declared.program.Program.{Program}
use Rattle.stack_code.specs.View.{seen_code}
use Rattle.c_process.specs.declared.answers.FrameSeen.{FrameSeen}
use Rattle.report.specs.Printing.{Prints}
use Rattle.debugger.specs.private.Looking.{HasFrames}
use Rattle.debugger.proofs.LookFacts.{frame_at}
use Rattle.debugger.proofs.looks.put_each_frame.Given as goal

abbrev pub invariant-loop-i : goal.invariant-loop-i
invariant-loop-i g l = record {
  told : (program : Program) (frames : List FrameSeen) → HasFrames program (seen_code l.code) l.process frames
      → Prints (g.O.Sink.given l.fn.out) (g.O.Sink.given l.out) (g.O.Sink.faults l.fn.out) (g.O.Sink.faults l.out)
      (flat_map (frame_at program frames) (range_with_len 0 l.i)) (Ok tt);
  still : g.O.Sink.faults l.out ≡ g.O.Sink.faults l.fn.out;
}
