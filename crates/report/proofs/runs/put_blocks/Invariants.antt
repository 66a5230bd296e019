use Rattle.std.proofs.Common.{◌≡◌, List, length, Ok}
use Rattle.c_tree.specs.declared.program.Program.{Program}
use Rattle.event_list.specs.declared.Event.{Event}
use Rattle.std.specs.List.{flat_map, range_with_len}
use Rattle.report.specs.Printing.{Prints}
use Rattle.report.specs.Runs.{RunsProgram, block_of}
use Rattle.report.proofs.runs.put_blocks.Given as goal

abbrev pub invariant-loop-p : goal.invariant-loop-p
invariant-loop-p g l = record {
  told : (program : Program) (E : List Event) → RunsProgram l.world program E
      → Prints (g.O.Sink.given l.fn.out) (g.O.Sink.given l.out) (g.O.Sink.faults l.fn.out) (g.O.Sink.faults l.out) (flat_map (block_of program (length l.world.processes) E)
      (range_with_len 0 l.p)) (Ok tt);
  still : g.O.Sink.faults l.out ≡ g.O.Sink.faults l.fn.out;
}
