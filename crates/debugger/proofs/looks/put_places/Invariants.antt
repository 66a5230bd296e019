use Rattle.std.proofs.Common.{◌≡◌, List, length, Ok}
use Rattle.std.specs.List.{flat_map, range_with_len}
use Rattle.c_tree.specs.declared.program.Program.{Program}
use Rattle.event_list.specs.declared.Event.{Event}
use Rattle.trace_file.specs.Content.{count_of}
use Rattle.report.specs.Printing.{Prints}
use Rattle.report.specs.Runs.{RunsProgram}
use Rattle.debugger.specs.Looks.{where_of}
use Rattle.debugger.proofs.looks.put_places.Given as goal

abbrev pub invariant-loop-no : goal.invariant-loop-no
invariant-loop-no g l = record {
  told : (program : Program) (E : List Event) → RunsProgram l.world program E
      → Prints (g.O.Sink.given l.fn.out) (g.O.Sink.given l.out) (g.O.Sink.faults l.fn.out) (g.O.Sink.faults l.out)
      (flat_map (where_of program (length l.world.processes) E (count_of l.trace)) (range_with_len 0 l.no)) (Ok tt);
  still : g.O.Sink.faults l.out ≡ g.O.Sink.faults l.fn.out;
}
