use Rattle.std.proofs.Common.{◌≡◌, ◌-◌, List, Ok}
use Rattle.std.specs.List.{flat_map}
use Rattle.nm_base.specs.declared.letter.Letter.{Letter}
use Rattle.c_tree.specs.declared.program.Program.{Program}
use Rattle.event_list.specs.declared.Event.{Event}
use Rattle.report.specs.Printing.{Prints}
use Rattle.report.specs.Runs.{RunsProgram}
use Rattle.debugger.proofs.Walks.{IsFrom}
use Rattle.debugger.proofs.MailFacts.{mine, line_of}
use Rattle.debugger.proofs.looks.put_letters.Given as goal

abbrev pub decreases-loop-letter : goal.decreases-loop-letter
decreases-loop-letter g l = 4294967296 - l.from

abbrev pub invariant-loop-letter : goal.invariant-loop-letter
invariant-loop-letter g l = record {
  before : List Letter;
  rest : List Letter;
  place : IsFrom (mine l.world l.p.no) l.from before rest;
  told : (program : Program) (E : List Event) → (k : RunsProgram l.world program E)
      → Prints (g.O.Sink.given l.fn.out) (g.O.Sink.given l.out) (g.O.Sink.faults l.fn.out) (g.O.Sink.faults l.out)
      (flat_map (line_of l.world l.p.no program E k) before) (Ok tt);
  still : g.O.Sink.faults l.out ≡ g.O.Sink.faults l.fn.out;
}
