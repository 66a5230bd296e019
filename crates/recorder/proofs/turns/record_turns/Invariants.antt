use Rattle.std.proofs.Common.{◌≡◌, ◌+◌, ◌*◌, ◌≤◌, length}
use Rattle.std.specs.Prelude.{map}
use Rattle.trace_file.specs.Writing.{processes, written}
use Rattle.recorder.proofs.TurnLaws.{Recording}
use Rattle.recorder.proofs.turns.record_turns.Given as goal

abbrev pub invariant-loop-i : goal.invariant-loop-i
invariant-loop-i g l = record {
  now : Recording g.P.Proc.stands_for l.fn.world l.fn.tracer l.fn.writer (g.C.Cabinet.files l.fn.files) (g.C.Cabinet.open_name l.fn.files)
      l.world l.tracer l.writer (g.C.Cabinet.files l.files) (g.C.Cabinet.open_name l.files) l.notes l.schedule l.i;
  mask : l.world.mask ≡ l.fn.world.mask;
  size : length l.world.processes ≡ length l.fn.world.processes;
  origins : map g.P.Proc.origin_of l.world.processes ≡ map g.P.Proc.origin_of l.fn.world.processes;
  order : l.tracer.mask ≡ l.fn.tracer.mask;
  n : processes l.writer ≡ processes l.fn.writer;
  bytes : written l.writer ≡ written l.fn.writer + 11 * l.notes;
  few : l.notes ≤ l.i;
  is_open : g.C.Cabinet.is_open l.files ≡ g.C.Cabinet.is_open l.fn.files;
  faults : g.C.Cabinet.write_faults l.files ≡ g.C.Cabinet.write_faults l.fn.files;
  room : g.C.Cabinet.sure_room l.files ≡ g.C.Cabinet.sure_room l.fn.files;
  reads : g.C.Cabinet.read_faults l.files ≡ g.C.Cabinet.read_faults l.fn.files;
  absents : g.C.Cabinet.absents l.files ≡ g.C.Cabinet.absents l.fn.files;
}
