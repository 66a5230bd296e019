use Rattle.std.proofs.Common.{◌≡◌, ◌+◌, ◌*◌, ◌++◌, ℕ, List, take}
use Rattle.std.specs.List.{flat_map}
use Rattle.trace_file.specs.Bytes.{lost_entry}
use Rattle.trace_file.specs.Writing.{processes, written}
use Rattle.nm_top.specs.private.Rewriting.{Place, IsSoFar}
use Rattle.nm_top.proofs.rewrite.write_lost.Given as goal

-- the first lost letters are written
abbrev pub invariant-loop-id : goal.invariant-loop-id
invariant-loop-id g l = record {
  so_far : (at : Place) (b : List ℕ) → IsSoFar at l.fn.writer (g.C.Cabinet.files l.fn.files) (g.C.Cabinet.open_name l.fn.files) b
      → IsSoFar at l.writer (g.C.Cabinet.files l.files) (g.C.Cabinet.open_name l.files) (b ++ flat_map lost_entry (take l.id-index l.lost));
  size : written l.writer ≡ written l.fn.writer + 6 * l.id-index;
  n : processes l.writer ≡ processes l.fn.writer;
  is_open : g.C.Cabinet.is_open l.files ≡ g.C.Cabinet.is_open l.fn.files;
  faults : g.C.Cabinet.write_faults l.files ≡ g.C.Cabinet.write_faults l.fn.files;
  room : g.C.Cabinet.sure_room l.files ≡ g.C.Cabinet.sure_room l.fn.files;
  reads : g.C.Cabinet.read_faults l.files ≡ g.C.Cabinet.read_faults l.fn.files;
  absents : g.C.Cabinet.absents l.files ≡ g.C.Cabinet.absents l.fn.files;
}
