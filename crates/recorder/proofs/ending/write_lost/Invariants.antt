use Rattle.std.proofs.Common.{◌≡◌, ℕ, ◌+◌, ◌*◌, ◌-◌, ◌≤◌, List, length}
use Rattle.nm_base.specs.Scripts.{Script}
use Rattle.nm_base.specs.declared.letter.Letter.{Letter}
use Rattle.event_list.specs.declared.Event.{Event}
use Rattle.world.specs.Worlds.{IsWorldOf}
use Rattle.trace_file.specs.Writing.{processes, written}
use Rattle.recorder.specs.Recording.{Form}
use Rattle.recorder.specs.private.Stages.{Place, IsNoted}
use Rattle.recorder.specs.private.Lost.{IsFrom, IsGoing}
use Rattle.recorder.specs.private.Seen.{Holds}
use Rattle.recorder.proofs.ending.write_lost.Given as goal

abbrev pub decreases-loop-letter : goal.decreases-loop-letter
decreases-loop-letter g l = 4294967296 - l.from

abbrev pub invariant-loop-letter : goal.invariant-loop-letter
invariant-loop-letter g l = record {
  gone : List Letter;
  rest : List Letter;
  place : IsFrom l.world.letters l.from gone rest;
  seen : Holds l.seen.of gone;
  going : (f : Form) (at : Place) (notes : ℕ) (s : ℕ → Script) (E : List Event) → l.world.mask ≡ f.mask → IsWorldOf g.P.Proc.stands_for l.world s E
      → IsNoted f at l.tracer l.fn.writer (g.C.Cabinet.files l.fn.files) (g.C.Cabinet.open_name l.fn.files) notes E
      → IsGoing f at l.writer (g.C.Cabinet.files l.files) (g.C.Cabinet.open_name l.files) notes l.lost E rest;
  few : l.lost + length rest ≤ length l.world.letters;
  bytes : written l.writer ≡ written l.fn.writer + 6 * l.lost;
  n : processes l.writer ≡ processes l.fn.writer;
  is_open : g.C.Cabinet.is_open l.files ≡ g.C.Cabinet.is_open l.fn.files;
  faults : g.C.Cabinet.write_faults l.files ≡ g.C.Cabinet.write_faults l.fn.files;
  room : g.C.Cabinet.sure_room l.files ≡ g.C.Cabinet.sure_room l.fn.files;
  reads : g.C.Cabinet.read_faults l.files ≡ g.C.Cabinet.read_faults l.fn.files;
  absents : g.C.Cabinet.absents l.files ≡ g.C.Cabinet.absents l.fn.files;
}
