use Rattle.std.proofs.Common.{◌≡◌, ℕ, ◌<◌, length, get_or}
use Rattle.std.specs.Prelude.{slice_index}
use Rattle.proc_machine.proofs.events.padded.Given as goal

abbrev pub invariant-loop-i : goal.invariant-loop-i
invariant-loop-i l = (length l.padded ≡ 8) × ((k : ℕ) → k < l.i → get_or l.padded k 0 ≡ slice_index l.words k)
