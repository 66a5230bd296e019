use Rattle.std.proofs.Common.{◌≡◌, take}
use Rattle.std.specs.Prelude.{map, filter}
use Rattle.event_list.specs.Carrying.{moves_of}
use Rattle.cut_witness.specs.Certificates.{move_at}
use Rattle.cut_witness.specs.private.Steps.{is_kept}
use Rattle.cut_witness.proofs.kept.Kept.turns.Given as goal

abbrev pub invariant-loop-i : goal.invariant-loop-i
invariant-loop-i l = map move_at l.turns.items ≡ moves_of (filter (is_kept l.self) (take l.i l.events.events))
