use Rattle.std.specs.Prelude.{map}
use Rattle.processes.specs.Seats.{process_in}
use Rattle.world.specs.Moves.{AreCopies}
use Rattle.world.proofs.seats.copies.Given as goal

abbrev pub invariant-loop-seat : goal.invariant-loop-seat
invariant-loop-seat g l = AreCopies g.P.Proc.stands_for g.P.Proc.name_of g.P.Proc.origin_of (map process_in l.seats) (map process_in l.copies.items) l.seat-index
