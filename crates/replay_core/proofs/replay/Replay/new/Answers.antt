use Rattle.std.proofs.Common.{length, [], ap, ◌∙◌}
use Rattle.std.specs.Prelude.{map}
use Rattle.processes.specs.Seats.{process_in}
use Rattle.world.proofs.Places.{map_length}
use Rattle.world.proofs.Turning.{some_scripts}
use Rattle.replay_core.specs.Gates.{seen_trace}
use Rattle.replay_core.proofs.ReplayLaws.{begun}
use Rattle.replay_core.proofs.replay.Replay.new.Goals as goal

pub invariant_of-result : goal.invariant_of-result
invariant_of-result g c =
    let world = c.in_ok-world.ensures in
    let s = some_scripts g.P.Proc.stands_for g.met.P.Proc.lawful (map process_in c.args.seats.items) c.requires.begins in (
      s.0,
      seen_trace c.args.trace.now,
      [],
      begun g.P.Proc.stands_for _ c.args.trace.now s.0 c.requires.trace (world.stands s.0 s.1) c.in_ok-gate.ensures c.in_ok-events.ensures (world.mask ∙ c.mask.ensures)
          (ap length world.processes ∙ map_length process_in c.args.seats.items ∙ c.requires.seats),
    )

pub returns-clause-begins : goal.returns-clause-begins
returns-clause-begins g c s b =
    let world = c.in_ok-world.ensures in
    begun g.P.Proc.stands_for _ c.args.trace.now s c.requires.trace (world.stands s b) c.in_ok-gate.ensures c.in_ok-events.ensures (world.mask ∙ c.mask.ensures)
    (ap length world.processes ∙ map_length process_in c.args.seats.items ∙ c.requires.seats)
