use Rattle.std.proofs.Common.{ap}
use Rattle.world.specs.Outcomes.{outcome}
use Rattle.replay_core.proofs.replay.keep.Goals as goal

pub push-requires-clause-room : goal.push-requires-clause-room
push-requires-clause-room c = c.requires.room c.in-Went.event (ap outcome c.in-Went.is)

pub push-requires-clause-process : goal.push-requires-clause-process
push-requires-clause-process c = c.requires.process c.in-Went.event (ap outcome c.in-Went.is)
