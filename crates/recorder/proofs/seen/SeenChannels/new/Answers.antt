use Rattle.recorder.proofs.SeenLaws.{holds_none}
use Rattle.recorder.proofs.seen.SeenChannels.new.Goals as goal

pub returns : goal.returns
returns c = holds_none
