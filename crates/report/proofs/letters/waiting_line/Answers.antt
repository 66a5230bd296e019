use Rattle.std.proofs.Common.{slice_index}
use Rattle.nm_base.specs.Message.{message_of}
use Rattle.report.proofs.Pieces.{same_text}
use Rattle.report.proofs.Alike.{waiting_alike}
use Rattle.report.proofs.letters.waiting_line.Goals as goal

pub returns : goal.returns
returns g c = λ parts same.
    let letter = c.args.letter.now in
    same_text _ _ _ _ _ _ _ (waiting_alike c.args.n (message_of letter) (slice_index letter.stamp.parts) parts same) c.put_waiting.ensures
