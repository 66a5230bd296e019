use Rattle.std.proofs.Common.{slice_index}
use Rattle.report.proofs.Pieces.{same_text}
use Rattle.report.proofs.Alike.{clock_alike}
use Rattle.report.proofs.letters.clock_line.Goals as goal

pub returns : goal.returns
returns g c = λ parts same.
    same_text _ _ _ _ _ _ _ (clock_alike c.args.process c.args.n (slice_index c.args.stamp.now.parts) parts same) c.put_clock_parts.ensures
