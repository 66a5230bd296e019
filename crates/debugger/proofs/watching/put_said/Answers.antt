use Rattle.std.proofs.Common.{◌∙◌, ap}
use Rattle.report.specs.Replies.{watch_line}
use Rattle.debugger.proofs.Replying.{same_text}
use Rattle.debugger.proofs.watching.put_said.Goals as goal

pub returns : goal.returns
returns g c = same_text _ _ (ap (watch_line c.args.k) (c.text.ensures ∙ c.line_of.ensures.is)) c.watch_line.ensures
