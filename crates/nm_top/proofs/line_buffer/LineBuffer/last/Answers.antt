use Rattle.std.proofs.Common.{◌∙◌, ap, take}
use Rattle.nm_top.specs.private.LineFronts.{short}
use Rattle.nm_top.proofs.LineFacts.{whole_line}
use Rattle.nm_top.proofs.line_buffer.LineBuffer.last.Goals as goal

pub returns : goal.returns
returns c = λ line is.
    let b = c.self.inside in
    c.short.ensures ∙ ap short (whole_line (take b.len b.bytes) line b.more c.if-self.false (c.self.view_is ∙ is))
