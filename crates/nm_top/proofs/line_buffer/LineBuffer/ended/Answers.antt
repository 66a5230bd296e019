use Rattle.std.proofs.Common.{◌∙◌, ap, take, arith}
use Rattle.nm_top.specs.Debugging.{without_return}
use Rattle.nm_top.specs.private.LineFronts.{short}
use Rattle.nm_top.proofs.LineFacts.{whole_line, long_line, not_short, length_without}
use Rattle.nm_top.proofs.line_buffer.LineBuffer.ended.Goals as goal

pub returns-then-self : goal.returns-then-self
returns-then-self c = λ line is.
    let b = c.self.inside in
    let long = long_line (take b.len b.bytes) line b.more c.if-self.true (c.self.view_is ∙ is) in
    not_short (without_return line) (omega (arith, long, length_without line))

pub returns : goal.returns
returns c = λ line is.
    let b = c.self.inside in
    c.short.ensures ∙ ap short (c.without_return.ensures ∙ ap without_return (whole_line (take b.len b.bytes) line b.more c.if-self.false (c.self.view_is ∙ is)))
