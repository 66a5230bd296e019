use Rattle.std.proofs.Common.{◌∙◌, arith}
use Rattle.nm_top.proofs.LineFacts.{short_more, long_more}
use Rattle.nm_top.proofs.line_buffer.LineBuffer.put.Goals as goal

pub returns-then-self-lt-ROOM : goal.returns-then-self-lt-ROOM
returns-then-self-lt-ROOM c = λ line is.
    let b = c.self.inside in
    short_more b.bytes line b.len c.args.byte b.more (omega (arith, c.self.told)) c.if-self-lt-ROOM.true (c.self.view_is ∙ is)

pub returns-else-self-lt-ROOM : goal.returns-else-self-lt-ROOM
returns-else-self-lt-ROOM c = λ line is.
    let b = c.self.inside in
    long_more b.bytes line b.len c.args.byte b.more (omega (arith, c.self.told)) c.self.invariant c.if-self-lt-ROOM.false (c.self.view_is ∙ is)
