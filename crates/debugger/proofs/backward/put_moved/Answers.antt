use Rattle.debugger.proofs.MovedReplies.{says_why, says_where}
use Rattle.debugger.proofs.backward.put_moved.Goals as goal

pub returns-in-Some : goal.returns-in-Some
returns-in-Some g c =
    says_why c.args.session.now.replay.events c.args.refused c.in-Some.why c.in-Some.is c.notice_line.ensures

pub returns-in-None : goal.returns-in-None
returns-in-None g c =
    says_where _ _ c.session.view_is c.args.refused c.in-None.is c.len.result c.events.result.now.events
    c.len.ensures.exact c.events.ensures
    c.at_line.ensures
