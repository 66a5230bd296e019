use Rattle.std.proofs.Common.{refl, arith}
use Rattle.watchers.proofs.LineFacts as facts
use Rattle.watchers.proofs.fault_stop.FaultStopWatcher.line.Goals as goal

pub returns : goal.returns
returns c =
    let nothing = facts.says_nothing c.empty.result c.empty.ensures.text in
    let said = facts.says_more _ _ _ _ _ nothing c.with_count.ensures.text refl c.with_count.ensures.small in
    facts.is_line _ _ (omega (arith, c.empty.ensures.len, c.with_count.ensures.len)) said
