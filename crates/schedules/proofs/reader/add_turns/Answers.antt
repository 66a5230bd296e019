use Rattle.schedules.proofs.TextFacts.{same_turns_start, same_turns_more, same_turns_all}
use Rattle.schedules.proofs.reader.add_turns.Goals as goal

pub loop-i-init : goal.loop-i-init
loop-i-init c = same_turns_start _ _ c.args.times

pub loop-i-preserved : goal.loop-i-preserved
loop-i-preserved c = same_turns_more _ _ _ _ c.args.times c.loop-i._i c.loop-i-test.true c.in-Ok.ensures.items c.loop-i.invariant

pub returns : goal.returns
returns c = same_turns_all _ _ _ c.args.times c.loop-i._i c.loop-i-test.false c.loop-i.invariant
