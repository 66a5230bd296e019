use Rattle.recorder.proofs.RuleLaws.{content_rules}
use Rattle.recorder.proofs.laws.rules_law.Goals as goal

pub returns : goal.returns
returns c = content_rules
