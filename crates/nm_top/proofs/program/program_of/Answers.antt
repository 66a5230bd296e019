use Rattle.nm_top.proofs.ProgramLaws.{rule_unread}
use Rattle.nm_top.proofs.program.program_of.Goals as goal

pub returns-clause-refused : goal.returns-clause-refused
returns-clause-refused c = rule_unread c.args.text.now c.in-Ok.tree c.in-Err-check.fault _ c.broken_rule.ensures c.in-Ok.ensures.tree c.in-Err-check.ensures.no
