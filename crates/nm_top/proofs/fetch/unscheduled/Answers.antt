use Rattle.std.proofs.Common.{ap}
use Rattle.nm_top.specs.Schedules.{schedule_cause}
use Rattle.nm_top.proofs.FileLaws.{first_bad}
use Rattle.nm_top.proofs.fetch.unscheduled.Goals as goal

pub returns-in-BadWord-clause-unmet : goal.returns-in-BadWord-clause-unmet
returns-in-BadWord-clause-unmet c = λ held name n text h.
    c.bad_word.ensures.unmet held name n text (first_bad n text c.args.fault _ (ap schedule_cause c.in-BadWord.is) h)

pub returns-in-NoProcess-clause-unmet : goal.returns-in-NoProcess-clause-unmet
returns-in-NoProcess-clause-unmet c = λ held name n text h.
    c.bad_word-in-NoProcess.ensures.unmet held name n text (first_bad n text c.args.fault _ (ap schedule_cause c.in-NoProcess.is) h)

pub returns-in-TooMany-clause-unmet : goal.returns-in-TooMany-clause-unmet
returns-in-TooMany-clause-unmet c = λ held name n text h.
    c.bad_word-in-TooMany.ensures.unmet held name n text (first_bad n text c.args.fault _ (ap schedule_cause c.in-TooMany.is) h)
