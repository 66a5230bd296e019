use Rattle.schedules.proofs.TextFacts.{blank_found, no_blank}
use Rattle.schedules.proofs.reader.word_length.Goals as goal

pub returns-in-Some : goal.returns-in-Some
returns-in-Some c = blank_found c.args.bytes.now c.in-Some.length c.in-Some.ensures

pub returns-in-None : goal.returns-in-None
returns-in-None c = no_blank c.args.bytes.now c.in-None.ensures
