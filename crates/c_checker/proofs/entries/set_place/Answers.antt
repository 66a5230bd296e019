use Rattle.std.proofs.Common.{rules}
use Rattle.c_checker.proofs.Places.{place_changed}
use Rattle.c_checker.proofs.entries.set_place.Goals as goal

pub returns-in-Some : goal.returns-in-Some
returns-in-Some c = place_changed c.args.name.now c.args.places.now (c.get_mut.follows.lender c.args.place) c.args.place ((c.get_mut.follows.holds c.args.place).3 (search rules))
