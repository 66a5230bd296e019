use Rattle.c_checker.proofs.Places.{place_changed}
use Rattle.std.proofs.Common.{Some}
use Rattle.c_checker.proofs.entries.put_place.Goals as goal

pub returns-clause-ok : goal.returns-clause-ok
returns-clause-ok c = place_changed c.args.name.items c.args.places.now c.insert.new.self (Some c.args.place) c.in_ok-insert.ensures.updates
