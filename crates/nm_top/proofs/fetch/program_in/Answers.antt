use Rattle.std.proofs.Common.{refl}
use Rattle.std.proofs.lemmas.Option.{IfSome_then}
use Rattle.nm_top.specs.Demands.{ProgramText}
use Rattle.nm_top.proofs.FileLaws.{unfetched_stops, unmet_stops, held_read}
use Rattle.nm_top.proofs.fetch.program_in.Goals as goal

pub returns-in-Err-clause-gives : goal.returns-in-Err-clause-gives
returns-in-Err-clause-gives g c = IfSome_then (g.C.Cabinet.files c.args.files.now) c.in-Err.ensures.unfetched
    (λ held why. unfetched_stops (ProgramText c.args.name.now) held _ refl c.in-Err.stop why)

pub returns-clause-gives : goal.returns-clause-gives
returns-clause-gives g c = IfSome_then (g.C.Cabinet.files c.args.files.now) c.in-Ok.ensures.found
    (λ held there. unmet_stops (ProgramText c.args.name.now) held _ refl c.deref-2.result.now (held_read held _ c.in-Ok.text.items c.deref-2.result.now c.deref-2.ensures.value there) c.unread.result
    (c.unread.ensures.unmet held c.args.name.now c.deref-2.result.now c.in-Err-program_of.ensures.refused))
