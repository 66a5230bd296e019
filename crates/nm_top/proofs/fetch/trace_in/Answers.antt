use Rattle.std.proofs.Common.{refl}
use Rattle.std.proofs.lemmas.Option.{IfSome_then}
use Rattle.nm_top.specs.Demands.{TraceText}
use Rattle.nm_top.proofs.FileLaws.{unfetched_stops, unmet_stops, held_read}
use Rattle.nm_top.proofs.fetch.trace_in.Goals as goal

pub returns-in-Err-clause-gives : goal.returns-in-Err-clause-gives
returns-in-Err-clause-gives g c = IfSome_then (g.C.Cabinet.files c.args.files.now) c.in-Err.ensures.unfetched
    (λ held why. unfetched_stops (TraceText c.args.name.now) held _ refl c.in-Err.stop why)

pub returns-clause-gives : goal.returns-clause-gives
returns-clause-gives g c = IfSome_then (g.C.Cabinet.files c.args.files.now) c.in-Ok.ensures.found
    (λ held there. unmet_stops (TraceText c.args.name.now) held _ refl c.deref.result.now (held_read held _ c.in-Ok.bytes.items c.deref.result.now c.deref.ensures.value there) c.undecoded.result
    (c.undecoded.ensures.unmet held c.args.name.now c.deref.result.now c.in-Err-decode.ensures.damage))
