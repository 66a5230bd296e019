use Rattle.std.proofs.Common.{[], ◌∷◌, arith}
use Rattle.nm_top.specs.Demands.{ProgramText, TraceText, SameProgram}
use Rattle.nm_top.proofs.RunLaws.{gives_first, gives_later, program_met}
use Rattle.nm_top.proofs.PairLaws.{pair_read, other_stops}
use Rattle.nm_top.proofs.UpgradeLaws.{few_entries}
use Rattle.nm_top.proofs.pair.pair_in.Goals as goal

pub returns-in-Err-clause-gives : goal.returns-in-Err-clause-gives
returns-in-Err-clause-gives g c =
    gives_first (g.C.Cabinet.files c.args.files.now) (ProgramText c.args.program.now ∷ []) (TraceText c.args.trace.now ∷ SameProgram c.args.program.now c.args.trace.now ∷ []) c.in-Err.stop
    c.in-Err.ensures.gives

pub returns-in-Err-trace_in-clause-gives : goal.returns-in-Err-trace_in-clause-gives
returns-in-Err-trace_in-clause-gives g c =
    gives_later (g.C.Cabinet.files c.args.files.now) _ (ProgramText c.args.program.now) (TraceText c.args.trace.now ∷ SameProgram c.args.program.now c.args.trace.now ∷ []) c.in-Err-trace_in.stop
    (program_met (g.C.Cabinet.files c.args.files.now) c.args.program.now c.in-Ok.source.program c.in-Ok.source.digest c.in-Ok.ensures.gives) c.in-Ok.ensures.files
    (gives_first _ (TraceText c.args.trace.now ∷ []) (SameProgram c.args.program.now c.args.trace.now ∷ []) c.in-Err-trace_in.stop c.in-Err-trace_in.ensures.gives)

pub returns-in-Ok-same_program-clause-gives : goal.returns-in-Ok-same_program-clause-gives
returns-in-Ok-same_program-clause-gives g c =
    pair_read (g.C.Cabinet.files c.args.files.now) c.args.program.now c.args.trace.now c.in-Ok.source.program c.in-Ok-trace_in.trace c.in-Ok.source.digest c.in-Ok.ensures.gives _ c.in-Ok.ensures.files
    c.in-Ok-trace_in.ensures.gives c.in-Ok-same_program.ensures.same

pub returns-clause-gives : goal.returns-clause-gives
returns-clause-gives g c =
    other_stops (g.C.Cabinet.files c.args.files.now) _ c.args.program.now c.args.trace.now c.in-Ok.source.program c.in-Ok-trace_in.trace c.in-Ok.source.digest c.in-Ok.ensures.gives
    c.in-Ok.ensures.files c.in-Ok-trace_in.ensures.gives c.in-Err-same_program.stop c.in-Err-same_program.ensures.unmet

pub returns-in-Ok-same_program-clause-few : goal.returns-in-Ok-same_program-clause-few
returns-in-Ok-same_program-clause-few g c = omega (arith, few_entries c.in-Ok-trace_in.trace, c.in-Ok-trace_in.ensures.small)
