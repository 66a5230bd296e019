use Rattle.std.proofs.Common.{subst, sym, replicate, []}
use Rattle.race_tracer.specs.Tracing.{IsTracerOf}
use Rattle.race_tracer.proofs.TracerFacts.{new_tracer, tables_of}
use Rattle.race_tracer.proofs.calls.Tracer.new.Goals as goal

pub returns-clause-begins : goal.returns-clause-begins
returns-clause-begins c =
    subst (λ xs. IsTracerOf (tables_of c.args.mask (replicate 32 (replicate 32 0)) xs (replicate 32 0)) []) (sym (c.in_ok-taken.ensures.items_if_clones_equal (λ y h. h))) (new_tracer c.args.mask 32768)
