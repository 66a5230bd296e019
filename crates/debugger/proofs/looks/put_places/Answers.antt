use Rattle.std.proofs.Common.{length, arith, refl, ◌∙◌}
use Rattle.trace_file.specs.Content.{count_of}
use Rattle.report.proofs.Pieces.{prints_nothing, still_after, failed_after}
use Rattle.report.proofs.Ranges.{one_more, one_failed, blocks_to}
use Rattle.debugger.specs.Looks.{where_of}
use Rattle.debugger.proofs.looks.put_places.Goals as goal

pub loop-no-init : goal.loop-no-init
loop-no-init g c = record { told = λ program E k. prints_nothing _ _; still = refl }

pub loop-no-preserved : goal.loop-no-preserved
loop-no-preserved g c = record {
  told = λ program E k.
      one_more _ _ _ _ _ _ (where_of program (length c.args.world.now.processes) E (count_of c.args.trace.now))
      c.loop-no.no (c.loop-no.invariant.told program E k) c.put_place.result c.in_ok-put_place.was
      (c.put_place.ensures.text program E k);
  still = still_after c.put_place.result c.in_ok-put_place.was c.put_place.ensures.cause ∙ c.loop-no.invariant.still;
}

pub returns-in_err-put_place-clause-text : goal.returns-in_err-put_place-clause-text
returns-in_err-put_place-clause-text g c = λ program E k.
    one_failed _ _ _ _ _ _ (where_of program (length c.args.world.now.processes) E (count_of c.args.trace.now))
    c.loop-no.no (c.loop-no.invariant.told program E k) (length c.args.world.now.processes)
    (omega (arith, c.loop-no-test.true, c.n-no-end.ensures)) c.put_place.result c.from_residual.result
    c.in_err-put_place.field-0.0 c.in_err-put_place.was c.from_residual.ensures.0
    (c.put_place.ensures.text program E k)

pub returns-in_err-put_place-clause-cause : goal.returns-in_err-put_place-clause-cause
returns-in_err-put_place-clause-cause g c =
    failed_after c.put_place.result c.from_residual.result c.in_err-put_place.field-0.0 c.in_err-put_place.was
    c.from_residual.ensures.0 c.loop-no.invariant.still c.put_place.ensures.cause

pub returns-clause-text : goal.returns-clause-text
returns-clause-text g c =
    λ program E k.
    blocks_to _ _ _ _ (where_of program (length c.args.world.now.processes) E (count_of c.args.trace.now)) c.loop-no.no
    (length c.args.world.now.processes) (omega
    (arith, c.loop-no-test.false, c.loop-no.auto.no-end, c.n-no-end.ensures)) (c.loop-no.invariant.told program E k)
