use Rattle.std.proofs.Common.{arith}
use Rattle.std.proofs.lemmas.List.{take_all, take_more}
use Rattle.std.proofs.lemmas.Result.{err_from_is_err_and}
use Rattle.nm_top.proofs.CertifyLaws.{given_none, gave_next, halts_next, same_given}
use Rattle.nm_top.proofs.certify.put_lost.Goals as goal

pub loop-id-init : goal.loop-id-init
loop-id-init g c = λ p n run. given_none p n c.args.mask c.args.events.now.events _ _

pub returns-in_err-put_certificate : goal.returns-in_err-put_certificate
returns-in_err-put_certificate g c =
    let e = err_from_is_err_and c.from_residual.result c.from_residual.ensures.1 in
    rw (e.1, e.2) (λ p n run. halts_next p n c.args.mask c.args.events.now.events _ _ _ _ _ _
    c.args.lost.now c.loop-id.id-index _ (take_more c.args.lost.now c.loop-id.id-index _ c.loop-id-test.true) (c.loop-id.invariant p n run)
    c.put_certificate.result c.in_err-put_certificate.field-0.0 c.in_err-put_certificate.was (c.put_certificate.ensures p n run))

pub loop-id-preserved : goal.loop-id-preserved
loop-id-preserved g c = λ p n run.
    gave_next p n c.args.mask c.args.events.now.events _ _ _ _ _ _
    c.args.lost.now c.loop-id.id-index _ (take_more c.args.lost.now c.loop-id.id-index _ c.loop-id-test.true) (c.loop-id.invariant p n run)
    c.put_certificate.result c.in_ok-put_certificate.was (c.put_certificate.ensures p n run)

pub returns : goal.returns
returns g c = λ p n run.
    same_given p n c.args.mask c.args.events.now.events _ _ _ _ _ _ (take_all c.loop-id.id-index c.args.lost.now (omega (arith, c.loop-id-test.false))) (c.loop-id.invariant p n run)
