use Rattle.std.proofs.Common.{map, arith}
use Rattle.std.proofs.lemmas.Result.{err_from_is_err_and}
use Rattle.nm_top.proofs.CertifyLaws.{given_none, gave_next, halts_next, same_given, noted_more, noted_all}
use Rattle.nm_top.proofs.certify.put_noted.Goals as goal

pub loop-note-init : goal.loop-note-init
loop-note-init g c = λ p n run. given_none p n c.args.mask c.args.events.now.events _ _

pub returns-in_err-put_certificate : goal.returns-in_err-put_certificate
returns-in_err-put_certificate g c =
    let e = err_from_is_err_and c.from_residual.result c.from_residual.ensures.1 in
    rw (e.1, e.2) (λ p n run. halts_next p n c.args.mask c.args.events.now.events _ _ _ _ _ _
    (map (λ note. note.id) c.args.notes.now) c.loop-note.note-index _
    (noted_more c.args.notes.now c.loop-note.note-index _ c.loop-note-test.true) (c.loop-note.invariant p n run)
    c.put_certificate.result c.in_err-put_certificate.field-0.0 c.in_err-put_certificate.was (c.put_certificate.ensures p n run))

pub loop-note-preserved : goal.loop-note-preserved
loop-note-preserved g c = λ p n run.
    gave_next p n c.args.mask c.args.events.now.events _ _ _ _ _ _
    (map (λ note. note.id) c.args.notes.now) c.loop-note.note-index _
    (noted_more c.args.notes.now c.loop-note.note-index _ c.loop-note-test.true) (c.loop-note.invariant p n run)
    c.put_certificate.result c.in_ok-put_certificate.was (c.put_certificate.ensures p n run)

pub returns : goal.returns
returns g c = λ p n run.
    same_given p n c.args.mask c.args.events.now.events _ _ _ _ _ _ (noted_all c.args.notes.now c.loop-note.note-index (omega (arith, c.loop-note-test.false))) (c.loop-note.invariant p n run)
