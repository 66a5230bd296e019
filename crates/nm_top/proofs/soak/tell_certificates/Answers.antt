use Rattle.std.proofs.Common.{◌≡◌, ◌+◌, ◌∷◌, [], length, ap, arith}
use Rattle.report.specs.Texts.{certificates_line}
use Rattle.nm_top.specs.Finishing.{entries_of}
use Rattle.nm_top.proofs.CertifyLaws.{same_run, notes_logged, lost_logged, many_names}
use Rattle.nm_top.proofs.SoakLaws.{up_none, up_last, up_failed, same_text}
use Rattle.nm_top.proofs.soak.tell_certificates.Goals as goal

pub certify_noted-requires-clause-sound : goal.certify_noted-requires-clause-sound
certify_noted-requires-clause-sound g c = same_run c.args.events.now.events c.mask.result c.args.trace.now.mask c.mask.ensures c.requires.sound

pub certify_noted-requires-clause-logged : goal.certify_noted-requires-clause-logged
certify_noted-requires-clause-logged g c =
    let t = c.args.trace.now in
    notes_logged t.mask c.args.events.now.events t.notes t.lost c.requires.entries c.mask.result c.notes-notes.result.now c.mask.ensures c.notes-notes.ensures

pub returns-in_default : goal.returns-in_default
returns-in_default g c = up_none (certificates_line (length (entries_of c.args.trace.now)) ∷ []) _ _

pub certify_lost-requires-clause-sound : goal.certify_lost-requires-clause-sound
certify_lost-requires-clause-sound g c = same_run c.args.events.now.events c.mask-2.result c.args.trace.now.mask c.mask-2.ensures c.requires.sound

pub certify_lost-requires-clause-logged : goal.certify_lost-requires-clause-logged
certify_lost-requires-clause-logged g c =
    let t = c.args.trace.now in
    lost_logged t.mask c.args.events.now.events t.notes t.lost c.requires.entries c.mask-2.result c.lost-names.result.now c.mask-2.ensures c.lost-names.ensures

pub returns-in_default-certify_lost : goal.returns-in_default-certify_lost
returns-in_default-certify_lost g c = up_none (certificates_line (length (entries_of c.args.trace.now)) ∷ []) _ _

pub returns-in-Ok-certificates_line : goal.returns-in-Ok-certificates_line
returns-in-Ok-certificates_line g c =
    let t = c.args.trace.now in
    let many : c.in-Ok.noted + c.in-Ok-certify_lost.lost ≡ length (entries_of t) =
    omega (arith, c.in-Ok.ensures, c.in-Ok-certify_lost.ensures, ap length c.notes-notes.ensures, ap length c.lost-names.ensures, many_names t.notes t.lost) in
    up_last _ _ _ _ (certificates_line (length (entries_of t))) c.certificates_line.result tt c.in-Ok-certificates_line.is
    (same_text _ _ _ _ _ _ c.certificates_line.result (ap certificates_line many) c.certificates_line.ensures)

pub returns-in-Err : goal.returns-in-Err
returns-in-Err g c =
    let t = c.args.trace.now in
    let many : c.in-Ok.noted + c.in-Ok-certify_lost.lost ≡ length (entries_of t) =
    omega (arith, c.in-Ok.ensures, c.in-Ok-certify_lost.ensures, ap length c.notes-notes.ensures, ap length c.lost-names.ensures, many_names t.notes t.lost) in
    up_failed _ _ _ _ (certificates_line (length (entries_of t))) [] c.certificates_line.result c.in-Err.field-0 c.in-Err.is
    (same_text _ _ _ _ _ _ c.certificates_line.result (ap certificates_line many) c.certificates_line.ensures)
