use Rattle.std.proofs.Common.{◌≡◌, ◌+◌, map, length, ap, refl, arith}
use Rattle.nm_base.specs.declared.letter.AcceptNote.{AcceptNote}
use Rattle.nm_top.specs.declared.status.Status.TheVariants.{Done, WriteFault}
use Rattle.nm_top.specs.Finishing.{entries_of}
use Rattle.nm_top.proofs.CertifyLaws.{same_run, notes_logged, lost_logged, same_puts, halted_first, halted_second, given_named, many_names, told_all, told_part}
use Rattle.nm_top.proofs.certify.put_certificates.Goals as goal

pub put_noted-requires-clause-sound : goal.put_noted-requires-clause-sound
put_noted-requires-clause-sound g c = same_run c.args.events.now.events c.mask.result c.args.trace.now.mask c.mask.ensures c.requires.sound

pub put_noted-requires-clause-logged : goal.put_noted-requires-clause-logged
put_noted-requires-clause-logged g c =
    let t = c.args.trace.now in
    notes_logged t.mask c.args.events.now.events t.notes t.lost c.requires.entries c.mask.result c.notes-notes.result.now c.mask.ensures c.notes-notes.ensures

pub returns-in-Err : goal.returns-in-Err
returns-in-Err g c = λ p n run.
    let t = c.args.trace.now in
    let puts = same_puts p n t.mask c.args.events.now.events _ _ _ _ c.mask.result (map (λ (note : AcceptNote). note.id) c.notes-notes.result.now) (map (λ (note : AcceptNote). note.id) t.notes)
    c.put_noted.result c.mask.ensures (ap (map (λ (note : AcceptNote). note.id)) c.notes-notes.ensures) (c.put_noted.ensures p n) run in
    halted_first p n t.mask c.args.events.now.events t.notes t.lost _ _ _ _ c.put_noted.result c.in-Err.halt c.halted.result c.in-Err.is puts c.halted.ensures.write c.halted.ensures.memory

pub put_lost-requires-clause-sound : goal.put_lost-requires-clause-sound
put_lost-requires-clause-sound g c = same_run c.args.events.now.events c.mask-2.result c.args.trace.now.mask c.mask-2.ensures c.requires.sound

pub put_lost-requires-clause-logged : goal.put_lost-requires-clause-logged
put_lost-requires-clause-logged g c =
    let t = c.args.trace.now in
    lost_logged t.mask c.args.events.now.events t.notes t.lost c.requires.entries c.mask-2.result c.lost-lost.result.now c.mask-2.ensures c.lost-lost.ensures

pub returns-in-Err-put_lost : goal.returns-in-Err-put_lost
returns-in-Err-put_lost g c = λ p n run.
    let t = c.args.trace.now in
    let puts = same_puts p n t.mask c.args.events.now.events _ _ _ _ c.mask.result (map (λ (note : AcceptNote). note.id) c.notes-notes.result.now) (map (λ (note : AcceptNote). note.id) t.notes)
    c.put_noted.result c.mask.ensures (ap (map (λ (note : AcceptNote). note.id)) c.notes-notes.ensures) (c.put_noted.ensures p n) run in
    let more = same_puts p n t.mask c.args.events.now.events _ _ _ _ c.mask-2.result c.lost-lost.result.now t.lost c.put_lost.result c.mask-2.ensures c.lost-lost.ensures (c.put_lost.ensures p n) run in
    halted_second p n t.mask c.args.events.now.events t.notes t.lost _ _ _ _ _ _ c.put_noted.result c.put_lost.result c.in_default.is puts more
    c.in-Err-put_lost.halt c.halted-in-Err-put_lost.result c.in-Err-put_lost.is c.halted-in-Err-put_lost.ensures.write c.halted-in-Err-put_lost.ensures.memory

pub returns-in-Ok : goal.returns-in-Ok
returns-in-Ok g c = λ p n run.
    let t = c.args.trace.now in
    let puts = same_puts p n t.mask c.args.events.now.events _ _ _ _ c.mask.result (map (λ (note : AcceptNote). note.id) c.notes-notes.result.now) (map (λ (note : AcceptNote). note.id) t.notes)
    c.put_noted.result c.mask.ensures (ap (map (λ (note : AcceptNote). note.id)) c.notes-notes.ensures) (c.put_noted.ensures p n) run in
    let more = same_puts p n t.mask c.args.events.now.events _ _ _ _ c.mask-2.result c.lost-lost.result.now t.lost c.put_lost.result c.mask-2.ensures c.lost-lost.ensures (c.put_lost.ensures p n) run in
    let all = given_named p n t.mask c.args.events.now.events t.notes t.lost _ _ _ _ _ _ c.put_noted.result c.put_lost.result c.in_default.is puts more c.in_default-put_lost.is in
    let many : length c.notes-notes.result.now + length c.lost-lost.result.now ≡ length (entries_of t) =
    omega (arith, ap length c.notes-notes.ensures, ap length c.lost-lost.ensures, many_names t.notes t.lost) in
    told_all p n t.mask c.args.events.now.events _ _ _ _ _ _ (entries_of t) Done all _ many c.certificates_line.result c.in-Ok.is c.certificates_line.ensures refl

pub returns-in-Err-certificates_line : goal.returns-in-Err-certificates_line
returns-in-Err-certificates_line g c = λ p n run.
    let t = c.args.trace.now in
    let puts = same_puts p n t.mask c.args.events.now.events _ _ _ _ c.mask.result (map (λ (note : AcceptNote). note.id) c.notes-notes.result.now) (map (λ (note : AcceptNote). note.id) t.notes)
    c.put_noted.result c.mask.ensures (ap (map (λ (note : AcceptNote). note.id)) c.notes-notes.ensures) (c.put_noted.ensures p n) run in
    let more = same_puts p n t.mask c.args.events.now.events _ _ _ _ c.mask-2.result c.lost-lost.result.now t.lost c.put_lost.result c.mask-2.ensures c.lost-lost.ensures (c.put_lost.ensures p n) run in
    let all = given_named p n t.mask c.args.events.now.events t.notes t.lost _ _ _ _ _ _ c.put_noted.result c.put_lost.result c.in_default.is puts more c.in_default-put_lost.is in
    let many : length c.notes-notes.result.now + length c.lost-lost.result.now ≡ length (entries_of t) =
    omega (arith, ap length c.notes-notes.ensures, ap length c.lost-lost.ensures, many_names t.notes t.lost) in
    told_part p n t.mask c.args.events.now.events _ _ _ _ _ _ (entries_of t) WriteFault all _ many c.certificates_line.result c.in-Err-certificates_line.field-0
    c.in-Err-certificates_line.is c.certificates_line.ensures refl
