use Rattle.std.proofs.Common.{ℕ, List, Option, Some, ◌++◌, ap, sym, subst, ◌∙◌}
use Rattle.nm_outside.specs.Files.{Files, file_in}
use Rattle.nm_outside.proofs.Kept.{grown_file}
use Rattle.trace_file.specs.Bytes.{front}
use Rattle.trace_file.specs.Writing.{Writes}
use Rattle.trace_file.proofs.Fronts.{on_ok}
use Rattle.trace_file.proofs.Passing.{note_front}
use Rattle.trace_file.proofs.writer.TraceWriter.note.Goals as goal

pub returns-clause-ok : goal.returns-clause-ok
returns-clause-ok g c = rw c.note_bytes.ensures at c.put.ensures.ok

pub returns-clause-err : goal.returns-clause-err
returns-clause-err g c = rw c.note_bytes.ensures at c.put.ensures.err

pub returns-clause-front : goal.returns-clause-front
returns-clause-front g c =
    on_ok c.put.result
    (λ stands t nothing w. subst (Writes c.put.new.self)
    (ap (λ (xs : List ℕ). front t ++ xs) c.note_bytes.ensures ∙ sym (note_front t c.args.a nothing)) (stands (front t) w))
    c.put.ensures.stands

pub returns-clause-told : goal.returns-clause-told
returns-clause-told g c =
    let old = g.C.Cabinet.files c.args.files.now in
    let name = g.C.Cabinet.open_name c.args.files.now in
    on_ok c.put.result
    (λ ok t nothing held. ap (λ (files : Option Files). file_in files name) ok ∙ grown_file old name _ (front t) held
    ∙ ap (λ (xs : List ℕ). Some (front t ++ xs)) c.note_bytes.ensures ∙ ap (λ (xs : List ℕ). Some xs) (sym (note_front t c.args.a nothing)))
    c.put.ensures.ok
