use Rattle.std.proofs.Common.{ℕ, List, Option, Some, ◌++◌, ap, sym, subst, ◌∙◌}
use Rattle.nm_outside.specs.Files.{Files, file_in}
use Rattle.nm_outside.proofs.Kept.{grown_file}
use Rattle.trace_file.specs.Bytes.{front}
use Rattle.trace_file.specs.Writing.{Writes}
use Rattle.trace_file.proofs.Fronts.{on_ok}
use Rattle.trace_file.proofs.Passing.{lost_front}
use Rattle.trace_file.proofs.writer.TraceWriter.lost.Goals as goal

pub returns-clause-front : goal.returns-clause-front
returns-clause-front g c =
    on_ok c.put.result
    (λ stands t w. subst (Writes c.put.new.self)
    (ap (λ (xs : List ℕ). front t ++ xs) c.lost_bytes.ensures ∙ sym (lost_front t c.args.id)) (stands (front t) w))
    c.put.ensures.stands

pub returns-clause-told : goal.returns-clause-told
returns-clause-told g c =
    let old = g.C.Cabinet.files c.args.files.now in
    let name = g.C.Cabinet.open_name c.args.files.now in
    on_ok c.put.result
    (λ ok t held. ap (λ (files : Option Files). file_in files name) ok ∙ grown_file old name _ (front t) held
    ∙ ap (λ (xs : List ℕ). Some (front t ++ xs)) c.lost_bytes.ensures ∙ ap (λ (xs : List ℕ). Some xs) (sym (lost_front t c.args.id)))
    c.put.ensures.ok
