use Rattle.std.proofs.Common.{◌≡◌, ◌++◌, ℕ, List, Option, Some, ap, sym, ◌∙◌}
use Rattle.std.proofs.lemmas.Result.{err_from_is_err_and}
use Rattle.nm_outside.specs.Files.{Files, extended, file_in}
use Rattle.nm_outside.proofs.Kept.{grown_file}
use Rattle.nm_outside.proofs.Parts.{whole_part}
use Rattle.trace_file.specs.Bytes.{front, end_part}
use Rattle.trace_file.proofs.Ending.{end_spelled}
use Rattle.trace_file.proofs.writer.TraceWriter.close.Goals as goal

pub returns-in_err-close-clause-err : goal.returns-in_err-close-clause-err
returns-in_err-close-clause-err g c =
    let p = err_from_is_err_and c.from_residual-in_err-close.result c.from_residual-in_err-close.ensures.1 in
    rw (p.1) (λ b w. whole_part (g.C.Cabinet.files c.args.files.now) (g.C.Cabinet.files c.close.new.self) (g.C.Cabinet.open_name c.args.files.now) _
    (c.in_err-close.ensures.files ∙ c.in_ok-append.ensures.ok
    ∙ ap (extended (g.C.Cabinet.files c.args.files.now) (g.C.Cabinet.open_name c.args.files.now)) (c.as_slice.ensures.value
    ∙ c.end_bytes-end.ensures.items b w.state)))

pub returns-clause-spelled : goal.returns-clause-spelled
returns-clause-spelled g c t same w held =
    let old = g.C.Cabinet.files c.args.files.now in
    let name = g.C.Cabinet.open_name c.args.files.now in
    let piece = c.as_slice.ensures.value ∙ c.end_bytes-end.ensures.items (front t) w.state in
    let grown : g.C.Cabinet.files c.close.new.self ≡ extended old name (end_part (front t) c.args.counts.now) =
    c.in_ok-close.ensures.files ∙ c.in_ok-append.ensures.ok ∙ ap (extended old name) piece in
    ap (λ (files : Option Files). file_in files name) grown
    ∙ grown_file old name (end_part (front t) c.args.counts.now) (front t) held
    ∙ ap (λ (counts : List ℕ). Some (front t ++ end_part (front t) counts)) (sym same)
    ∙ ap Some (end_spelled t)
