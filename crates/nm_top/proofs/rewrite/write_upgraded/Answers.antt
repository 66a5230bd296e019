use Rattle.std.proofs.Common.{ℕ, ◌∙◌, inr, arith}
use Rattle.std.proofs.lemmas.Bool.{false≢true}
use Rattle.std.proofs.lemmas.Result.{err_from_is_err_and}
use Rattle.trace_file.specs.declared.writer.TraceWriter.{TraceWriter}
use Rattle.nm_top.specs.Upgrades.{upgraded}
use Rattle.nm_top.specs.private.Rewriting.{Place}
use Rattle.nm_top.proofs.RewritePieces.{same_fault, small_again, begun_so_far, cut_in_header, room_for_header}
use Rattle.nm_top.proofs.rewrite.write_upgraded.Goals as goal

pub returns-in_err-writer-clause-cut : goal.returns-in_err-writer-clause-cut
returns-in_err-writer-clause-cut g c _ =
    let at : Place = record { start = g.C.Cabinet.files c.args.files.now; name = c.args.name.now } in
    cut_in_header (upgraded c.args.trace.now) at c.mask.result c.n.result c.digest.result.now c.mask.ensures c.n.ensures c.digest.ensures
    (g.C.Cabinet.files c.begin.new.files) c.in_err-writer.ensures.err

pub returns-in_err-writer-clause-sure : goal.returns-in_err-writer-clause-sure
returns-in_err-writer-clause-sure g c room told sure fits =
    let at : Place = record { start = g.C.Cabinet.files c.args.files.now; name = c.args.name.now } in
    let p = err_from_is_err_and c.from_residual.result c.from_residual.ensures.1 in
    let k = c.in_err-writer.ensures.sure told
    (room_for_header (upgraded c.args.trace.now) at c.mask.result c.n.result c.digest.result.now c.mask.ensures c.n.ensures c.digest.ensures
    (g.C.Cabinet.sure_room c.args.files.now) room sure fits) in
    rw (p.1) (same_fault TraceWriter ℕ c.in_err-writer.field-0.0 p.0 p.2 k)

pub write_behind-requires-clause-small : goal.write_behind-requires-clause-small
write_behind-requires-clause-small g c =
    omega (arith, small_again c.args.trace.now _ c.requires.trace c.requires.small, c.in_ok-writer.ensures.size)

pub returns-in-Ok-clause-bytes : goal.returns-in-Ok-clause-bytes
returns-in-Ok-clause-bytes g c =
    let at : Place = record { start = g.C.Cabinet.files c.args.files.now; name = c.args.name.now } in
    let e = c.in_ok-writer.ensures in
    let begun = begun_so_far (upgraded c.args.trace.now) at c.mask.result c.n.result c.digest.result.now c.mask.ensures c.n.ensures c.digest.ensures
    e.stands e.ok e.name in
    let told = c.in-Ok.ensures.size at begun in
    search

pub returns-in-Ok-clause-written : goal.returns-in-Ok-clause-written
returns-in-Ok-clause-written g c =
    let at : Place = record { start = g.C.Cabinet.files c.args.files.now; name = c.args.name.now } in
    let e = c.in_ok-writer.ensures in
    let begun = begun_so_far (upgraded c.args.trace.now) at c.mask.result c.n.result c.digest.result.now c.mask.ensures c.n.ensures c.digest.ensures
    e.stands e.ok e.name in
    let told = c.in-Ok.ensures.whole at begun in
    search

pub returns-in-Err-clause-cut : goal.returns-in-Err-clause-cut
returns-in-Err-clause-cut g c _ =
    let at : Place = record { start = g.C.Cabinet.files c.args.files.now; name = c.args.name.now } in
    let e = c.in_ok-writer.ensures in
    let h = c.in-Err.ensures.cut at (begun_so_far (upgraded c.args.trace.now) at c.mask.result c.n.result c.digest.result.now c.mask.ensures c.n.ensures c.digest.ensures
    e.stands e.ok e.name) in
    inr (h.many, h.is)

pub returns-in-Err-clause-sure : goal.returns-in-Err-clause-sure
returns-in-Err-clause-sure g c room told sure fits =
    let at : Place = record { start = g.C.Cabinet.files c.args.files.now; name = c.args.name.now } in
    let e = c.in_ok-writer.ensures in
    absurd (false≢true (c.in-Err.ensures.sure at room
    (begun_so_far (upgraded c.args.trace.now) at c.mask.result c.n.result c.digest.result.now c.mask.ensures c.n.ensures c.digest.ensures
    e.stands e.ok e.name)
    told (c.begin.ensures.same_room ∙ sure) fits))
