use Rattle.std.proofs.Common.{List, ℕ, ap, sym, subst, ◌∙◌, not}
use Rattle.std.specs.Prelude.{IsOk}
use Rattle.nm_outside.specs.Files.{HasRoom, file_in}
use Rattle.nm_outside.proofs.Kept.{begun_room}
use Rattle.trace_file.specs.Writing.{Writes}
use Rattle.trace_file.proofs.Fronts.{writes_begun}
use Rattle.trace_file.proofs.writer.TraceWriter.begin.Goals as goal

pub returns-then-is_err-clause-sure : goal.returns-then-is_err-clause-sure
returns-then-is_err-clause-sure g c told fits =
    let mid = c.begin.new.self in
    let room = begun_room (g.C.Cabinet.files c.args.files.now) (g.C.Cabinet.files mid) c.args.name.now (g.C.Cabinet.open_name mid)
    (g.C.Cabinet.sure_room c.args.files.now) (g.C.Cabinet.sure_room mid) _
    told c.in_ok-begin.ensures.ok c.in_ok-begin.ensures.name c.in_ok-begin.ensures.sure_room fits in
    let piece = c.deref.ensures.value ∙ c.in-Ok.ensures in
    let is_ok : IsOk c.append.result =
    c.append.ensures.sure (subst (λ (p : List ℕ). HasRoom (g.C.Cabinet.sure_room mid) (file_in (g.C.Cabinet.files mid) (g.C.Cabinet.open_name mid)) p)
    (sym piece) room) in
    let not_err = c.is_err.ensures.negation ∙ ap not c.if-is_err.true in
    sym is_ok ∙ not_err

pub returns-clause-front : goal.returns-clause-front
returns-clause-front g c =
    writes_begun c.behind.result c.args.version c.args.mask c.args.n c.args.digest.now
    (subst (Writes c.behind.result) (c.deref-2.ensures.value ∙ c.in-Ok.ensures) c.behind.ensures.stands)
