use Rattle.std.proofs.Common.{refl, sym, subst}
use Rattle.std.proofs.lemmas.Result.{err_from_is_err_and}
use Rattle.nm_base.specs.Message.{message_of}
use Rattle.event_list.specs.Races.{IsLogged}
use Rattle.race_tracer.specs.Tracing.{IsNext, received}
use Rattle.recorder.proofs.NoteLaws.{not_some, noted_same, noted_more, cut_in_note}
use Rattle.recorder.proofs.receive.note_receive.Goals as goal

pub returns-in_default-clause-noted : goal.returns-in_default-clause-noted
returns-in_default-clause-noted g c f at notes E order h next =
    let r = c.args.receive.now in
    let n = subst (λ m. IsNext m E r.proc r.number r.set r.letter) (sym order) next in
    noted_same f at c.args.tracer.now c.args.writer.now (g.C.Cabinet.files c.args.files.now) (g.C.Cabinet.open_name c.args.files.now) notes E r.proc r.number r.set r.letter h next
    c.accepted-told.new.self (c.accepted-told.ensures.stands E h.tracer n)
    (λ logged.
    let some = (c.accepted-told.ensures.logged E h.tracer n).1 (subst (λ m. IsLogged m (received E r.proc r.number r.set r.letter) (message_of r.letter)) (sym order) logged) in
    not_some c.accepted-told.result c.in_default.is some)

pub returns-in_err-note-clause-cut : goal.returns-in_err-note-clause-cut
returns-in_err-note-clause-cut g c =
    let p = err_from_is_err_and c.from_residual.result c.from_residual.ensures.1 in
    rw (p.1) (λ f at notes E order h next.
    let r = c.args.receive.now in
    let n = subst (λ m. IsNext m E r.proc r.number r.set r.letter) (sym order) next in
    cut_in_note f at c.args.tracer.now c.args.writer.now (g.C.Cabinet.files c.args.files.now) (g.C.Cabinet.open_name c.args.files.now) notes E r.proc r.number r.set r.letter h next
    c.in-Some.note (c.in-Some.ensures.note E h.tracer)
    (subst (λ m. IsLogged m (received E r.proc r.number r.set r.letter) (message_of r.letter)) order ((c.in-Some.ensures.logged E h.tracer n).0 refl))
    (g.C.Cabinet.files c.note.new.files) c.in_err-note.ensures.err)

pub returns-clause-noted : goal.returns-clause-noted
returns-clause-noted g c f at notes E order h next =
    let r = c.args.receive.now in
    let n = subst (λ m. IsNext m E r.proc r.number r.set r.letter) (sym order) next in
    noted_more f at c.args.tracer.now c.args.writer.now (g.C.Cabinet.files c.args.files.now) (g.C.Cabinet.open_name c.args.files.now) notes E r.proc r.number r.set r.letter h next
    c.in-Some.note (c.in-Some.ensures.note E h.tracer)
    (subst (λ m. IsLogged m (received E r.proc r.number r.set r.letter) (message_of r.letter)) order ((c.in-Some.ensures.logged E h.tracer n).0 refl))
    c.accepted-told.new.self c.note.new.self (g.C.Cabinet.files c.note.new.files) (g.C.Cabinet.open_name c.note.new.files) (c.accepted-told.ensures.stands E h.tracer n)
    c.in_ok-note.ensures.front c.in_ok-note.ensures.ok c.note.ensures.same_name
