use Rattle.std.proofs.Common.{Result, ap, subst, arith}
use Rattle.nm_base.specs.declared.letter.LetterId.{LetterId}
use Rattle.nm_base.specs.declared.letter.AcceptNote.{AcceptNote}
use Rattle.std.proofs.lemmas.Result.{err_from_is_err_and}
use Rattle.trace_file.specs.declared.item.Item.{Item}
use Rattle.trace_file.specs.Reading.{Damage, ranked, ◌>>=◌}
use Rattle.trace_file.proofs.Shapes.{shape_is, IsShape}
use Rattle.trace_file.proofs.entries.Entries.take.Goals as goal

pub add_note-requires-clause-receiver : goal.add_note-requires-clause-receiver
add_note-requires-clause-receiver c =
    let fits = shape_is c.args.n c.args.place c.args.rest.now c.in_ok-item.item c.in_ok-item.ensures in
    let note = subst (IsShape c.args.n c.args.rest.now) c.in-Note.is fits in
    omega (arith, c.requires.few, note.receiver, ap (λ (a : AcceptNote). a.receiver.no) note.is)

pub add_lost-requires-clause-sender : goal.add_lost-requires-clause-sender
add_lost-requires-clause-sender c =
    let fits = shape_is c.args.n c.args.place c.args.rest.now c.in_ok-item.item c.in_ok-item.ensures in
    let lost = subst (IsShape c.args.n c.args.rest.now) c.in-Lost.is fits in
    omega (arith, c.requires.few, lost.sender, ap (λ (id : LetterId). id.sender.no) lost.is)

pub returns-in_err-item-clause-answer : goal.returns-in_err-item-clause-answer
returns-in_err-item-clause-answer c =
    let p = err_from_is_err_and c.from_residual.result c.from_residual.ensures.1 in
    rw (p.1, p.2) (ap (λ (r : Result Item Damage). r >>= ranked c.args.self.now.notes.items c.args.self.now.lost.items c.args.place) c.in_err-item.ensures)
