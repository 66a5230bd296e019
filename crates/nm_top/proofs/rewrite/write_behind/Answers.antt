use Rattle.std.proofs.Common.{◌++◌, ◌<◌, List, ℕ, length, take, sym, ap, ◌∙◌, subst, arith}
use Rattle.std.specs.Prelude.{All}
use Rattle.std.specs.List.{flat_map}
use Rattle.std.proofs.lemmas.Bool.{false≢true}
use Rattle.std.proofs.lemmas.Result.{err_from_is_err_and}
use Rattle.nm_base.specs.declared.letter.LetterId.{LetterId}
use Rattle.nm_base.specs.declared.letter.AcceptNote.{AcceptNote}
use Rattle.trace_file.specs.Bytes.{header, note, lost_entry}
use Rattle.trace_file.specs.Writing.{processes}
use Rattle.trace_file.proofs.Fronts.{on_ok}
use Rattle.nm_top.specs.Upgrades.{upgraded}
use Rattle.nm_top.specs.private.Rewriting.{HoldsFront}
use Rattle.nm_top.proofs.RewriteLaws.{each_is}
use Rattle.nm_top.proofs.RewritePieces.{on_err, if_ok, length_entries, with_notes, with_lost, room_for_notes, room_for_lost, cut_in_notes, cut_in_lost, noted, lost_behind, size_end, whole_end, cut_in_end, sure_end}
use Rattle.nm_top.proofs.rewrite.write_behind.Goals as goal

pub write_notes-requires-clause-small : goal.write_notes-requires-clause-small
write_notes-requires-clause-small g c = omega (arith, c.requires.small, length_entries c.args.trace.now, ap length c.notes.ensures)

pub write_notes-requires-clause-receivers : goal.write_notes-requires-clause-receivers
write_notes-requires-clause-receivers g c =
    subst (λ (ns : List AcceptNote). All (λ a. a.receiver.no < processes c.args.writer) ns) (sym c.notes.ensures)
    (each_is (λ a. a.receiver.no < processes c.args.writer) (λ xs x f. omega (arith, f.receiver, c.requires.n)) c.requires.trace.front.notes)

pub write_notes-requires-clause-senders : goal.write_notes-requires-clause-senders
write_notes-requires-clause-senders g c =
    subst (λ (ns : List AcceptNote). All (λ a. a.id.sender.no < processes c.args.writer) ns) (sym c.notes.ensures)
    (each_is (λ a. a.id.sender.no < processes c.args.writer) (λ xs x f. omega (arith, f.letter.sender, c.requires.n)) c.requires.trace.front.notes)

pub write_lost-requires-clause-small : goal.write_lost-requires-clause-small
write_lost-requires-clause-small g c =
    omega (arith, c.requires.small, length_entries c.args.trace.now, ap length c.notes.ensures, ap length c.lost.ensures, c.in_ok-write_notes.ensures.size)

pub write_lost-requires-clause-senders : goal.write_lost-requires-clause-senders
write_lost-requires-clause-senders g c =
    subst (λ (ids : List LetterId). All (λ id. id.sender.no < processes c.write_notes.new.writer) ids) (sym c.lost.ensures)
    (each_is (λ id. id.sender.no < processes c.write_notes.new.writer) (λ xs x f. omega (arith, f.letter.sender, c.requires.n, c.write_notes.ensures.same_n)) c.requires.trace.front.lost)

pub close-requires-clause-small : goal.close-requires-clause-small
close-requires-clause-small g c =
    omega (arith, c.requires.small, length_entries c.args.trace.now, ap length c.notes.ensures, ap length c.lost.ensures, c.in_ok-write_notes.ensures.size, c.in_ok-write_lost.ensures.size)

pub returns-in_err-write_notes-clause-cut : goal.returns-in_err-write_notes-clause-cut
returns-in_err-write_notes-clause-cut g c =
    let p = err_from_is_err_and c.from_residual.result c.from_residual.ensures.1 in
    rw (p.1) (λ at h.
    let u = upgraded c.args.trace.now in
    let new = g.C.Cabinet.files c.write_notes.new.files in
    cut_in_notes u at new (subst (λ (ns : List AcceptNote). HoldsFront at new (header u ++ flat_map note ns)) c.notes.ensures (c.in_err-write_notes.ensures.cut at (header u) h)))

pub returns-in_err-write_notes-clause-sure : goal.returns-in_err-write_notes-clause-sure
returns-in_err-write_notes-clause-sure g c at room h told sure fits =
    let u = upgraded c.args.trace.now in
    absurd (false≢true (c.in_err-write_notes.ensures.sure at (header u) room h told sure
    (omega (arith, room_for_notes u room fits, ap (λ (ns : List AcceptNote). length (flat_map note ns)) c.notes.ensures))))

pub returns-in_err-write_lost-clause-cut : goal.returns-in_err-write_lost-clause-cut
returns-in_err-write_lost-clause-cut g c =
    let p = err_from_is_err_and c.from_residual-in_err-write_lost.result c.from_residual-in_err-write_lost.ensures.1 in
    rw (p.1) (λ at h.
    let u = upgraded c.args.trace.now in
    let new = g.C.Cabinet.files c.write_lost.new.files in
    let first = noted u c.notes.result.now c.notes.ensures (c.in_ok-write_notes.ensures.so_far at (header u) h) in
    cut_in_lost u at new (subst (λ (ids : List LetterId). HoldsFront at new (with_notes u ++ flat_map lost_entry ids)) c.lost.ensures (c.in_err-write_lost.ensures.cut at (with_notes u) first)))

pub returns-in_err-write_lost-clause-sure : goal.returns-in_err-write_lost-clause-sure
returns-in_err-write_lost-clause-sure g c at room h told sure fits =
    let u = upgraded c.args.trace.now in
    let first = noted u c.notes.result.now c.notes.ensures (c.in_ok-write_notes.ensures.so_far at (header u) h) in
    absurd (false≢true (c.in_err-write_lost.ensures.sure at (with_notes u) room first told (c.write_notes.ensures.same_room ∙ sure)
    (omega (arith, room_for_lost u room fits, ap (λ (ids : List LetterId). length (flat_map lost_entry ids)) c.lost.ensures))))

pub returns-clause-size : goal.returns-clause-size
returns-clause-size g c =
    let u = upgraded c.args.trace.now in
    let all = c.counts_of-counts.result in
    if_ok c.close.result (λ size sized at h.
    let first = noted u c.notes.result.now c.notes.ensures (c.in_ok-write_notes.ensures.so_far at (header u) h) in
    let more = lost_behind u c.lost.result.now c.lost.ensures (c.in_ok-write_lost.ensures.so_far at (with_notes u) first) in
    size_end u more (take c.n.result all) (ap (λ (k : ℕ). take k all) c.n.ensures ∙ c.counts_of-counts.ensures) size sized) c.close.ensures.size

pub returns-clause-whole : goal.returns-clause-whole
returns-clause-whole g c =
    let u = upgraded c.args.trace.now in
    let all = c.counts_of-counts.result in
    on_ok c.close.result (λ ok at h.
    let first = noted u c.notes.result.now c.notes.ensures (c.in_ok-write_notes.ensures.so_far at (header u) h) in
    let more = lost_behind u c.lost.result.now c.lost.ensures (c.in_ok-write_lost.ensures.so_far at (with_notes u) first) in
    whole_end u more (take c.n.result all) (ap (λ (k : ℕ). take k all) c.n.ensures ∙ c.counts_of-counts.ensures) (g.C.Cabinet.files c.close.new.files) ok) c.close.ensures.ok

pub returns-clause-cut : goal.returns-clause-cut
returns-clause-cut g c =
    let u = upgraded c.args.trace.now in
    let all = c.counts_of-counts.result in
    on_err c.close.result (λ err at h.
    let first = noted u c.notes.result.now c.notes.ensures (c.in_ok-write_notes.ensures.so_far at (header u) h) in
    let more = lost_behind u c.lost.result.now c.lost.ensures (c.in_ok-write_lost.ensures.so_far at (with_notes u) first) in
    cut_in_end u more (take c.n.result all) (ap (λ (k : ℕ). take k all) c.n.ensures ∙ c.counts_of-counts.ensures) (g.C.Cabinet.files c.close.new.files) err) c.close.ensures.err

pub returns-clause-sure : goal.returns-clause-sure
returns-clause-sure g c at room h told sure fits =
    let u = upgraded c.args.trace.now in
    let all = c.counts_of-counts.result in
    let first = noted u c.notes.result.now c.notes.ensures (c.in_ok-write_notes.ensures.so_far at (header u) h) in
    let more = lost_behind u c.lost.result.now c.lost.ensures (c.in_ok-write_lost.ensures.so_far at (with_notes u) first) in
    c.close.ensures.sure (with_lost u) more.writes
    (sure_end u more (take c.n.result all) (ap (λ (k : ℕ). take k all) c.n.ensures ∙ c.counts_of-counts.ensures) (g.C.Cabinet.sure_room c.write_lost.new.files) room told
    (c.write_lost.ensures.same_room ∙ c.write_notes.ensures.same_room ∙ sure) fits)
