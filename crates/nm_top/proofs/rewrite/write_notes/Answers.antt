use Rattle.std.proofs.Common.{◌≡◌, ◌++◌, List, ℕ, take, drop, get_or, suc, refl, sym, ap, ◌∙◌, subst, arith}
use Rattle.std.specs.List.{flat_map}
use Rattle.std.proofs.Math.Seq.{take-length}
use Rattle.std.proofs.lemmas.Bool.{false≢true}
use Rattle.std.proofs.lemmas.List.{append-nil}
use Rattle.std.proofs.lemmas.Result.{err_from_is_err_and}
use Rattle.nm_base.specs.declared.letter.AcceptNote.{AcceptNote}
use Rattle.trace_file.specs.Bytes.{note}
use Rattle.nm_top.specs.private.Rewriting.{IsSoFar, HoldsFront}
use Rattle.nm_top.proofs.RewriteLaws.{first_more, all_entries, enough, so_far_more, part_more, room_for}
use Rattle.nm_top.proofs.rewrite.write_notes.Goals as goal

abbrev no_note : AcceptNote
no_note = record { receiver = record { no = 0 }; receive = 0; id = record { sender = record { no = 0 }; number = 0 } }

pub loop-note-init : goal.loop-note-init
loop-note-init g c = record {
  so_far = λ at b h. subst (IsSoFar at c.args.writer.now (g.C.Cabinet.files c.args.files.now) (g.C.Cabinet.open_name c.args.files.now)) (sym (append-nil b)) h;
  size = omega arith;
  n = refl;
  is_open = refl;
  faults = refl;
  room = refl;
  reads = refl;
  absents = refl;
}

pub note-requires-clause-receiver : goal.note-requires-clause-receiver
note-requires-clause-receiver g c =
    omega (arith, c.requires.receivers c.loop-note.note-index no_note c.loop-note-test.true, c.loop-note.invariant.n)

pub note-requires-clause-sender : goal.note-requires-clause-sender
note-requires-clause-sender g c =
    omega (arith, c.requires.senders c.loop-note.note-index no_note c.loop-note-test.true, c.loop-note.invariant.n)

pub returns-in_err-note-clause-cut : goal.returns-in_err-note-clause-cut
returns-in_err-note-clause-cut g c =
    let p = err_from_is_err_and c.from_residual.result c.from_residual.ensures.1 in
    rw (p.1) (λ at b h.
    let notes = c.args.notes.now in
    let i = c.loop-note.note-index in
    let files = g.C.Cabinet.files c.loop-note.files in
    let opened = g.C.Cabinet.open_name c.loop-note.files in
    let new = g.C.Cabinet.files c.note.new.files in
    let before = b ++ flat_map note (take i notes) in
    let x = get_or notes i no_note in
    subst (HoldsFront at new) (sym (all_entries note b notes i no_note c.loop-note-test.true))
    (part_more at c.loop-note.writer files opened before (c.loop-note.invariant.so_far at b h) (note x) (flat_map note (drop (suc i) notes)) new
    c.in_err-note.ensures.err))

pub returns-in_err-note-clause-sure : goal.returns-in_err-note-clause-sure
returns-in_err-note-clause-sure g c at b room h told sure fits =
    let notes = c.args.notes.now in
    let i = c.loop-note.note-index in
    let files = g.C.Cabinet.files c.loop-note.files in
    let opened = g.C.Cabinet.open_name c.loop-note.files in
    let before = b ++ flat_map note (take i notes) in
    let x = get_or notes i no_note in
    absurd (false≢true (c.in_err-note.ensures.sure
    (room_for at c.loop-note.writer files opened before (c.loop-note.invariant.so_far at b h) (g.C.Cabinet.sure_room c.loop-note.files) room (note x) told
    (c.loop-note.invariant.room ∙ sure) (enough note b notes i no_note c.loop-note-test.true room fits))))

pub loop-note-preserved : goal.loop-note-preserved
loop-note-preserved g c =
    let k = c.loop-note.invariant in
    let e = c.in_ok-note.ensures in record {
      so_far = λ at b h.
          let notes = c.args.notes.now in
          let i = c.loop-note.note-index in
          let files = g.C.Cabinet.files c.loop-note.files in
          let opened = g.C.Cabinet.open_name c.loop-note.files in
          let new = g.C.Cabinet.files c.note.new.files in
          let opened' = g.C.Cabinet.open_name c.note.new.files in
          let before = b ++ flat_map note (take i notes) in
          subst (IsSoFar at c.note.new.self new opened') (sym (first_more note b notes i no_note c.loop-note-test.true))
          (so_far_more at c.loop-note.writer files opened before (k.so_far at b h) (note (get_or notes i no_note)) c.note.new.self new opened'
          e.stands e.ok c.note.ensures.same_name);
      size = omega (arith, k.size, e.size);
      n = c.note.ensures.n ∙ k.n;
      is_open = c.note.ensures.same_open ∙ k.is_open;
      faults = e.failed.still ∙ k.faults;
      room = c.note.ensures.same_room ∙ k.room;
      reads = c.note.ensures.same_reads ∙ k.reads;
      absents = c.note.ensures.same_absents ∙ k.absents;
    }

pub returns-clause-so_far : goal.returns-clause-so_far
returns-clause-so_far g c at b h =
    let notes = c.args.notes.now in
    let i = c.loop-note.note-index in
    let all : take i notes ≡ notes = ap (λ (k : ℕ). take k notes) (omega (arith, c.loop-note-test.false, c.loop-note.auto.note-index-end)) ∙ take-length notes in
    subst (λ (ns : List AcceptNote). IsSoFar at c.loop-note.writer (g.C.Cabinet.files c.loop-note.files) (g.C.Cabinet.open_name c.loop-note.files) (b ++ flat_map note ns)) all
    (c.loop-note.invariant.so_far at b h)
