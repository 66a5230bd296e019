use Rattle.std.proofs.Common.{◌≡◌, ◌++◌, List, ℕ, take, drop, get_or, suc, refl, sym, ap, ◌∙◌, subst, arith}
use Rattle.std.specs.List.{flat_map}
use Rattle.std.proofs.Math.Seq.{take-length}
use Rattle.std.proofs.lemmas.Bool.{false≢true}
use Rattle.std.proofs.lemmas.List.{append-nil}
use Rattle.std.proofs.lemmas.Result.{err_from_is_err_and}
use Rattle.nm_base.specs.declared.letter.LetterId.{LetterId}
use Rattle.trace_file.specs.Bytes.{lost_entry}
use Rattle.nm_top.specs.private.Rewriting.{IsSoFar, HoldsFront}
use Rattle.nm_top.proofs.RewriteLaws.{first_more, all_entries, enough, so_far_more, part_more, room_for}
use Rattle.nm_top.proofs.rewrite.write_lost.Goals as goal

abbrev no_letter : LetterId
no_letter = record { sender = record { no = 0 }; number = 0 }

pub loop-id-init : goal.loop-id-init
loop-id-init g c = record {
  so_far = λ at b h. subst (IsSoFar at c.args.writer.now (g.C.Cabinet.files c.args.files.now) (g.C.Cabinet.open_name c.args.files.now)) (sym (append-nil b)) h;
  size = omega arith;
  n = refl;
  is_open = refl;
  faults = refl;
  room = refl;
  reads = refl;
  absents = refl;
}

pub lost-requires-clause-sender : goal.lost-requires-clause-sender
lost-requires-clause-sender g c =
    omega (arith, c.requires.senders c.loop-id.id-index no_letter c.loop-id-test.true, c.loop-id.invariant.n)

pub returns-in_err-lost-clause-cut : goal.returns-in_err-lost-clause-cut
returns-in_err-lost-clause-cut g c =
    let p = err_from_is_err_and c.from_residual.result c.from_residual.ensures.1 in
    rw (p.1) (λ at b h.
    let list = c.args.lost.now in
    let i = c.loop-id.id-index in
    let files = g.C.Cabinet.files c.loop-id.files in
    let opened = g.C.Cabinet.open_name c.loop-id.files in
    let new = g.C.Cabinet.files c.lost.new.files in
    let before = b ++ flat_map lost_entry (take i list) in
    let x = get_or list i no_letter in
    subst (HoldsFront at new) (sym (all_entries lost_entry b list i no_letter c.loop-id-test.true))
    (part_more at c.loop-id.writer files opened before (c.loop-id.invariant.so_far at b h) (lost_entry x) (flat_map lost_entry (drop (suc i) list)) new
    c.in_err-lost.ensures.err))

pub returns-in_err-lost-clause-sure : goal.returns-in_err-lost-clause-sure
returns-in_err-lost-clause-sure g c at b room h told sure fits =
    let list = c.args.lost.now in
    let i = c.loop-id.id-index in
    let files = g.C.Cabinet.files c.loop-id.files in
    let opened = g.C.Cabinet.open_name c.loop-id.files in
    let before = b ++ flat_map lost_entry (take i list) in
    let x = get_or list i no_letter in
    absurd (false≢true (c.in_err-lost.ensures.sure
    (room_for at c.loop-id.writer files opened before (c.loop-id.invariant.so_far at b h) (g.C.Cabinet.sure_room c.loop-id.files) room (lost_entry x) told
    (c.loop-id.invariant.room ∙ sure) (enough lost_entry b list i no_letter c.loop-id-test.true room fits))))

pub loop-id-preserved : goal.loop-id-preserved
loop-id-preserved g c =
    let k = c.loop-id.invariant in
    let e = c.in_ok-lost.ensures in record {
      so_far = λ at b h.
          let list = c.args.lost.now in
          let i = c.loop-id.id-index in
          let files = g.C.Cabinet.files c.loop-id.files in
          let opened = g.C.Cabinet.open_name c.loop-id.files in
          let new = g.C.Cabinet.files c.lost.new.files in
          let opened' = g.C.Cabinet.open_name c.lost.new.files in
          let before = b ++ flat_map lost_entry (take i list) in
          subst (IsSoFar at c.lost.new.self new opened') (sym (first_more lost_entry b list i no_letter c.loop-id-test.true))
          (so_far_more at c.loop-id.writer files opened before (k.so_far at b h) (lost_entry (get_or list i no_letter)) c.lost.new.self new opened'
          e.stands e.ok c.lost.ensures.same_name);
      size = omega (arith, k.size, e.size);
      n = c.lost.ensures.n ∙ k.n;
      is_open = c.lost.ensures.same_open ∙ k.is_open;
      faults = e.failed.still ∙ k.faults;
      room = c.lost.ensures.same_room ∙ k.room;
      reads = c.lost.ensures.same_reads ∙ k.reads;
      absents = c.lost.ensures.same_absents ∙ k.absents;
    }

pub returns-clause-so_far : goal.returns-clause-so_far
returns-clause-so_far g c at b h =
    let list = c.args.lost.now in
    let i = c.loop-id.id-index in
    let all : take i list ≡ list = ap (λ (k : ℕ). take k list) (omega (arith, c.loop-id-test.false, c.loop-id.auto.id-index-end)) ∙ take-length list in
    subst (λ (ns : List LetterId). IsSoFar at c.loop-id.writer (g.C.Cabinet.files c.loop-id.files) (g.C.Cabinet.open_name c.loop-id.files) (b ++ flat_map lost_entry ns)) all
    (c.loop-id.invariant.so_far at b h)
