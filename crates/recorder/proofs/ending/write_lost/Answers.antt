use Rattle.std.proofs.Common.{[], ◌∷◌, ◌++◌, length, refl, sym, ap, ◌∙◌, subst, arith}
use Rattle.std.proofs.lemmas.Bool.{false≢true}
use Rattle.std.proofs.lemmas.Result.{err_from_is_err_and}
use Rattle.nm_outside.specs.Files.{file_in}
use Rattle.mailboxes.specs.Letters.{Rises}
use Rattle.trace_file.specs.Bytes.{front, lost_entry}
use Rattle.recorder.specs.private.Stages.{content_in}
use Rattle.recorder.specs.private.Lost.{IsGoing}
use Rattle.recorder.proofs.Holding.{held_file, held_told}
use Rattle.recorder.proofs.LostLaws.{all_from, looked, found_nothing, from_fits, next_from, going_first, going_last, going_past, going_on, going_size, cut_in_lost, left_logged, left_sender, room_for}
use Rattle.recorder.proofs.ending.write_lost.Goals.{then-is_lost+in_ok-lost, else-is_lost}
use Rattle.recorder.proofs.ending.write_lost.Goals as goal

pub loop-letter-init : goal.loop-letter-init
loop-letter-init g c =
    let w = c.args.world.now in
    record {
      gone = [];
      rest = w.letters;
      seen = c.new-seen.ensures;
      place = all_from w.letters (subst (Rises 0) c.mail-mail.ensures.letters (g.met.M.Mail.rises c.mail-mail.result.now));
      going = λ f at notes s E order h k. going_first g.P.Proc.stands_for w s E h f at order c.args.tracer.now c.args.writer.now
          (g.C.Cabinet.files c.args.files.now) (g.C.Cabinet.open_name c.args.files.now) notes c.requires.few k;
      few = omega arith;
      bytes = omega arith;
      n = refl;
      is_open = refl;
      faults = refl;
      room = refl;
      reads = refl;
      absents = refl;
    }

pub lost-requires-clause-sender : goal.lost-requires-clause-sender
lost-requires-clause-sender g c =
    let w = c.args.world.now in
    let l = c.in-Some.letter.now in
    let z = looked w.letters (g.M.Mail.letters c.mail-mail.result.now) c.loop-letter.from c.loop-letter.invariant.gone c.loop-letter.invariant.rest l c.mail-mail.ensures.letters c.loop-letter.invariant.place c.in-Some.ensures in
    let st = c.requires.stands in
    omega (arith, left_sender g.P.Proc.stands_for w st.0 st.1 st.2 l z.in_it, c.loop-letter.invariant.n, c.requires.n)

pub returns-in_err-lost-clause-cut : goal.returns-in_err-lost-clause-cut
returns-in_err-lost-clause-cut g c =
    let p = err_from_is_err_and c.from_residual.result c.from_residual.ensures.1 in
    rw (p.1) (λ f at notes s E order h k.
    let w = c.args.world.now in
    let l = c.in-Some.letter.now in
    let stands = g.P.Proc.stands_for in
    let z = looked w.letters (g.M.Mail.letters c.mail-mail.result.now) c.loop-letter.from c.loop-letter.invariant.gone c.loop-letter.invariant.rest l c.mail-mail.ensures.letters c.loop-letter.invariant.place c.in-Some.ensures in
    let logged = left_logged stands w s E h g.P.Proc.name_of c.args.tracer.now c.requires.order c.requires.few c.loop-letter.from c.loop-letter.invariant.gone l z.more z.place c.loop-letter.seen.of c.loop-letter.invariant.seen
    c.see-first.result c.is_lost.result c.see-first.ensures.first k.tracer c.is_lost.ensures in
    let files = g.C.Cabinet.files c.loop-letter.files in
    let opened = g.C.Cabinet.open_name c.loop-letter.files in
    let going = subst (IsGoing f at c.loop-letter.writer files opened notes c.loop-letter.lost E) z.is (c.loop-letter.invariant.going f at notes s E order h k) in
    cut_in_lost stands w s E h f at order c.loop-letter.writer files opened notes c.loop-letter.lost l z.more z.in_it going (logged.0 c.if-is_lost.true)
    (g.C.Cabinet.files c.lost.new.files) c.in_err-lost.ensures.err)

pub returns-in_err-lost-clause-sure : goal.returns-in_err-lost-clause-sure
returns-in_err-lost-clause-sure g c f at notes room s E order h k size told sure fits =
    let w = c.args.world.now in
    let l = c.in-Some.letter.now in
    let stands = g.P.Proc.stands_for in
    let z = looked w.letters (g.M.Mail.letters c.mail-mail.result.now) c.loop-letter.from c.loop-letter.invariant.gone c.loop-letter.invariant.rest l c.mail-mail.ensures.letters c.loop-letter.invariant.place c.in-Some.ensures in
    let logged = left_logged stands w s E h g.P.Proc.name_of c.args.tracer.now c.requires.order c.requires.few c.loop-letter.from c.loop-letter.invariant.gone l z.more z.place c.loop-letter.seen.of c.loop-letter.invariant.seen
    c.see-first.result c.is_lost.result c.see-first.ensures.first k.tracer c.is_lost.ensures in
    let files = g.C.Cabinet.files c.loop-letter.files in
    let opened = g.C.Cabinet.open_name c.loop-letter.files in
    let going = subst (IsGoing f at c.loop-letter.writer files opened notes c.loop-letter.lost E) z.is (c.loop-letter.invariant.going f at notes s E order h k) in
    let few = going_size stands w s E h f at order c.loop-letter.writer files opened notes c.loop-letter.lost l z.more z.in_it going c.requires.few (logged.0 c.if-is_lost.true) in
    let bytes = front (content_in f going.list going.written) in
    let here = held_file at files opened bytes going.held (held_told at files opened bytes going.held told) in
    let room_is = c.loop-letter.invariant.room ∙ sure in
    let ok = c.in_err-lost.ensures.sure (room_for (g.C.Cabinet.sure_room c.loop-letter.files) (file_in files opened) bytes (lost_entry l.id) room room_is here
    (omega (arith, going.writes.size, c.loop-letter.invariant.bytes, size, fits, few))) in
    absurd (false≢true ok)

pub overflow_add-from : goal.overflow_add-from
overflow_add-from g c =
    let w = c.args.world.now in
    let l = c.in-Some.letter.now in
    let z = looked w.letters (g.M.Mail.letters c.mail-mail.result.now) c.loop-letter.from c.loop-letter.invariant.gone c.loop-letter.invariant.rest l c.mail-mail.ensures.letters c.loop-letter.invariant.place c.in-Some.ensures in
    omega (arith, (from_fits w.letters c.loop-letter.from c.loop-letter.invariant.gone l z.more z.place).1)

pub loop-letter-smaller : goal.loop-letter-smaller
loop-letter-smaller g c =
    let w = c.args.world.now in
    let l = c.in-Some.letter.now in
    let z = looked w.letters (g.M.Mail.letters c.mail-mail.result.now) c.loop-letter.from c.loop-letter.invariant.gone c.loop-letter.invariant.rest l c.mail-mail.ensures.letters c.loop-letter.invariant.place c.in-Some.ensures in
    let fits = from_fits w.letters c.loop-letter.from c.loop-letter.invariant.gone l z.more z.place in
    omega (arith, fits.0, fits.1)

pub loop-letter-preserved : goal.loop-letter-preserved
loop-letter-preserved g c =
    let w = c.args.world.now in
    let l = c.in-Some.letter.now in
    let stands = g.P.Proc.stands_for in
    let z = looked w.letters (g.M.Mail.letters c.mail-mail.result.now) c.loop-letter.from c.loop-letter.invariant.gone c.loop-letter.invariant.rest l c.mail-mail.ensures.letters c.loop-letter.invariant.place c.in-Some.ensures in
    let i = c.loop-letter.invariant in
    let place = next_from w.letters c.loop-letter.from i.gone l z.more z.place in
    let files = g.C.Cabinet.files c.loop-letter.files in
    let opened = g.C.Cabinet.open_name c.loop-letter.files in
    elim c.if-is_lost.branch [
      | then-is_lost+in_ok-lost v ↦ rw (v.writer-is, v.files-is, v.lost-is) (record {
        gone = i.gone ++ l ∷ [];
        rest = z.more;
        place = place;
        seen = c.see-first.ensures.seen i.gone i.seen;
        going = λ f at notes s E order h k.
            let logged = left_logged stands w s E h g.P.Proc.name_of c.args.tracer.now c.requires.order c.requires.few c.loop-letter.from c.loop-letter.invariant.gone l z.more z.place c.loop-letter.seen.of c.loop-letter.invariant.seen
            c.see-first.result c.is_lost.result c.see-first.ensures.first k.tracer c.is_lost.ensures in
            let going = subst (IsGoing f at c.loop-letter.writer files opened notes c.loop-letter.lost E) z.is (i.going f at notes s E order h k) in
            going_on stands w s E h f at order c.loop-letter.writer files opened notes c.loop-letter.lost l z.more z.in_it going (logged.0 v.if-is_lost.true)
            v.lost.new.self (g.C.Cabinet.files v.lost.new.files) (g.C.Cabinet.open_name v.lost.new.files) v.in_ok-lost.ensures.front v.in_ok-lost.ensures.ok v.lost.ensures.same_name;
        few = omega (arith, i.few, ap length z.is);
        bytes = omega (arith, i.bytes, v.in_ok-lost.ensures.size);
        n = v.lost.ensures.n ∙ i.n;
        is_open = v.lost.ensures.same_open ∙ i.is_open;
        faults = v.in_ok-lost.ensures.failed.still ∙ i.faults;
        room = v.lost.ensures.same_room ∙ i.room;
        reads = v.lost.ensures.same_reads ∙ i.reads;
        absents = v.lost.ensures.same_absents ∙ i.absents;
      })
      | else-is_lost v ↦ rw (v.writer-is, v.files-is, v.lost-is) (record {
        gone = i.gone ++ l ∷ [];
        rest = z.more;
        place = place;
        seen = c.see-first.ensures.seen i.gone i.seen;
        going = λ f at notes s E order h k.
            let logged = left_logged stands w s E h g.P.Proc.name_of c.args.tracer.now c.requires.order c.requires.few c.loop-letter.from c.loop-letter.invariant.gone l z.more z.place c.loop-letter.seen.of c.loop-letter.invariant.seen
            c.see-first.result c.is_lost.result c.see-first.ensures.first k.tracer c.is_lost.ensures in
            let going = subst (IsGoing f at c.loop-letter.writer files opened notes c.loop-letter.lost E) z.is (i.going f at notes s E order h k) in
            going_past stands w s E h f at order c.loop-letter.writer files opened notes c.loop-letter.lost l z.more z.in_it going
            (λ is. false≢true (sym v.if-is_lost.false ∙ logged.1 is));
        few = omega (arith, i.few, ap length z.is);
        bytes = i.bytes;
        n = i.n;
        is_open = i.is_open;
        faults = i.faults;
        room = i.room;
        reads = i.reads;
        absents = i.absents;
      })
    ]

pub returns-clause-written : goal.returns-clause-written
returns-clause-written g c f at notes s E order h k =
    let w = c.args.world.now in
    let i = c.loop-letter.invariant in
    going_last g.P.Proc.stands_for w s E h f at order c.loop-letter.writer (g.C.Cabinet.files c.loop-letter.files) (g.C.Cabinet.open_name c.loop-letter.files) notes c.loop-letter.lost i.rest
    (found_nothing w.letters (g.M.Mail.letters c.mail-mail.result.now) c.loop-letter.from i.gone i.rest c.mail-mail.ensures.letters i.place c.in_default.ensures)
    (i.going f at notes s E order h k)
