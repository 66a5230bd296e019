use Rattle.std.proofs.Common.{ℕ, ◌<◌, take, sym, ◌∙◌, subst, arith}
use Rattle.std.proofs.lemmas.Bool.{false≢true}
use Rattle.std.proofs.lemmas.List.{get_or-take, length-take-le}
use Rattle.std.proofs.lemmas.Result.{err_from_is_err_and}
use Rattle.nm_outside.specs.Files.{file_in}
use Rattle.event_list.specs.Runs.{Sound}
use Rattle.event_list.proofs.RunsSound.{runs_sound}
use Rattle.trace_file.specs.Bytes.{front, end_part}
use Rattle.recorder.specs.private.Stages.{content_in}
use Rattle.recorder.proofs.Contents.{front_of_lost}
use Rattle.recorder.proofs.EndLaws.{recorded_end, cut_end, end_length, counts_sum, entries_few}
use Rattle.recorder.proofs.Holding.{held_file, held_told}
use Rattle.recorder.proofs.LostLaws.{room_for}
use Rattle.recorder.proofs.ending.write_end.Goals as goal

pub returns-in_err-lost-clause-cut : goal.returns-in_err-lost-clause-cut
returns-in_err-lost-clause-cut g c =
    let p = err_from_is_err_and c.from_residual.result c.from_residual.ensures.1 in
    rw (p.1) (λ f at notes s E mask n h k.
    front_of_lost f at (g.C.Cabinet.files c.write_lost.new.files) E (λ e d. omega (arith, n, h.below e d)) (c.in_err-lost.ensures.cut f at notes s E mask h k))

pub returns-in_err-lost-clause-sure : goal.returns-in_err-lost-clause-sure
returns-in_err-lost-clause-sure g c f at notes room s E mask n h k bytes told sure fits =
    absurd (false≢true (c.in_err-lost.ensures.sure f at notes room s E mask h k bytes told sure (omega (arith, fits))))

pub close-requires-clause-small : goal.close-requires-clause-small
close-requires-clause-small g c = omega (arith, c.in_ok-lost.ensures.size, c.in_ok-lost.ensures.few, c.requires.small)

pub close-requires-clause-counts : goal.close-requires-clause-counts
close-requires-clause-counts g c =
    let st = c.requires.stands in
    let all = c.counts_of-counts.result in
    let long = length-take-le c.n.result all (omega (arith, c.n.ensures, c.requires.few, c.counts_of-counts.ensures.size)) in
    let values = λ (p : ℕ) (l : p < c.n.result). get_or-take c.n.result all p 0 l ∙ c.counts_of-counts.ensures.counts st.0 st.1 st.2 p (omega (arith, l, c.n.ensures)) in
    record {
      each = long ∙ c.n.ensures ∙ sym (c.write_lost.ensures.same_n ∙ c.requires.n);
      sum = omega (arith, counts_sum (take c.n.result all) c.n.result st.1 long values (λ e d. omega (arith, c.n.ensures, st.2.below e d)), st.2.events, c.requires.events);
    }

pub returns-in_err-bytes-clause-cut : goal.returns-in_err-bytes-clause-cut
returns-in_err-bytes-clause-cut g c =
    let p = err_from_is_err_and c.from_residual-in_err-bytes.result c.from_residual-in_err-bytes.ensures.1 in
    rw (p.1) (λ f at notes s E mask n h k.
    let v = c.in_ok-lost.ensures.written f at notes s E mask h k in
    let all = c.counts_of-counts.result in
    let long = length-take-le c.n.result all (omega (arith, c.n.ensures, c.requires.few, c.counts_of-counts.ensures.size)) in
    cut_end f at c.write_lost.new.writer (g.C.Cabinet.files c.write_lost.new.files) (g.C.Cabinet.open_name c.write_lost.new.files) notes c.in_ok-lost.lost E v
    (λ e d. omega (arith, n, h.below e d)) (take c.n.result all) (long ∙ c.n.ensures ∙ n)
    (λ p l. get_or-take c.n.result all p 0 (omega (arith, l, n, c.n.ensures)) ∙ c.counts_of-counts.ensures.counts s E h p (omega (arith, l, n)))
    (g.C.Cabinet.files c.close.new.files) c.in_err-bytes.ensures.err)

pub returns-in_err-bytes-clause-sure : goal.returns-in_err-bytes-clause-sure
returns-in_err-bytes-clause-sure g c f at notes room s E mask n h k bytes told sure fits =
    let v = c.in_ok-lost.ensures.written f at notes s E mask h k in
    let all = c.counts_of-counts.result in
    let counts = take c.n.result all in
    let long = length-take-le c.n.result all (omega (arith, c.n.ensures, c.requires.few, c.counts_of-counts.ensures.size)) in
    let files = g.C.Cabinet.files c.write_lost.new.files in
    let opened = g.C.Cabinet.open_name c.write_lost.new.files in
    let b = front (content_in f v.list v.names) in
    let here = held_file at files opened b v.held (held_told at files opened b v.held told) in
    let sound = subst (λ m. Sound m E) mask (runs_sound s h.lawful h.run) in
    let few = entries_few f.mask E sound (λ e d. omega (arith, c.requires.few, h.below e d)) v.list v.names v.are_notes v.are_lost in
    absurd (false≢true (c.in_err-bytes.ensures.sure b v.writes (room_for (g.C.Cabinet.sure_room c.write_lost.new.files) (file_in files opened) b (end_part b counts) room
    (c.write_lost.ensures.same_room ∙ sure) here
    (omega (arith, v.writes.size, c.in_ok-lost.ensures.size, v.notes_count, v.lost_count, few, bytes, fits, end_length b counts, long, c.n.ensures, c.requires.few)))))

pub returns-clause-recorded : goal.returns-clause-recorded
returns-clause-recorded g c = λ f at notes s E mask n h k.
    let v = c.in_ok-lost.ensures.written f at notes s E mask h k in
    let all = c.counts_of-counts.result in
    let long = length-take-le c.n.result all (omega (arith, c.n.ensures, c.requires.few, c.counts_of-counts.ensures.size)) in
    recorded_end f at c.write_lost.new.writer (g.C.Cabinet.files c.write_lost.new.files) (g.C.Cabinet.open_name c.write_lost.new.files) notes c.in_ok-lost.lost E v
    (λ e d. omega (arith, n, h.below e d)) (take c.n.result all) (long ∙ c.n.ensures ∙ n)
    (λ p l. get_or-take c.n.result all p 0 (omega (arith, l, n, c.n.ensures)) ∙ c.counts_of-counts.ensures.counts s E h p (omega (arith, l, n)))
    (g.C.Cabinet.files c.close.new.files) c.in_ok-bytes.bytes c.in_ok-bytes.ensures.ok c.in_ok-bytes.ensures.size
