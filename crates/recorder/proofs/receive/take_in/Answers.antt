use Rattle.std.proofs.Common.{◌+◌, sym, subst}
use Rattle.world.proofs.Places.{ok_then, on_err}
use Rattle.recorder.specs.private.Receiving.{IsReceiveIn}
use Rattle.recorder.specs.private.Stages.{IsNoted, IsCutInNotes}
use Rattle.recorder.proofs.NoteLaws.{not_received, is_received}
use Rattle.trace_file.specs.Writing.{processes}
use Rattle.recorder.proofs.receive.take_in.Goals as goal

pub returns-in_default-clause-noted : goal.returns-in_default-clause-noted
returns-in_default-clause-noted g c f at notes E order h made =
    not_received f at c.args.tracer.now c.args.writer.now (g.C.Cabinet.files c.args.files.now) (g.C.Cabinet.open_name c.args.files.now) notes f.n E c.args.what.now
    (subst (IsReceiveIn c.args.what.now) c.in_default.is c.receive_in.ensures) order h made

pub note_receive-requires-clause-receiver : goal.note_receive-requires-clause-receiver
note_receive-requires-clause-receiver g c =
    let m = c.requires.made in
    (is_received c.args.tracer.now.mask (processes c.args.writer.now) m.0 c.args.what.now c.in-Some.receive c.in-Some.ensures m.2).receiver

pub note_receive-requires-clause-sender : goal.note_receive-requires-clause-sender
note_receive-requires-clause-sender g c =
    let m = c.requires.made in
    (is_received c.args.tracer.now.mask (processes c.args.writer.now) m.0 c.args.what.now c.in-Some.receive c.in-Some.ensures m.2).sender

pub returns-clause-noted : goal.returns-clause-noted
returns-clause-noted g c =
    ok_then c.note_receive.result
    (λ many noted f at notes E order h made.
    let k = is_received f.mask f.n E c.args.what.now c.in-Some.receive c.in-Some.ensures made in
    subst (IsNoted f at c.note_receive.new.tracer c.note_receive.new.writer (g.C.Cabinet.files c.note_receive.new.files) (g.C.Cabinet.open_name c.note_receive.new.files) (notes + many))
    (sym k.list) (noted f at notes E order h k.next))
    c.note_receive.ensures.noted

pub returns-clause-cut : goal.returns-clause-cut
returns-clause-cut g c =
    on_err c.note_receive.result
    (λ cut f at notes E order h made.
    let k = is_received f.mask f.n E c.args.what.now c.in-Some.receive c.in-Some.ensures made in
    subst (IsCutInNotes f at (g.C.Cabinet.files c.note_receive.new.files)) (sym k.list) (cut f at notes E order h k.next))
    c.note_receive.ensures.cut
