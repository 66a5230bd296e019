use Rattle.std.proofs.Common.{length, [], Some, refl, ap, ◌∙◌, inr, arith}
use Rattle.std.specs.Prelude.{map}
use Rattle.std.proofs.lemmas.Bool.{false≢true}
use Rattle.processes.specs.Seats.{process_in}
use Rattle.trace_file.specs.declared.writer.TraceWriter.{TraceWriter}
use Rattle.trace_file.specs.Bytes.{header_part}
use Rattle.world.proofs.Places.{map_length}
use Rattle.world.proofs.Turning.{some_scripts}
use Rattle.recorder.specs.Recording.{Form}
use Rattle.recorder.specs.Outcomes.{run_of_first, turns_made}
use Rattle.recorder.specs.private.Stages.{Place}
use Rattle.recorder.proofs.LostLaws.{room_for}
use Rattle.recorder.proofs.RecordLaws.{small_end, made_within, cut_at_end}
use Rattle.recorder.proofs.RunLaws.{cut_off}
use Rattle.recorder.proofs.StartLaws.{noted_begun, cut_begun, failed_not, header_few, header_len_few}
use Rattle.recorder.proofs.TurnLaws.{first_length}
use Rattle.recorder.proofs.recording.record_run.Goals as goal

pub returns-in-Err-Failed-clause-cut : goal.returns-in-Err-Failed-clause-cut
returns-in-Err-Failed-clause-cut g c _ =
    let f : Form = record { version = c.args.version; mask = c.args.mask; n = length c.args.seats.items; digest = c.args.digest.now } in
    let at : Place = record { start = g.C.Cabinet.files c.args.files.now; name = c.args.name.now } in
    cut_begun f at (g.C.Cabinet.files c.begin.new.files) c.args.schedule.now c.len-n.result (c.len-n.ensures ∙ c.args.seats.ok.0) c.in-Err-Failed.ensures.err

pub returns-in-Err-Failed-clause-sure : goal.returns-in-Err-Failed-clause-sure
returns-in-Err-Failed-clause-sure g c room told sure fits =
    failed_not TraceWriter c.in-Err-Failed.field-0 c.in-Err-Failed.field-0-is (c.in-Err-Failed.ensures.sure told (room_for (g.C.Cabinet.sure_room c.args.files.now) (Some []) [] (header_part c.args.version c.args.mask c.len-n.result c.args.digest.now) room sure refl
    (omega (arith, fits, header_few c.args.version c.args.mask c.len-n.result c.args.digest.now c.told-digest))))

pub record_turns-requires-clause-begun : goal.record_turns-requires-clause-begun
record_turns-requires-clause-begun g c =
    let f : Form = record { version = c.args.version; mask = c.args.mask; n = length c.args.seats.items; digest = c.args.digest.now } in
    let at : Place = record { start = g.C.Cabinet.files c.args.files.now; name = c.args.name.now } in
    let mask = c.in-Ok.ensures.mask in
    let size = ap length c.in-Ok.ensures.processes ∙ map_length process_in c.args.seats.items in
    let noted = noted_begun f at (g.C.Cabinet.files c.begin.new.files) c.in-Ok-new.tracer c.in-Ok-begin.writer (g.C.Cabinet.open_name c.begin.new.files) c.len-n.result
    (c.len-n.ensures ∙ c.args.seats.ok.0) c.in-Ok-new.ensures.begins c.in-Ok-begin.ensures.front c.in-Ok-begin.ensures.ok c.in-Ok-begin.ensures.name in
    let st = some_scripts g.P.Proc.stands_for g.met.P.Proc.lawful (map process_in c.args.seats.items) c.requires.begins in
    record { form = f; at = at; scripts = st.0; mask = mask; size = size; world_is = c.in-Ok.ensures.stands st.0 st.1; noted = noted }

pub returns-in_default-record_turns-clause-cut : goal.returns-in_default-record_turns-clause-cut
returns-in_default-record_turns-clause-cut g c _ =
    let f : Form = record { version = c.args.version; mask = c.args.mask; n = length c.args.seats.items; digest = c.args.digest.now } in
    let at : Place = record { start = g.C.Cabinet.files c.args.files.now; name = c.args.name.now } in
    let mask = c.in-Ok.ensures.mask in
    let size = ap length c.in-Ok.ensures.processes ∙ map_length process_in c.args.seats.items in
    let noted = noted_begun f at (g.C.Cabinet.files c.begin.new.files) c.in-Ok-new.tracer c.in-Ok-begin.writer (g.C.Cabinet.open_name c.begin.new.files) c.len-n.result
    (c.len-n.ensures ∙ c.args.seats.ok.0) c.in-Ok-new.ensures.begins c.in-Ok-begin.ensures.front c.in-Ok-begin.ensures.ok c.in-Ok-begin.ensures.name in
    inr (λ s b. cut_off s b.lawful f at (g.C.Cabinet.files c.record_turns.new.files) c.args.schedule.now c.requires.turns.below
    (c.in_default-record_turns.ensures.cut f at s mask size (c.in-Ok.ensures.stands s b) noted))

pub returns-in_default-record_turns-clause-sure : goal.returns-in_default-record_turns-clause-sure
returns-in_default-record_turns-clause-sure g c room told sure fits =
    let f : Form = record { version = c.args.version; mask = c.args.mask; n = length c.args.seats.items; digest = c.args.digest.now } in
    let at : Place = record { start = g.C.Cabinet.files c.args.files.now; name = c.args.name.now } in
    let mask = c.in-Ok.ensures.mask in
    let size = ap length c.in-Ok.ensures.processes ∙ map_length process_in c.args.seats.items in
    let noted = noted_begun f at (g.C.Cabinet.files c.begin.new.files) c.in-Ok-new.tracer c.in-Ok-begin.writer (g.C.Cabinet.open_name c.begin.new.files) c.len-n.result
    (c.len-n.ensures ∙ c.args.seats.ok.0) c.in-Ok-new.ensures.begins c.in-Ok-begin.ensures.front c.in-Ok-begin.ensures.ok c.in-Ok-begin.ensures.name in
    let st = some_scripts g.P.Proc.stands_for g.met.P.Proc.lawful (map process_in c.args.seats.items) c.requires.begins in
    absurd (false≢true (c.in_default-record_turns.ensures.sure f at st.0 room mask size (c.in-Ok.ensures.stands st.0 st.1) noted told (c.begin.ensures.same_room ∙ sure) (omega (arith, fits))))

pub write_end-requires-clause-small : goal.write_end-requires-clause-small
write_end-requires-clause-small g c =
    let f : Form = record { version = c.args.version; mask = c.args.mask; n = length c.args.seats.items; digest = c.args.digest.now } in
    let at : Place = record { start = g.C.Cabinet.files c.args.files.now; name = c.args.name.now } in
    let mask = c.in-Ok.ensures.mask in
    let size = ap length c.in-Ok.ensures.processes ∙ map_length process_in c.args.seats.items in
    let noted = noted_begun f at (g.C.Cabinet.files c.begin.new.files) c.in-Ok-new.tracer c.in-Ok-begin.writer (g.C.Cabinet.open_name c.begin.new.files) c.len-n.result
    (c.len-n.ensures ∙ c.args.seats.ok.0) c.in-Ok-new.ensures.begins c.in-Ok-begin.ensures.front c.in-Ok-begin.ensures.ok c.in-Ok-begin.ensures.name in
    let st = some_scripts g.P.Proc.stands_for g.met.P.Proc.lawful (map process_in c.args.seats.items) c.requires.begins in
    let m = c.in-Ok-record_turns.made in
    let k = c.in-Ok-record_turns.ensures.made f at st.0 mask size (c.in-Ok.ensures.stands st.0 st.1) noted in
    let many = turns_made m.stopped c.args.schedule.now in
    small_end g.P.Proc.stands_for c.record_turns.new.world st.0 f at c.record_turns.new.tracer c.record_turns.new.writer (g.C.Cabinet.files c.record_turns.new.files) (g.C.Cabinet.open_name c.record_turns.new.files) m.notes
    (run_of_first st.0 f.mask many c.args.schedule.now) (c.record_turns.ensures.mask ∙ mask) (omega (arith, c.record_turns.ensures.size, size, c.requires.few)) k
    (omega (arith, first_length st.0 f.mask many c.args.schedule.now, made_within m.stopped c.args.schedule.now c.in-Ok-record_turns.ensures.stopped, c.requires.turns.few))
    (omega (arith, c.in-Ok-record_turns.ensures.bytes, c.in-Ok-begin.ensures.size, header_len_few c.args.version))

pub returns-in_default-write_end-clause-cut : goal.returns-in_default-write_end-clause-cut
returns-in_default-write_end-clause-cut g c _ =
    let f : Form = record { version = c.args.version; mask = c.args.mask; n = length c.args.seats.items; digest = c.args.digest.now } in
    let at : Place = record { start = g.C.Cabinet.files c.args.files.now; name = c.args.name.now } in
    let mask = c.in-Ok.ensures.mask in
    let size = ap length c.in-Ok.ensures.processes ∙ map_length process_in c.args.seats.items in
    let noted = noted_begun f at (g.C.Cabinet.files c.begin.new.files) c.in-Ok-new.tracer c.in-Ok-begin.writer (g.C.Cabinet.open_name c.begin.new.files) c.len-n.result
    (c.len-n.ensures ∙ c.args.seats.ok.0) c.in-Ok-new.ensures.begins c.in-Ok-begin.ensures.front c.in-Ok-begin.ensures.ok c.in-Ok-begin.ensures.name in
    let m = c.in-Ok-record_turns.made in
    inr (λ s b.
    let k = c.in-Ok-record_turns.ensures.made f at s mask size (c.in-Ok.ensures.stands s b) noted in
    cut_at_end s f c.args.schedule.now at.name at.start (g.C.Cabinet.files c.write_end.new.files) m.stopped c.in-Ok-record_turns.ensures.stopped
    (c.in_default-write_end.ensures.cut f at m.notes s (run_of_first s f.mask (turns_made m.stopped c.args.schedule.now) c.args.schedule.now)
    (c.record_turns.ensures.mask ∙ mask) (c.record_turns.ensures.size ∙ size) k.world_is k.noted))

pub returns-in_default-write_end-clause-sure : goal.returns-in_default-write_end-clause-sure
returns-in_default-write_end-clause-sure g c room told sure fits =
    let f : Form = record { version = c.args.version; mask = c.args.mask; n = length c.args.seats.items; digest = c.args.digest.now } in
    let at : Place = record { start = g.C.Cabinet.files c.args.files.now; name = c.args.name.now } in
    let mask = c.in-Ok.ensures.mask in
    let size = ap length c.in-Ok.ensures.processes ∙ map_length process_in c.args.seats.items in
    let noted = noted_begun f at (g.C.Cabinet.files c.begin.new.files) c.in-Ok-new.tracer c.in-Ok-begin.writer (g.C.Cabinet.open_name c.begin.new.files) c.len-n.result
    (c.len-n.ensures ∙ c.args.seats.ok.0) c.in-Ok-new.ensures.begins c.in-Ok-begin.ensures.front c.in-Ok-begin.ensures.ok c.in-Ok-begin.ensures.name in
    let st = some_scripts g.P.Proc.stands_for g.met.P.Proc.lawful (map process_in c.args.seats.items) c.requires.begins in
    let m = c.in-Ok-record_turns.made in
    let k = c.in-Ok-record_turns.ensures.made f at st.0 mask size (c.in-Ok.ensures.stands st.0 st.1) noted in
    let many = turns_made m.stopped c.args.schedule.now in
    absurd (false≢true (c.in_default-write_end.ensures.sure f at m.notes room st.0 (run_of_first st.0 f.mask many c.args.schedule.now)
    (c.record_turns.ensures.mask ∙ mask) (c.record_turns.ensures.size ∙ size) k.world_is k.noted
    (omega (arith, c.in-Ok-record_turns.ensures.bytes, c.in-Ok-begin.ensures.size, header_len_few c.args.version)) told
    (c.record_turns.ensures.same_room ∙ c.begin.ensures.same_room ∙ sure)
    (omega (arith, fits, first_length st.0 f.mask many c.args.schedule.now, made_within m.stopped c.args.schedule.now c.in-Ok-record_turns.ensures.stopped))))

pub returns-clause-world : goal.returns-clause-world
returns-clause-world g c s b =
    let f : Form = record { version = c.args.version; mask = c.args.mask; n = length c.args.seats.items; digest = c.args.digest.now } in
    let at : Place = record { start = g.C.Cabinet.files c.args.files.now; name = c.args.name.now } in
    let mask = c.in-Ok.ensures.mask in
    let size = ap length c.in-Ok.ensures.processes ∙ map_length process_in c.args.seats.items in
    let noted = noted_begun f at (g.C.Cabinet.files c.begin.new.files) c.in-Ok-new.tracer c.in-Ok-begin.writer (g.C.Cabinet.open_name c.begin.new.files) c.len-n.result
    (c.len-n.ensures ∙ c.args.seats.ok.0) c.in-Ok-new.ensures.begins c.in-Ok-begin.ensures.front c.in-Ok-begin.ensures.ok c.in-Ok-begin.ensures.name in
    (c.in-Ok-record_turns.ensures.made f at s mask size (c.in-Ok.ensures.stands s b) noted).world_is

pub returns-clause-recorded : goal.returns-clause-recorded
returns-clause-recorded g c s b =
    let f : Form = record { version = c.args.version; mask = c.args.mask; n = length c.args.seats.items; digest = c.args.digest.now } in
    let at : Place = record { start = g.C.Cabinet.files c.args.files.now; name = c.args.name.now } in
    let mask = c.in-Ok.ensures.mask in
    let size = ap length c.in-Ok.ensures.processes ∙ map_length process_in c.args.seats.items in
    let noted = noted_begun f at (g.C.Cabinet.files c.begin.new.files) c.in-Ok-new.tracer c.in-Ok-begin.writer (g.C.Cabinet.open_name c.begin.new.files) c.len-n.result
    (c.len-n.ensures ∙ c.args.seats.ok.0) c.in-Ok-new.ensures.begins c.in-Ok-begin.ensures.front c.in-Ok-begin.ensures.ok c.in-Ok-begin.ensures.name in
    let m = c.in-Ok-record_turns.made in
    let k = c.in-Ok-record_turns.ensures.made f at s mask size (c.in-Ok.ensures.stands s b) noted in
    c.in-Ok-write_end.ensures.recorded f at m.notes s (run_of_first s f.mask (turns_made m.stopped c.args.schedule.now) c.args.schedule.now)
    (c.record_turns.ensures.mask ∙ mask) (c.record_turns.ensures.size ∙ size) k.world_is k.noted
