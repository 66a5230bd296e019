use Rattle.std.proofs.Common.{refl, sym, ◌∙◌, subst, arith}
use Rattle.std.proofs.lemmas.Bool.{false≢true}
use Rattle.std.proofs.lemmas.Result.{err_from_is_err_and}
use Rattle.trace_file.specs.Writing.{processes}
use Rattle.recorder.specs.private.Stages.{IsAfter}
use Rattle.recorder.proofs.TurnLaws.{few_events, at_start, same_now, made_here, next_now, cut_now, room_now, all_turns}
use Rattle.recorder.proofs.turns.record_turns.Goals as goal

pub turn-requires-in-loop-i-clause-room : goal.turn-requires-in-loop-i-clause-room
turn-requires-in-loop-i-clause-room g c x at lets =
    let few = few_events g.P.Proc.stands_for c.args.world.now c.args.tracer.now c.args.writer.now (g.C.Cabinet.files c.args.files.now) (g.C.Cabinet.open_name c.args.files.now) c.args.schedule.now
    c.loop-i.world c.loop-i.tracer c.loop-i.writer (g.C.Cabinet.files c.loop-i.files) (g.C.Cabinet.open_name c.loop-i.files) c.loop-i.notes c.loop-i.i c.requires.begun c.loop-i.invariant.now in
    omega (arith, few, c.loop-i-test.true, c.turns-i-end.ensures, c.requires.turns.few)

pub loop-i-init : goal.loop-i-init
loop-i-init g c = record {
  now = at_start g.P.Proc.stands_for c.args.world.now c.args.tracer.now c.args.writer.now (g.C.Cabinet.files c.args.files.now) (g.C.Cabinet.open_name c.args.files.now) c.args.schedule.now;
  mask = refl;
  size = refl;
  origins = refl;
  order = refl;
  n = refl;
  bytes = omega arith;
  few = omega arith;
  is_open = refl;
  faults = refl;
  room = refl;
  reads = refl;
  absents = refl;
}

pub returns-in_default-clause-made : goal.returns-in_default-clause-made
returns-in_default-clause-made g c =
    same_now g.P.Proc.stands_for c.args.world.now c.args.tracer.now c.args.writer.now (g.C.Cabinet.files c.args.files.now) (g.C.Cabinet.open_name c.args.files.now) c.args.schedule.now
    c.loop-i.world c.turn-in-loop-i.new.self c.loop-i.tracer c.loop-i.writer (g.C.Cabinet.files c.loop-i.files) (g.C.Cabinet.open_name c.loop-i.files) c.loop-i.notes c.loop-i.i
    c.in_default.ensures.refused c.loop-i.invariant.now

pub take_in-requires-clause-made : goal.take_in-requires-clause-made
take_in-requires-clause-made g c =
    made_here g.P.Proc.stands_for c.args.world.now c.args.tracer.now c.args.writer.now (g.C.Cabinet.files c.args.files.now) (g.C.Cabinet.open_name c.args.files.now) c.args.schedule.now
    c.loop-i.world c.turn-in-loop-i.new.self c.loop-i.tracer c.loop-i.writer (g.C.Cabinet.files c.loop-i.files) (g.C.Cabinet.open_name c.loop-i.files) c.loop-i.notes c.loop-i.i c.turn.result c.in-Ok.what
    c.loop-i.invariant.now c.turn.ensures c.in-Ok.ensures.turned c.loop-i.invariant.mask c.turn-in-loop-i.ensures.mask c.loop-i.invariant.size c.turn-in-loop-i.ensures.size c.requires.few
    c.requires.begun c.loop-i.tracer.mask (processes c.loop-i.writer) (c.loop-i.invariant.order ∙ c.requires.order ∙ sym c.loop-i.invariant.mask) (c.loop-i.invariant.n ∙ c.requires.n)

pub loop-i-preserved : goal.loop-i-preserved
loop-i-preserved g c =
    let i = c.loop-i.invariant in
    let t = c.take_in in
    record {
      now = next_now g.P.Proc.stands_for c.args.world.now c.args.tracer.now c.args.writer.now (g.C.Cabinet.files c.args.files.now) (g.C.Cabinet.open_name c.args.files.now) c.args.schedule.now
          c.loop-i.world c.turn-in-loop-i.new.self c.loop-i.tracer c.loop-i.writer (g.C.Cabinet.files c.loop-i.files) (g.C.Cabinet.open_name c.loop-i.files) c.loop-i.notes c.loop-i.i c.turn.result c.in-Ok.what
          c.loop-i.invariant.now c.turn.ensures c.in-Ok.ensures.turned c.loop-i.invariant.mask c.turn-in-loop-i.ensures.mask c.loop-i.invariant.size c.turn-in-loop-i.ensures.size c.requires.few
          t.new.tracer t.new.writer (g.C.Cabinet.files t.new.files) (g.C.Cabinet.open_name t.new.files) c.in_ok-notes.field-0 (c.loop-i.invariant.order ∙ c.requires.order ∙ sym c.loop-i.invariant.mask) c.in_ok-notes.ensures.noted;
      mask = c.turn-in-loop-i.ensures.mask ∙ i.mask;
      size = c.turn-in-loop-i.ensures.size ∙ i.size;
      origins = c.turn-in-loop-i.ensures.origins ∙ i.origins;
      order = t.ensures.order ∙ i.order;
      n = t.ensures.n ∙ i.n;
      bytes = omega (arith, i.bytes, c.in_ok-notes.ensures.size);
      few = omega (arith, i.few, c.in_ok-notes.ensures.one);
      is_open = t.ensures.still_open ∙ i.is_open;
      faults = c.in_ok-notes.ensures.failed.still ∙ i.faults;
      room = t.ensures.same_room ∙ i.room;
      reads = t.ensures.same_reads ∙ i.reads;
      absents = t.ensures.same_absents ∙ i.absents;
    }

pub returns-in_err-notes-clause-cut : goal.returns-in_err-notes-clause-cut
returns-in_err-notes-clause-cut g c =
    let p = err_from_is_err_and c.from_residual.result c.from_residual.ensures.1 in
    rw (p.1) (cut_now g.P.Proc.stands_for c.args.world.now c.args.tracer.now c.args.writer.now (g.C.Cabinet.files c.args.files.now) (g.C.Cabinet.open_name c.args.files.now) c.args.schedule.now
    c.loop-i.world c.turn-in-loop-i.new.self c.loop-i.tracer c.loop-i.writer (g.C.Cabinet.files c.loop-i.files) (g.C.Cabinet.open_name c.loop-i.files) c.loop-i.notes c.loop-i.i c.turn.result c.in-Ok.what
    c.loop-i.invariant.now c.turn.ensures c.in-Ok.ensures.turned c.loop-i.invariant.mask c.turn-in-loop-i.ensures.mask c.loop-i.invariant.size c.turn-in-loop-i.ensures.size c.requires.few
    (g.C.Cabinet.files c.take_in.new.files) (c.loop-i.invariant.order ∙ c.requires.order ∙ sym c.loop-i.invariant.mask) c.requires.turns.below c.in_err-notes.ensures.cut)

pub returns-in_err-notes-clause-sure : goal.returns-in_err-notes-clause-sure
returns-in_err-notes-clause-sure g c f at s room mask n h h0 told sure fits =
    let i = c.loop-i.invariant in
    let k = room_now g.P.Proc.stands_for c.args.world.now c.args.tracer.now c.args.writer.now (g.C.Cabinet.files c.args.files.now) (g.C.Cabinet.open_name c.args.files.now) c.args.schedule.now
    c.loop-i.world c.loop-i.tracer c.loop-i.writer (g.C.Cabinet.files c.loop-i.files) (g.C.Cabinet.open_name c.loop-i.files) c.loop-i.notes c.loop-i.i i.now
    i.size c.requires.few (omega (arith, c.loop-i-test.true, c.turns-i-end.ensures)) (omega (arith, i.bytes, c.requires.small)) f at s room mask n h h0 told fits in
    absurd (false≢true (c.in_err-notes.ensures.sure k.0 room (i.room ∙ sure) k.1 k.2))

pub returns-clause-made : goal.returns-clause-made
returns-clause-made g c f at s mask n h h0 =
    subst (λ E. IsAfter g.P.Proc.stands_for c.loop-i.world s f at c.loop-i.tracer c.loop-i.writer (g.C.Cabinet.files c.loop-i.files) (g.C.Cabinet.open_name c.loop-i.files) c.loop-i.notes E)
    (all_turns s f.mask c.args.schedule.now c.loop-i.i (omega (arith, c.loop-i-test.false, c.turns-i-end.ensures, c.loop-i.auto.i-end)))
    (c.loop-i.invariant.now f at s mask n h h0)
