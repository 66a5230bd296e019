use Rattle.std.proofs.Common.{◌≡◌, ◌≤◌, ◌+◌, ◌∙◌, [], ◌++◌, length, map, refl, sym, ap, subst, inr, arith, length-append}
use Rattle.std.proofs.KnownBytes.{Consumes-nil, Consumes-trans}
use Rattle.std.proofs.lemmas.Bool.{false≢true}
use Rattle.nm_top.specs.Debugging.{is_full_end}
use Rattle.nm_top.specs.private.Talking.{Going, origin}
use Rattle.nm_top.proofs.EndFacts.{begins, going_all, going_full, took_more, took_both}
use Rattle.nm_top.proofs.talk.answer_input.Goals as goal

pub loop-taken-init : goal.loop-taken-init
loop-taken-init g c =
    let watch = map g.W.Watcher.watched c.args.watch.now.items in
    let given = g.O.Sink.given c.args.out.now in
    let x = c.args.session.now in
    record {
      few = omega arith;
      same = record { code = refl; trace = refl };
      input = refl;
      cause = refl;
      count = inr (refl, refl);
      going = λ p s stands. (
        [],
        Consumes-nil (g.I.Source.left c.args.input.now),
        refl,
        subst (λ k. Going (origin p x.trace s watch given) [] k x watch given) (sym c.new-buffer.ensures) (begins p x.trace s watch given x refl stands),
      );
    }

pub loop-taken-preserved : goal.loop-taken-preserved
loop-taken-preserved g c =
    let l = c.loop-taken in
    let inv = l.invariant in
    let e = c.in-More.ensures in
    let x = c.args.session.now in
    record {
      few = e.grows.1;
      same = record { code = e.same.code ∙ inv.same.code; trace = e.same.trace ∙ inv.same.trace };
      input = e.input.still ∙ inv.input;
      cause = e.cause.still ∙ inv.cause;
      count = took_more l.taken c.in-More.n (g.I.Source.taken c.args.input.now) (g.I.Source.taken l.input) (g.I.Source.taken c.take_piece.new.input) inv.count e.count;
      going = λ p s stands.
          let o = origin p x.trace s (map g.W.Watcher.watched c.args.watch.now.items) (g.O.Sink.given c.args.out.now) in
          let k = inv.going p s stands in
          let few : length k.0 ≤ 1048576 = omega (arith, k.2, c.loop-taken-test.true) in
          let h = e.stepped o k.0 k.2 (going_all o k.0 l.buffer l.session (map g.W.Watcher.watched l.watch.items) (g.O.Sink.given l.out) few k.3) in
          let size : length (k.0 ++ h.0) ≡ l.taken + c.in-More.n = omega (arith, length-append k.0 h.0, k.2, h.2) in (
            k.0 ++ h.0,
            Consumes-trans (g.I.Source.left c.args.input.now) (g.I.Source.left l.input) (g.I.Source.left c.take_piece.new.input) k.0 h.0 k.1 h.1,
            size,
            h.3,
          );
    }

pub returns-in-Ended-clause-finished : goal.returns-in-Ended-clause-finished
returns-in-Ended-clause-finished g c = λ p s stands.
    let l = c.loop-taken in
    let o = origin p c.args.session.now.trace s (map g.W.Watcher.watched c.args.watch.now.items) (g.O.Sink.given c.args.out.now) in
    let k = l.invariant.going p s stands in
    let few : length k.0 ≤ 1048576 = omega (arith, k.2, c.loop-taken-test.true) in
    let h = c.in-Ended.ensures.stepped o k.0 k.2 (going_all o k.0 l.buffer l.session (map g.W.Watcher.watched l.watch.items) (g.O.Sink.given l.out) few k.3) in (
      k.0 ++ h.0,
      Consumes-trans (g.I.Source.left c.args.input.now) (g.I.Source.left l.input) (g.I.Source.left c.take_piece.new.input) k.0 h.0 k.1 h.1,
      h.2,
      h.3,
    )

pub returns-in-Ended-clause-count : goal.returns-in-Ended-clause-count
returns-in-Ended-clause-count g c =
    let l = c.loop-taken in
    let k = c.in-Ended.ensures.count in (
      l.taken + k.0,
      k.1,
      took_both l.taken k.0 (g.I.Source.taken c.args.input.now) (g.I.Source.taken l.input) (g.I.Source.taken c.take_piece.new.input) l.invariant.count k.2,
      λ is. absurd (false≢true (sym c.in-Ended.ensures.full ∙ ap is_full_end is)),
    )

pub returns-clause-finished : goal.returns-clause-finished
returns-clause-finished g c = λ p s stands.
    let l = c.loop-taken in
    let o = origin p c.args.session.now.trace s (map g.W.Watcher.watched c.args.watch.now.items) (g.O.Sink.given c.args.out.now) in
    let k = l.invariant.going p s stands in
    let full : length k.0 ≡ 1048577 = omega (arith, k.2, c.loop-taken-test.false, l.invariant.few) in
    let few : length k.0 ≤ 1048577 = omega (arith, full) in (
      k.0,
      k.1,
      few,
      going_full o k.0 l.buffer l.session (map g.W.Watcher.watched l.watch.items) (g.O.Sink.given l.out) (g.I.Source.left l.input) full k.3,
    )
