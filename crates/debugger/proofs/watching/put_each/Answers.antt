use Rattle.std.proofs.Common.{rules, ◌≡◌, ◌<◌, length, refl, sym, ◌∙◌, arith}
use Rattle.std.specs.Prelude.{map}
use Rattle.std.proofs.lemmas.Option.{slice_get_read}
use Rattle.std.proofs.lemmas.List.{length-map}
use Rattle.report.proofs.Pieces.{prints_nothing}
use Rattle.report.proofs.Ranges.{one_more, one_failed, blocks_to}
use Rattle.debugger.proofs.Replying.{same_text}
use Rattle.debugger.proofs.WatchFacts.{said_at, said_there, lines_by_place}
use Rattle.debugger.proofs.watching.put_each.Goals as goal

pub loop-k-init : goal.loop-k-init
loop-k-init g c = prints_nothing _ _

pub loop-k-preserved : goal.loop-k-preserved
loop-k-preserved g c =
    let items = c.args.watch.now.items in
    let lt : c.loop-k.k < length c.args.watch.now.items = search rules in
    let at = slice_get_read items (length items) c.loop-k.k _ refl lt c.index.ensures in
    one_more _ _ _ _ _ _ (said_at (map g.W.Watcher.watched items))
    c.loop-k.k c.loop-k.invariant c.put_said.result c.in_ok-put_said.was
    (same_text _ _ (said_there g.W.Watcher.watched items c.loop-k.k _ at) c.put_said.ensures)

pub returns-in_err-put_said : goal.returns-in_err-put_said
returns-in_err-put_said g c =
    let items = c.args.watch.now.items in
    let lt : c.loop-k.k < length c.args.watch.now.items = search rules in
    let at = slice_get_read items (length items) c.loop-k.k _ refl lt c.index.ensures in
    let many = length-map items g.W.Watcher.watched in
    same_text _ _ (lines_by_place (map g.W.Watcher.watched items))
    (one_failed _ _ _ _ _ _ (said_at (map g.W.Watcher.watched items))
    c.loop-k.k c.loop-k.invariant (length (map g.W.Watcher.watched items))
    (omega (arith, lt, many)) c.put_said.result c.from_residual.result c.in_err-put_said.field-0.0 c.in_err-put_said.was
    c.from_residual.ensures.0
    (same_text _ _ (said_there g.W.Watcher.watched items c.loop-k.k _ at) c.put_said.ensures))

pub returns : goal.returns
returns g c =
    let items = c.args.watch.now.items in
    let all : c.loop-k.k ≡ length c.args.watch.now.items = search rules in
    let many = length-map items g.W.Watcher.watched in
    same_text _ _ (lines_by_place (map g.W.Watcher.watched items))
    (blocks_to _ _ _ _ (said_at (map g.W.Watcher.watched items))
    c.loop-k.k (length (map g.W.Watcher.watched items)) (all ∙ sym many)
    c.loop-k.invariant)
