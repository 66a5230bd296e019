use Rattle.std.proofs.Common.{rules, ◌<◌, ◌≤◌, length, refl, sym, ◌∙◌}
use Rattle.std.proofs.lemmas.Option.{slice_get_read}
use Rattle.debugger.proofs.Running.{none_yet, none_more, passed_at, passed_nowhere}
use Rattle.debugger.proofs.watching.first_stop.Goals as goal

pub loop-k-init : goal.loop-k-init
loop-k-init g c = none_yet _ c.args.watch.now.items

pub loop-k-preserved : goal.loop-k-preserved
loop-k-preserved g c =
    let items = c.args.watch.now.items in
    let lt : c.loop-k.k < length c.args.watch.now.items = search rules in
    none_more _ items c.loop-k.k c.index.result.now (slice_get_read items (length items) c.loop-k.k _ refl lt c.index.ensures)
    (sym c.stops.ensures ∙ c.if-stops.false) c.loop-k.invariant

pub returns-then-stops : goal.returns-then-stops
returns-then-stops g c =
    let items = c.args.watch.now.items in
    let lt : c.loop-k.k < length c.args.watch.now.items = search rules in
    passed_at _ items c.loop-k.k c.index.result.now (slice_get_read items (length items) c.loop-k.k _ refl lt c.index.ensures)
    (sym c.stops.ensures ∙ c.if-stops.true) c.loop-k.invariant

pub returns : goal.returns
returns g c =
    let all : length c.args.watch.now.items ≤ c.loop-k.k = search rules in
    passed_nowhere _ c.args.watch.now.items c.loop-k.k all c.loop-k.invariant
