use Rattle.std.proofs.Common.{rules, ◌<◌, ◌≤◌, ◌+◌, arith, refl, sym, ap, ◌∙◌, subst, length}
use Rattle.std.specs.Prelude.{map}
use Rattle.std.proofs.lemmas.List.{length-map}
use Rattle.watchers.specs.Watched.{told}
use Rattle.watchers.specs.private.Telling.{IsTelling}
use Rattle.watchers.proofs.Tellings as tellings
use Rattle.watchers.proofs.telling.tell.Goals as goal

pub loop-i-init : goal.loop-i-init
loop-i-init g c = (tellings.begun _, omega arith)

pub loop-i-preserved-then-tell_one : goal.loop-i-preserved-then-tell_one
loop-i-preserved-then-tell_one g c =
    let lt : c.loop-i.i < length c.loop-i.list.items = search rules in
    let noted =
    c.if-tell_one.ensures.noted refl
    ∙ ap (λ b. told (g.W.Watcher.watched b) c.args.e.now)
    c.index_mut.ensures.value in (
      tellings.one_noted g.W.Watcher.watched
          c.loop-i.list.items c.index_mut.result.now c.tell_one.new.w c.loop-i.invariant.0 lt noted,
      c.loop-i.invariant.1,
    )

pub loop-i-preserved : goal.loop-i-preserved
loop-i-preserved g c =
    let lt : c.loop-i.i < length c.loop-i.list.items = search rules in
    let same =
    c.if-tell_one.ensures.lacked refl
    ∙ ap g.W.Watcher.watched c.index_mut.ensures.value in
    let loose =
    ap (λ b. (g.W.Watcher.watched b).kind.steady)
    (sym c.index_mut.ensures.value)
    ∙ c.if-tell_one.ensures.steady refl in
    let told =
    tellings.one_lacked g.W.Watcher.watched
    c.loop-i.list.items c.index_mut.result.now c.tell_one.new.w c.loop-i.invariant.0 lt same loose in (
      subst (λ items.
          IsTelling c.args.e.now
          (map g.W.Watcher.watched c.args.list.now.items)
          (map g.W.Watcher.watched items) c.loop-i.i (c.loop-i.dropped + 1))
          (sym c.remove.ensures.items) told,
      omega (arith, c.loop-i.invariant.1, c.remove.ensures.len),
    )

pub returns : goal.returns
returns g c =
    let le : length c.loop-i.list.items ≤ c.loop-i.i = search rules in
    tellings.ended c.loop-i.invariant.0 (search (rules, length-map))
