use Rattle.std.proofs.Common.{ap, ◌∙◌}
use Rattle.std.specs.Prelude.{map}
use Rattle.watchers.proofs.Tellings.{map_remove}
use Rattle.watchers.proofs.telling.detach.Goals as goal

pub returns-clause-detached : goal.returns-clause-detached
returns-clause-detached g c is =
    ap (map g.W.Watcher.watched) c.remove.ensures.items
    ∙ map_remove g.W.Watcher.watched c.args.list.now.items c.args.k
