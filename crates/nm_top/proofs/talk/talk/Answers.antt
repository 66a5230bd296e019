use Rattle.std.proofs.Common.{map}
use Rattle.nm_top.specs.private.Talking.{origin}
use Rattle.nm_top.proofs.ToldFacts.{told, taken_alone}
use Rattle.nm_top.proofs.talk.talk.Goals as goal

pub returns-clause-told : goal.returns-clause-told
returns-clause-told g c = λ p s stands.
    let a = c.answer_input in
    let k = a.ensures.finished p s stands in
    told (origin p c.args.session.now.trace s (map g.W.Watcher.watched c.args.watch.now.items) (g.O.Sink.given c.args.out.now)) k.0
    (g.I.Source.left c.args.input.now) (g.I.Source.left a.new.input) a.new.session (map g.W.Watcher.watched a.new.watch.items) (g.O.Sink.given a.new.out) a.result k.1 k.2 k.3

pub returns-clause-taken : goal.returns-clause-taken
returns-clause-taken g c = λ p s stands.
    let a = c.answer_input in
    let k = a.ensures.finished p s stands in (
      k.0,
      taken_alone (origin p c.args.session.now.trace s (map g.W.Watcher.watched c.args.watch.now.items) (g.O.Sink.given c.args.out.now)) k.0
          (g.I.Source.left a.new.input) a.new.session (map g.W.Watcher.watched a.new.watch.items) (g.O.Sink.given a.new.out) a.result k.2 k.3,
    )
