use Rattle.std.proofs.Common.{IfSome, List, ℕ, map, subst}
use Rattle.std.specs.Prelude.{Some, []}
use Rattle.debugger.specs.Sessions.{first_session}
use Rattle.nm_top.specs.Debugging.{HasTaken, Talked}
use Rattle.nm_top.proofs.DebugLaws.{debug_nothing, debug_told}
use Rattle.nm_top.proofs.debug.debug_code.Goals as goal

pub returns-in_default-clause-tells : goal.returns-in_default-clause-tells
returns-in_default-clause-tells g c = λ p compiled. debug_nothing p c.args.trace.now _ _ _ _

pub returns-clause-tells : goal.returns-clause-tells
returns-clause-tells g c = λ p compiled.
    let stands = c.in-Ok.ensures.begins p compiled in
    let watch = map g.W.Watcher.watched c.args.watch.now.items in
    let told = map g.W.Watcher.watched c.talk-end.new.watch.items in
    let rest = g.I.Source.left c.talk-end.new.input in
    let before = g.O.Sink.given c.args.out.now in
    let mid = g.O.Sink.given c.talk-end.new.out in
    debug_told p c.args.trace.now (g.I.Source.left c.args.input.now) watch told c.talk-end.new.session before mid _ c.talk-end.result rest
    (subst (λ t. IfSome (g.I.Source.left c.args.input.now)
    (λ bytes. Talked p t first_session watch bytes rest c.talk-end.new.session told before mid c.talk-end.result))
    c.in-Ok.ensures.trace (c.talk-end.ensures.told p first_session stands))
    (subst (λ t. (bytes : List ℕ) × Talked p t first_session watch bytes (Some []) c.talk-end.new.session told before mid c.talk-end.result)
    c.in-Ok.ensures.trace (c.talk-end.ensures.taken p first_session stands))
    _ _ _ _ _ c.tell_end.result c.talk-end.ensures.input c.talk-end.ensures.cause c.tell_end.ensures.tells

pub returns-clause-full : goal.returns-clause-full
returns-clause-full g c = λ e.
    let count = c.talk-end.ensures.count in
    subst (λ k. HasTaken k (g.I.Source.taken c.args.input.now) (g.I.Source.taken c.talk-end.new.input)) (count.3 (c.tell_end.ensures.full e)) count.2
