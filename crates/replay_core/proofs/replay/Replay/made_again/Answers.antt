use Rattle.std.proofs.Common.{◌≡◌, take, sym, ap, ◌∙◌, arith, refl, subst}
use Rattle.std.specs.Prelude.{slice_get}
use Rattle.event_list.specs.Events.{count, messages}
use Rattle.replay_core.specs.Replaying.{IsReplayOf}
use Rattle.replay_core.specs.Backwards.{GoesBack, with_world}
use Rattle.replay_core.proofs.BackLaws.{made_room, made_process, made_next}
use Rattle.replay_core.proofs.replay.Replay.made_again.Goals as goal

pub loop-i-init : goal.loop-i-init
loop-i-init g c = record {
  fronts = λ s T R way.
      subst (λ k. IsReplayOf g.P.Proc.stands_for (with_world c.args.self.now c.args.from k) s T (take k R)) (sym c.events-made.ensures) way.front;
  origins = refl;
}

pub turn-requires-clause-process : goal.turn-requires-clause-process
turn-requires-clause-process g c =
    let k = c.requires.way in
    let now = c.loop-i.invariant.fronts k.scripts k.trace k.run k.way in
    let at = ap (λ v. slice_get v.events c.loop-i.i) (sym c.self.view_is) ∙ c.at.ensures.event in
    made_process g.P.Proc.stands_for c.args.self.now k.scripts k.trace k.run k.way.replays c.loop-i.world c.loop-i.i now _ at

pub turn-requires-clause-room : goal.turn-requires-clause-room
turn-requires-clause-room g c x at goes =
    let k = c.requires.way in
    let now = c.loop-i.invariant.fronts k.scripts k.trace k.run k.way in
    let p = c.at.result.now.proc.no in
    let told = g.met.P.Proc.counts x (k.scripts p) (messages (take c.loop-i.i k.run) p) (count (take c.loop-i.i k.run) p) (now.world.stands p x at) in
    made_room g.P.Proc.stands_for c.args.self.now k.scripts k.trace k.run k.way.replays c.loop-i.world c.loop-i.i now _ (ap (λ v. v.gate) c.self.view_is) p (g.P.Proc.count_of x) told goes

pub loop-i-preserved : goal.loop-i-preserved
loop-i-preserved g c = record {
  fronts = λ s T R way.
      let now = c.loop-i.invariant.fronts s T R way in
      let at = ap (λ v. slice_get v.events c.loop-i.i) (sym c.self.view_is) ∙ c.at.ensures.event in
      made_next g.P.Proc.stands_for c.args.self.now s T R way.replays c.loop-i.world c.loop-i.i now way.picked c.turn.new.self _ at _ (ap (λ v. v.gate) c.self.view_is)
      c.in_ok-turn.field-0 (c.in_ok-turn.ensures.turned s (take c.loop-i.i R) now.world) c.in_ok-turn.ensures.mask c.in_ok-turn.ensures.size;
  origins = c.in_ok-turn.ensures.origins ∙ c.loop-i.invariant.origins;
}

pub returns-clause-made : goal.returns-clause-made
returns-clause-made g c =
    let all : c.loop-i.i ≡ c.args.to = omega (arith, c.loop-i-test.false, c.loop-i.auto.i-end, c.requires.reached, c.events-made.ensures) in
    subst (λ k. GoesBack g.P.Proc.stands_for c.args.self.now c.args.from (with_world c.args.self.now c.loop-i.world k) k) all c.loop-i.invariant.fronts

pub returns-clause-origins : goal.returns-clause-origins
returns-clause-origins g c = c.loop-i.invariant.origins
