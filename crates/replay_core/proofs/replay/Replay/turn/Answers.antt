use Rattle.std.proofs.Common.{length, refl, sym, ap, ◌∙◌, subst, arith}
use Rattle.event_list.specs.Events.{count, messages}
use Rattle.event_list.specs.Turns.{after}
use Rattle.world.specs.Outcomes.{outcome}
use Rattle.replay_core.specs.Replaying.{IsReplayOf}
use Rattle.replay_core.proofs.ReplayLaws.{goes_room, turn_is, came_room, gone}
use Rattle.replay_core.proofs.replay.Replay.turn.Goals as goal

pub turn-requires-clause-room : goal.turn-requires-clause-room
turn-requires-clause-room g c x at goes =
    let k = c.self.invariant in
    let p = c.args.t.proc.no in
    let told = g.met.P.Proc.counts x (k.0 p) (messages k.2 p) (count k.2 p) (k.3.world.stands p x at) in
    goes_room g.P.Proc.stands_for _ k.0 k.1 k.2 k.3 p (g.P.Proc.count_of x) told goes

pub keep-requires-clause-room : goal.keep-requires-clause-room
keep-requires-clause-room g c e went =
    let k = c.self.invariant in
    let turned = c.in_ok-turned.ensures.turned k.0 k.2 k.3.world in
    let is = turn_is g.P.Proc.stands_for _ k.0 k.1 k.2 k.3 _ _ _ turned in
    omega (arith, came_room g.P.Proc.stands_for _ k.0 k.1 k.2 k.3 _ _ e is went, ap length c.in_ok-reserve.ensures.same)

pub invariant_of-self-2 : goal.invariant_of-self-2
invariant_of-self-2 g c =
    let k = c.self.invariant in
    let what = outcome c.in_ok-turned.turned in
    let turned = c.in_ok-turned.ensures.turned k.0 k.2 k.3.world in
    let events = c.keep.ensures ∙ ap (λ E. after E what) c.in_ok-reserve.ensures.same in
    (k.0, k.1, after k.2 what, (gone g.P.Proc.stands_for _ k.0 k.1 k.2 k.3 _ _ _ turned refl events c.in_ok-turned.ensures.mask c.in_ok-turned.ensures.size).stands)

pub returns-clause-gone : goal.returns-clause-gone
returns-clause-gone g c s T R h =
    let now = subst (λ v. IsReplayOf g.P.Proc.stands_for v s T R) (sym c.self.view_is) h in
    let turned = c.in_ok-turned.ensures.turned s R now.world in
    let events = c.keep.ensures ∙ ap (λ E. after E (outcome c.in_ok-turned.turned)) c.in_ok-reserve.ensures.same in
    gone g.P.Proc.stands_for _ s T R now _ _ _ turned refl events c.in_ok-turned.ensures.mask c.in_ok-turned.ensures.size
