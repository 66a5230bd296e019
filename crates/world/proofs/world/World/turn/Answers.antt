use Rattle.std.proofs.Common.{Some, sym, ap, ◌∙◌, subst}
use Rattle.processes.specs.Standing.{IsOver}
use Rattle.event_list.specs.Events.{count, messages}
use Rattle.event_list.specs.Rules.{Rule}
use Rattle.world.proofs.Places.{ok_then}
use Rattle.world.proofs.Turning.{over_shown, over_turn, stopped_turn, made_turn, took_turn}
use Rattle.world.proofs.world.World.turn.Goals as goal

pub returns-in-Ended-clause-turned : goal.returns-in-Ended-clause-turned
returns-in-Ended-clause-turned g c s E now =
    let p = c.args.t.proc.no in
    let x = c.process-process.result.now in
    let at = c.seat.ensures.process ∙ ap Some (sym c.process-process.ensures.process) in
    let shown = g.met.P.Proc.shows x (s p) (messages E p) (count E p) (now.stands p x at) in
    let look = sym c.look-look.ensures ∙ c.in-Ended.is in
    let rule : Rule = record { lets = g.G.Gate.lets c.args.gate.now; lets_go = g.G.Gate.lets_go c.args.gate.now } in
    let over = over_shown _ _ (subst IsOver (sym look) tt) shown in
    record { is = over_turn c.args.self.now.mask rule E p c.args.t.pick _ over; stands = now; carries = tt }

pub returns-in-Faulted-clause-turned : goal.returns-in-Faulted-clause-turned
returns-in-Faulted-clause-turned g c s E now =
    let p = c.args.t.proc.no in
    let x = c.process-process.result.now in
    let at = c.seat.ensures.process ∙ ap Some (sym c.process-process.ensures.process) in
    let shown = g.met.P.Proc.shows x (s p) (messages E p) (count E p) (now.stands p x at) in
    let look = sym c.look-look.ensures ∙ c.in-Faulted.is in
    let rule : Rule = record { lets = g.G.Gate.lets c.args.gate.now; lets_go = g.G.Gate.lets_go c.args.gate.now } in
    let over = over_shown _ _ (subst IsOver (sym look) tt) shown in
    record { is = over_turn c.args.self.now.mask rule E p c.args.t.pick _ over; stands = now; carries = tt }

pub returns-in-Able-2-clause-turned : goal.returns-in-Able-2-clause-turned
returns-in-Able-2-clause-turned g c s E now =
    let p = c.args.t.proc.no in
    let x = c.process-process.result.now in
    let at = c.seat.ensures.process ∙ ap Some (sym c.process-process.ensures.process) in
    let shown = g.met.P.Proc.shows x (s p) (messages E p) (count E p) (now.stands p x at) in
    let look = sym c.look-look.ensures ∙ c.in-Able-2.is in
    let rule : Rule = record { lets = g.G.Gate.lets c.args.gate.now; lets_go = g.G.Gate.lets_go c.args.gate.now } in
    let told = g.met.P.Proc.counts x (s p) (messages E p) (count E p) (now.stands p x at) in
    let may = ap (rule.lets_go p) (told ∙ sym c.count.ensures) ∙ sym c.may_go-may_go.ensures ∙ c.if-may_go.false in
    record { is = stopped_turn c.args.self.now.mask rule E p c.args.t.pick _ _ (λ o. subst IsOver look o) shown may; stands = now; carries = tt }

pub returns-in-Waiting-2-clause-turned : goal.returns-in-Waiting-2-clause-turned
returns-in-Waiting-2-clause-turned g c s E now =
    let p = c.args.t.proc.no in
    let x = c.process-process.result.now in
    let at = c.seat.ensures.process ∙ ap Some (sym c.process-process.ensures.process) in
    let shown = g.met.P.Proc.shows x (s p) (messages E p) (count E p) (now.stands p x at) in
    let look = sym c.look-look.ensures ∙ c.in-Waiting-2.is in
    let rule : Rule = record { lets = g.G.Gate.lets c.args.gate.now; lets_go = g.G.Gate.lets_go c.args.gate.now } in
    let told = g.met.P.Proc.counts x (s p) (messages E p) (count E p) (now.stands p x at) in
    let may = ap (rule.lets_go p) (told ∙ sym c.count.ensures) ∙ sym c.may_go-may_go.ensures ∙ c.if-may_go-2.false in
    record { is = stopped_turn c.args.self.now.mask rule E p c.args.t.pick _ _ (λ o. subst IsOver look o) shown may; stands = now; carries = tt }

pub returns-in-Able-clause-turned : goal.returns-in-Able-clause-turned
returns-in-Able-clause-turned g c = ok_then c.make.result (λ what made s E now.
    let p = c.args.t.proc.no in
    let x = c.process-process.result.now in
    let at = c.seat.ensures.process ∙ ap Some (sym c.process-process.ensures.process) in
    let shown = g.met.P.Proc.shows x (s p) (messages E p) (count E p) (now.stands p x at) in
    let look = sym c.look-look.ensures ∙ c.in-Able.is in
    let rule : Rule = record { lets = g.G.Gate.lets c.args.gate.now; lets_go = g.G.Gate.lets_go c.args.gate.now } in
    let told = g.met.P.Proc.counts x (s p) (messages E p) (count E p) (now.stands p x at) in
    let may = ap (rule.lets_go p) (told ∙ sym c.count.ensures) ∙ sym c.may_go-may_go.ensures ∙ c.if-may_go.true in
    let m = made s E now in
    record { is = made_turn c.args.self.now.mask rule E p c.args.t.pick _ m.kind m.next may ∙ m.is; stands = m.stands; carries = m.carries }) c.make.ensures.made

pub returns-in-Waiting-clause-turned : goal.returns-in-Waiting-clause-turned
returns-in-Waiting-clause-turned g c s E now =
    let p = c.args.t.proc.no in
    let x = c.process-process.result.now in
    let at = c.seat.ensures.process ∙ ap Some (sym c.process-process.ensures.process) in
    let shown = g.met.P.Proc.shows x (s p) (messages E p) (count E p) (now.stands p x at) in
    let look = sym c.look-look.ensures ∙ c.in-Waiting.is in
    let rule : Rule = record { lets = g.G.Gate.lets c.args.gate.now; lets_go = g.G.Gate.lets_go c.args.gate.now } in
    let told = g.met.P.Proc.counts x (s p) (messages E p) (count E p) (now.stands p x at) in
    let may = ap (rule.lets_go p) (told ∙ sym c.count.ensures) ∙ sym c.may_go-may_go.ensures ∙ c.if-may_go-2.true in
    let m = c.accept.ensures.accepted s E now in
    record { is = took_turn c.args.self.now.mask rule E p c.args.t.pick _ c.in-Waiting.set m.next may ∙ m.is; stands = m.stands; carries = m.carries }
