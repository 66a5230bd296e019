use Rattle.std.proofs.Common.{◌≡◌, ◌+◌, ◌<◌, [], ◌∷◌, ◌++◌, length, get_or, set as set_at, Option, None, Some, refl, sym, ap, ◌∙◌, subst, arith, length-set}
use Rattle.std.specs.Prelude.{slice_get}
use Rattle.nm_base.specs.declared.kind.Kind.TheVariants.{Accepted}
use Rattle.processes.specs.Standing.{CanTake, accepting}
use Rattle.processes.specs.Seats.{process_in}
use Rattle.mailboxes.specs.Letters.{is_allowed}
use Rattle.event_list.specs.Events.{count, messages}
use Rattle.event_list.specs.Rules.{Rule}
use Rattle.event_list.specs.Turns.{next_event, Went}
use Rattle.event_list.proofs.Entries.{count_here}
use Rattle.event_list.proofs.Projections.{same_name_at}
use Rattle.event_list.proofs.TurnFacts.{place_of}
use Rattle.world.specs.Worlds.{Parts, IsWorldOf}
use Rattle.world.specs.Outcomes.{Carries}
use Rattle.world.proofs.Steps.{still_world, still_numbered, count_few, clock_few, accepted_few, receives_few, kth_there, wants_of, taken_letter, takes_it, takes_nothing, took, took_carries}
use Rattle.world.proofs.world.World.accept.Goals as goal

none_of : {X : Type 0} (o : Option X) → ((x : X) → o ≡ Some x → ⊥) → o ≡ None
none_of None h = refl
none_of (Some x) h = absurd (h x refl)

pub take-letter-requires : goal.take-letter-requires
take-letter-requires g c =
    let ls = g.M.Mail.letters c.self.inside.mail in
    let lets = g.G.Gate.lets c.args.gate.now c.args.t.proc.no (get_or c.self.inside.receives c.args.t.proc.no 0) in
    let k = kth_there ls (is_allowed (g.M.Mail.ordered c.self.inside.mail) lets c.args.t.proc.no c.args.set ls) _ c.in-Some.id (c.chosen.ensures ∙ c.in-Some.is) in
    (k.0, k.3, same_name_at k.0.id c.in-Some.id k.2)

pub give-kind-requires-clause-waiting : goal.give-kind-requires-clause-waiting
give-kind-requires-clause-waiting g c x at =
    let r = c.self.invariant.run in
    let t = taken_letter g.P.Proc.stands_for g.P.Proc.name_of _ r.0 r.1 r.2 (g.G.Gate.lets c.args.gate.now c.args.t.proc.no (get_or c.self.inside.receives c.args.t.proc.no 0)) c.args.t.proc.no c.args.set _ c.in-Some.id c.take-letter.result _ (c.chosen.ensures ∙ c.in-Some.is) c.take-letter.ensures.name c.take-letter.ensures.taken in
    let look = c.requires.waiting x (ap (λ (w : Parts g.row.P.Denot g.row.M.Denot). slice_get w.processes c.args.t.proc.no) (sym c.self.view_is) ∙ at) in
    subst (λ l. CanTake l c.take-letter.result) (sym look) t.chan

pub give-kind-requires-clause-room : goal.give-kind-requires-clause-room
give-kind-requires-clause-room g c x at =
    let r = c.self.invariant.run in
    let p = c.args.t.proc.no in
    let room : c.self.inside.events < 1000000 = subst (λ (w : Parts g.row.P.Denot g.row.M.Denot). w.events < 1000000) (sym c.self.view_is) c.requires.room in
    let k = g.met.P.Proc.counts x (r.0 p) (messages r.1 p) (count r.1 p) (r.2.stands p x at) in
    omega (arith, k, count_few g.P.Proc.stands_for g.P.Proc.name_of _ r.0 r.1 r.2 p 1000000 room)

pub tick-requires-clause-room : goal.tick-requires-clause-room
tick-requires-clause-room g c =
    let r = c.self.invariant.run in
    let room : c.self.inside.events < 1000000 = subst (λ (w : Parts g.row.P.Denot g.row.M.Denot). w.events < 1000000) (sym c.self.view_is) c.requires.room in
    omega (arith, clock_few g.P.Proc.stands_for g.P.Proc.name_of _ r.0 r.1 r.2 c.args.t.proc.no 1000000 room)

pub overflow_add-self-2 : goal.overflow_add-self-2
overflow_add-self-2 g c =
    let r = c.self.invariant.run in
    let room : c.self.inside.events < 1000000 = subst (λ (w : Parts g.row.P.Denot g.row.M.Denot). w.events < 1000000) (sym c.self.view_is) c.requires.room in
    omega (arith, accepted_few g.P.Proc.stands_for g.P.Proc.name_of _ r.0 r.1 r.2 1000000 room)

pub overflow_add-self : goal.overflow_add-self
overflow_add-self g c =
    let r = c.self.invariant.run in
    let room : c.self.inside.events < 1000000 = subst (λ (w : Parts g.row.P.Denot g.row.M.Denot). w.events < 1000000) (sym c.self.view_is) c.requires.room in
    omega (arith, receives_few g.P.Proc.stands_for g.P.Proc.name_of _ r.0 r.1 r.2 c.args.t.proc.no 1000000 room)

pub invariant_of-self : goal.invariant_of-self
invariant_of-self g c =
    let p = c.args.t.proc.no in
    let k = c.give-kind.ensures.took in
    let room : c.self.inside.events < 1000000 = subst (λ (w : Parts g.row.P.Denot g.row.M.Denot). w.events < 1000000) (sym c.self.view_is) c.requires.room in
    let within : p < length c.self.inside.seats = subst (λ (w : Parts g.row.P.Denot g.row.M.Denot). p < length w.processes) (sym c.self.view_is) c.requires.process in
    let few = c.self.invariant.few in
    let each = c.self.invariant.each in
    let long : p < length c.self.inside.receives = omega (arith, within, few, each) in
    let look = c.requires.waiting k.at.before (ap (λ (w : Parts g.row.P.Denot g.row.M.Denot). slice_get w.processes p) (sym c.self.view_is) ∙ k.at.was) in
    still_world g.P.Proc.stands_for g.P.Proc.name_of _ _ c.self.invariant (ap length k.at.is ∙ length-set c.self.inside.seats p k.at.after) (still_numbered g.P.Proc.name_of c.self.inside.seats _ p c.self.invariant.names k.at) (omega (arith, room)) (length-set c.self.inside.receives p _ ∙ each)
    (λ s E h.
    let t = taken_letter g.P.Proc.stands_for g.P.Proc.name_of _ s E h (g.G.Gate.lets c.args.gate.now p (get_or c.self.inside.receives p 0)) p c.args.set _ c.in-Some.id c.take-letter.result _ (c.chosen.ensures ∙ c.in-Some.is) c.take-letter.ensures.name c.take-letter.ensures.taken in
    let want = wants_of _ _ c.args.set look (g.met.P.Proc.shows k.at.before (s p) (messages E p) (count E p) (h.stands p k.at.before k.at.was)) in (
      E ++ next_event E p (Accepted c.args.set c.take-letter.result.id) ∷ [],
      took g.P.Proc.stands_for g.P.Proc.name_of _ c.give-kind.new.self s E p c.args.set c.take-letter.result c.take-letter.new.self _ _ h k c.take-letter.ensures.taken c.take-letter.ensures.order want t.dest t.chan t.free c.tick.new.self c.merge.new.self _ c.tick.ensures c.merge.ensures refl long,
    ))

pub returns-in_default-clause-accepted : goal.returns-in_default-clause-accepted
returns-in_default-clause-accepted g c s E now =
    let p = c.args.t.proc.no in
    let h = subst (λ w. IsWorldOf g.P.Proc.stands_for w s E) (sym c.self.view_is) now in
    let x = place_of c.args.self.now.processes p c.requires.process in
    let rule : Rule = record { lets = g.G.Gate.lets c.args.gate.now; lets_go = g.G.Gate.lets_go c.args.gate.now } in
    record {
      next = wants_of _ _ c.args.set (c.requires.waiting x.0 x.1) (g.met.P.Proc.shows x.0 (s p) (messages E p) (count E p) (now.stands p x.0 x.1));
      is = takes_nothing g.P.Proc.stands_for g.P.Proc.name_of _ s E h c.args.self.now.mask (ap (λ (w : Parts g.row.P.Denot g.row.M.Denot). w.mask) c.self.view_is) rule p c.args.set (get_or c.self.inside.receives p 0) c.args.t.pick (h.receives p) (c.chosen.ensures ∙ none_of c.chosen.result c.in_default.not-Some);
      stands = now;
      carries = tt;
    }

pub returns-clause-accepted : goal.returns-clause-accepted
returns-clause-accepted g c s E now =
    let p = c.args.t.proc.no in
    let set = c.args.set in
    let letter = c.take-letter.result in
    let k = c.give-kind.ensures.took in
    let h = subst (λ w. IsWorldOf g.P.Proc.stands_for w s E) (sym c.self.view_is) now in
    let within : p < length c.self.inside.seats = subst (λ (w : Parts g.row.P.Denot g.row.M.Denot). p < length w.processes) (sym c.self.view_is) c.requires.process in
    let few = c.self.invariant.few in
    let each = c.self.invariant.each in
    let long : p < length c.self.inside.receives = omega (arith, within, few, each) in
    let look = c.requires.waiting k.at.before (ap (λ (w : Parts g.row.P.Denot g.row.M.Denot). slice_get w.processes p) (sym c.self.view_is) ∙ k.at.was) in
    let rule : Rule = record { lets = g.G.Gate.lets c.args.gate.now; lets_go = g.G.Gate.lets_go c.args.gate.now } in
    let t = taken_letter g.P.Proc.stands_for g.P.Proc.name_of _ s E h (rule.lets p (get_or c.self.inside.receives p 0)) p set _ c.in-Some.id letter _ (c.chosen.ensures ∙ c.in-Some.is) c.take-letter.ensures.name c.take-letter.ensures.taken in
    let want = wants_of _ _ set look (g.met.P.Proc.shows k.at.before (s p) (messages E p) (count E p) (h.stands p k.at.before k.at.was)) in
    let new = took g.P.Proc.stands_for g.P.Proc.name_of _ c.give-kind.new.self s E p set letter c.take-letter.new.self _ _ h k c.take-letter.ensures.taken c.take-letter.ensures.order want t.dest t.chan t.free c.tick.new.self c.merge.new.self _ c.tick.ensures c.merge.ensures refl long in
    let carries = took_carries g.P.Proc.stands_for g.P.Proc.name_of _ c.give-kind.new.self s E p set letter c.take-letter.new.self _ _ h k c.take-letter.ensures.taken c.take-letter.ensures.order want t.dest t.chan t.free c.tick.new.self c.merge.new.self _ c.tick.ensures c.merge.ensures refl long in
    let e = next_event E p (Accepted set letter.id) in
    let y = process_in c.at.result.now in
    let told = g.met.P.Proc.counts y (s p) (messages (E ++ e ∷ []) p) (count (E ++ e ∷ []) p) (new.stands p y c.at.ensures) in
    let number : e.number ≡ c.count.result = sym (count_here E e p refl) ∙ told ∙ ap g.P.Proc.count_of (sym c.process.ensures.process) ∙ sym c.count.ensures in
    let kind : e.kind ≡ c.give-kind.result = sym (c.give-kind.ensures.kind k.at.before k.at.was ∙ ap (λ l. accepting l letter) look) in
    let same : e ≡ record { proc = c.args.t.proc; number = c.count.result; kind = c.give-kind.result } = λ i. record { proc = c.args.t.proc; number = number i; kind = kind i } in
    let v : Parts g.row.P.Denot g.row.M.Denot = record { processes = c.give-kind.new.self; mail = c.take-letter.new.self; letters = g.M.Mail.letters c.take-letter.new.self; mask = g.M.Mail.ordered c.take-letter.new.self; clocks = c.merge.new.self; receives = set_at c.self.inside.receives p (get_or c.self.inside.receives p 0 + 1); sent = c.self.inside.sent; accepted = c.self.inside.accepted + 1; events = c.self.inside.events + 1 } in
    record {
      next = want;
      is = takes_it g.P.Proc.stands_for g.P.Proc.name_of _ s E h c.args.self.now.mask (ap (λ (w : Parts g.row.P.Denot g.row.M.Denot). w.mask) c.self.view_is) rule p set (get_or c.self.inside.receives p 0) c.args.t.pick letter (h.receives p) t.found ∙ ap Went same;
      stands = subst (λ x. IsWorldOf g.P.Proc.stands_for v s (E ++ x ∷ [])) same new;
      carries = subst (λ x. Carries (E ++ x ∷ []) x (Some letter)) same carries;
    }
