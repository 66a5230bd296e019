use Rattle.std.proofs.Common.{◌≡◌, ◌+◌, ◌<◌, [], ◌∷◌, ◌++◌, length, refl, sym, ap, ◌∙◌, subst, arith, length-set}
use Rattle.std.specs.Prelude.{Contains}
use Rattle.processes.specs.Seats.{process_in}
use Rattle.event_list.specs.Events.{count, messages}
use Rattle.event_list.specs.Turns.{next_event, Went}
use Rattle.event_list.proofs.Entries.{count_here}
use Rattle.world.specs.Worlds.{Parts, IsWorldOf}
use Rattle.world.specs.Outcomes.{Carries}
use Rattle.world.proofs.Places.{on_err_from}
use Rattle.world.proofs.Steps.{same_mail, same_process, still_world, still_numbered, count_few, clock_few, sent_few, posted_before, goes, new_letter, made, made_carries}
use Rattle.world.proofs.world.World.make.Goals as goal

pub invariant_of-self : goal.invariant_of-self
invariant_of-self g c =
    still_world g.P.Proc.stands_for g.P.Proc.name_of _ _ c.self.invariant refl c.self.invariant.names c.self.invariant.room c.self.invariant.each
    (λ s E h. (E, same_mail g.P.Proc.stands_for g.P.Proc.name_of _ c.reserve.new.self _ _ s E c.reserve.ensures.same c.reserve.ensures.order h))

pub returns-in_err-reserve-clause-refused : goal.returns-in_err-reserve-clause-refused
returns-in_err-reserve-clause-refused g c =
    on_err_from c.from_residual.result (λ s E h. same_mail g.P.Proc.stands_for g.P.Proc.name_of _ c.reserve.new.self _ _ s E c.reserve.ensures.same c.reserve.ensures.order
    (subst (λ w. IsWorldOf g.P.Proc.stands_for w s E) (sym c.self.view_is) h))

pub step-requires-clause-room : goal.step-requires-clause-room
step-requires-clause-room g c x at =
    let r = c.self.invariant.run in
    let room : c.self.inside.events < 1000000 = subst (λ (w : Parts g.row.P.Denot g.row.M.Denot). w.events < 1000000) (sym c.self.view_is) c.requires.room in
    let k = g.met.P.Proc.counts x (r.0 c.args.p.no) (messages r.1 c.args.p.no) (count r.1 c.args.p.no) (r.2.stands c.args.p.no x at) in
    omega (arith, k, count_few g.P.Proc.stands_for g.P.Proc.name_of _ r.0 r.1 r.2 c.args.p.no 1000000 room)

pub invariant_of-self-in_err-kind : goal.invariant_of-self-in_err-kind
invariant_of-self-in_err-kind g c =
    let k = c.in_err-kind.ensures.refused in
    still_world g.P.Proc.stands_for g.P.Proc.name_of _ _ c.self.invariant (ap length k.at.is ∙ length-set c.self.inside.seats c.args.p.no k.at.after) (still_numbered g.P.Proc.name_of c.self.inside.seats _ c.args.p.no c.self.invariant.names k.at) c.self.invariant.room c.self.invariant.each
    (λ s E h. (E, same_process g.P.Proc.stands_for g.P.Proc.name_of _ c.step.new.self c.args.p.no s E k (same_mail g.P.Proc.stands_for g.P.Proc.name_of _ c.reserve.new.self _ _ s E c.reserve.ensures.same c.reserve.ensures.order h)))

pub returns-in_err-kind-clause-refused : goal.returns-in_err-kind-clause-refused
returns-in_err-kind-clause-refused g c =
    on_err_from c.from_residual-in_err-kind.result (λ s E h. same_process g.P.Proc.stands_for g.P.Proc.name_of _ c.step.new.self c.args.p.no s E c.in_err-kind.ensures.refused
    (same_mail g.P.Proc.stands_for g.P.Proc.name_of _ c.reserve.new.self _ _ s E c.reserve.ensures.same c.reserve.ensures.order
    (subst (λ w. IsWorldOf g.P.Proc.stands_for w s E) (sym c.self.view_is) h)))

pub tick-requires-clause-room : goal.tick-requires-clause-room
tick-requires-clause-room g c =
    let r = c.self.invariant.run in
    let room : c.self.inside.events < 1000000 = subst (λ (w : Parts g.row.P.Denot g.row.M.Denot). w.events < 1000000) (sym c.self.view_is) c.requires.room in
    omega (arith, clock_few g.P.Proc.stands_for g.P.Proc.name_of _ r.0 r.1 r.2 c.args.p.no 1000000 room)

pub post-letter-requires-clause-last : goal.post-letter-requires-clause-last
post-letter-requires-clause-last g c l k =
    let r = c.self.invariant.run in
    posted_before g.P.Proc.stands_for g.P.Proc.name_of _ r.0 r.1 r.2 l (subst (λ ls. Contains ls l) c.reserve.ensures.same k)

pub post-letter-requires-clause-few : goal.post-letter-requires-clause-few
post-letter-requires-clause-few g c =
    let r = c.self.invariant.run in
    let room : c.self.inside.events < 1000000 = subst (λ (w : Parts g.row.P.Denot g.row.M.Denot). w.events < 1000000) (sym c.self.view_is) c.requires.room in
    sent_few g.P.Proc.stands_for g.P.Proc.name_of _ r.0 r.1 r.2 1000000 room

pub post-letter-requires-clause-unnamed : goal.post-letter-requires-clause-unnamed
post-letter-requires-clause-unnamed g c l q w k =
    let r = c.self.invariant.run in
    new_letter g.P.Proc.stands_for g.P.Proc.name_of _ c.step.new.self r.0 r.1 c.args.p.no c.in_ok-kind.kind c.in_ok-kind.letter c.self.invariant.names r.2 c.in_ok-kind.ensures.made l q w (subst (λ ls. Contains ls w) c.reserve.ensures.same k)

pub invariant_of-self-2 : goal.invariant_of-self-2
invariant_of-self-2 g c =
    let k = c.in_ok-kind.ensures.made in
    let room : c.self.inside.events < 1000000 = subst (λ (w : Parts g.row.P.Denot g.row.M.Denot). w.events < 1000000) (sym c.self.view_is) c.requires.room in
    still_world g.P.Proc.stands_for g.P.Proc.name_of _ _ c.self.invariant (ap length k.at.is ∙ length-set c.self.inside.seats c.args.p.no k.at.after) (still_numbered g.P.Proc.name_of c.self.inside.seats _ c.args.p.no c.self.invariant.names k.at) (omega (arith, room)) c.self.invariant.each
    (λ s E h. (
      E ++ next_event E c.args.p.no c.in_ok-kind.kind ∷ [],
      made g.P.Proc.stands_for g.P.Proc.name_of _ c.step.new.self s E c.args.p.no c.in_ok-kind.kind c.in_ok-kind.letter c.self.invariant.names (same_mail g.P.Proc.stands_for g.P.Proc.name_of _ c.reserve.new.self _ _ s E c.reserve.ensures.same c.reserve.ensures.order h) k
          c.post-letter.new.mail _ _ c.tick.new.self c.stamp-stamp.result.now c.post-letter.result.0 c.post-letter.result.1 c.post-letter.ensures.letter c.post-letter.ensures.posted c.post-letter.ensures.order c.tick.ensures c.stamp-stamp.ensures c.post-letter.ensures.sent,
    ))

pub returns-clause-made : goal.returns-clause-made
returns-clause-made g c s E now =
    let k = c.in_ok-kind.ensures.made in
    let p = c.args.p.no in
    let h = same_mail g.P.Proc.stands_for g.P.Proc.name_of _ c.reserve.new.self _ _ s E c.reserve.ensures.same c.reserve.ensures.order (subst (λ w. IsWorldOf g.P.Proc.stands_for w s E) (sym c.self.view_is) now) in
    let new = made g.P.Proc.stands_for g.P.Proc.name_of _ c.step.new.self s E p c.in_ok-kind.kind c.in_ok-kind.letter c.self.invariant.names h k
    c.post-letter.new.mail _ _ c.tick.new.self c.stamp-stamp.result.now c.post-letter.result.0 c.post-letter.result.1 c.post-letter.ensures.letter c.post-letter.ensures.posted c.post-letter.ensures.order c.tick.ensures c.stamp-stamp.ensures c.post-letter.ensures.sent in
    let e = next_event E p c.in_ok-kind.kind in
    let carries = made_carries g.P.Proc.stands_for g.P.Proc.name_of _ c.step.new.self s E p c.in_ok-kind.kind c.in_ok-kind.letter c.self.invariant.names h k
    c.post-letter.new.mail _ _ c.tick.new.self c.stamp-stamp.result.now c.post-letter.result.0 c.post-letter.result.1 c.post-letter.ensures.letter c.post-letter.ensures.posted c.post-letter.ensures.order c.tick.ensures c.stamp-stamp.ensures c.post-letter.ensures.sent in
    let y = process_in c.at.result.now in
    let told = g.met.P.Proc.counts y (s p) (messages (E ++ e ∷ []) p) (count (E ++ e ∷ []) p) (new.stands p y c.at.ensures) in
    let number : e.number ≡ c.count.result = sym (count_here E e p refl) ∙ told ∙ ap g.P.Proc.count_of (sym c.process.ensures.process) ∙ sym c.count.ensures in
    let same : e ≡ record { proc = c.args.p; number = c.count.result; kind = c.in_ok-kind.kind } = ap (λ n. record { proc = c.args.p; number = n; kind = c.in_ok-kind.kind }) number in
    let v : Parts g.row.P.Denot g.row.M.Denot = record { processes = c.step.new.self; mail = c.post-letter.new.mail; letters = g.M.Mail.letters c.post-letter.new.mail; mask = g.M.Mail.ordered c.post-letter.new.mail; clocks = c.tick.new.self; receives = c.self.inside.receives; sent = c.post-letter.result.1; accepted = c.self.inside.accepted; events = c.self.inside.events + 1 } in
    record {
      kind = c.in_ok-kind.kind;
      next = goes g.P.Proc.stands_for g.P.Proc.name_of _ c.step.new.self s E p c.in_ok-kind.kind c.in_ok-kind.letter c.self.invariant.names h k;
      is = ap Went same;
      stands = subst (λ x. IsWorldOf g.P.Proc.stands_for v s (E ++ x ∷ [])) same new;
      carries = subst (λ x. Carries (E ++ x ∷ []) x c.post-letter.result.0) same carries;
    }
