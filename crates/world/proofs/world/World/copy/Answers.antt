use Rattle.std.proofs.Common.{sym, subst, ap, ◌∙◌}
use Rattle.std.specs.Prelude.{map}
use Rattle.world.specs.Worlds.{Parts, IsWorldOf}
use Rattle.world.proofs.Steps.{still_world, copies_numbered, copied, same_origins}
use Rattle.world.proofs.world.World.copy.Goals as goal

pub invariant_of-result : goal.invariant_of-result
invariant_of-result g c =
    let k = c.in_ok-seats.ensures in
    let w : Parts g.row.P.Denot g.row.M.Denot = record { processes = c.self.inside.seats; mail = c.self.inside.mail; letters = g.M.Mail.letters c.self.inside.mail; mask = g.M.Mail.ordered c.self.inside.mail; clocks = c.self.inside.clocks; receives = c.self.inside.receives; sent = c.self.inside.sent; accepted = c.self.inside.accepted; events = c.self.inside.events } in
    still_world g.P.Proc.stands_for g.P.Proc.name_of _ _ c.self.invariant k.size (copies_numbered g.P.Proc.stands_for g.P.Proc.name_of g.P.Proc.origin_of w _ k c.self.invariant.names) c.self.invariant.room c.self.invariant.each
    (λ s E h. (E, copied g.P.Proc.stands_for g.P.Proc.name_of g.P.Proc.origin_of _ _ k _ _ _ _ c.in_ok-mail.ensures.same c.in_ok-mail.ensures.order c.copy-3.ensures s E h))

pub returns-clause-same : goal.returns-clause-same
returns-clause-same g c s E now =
    let k = c.in_ok-seats.ensures in
    let h = subst (λ w. IsWorldOf g.P.Proc.stands_for w s E) (sym c.self.view_is) now in
    copied g.P.Proc.stands_for g.P.Proc.name_of g.P.Proc.origin_of _ _ k _ _ _ _ c.in_ok-mail.ensures.same c.in_ok-mail.ensures.order c.copy-3.ensures s E h

pub returns-clause-origins : goal.returns-clause-origins
returns-clause-origins g c =
    same_origins g.P.Proc.stands_for g.P.Proc.name_of g.P.Proc.origin_of (record { processes = c.self.inside.seats; mail = c.self.inside.mail; letters = g.M.Mail.letters c.self.inside.mail; mask = g.M.Mail.ordered c.self.inside.mail; clocks = c.self.inside.clocks; receives = c.self.inside.receives; sent = c.self.inside.sent; accepted = c.self.inside.accepted; events = c.self.inside.events }) _ c.in_ok-seats.ensures
    ∙ ap (λ (w : Parts g.row.P.Denot g.row.M.Denot). map g.P.Proc.origin_of w.processes) c.self.view_is
