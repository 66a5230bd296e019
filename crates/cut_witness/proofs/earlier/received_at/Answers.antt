use Rattle.std.proofs.Common.{subst}
use Rattle.event_list.specs.Events.{letter_of, IsTaken}
use Rattle.cut_witness.proofs.EarlierFacts.{own_none, receive_is, name_is, no_name}
use Rattle.cut_witness.proofs.earlier.received_at.Goals as goal

pub returns-in_err-id : goal.returns-in_err-id
returns-in_err-id c l t = absurd (no_name (letter_of c.args.sent.now) l t c.in_err-id.ensures)

pub returns-in_err-taken : goal.returns-in_err-taken
returns-in_err-taken c l t =
    rw c.from_residual-in_err-taken.ensures (subst (λ i. IsTaken c.args.events.now.events i → ⊥) (name_is (letter_of c.args.sent.now) l t c.in_ok-id.id c.in_ok-id.ensures) (own_none c.args.events.now.events c.in_ok-id.id c.in_err-taken.ensures))

pub returns : goal.returns
returns c l t =
    receive_is c.args.events.now.events c.in_ok-id.id l.id c.in_ok-taken.taken (name_is (letter_of c.args.sent.now) l t c.in_ok-id.id c.in_ok-id.ensures) c.in_ok-taken.ensures
