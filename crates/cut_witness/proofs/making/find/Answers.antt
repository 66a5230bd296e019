use Rattle.std.proofs.Common.{subst, sym, ◌∙◌}
use Rattle.cut_witness.specs.private.Steps.{IsOwn}
use Rattle.cut_witness.proofs.MakingFacts.{sound_unmasked, unlogged_unsent, unlogged_first, unlogged_before, took_name}
use Rattle.cut_witness.proofs.making.find.Goals as goal

pub of-requires : goal.of-requires
of-requires c = sound_unmasked c.requires

pub returns-in_err-letter : goal.returns-in_err-letter
returns-in_err-letter c = rw c.from_residual.ensures (unlogged_unsent c.args.mask c.args.events.now.events c.args.id c.in_err-letter.ensures)

pub returns-in_err-receive : goal.returns-in_err-receive
returns-in_err-receive c =
    let E = c.args.events.now.events in
    let l = c.in_ok-letter.ensures in
    let own = subst (λ i. IsOwn E i c.receive_of-own.result) (sym (l.3.named ∙ l.0)) c.receive_of-own.ensures in
    rw c.from_residual-in_err-receive.ensures (unlogged_first c.args.mask E c.requires c.args.id c.in_ok-letter.letter l.0 l.1 l.2 l.3 (c.in_err-receive.ensures l.1 l.2 l.3 own))

pub returns-in_err-kept : goal.returns-in_err-kept
returns-in_err-kept c =
    let E = c.args.events.now.events in
    let l = c.in_ok-letter.ensures in
    let own = subst (λ i. IsOwn E i c.receive_of-own.result) (sym (l.3.named ∙ l.0)) c.receive_of-own.ensures in
    let e = c.in_ok-receive.ensures l.1 l.2 l.3 own in
    rw c.from_residual-in_err-kept.ensures (unlogged_before c.args.mask E c.requires c.args.id c.in_ok-letter.letter l.0 l.1 l.2 l.3 c.in_ok-receive.receive e
    (c.in_err-kept.ensures l.1 l.2 e.could.took l.3 e.could.receive.in_list (took_name c.args.mask E c.requires c.args.id c.in_ok-letter.letter l.0 l.1 l.2 l.3 c.in_ok-receive.receive e)))

pub returns : goal.returns
returns c =
    let E = c.args.events.now.events in
    let l = c.in_ok-letter.ensures in
    let own = subst (λ i. IsOwn E i c.receive_of-own.result) (sym (l.3.named ∙ l.0)) c.receive_of-own.ensures in
    let e = c.in_ok-receive.ensures l.1 l.2 l.3 own in
    record {
      send = l.1;
      letter = l.2;
      posted = l.3;
      named = l.0;
      own = own;
      earlier = e;
      kept = c.in_ok-kept.ensures l.1 l.2 e.could.took l.3 e.could.receive.in_list (took_name c.args.mask E c.requires c.args.id c.in_ok-letter.letter l.0 l.1 l.2 l.3 c.in_ok-receive.receive e);
    }
