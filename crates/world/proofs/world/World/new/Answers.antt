use Rattle.std.proofs.Common.{[], length, refl, sym, ap, ◌∙◌, subst, arith}
use Rattle.std.specs.Prelude.{slice_get}
use Rattle.processes.specs.Seats.{process_in}
use Rattle.world.specs.Outcomes.{Begins}
use Rattle.world.proofs.Places.{map_length}
use Rattle.world.proofs.Turning.{some_scripts, begun}
use Rattle.world.proofs.world.World.new.Goals as goal

pub invariant_of-result : goal.invariant_of-result
invariant_of-result g c =
    let seen = c.new.ensures in
    let many = ap length seen ∙ map_length process_in c.args.seats.items in
    let s = some_scripts g.P.Proc.stands_for g.met.P.Proc.lawful c.new.result (λ p x at. c.requires.begins p x (ap (λ ps. slice_get ps p) (sym seen) ∙ at)) in
    record {
      some = omega (arith, many, c.requires.some);
      few = omega (arith, many, c.requires.few);
      room = omega arith;
      each = refl;
      names = λ p x at. c.requires.names p x (ap (λ ps. slice_get ps p) (sym seen) ∙ at);
      run = (
        s.0,
        [],
        begun g.P.Proc.stands_for c.new.result c.in_ok-mail.mail _ _ c.new-clocks.result s.0 s.1 c.in_ok-mail.ensures.none c.new-clocks.ensures,
      );
    }

pub returns-clause-stands : goal.returns-clause-stands
returns-clause-stands g c s b =
    let seen = c.new.ensures in
    begun g.P.Proc.stands_for c.new.result c.in_ok-mail.mail _ _ c.new-clocks.result s (subst (λ ps. Begins g.P.Proc.stands_for ps s) (sym seen) b) c.in_ok-mail.ensures.none c.new-clocks.ensures
