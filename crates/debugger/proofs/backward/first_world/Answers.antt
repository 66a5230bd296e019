use Rattle.c_tree.specs.Play.{script_of}
use Rattle.debugger.proofs.GoingBack.{first_all, first_none}
use Rattle.debugger.proofs.backward.first_world.Goals as goal

pub new-requires-clause-names : goal.new-requires-clause-names
new-requires-clause-names g c = λ p x at. (c.in_ok-seats.ensures.each p x at).name

pub new-requires-clause-begins : goal.new-requires-clause-begins
new-requires-clause-begins g c = λ p x at. (
  script_of c.session.invariant.0 c.n.result p,
  (c.in_ok-seats.ensures.each p x at).stands c.session.invariant.0
      c.session.invariant.2.compiled,
)

pub returns-clause-first : goal.returns-clause-first
returns-clause-first g c =
    first_all _ _ c.session.view_is c.n.result c.mask.result c.n.ensures c.mask.ensures c.in_ok-seats.seats.items
    c.in_ok-seats.ensures
    c.in_ok-world.world c.in_ok-world.ensures.processes c.in_ok-world.ensures.mask c.in_ok-world.ensures.stands

pub returns-clause-none : goal.returns-clause-none
returns-clause-none g c =
    first_none _ c.session.invariant c.n.result c.n.ensures c.in_ok-seats.seats.items c.in_ok-seats.ensures
    c.in_ok-world.world c.in_ok-world.ensures.stands
