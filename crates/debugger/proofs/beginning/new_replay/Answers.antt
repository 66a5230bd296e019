use Rattle.std.proofs.Common.{subst}
use Rattle.c_tree.specs.Play.{script_of}
use Rattle.stack_code.specs.View.{seen_code}
use Rattle.c_process.specs.Begun.{AreBegun}
use Rattle.debugger.proofs.GoingBack.{replay_begun}
use Rattle.debugger.proofs.beginning.new_replay.Goals as goal

pub new-requires-clause-names : goal.new-requires-clause-names
new-requires-clause-names g c = λ p x at. (c.in_ok-seats.ensures.each p x at).name

pub new-requires-clause-begins : goal.new-requires-clause-begins
new-requires-clause-begins g c = λ p x at.
    (script_of c.requires.code.0 c.n.result p, (c.in_ok-seats.ensures.each p x at).stands c.requires.code.0 c.requires.code.1)

pub returns : goal.returns
returns g c = λ p is_code.
    replay_begun (seen_code c.args.code.now) p c.args.trace.now c.in_ok-seats.seats.items c.in_ok-replay.replay is_code
    (subst (λ k. AreBegun (seen_code c.args.code.now) k k c.in_ok-seats.seats.items) c.n.ensures c.in_ok-seats.ensures)
    c.in_ok-replay.ensures.processes c.in_ok-replay.ensures.begins
