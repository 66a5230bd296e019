use Rattle.std.proofs.Common.{subst}
use Rattle.c_tree.specs.Play.{script_of}
use Rattle.stack_code.specs.View.{seen_code}
use Rattle.c_process.specs.Begun.{AreBegun}
use Rattle.nm_top.proofs.ReplayLaws.{replay_begins}
use Rattle.nm_top.proofs.replay.begun.Goals as goal

pub new-requires-clause-names : goal.new-requires-clause-names
new-requires-clause-names c = λ p x at. (c.in_ok-seats.ensures.each p x at).name

pub new-requires-clause-begins : goal.new-requires-clause-begins
new-requires-clause-begins c = λ p x at. (script_of c.requires.code.0 c.n.result p, (c.in_ok-seats.ensures.each p x at).stands c.requires.code.0 c.requires.code.1)

pub returns : goal.returns
returns c = λ p is_code.
    replay_begins (seen_code c.args.code.now) c.in_ok-seats.seats.items c.in_ok-replay.replay p c.args.trace.now
    (subst (λ k. AreBegun (seen_code c.args.code.now) k k c.in_ok-seats.seats.items) c.n.ensures c.in_ok-seats.ensures) is_code
    c.in_ok-replay.ensures.processes c.in_ok-replay.ensures.begins
