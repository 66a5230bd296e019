use Rattle.std.proofs.Common.{◌≡◌, ◌+◌, rules, tests}
use Rattle.std.specs.Prelude.{max}
use Rattle.proc_machine.specs.private.Heights.{height_at}
use Rattle.stack_code.specs.View.{seen_code}
use Rattle.proc_machine.proofs.Levels.{nothing_seen, seen_next}
use Rattle.proc_machine.proofs.heights.height_of.Goals as goal

pub loop-place-init : goal.loop-place-init
loop-place-init c = nothing_seen (seen_code c.args.code.now) c.args.function

pub loop-place-preserved : goal.loop-place-preserved
loop-place-preserved c =
    let l = c.loop-place in
    let most : c.max-most.result ≡ max l.most (height_at l.place l.level + 2) = search (rules, tests) in
    seen_next (seen_code c.args.code.now) c.args.function l.place l.most c.max-most.result c.instr.result l.level c.after-level.result l.invariant c.instr.ensures
    c.after-level.ensures.same c.after-level.ensures.now c.after-level.ensures.jumped most
