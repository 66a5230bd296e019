use Rattle.std.proofs.Common.{length, ◌++◌}
use Rattle.report.specs.Runs.{blocks}
use Rattle.report.specs.Texts.{turns_line}
use Rattle.report.proofs.Pieces.{still_failed, failed_first, both}
use Rattle.nm_top.proofs.replay.put_replay.Goals as goal

pub returns-in_err-blocks : goal.returns-in_err-blocks
returns-in_err-blocks g c = λ p E runs.
    let first = blocks p (length c.args.world.now.processes) E in
    let line = turns_line c.args.turns c.args.idle in
    still_failed _ _ _ _ (first ++ line) _ c.from_residual.result c.from_residual.ensures.0
    (failed_first _ _ _ _ first line c.blocks-2.result c.from_residual.result c.in_err-blocks.field-0.0
    c.in_err-blocks.was c.from_residual.ensures.0 (c.blocks-2.ensures.text p E runs))

pub returns-in_err-turns_line : goal.returns-in_err-turns_line
returns-in_err-turns_line g c = λ p E runs.
    let first = blocks p (length c.args.world.now.processes) E in
    let line = turns_line c.args.turns c.args.idle in
    failed_first _ _ _ _ (first ++ line) _ c.turns_line.result c.from_residual-in_err-turns_line.result c.in_err-turns_line.field-0.0 c.in_err-turns_line.was c.from_residual-in_err-turns_line.ensures.0
    (both _ _ _ _ _ _ first line c.blocks-2.result c.turns_line.result c.in_ok-blocks.was (c.blocks-2.ensures.text p E runs) c.turns_line.ensures)

pub returns : goal.returns
returns g c = λ p E runs.
    let first = blocks p (length c.args.world.now.processes) E in
    let line = turns_line c.args.turns c.args.idle in
    both _ _ _ _ _ _ (first ++ line) _ c.turns_line.result c.put_watchers.result c.in_ok-turns_line.was
    (both _ _ _ _ _ _ first line c.blocks-2.result c.turns_line.result c.in_ok-blocks.was (c.blocks-2.ensures.text p E runs) c.turns_line.ensures)
    c.put_watchers.ensures
