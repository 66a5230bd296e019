use Rattle.std.proofs.Common.{◌++◌, codes}
use Rattle.std.specs.List.{flat_map}
use Rattle.report.specs.Texts as texts
use Rattle.report.proofs.Pieces.{still_failed, failed_first, both}
use Rattle.report.proofs.certificates.put_turns.Goals as goal

pub returns-in_err-put_pieces : goal.returns-in_err-put_pieces
returns-in_err-put_pieces g c =
    let turns = flat_map texts.turn_text c.args.turns.now in
    let failed = failed_first _ _ _ _ (codes "turns") turns c.put_pieces.result c.from_residual.result c.in_err-put_pieces.field-0.0 c.in_err-put_pieces.was c.from_residual.ensures.0 c.put_pieces.ensures in
    still_failed _ _ _ _ ((codes "turns") ++ turns) (codes "\n") c.from_residual.result c.from_residual.ensures.0 failed

pub returns-in_err-put_each_turn : goal.returns-in_err-put_each_turn
returns-in_err-put_each_turn g c =
    let turns = flat_map texts.turn_text c.args.turns.now in
    let given = both _ _ _ _ _ _ (codes "turns") turns c.put_pieces.result c.put_each_turn.result c.in_ok-put_pieces.was c.put_pieces.ensures c.put_each_turn.ensures in
    failed_first _ _ _ _ ((codes "turns") ++ turns) (codes "\n") c.put_each_turn.result c.from_residual-in_err-put_each_turn.result c.in_err-put_each_turn.field-0.0 c.in_err-put_each_turn.was c.from_residual-in_err-put_each_turn.ensures.0 given

pub returns : goal.returns
returns g c =
    let turns = flat_map texts.turn_text c.args.turns.now in
    let given = both _ _ _ _ _ _ (codes "turns") turns c.put_pieces.result c.put_each_turn.result c.in_ok-put_pieces.was c.put_pieces.ensures c.put_each_turn.ensures in
    both _ _ _ _ _ _ ((codes "turns") ++ turns) (codes "\n") c.put_each_turn.result c.put_pieces-2.result c.in_ok-put_each_turn.was given c.put_pieces-2.ensures
