use Rattle.std.proofs.lemmas.Result.{err_from_is_err_and}
use Rattle.world.specs.Outcomes.{outcome}
use Rattle.debugger.specs.Lines as lines
use Rattle.debugger.specs.private.Making.{turn_text}
use Rattle.debugger.proofs.Replying.{memory_replied, memory_caused, write_replied, write_caused, all_replied, none_caused, turn_replies}
use Rattle.debugger.proofs.forward.after_turn.Goals as goal

pub returns-in_err-note_turn-clause-replied : goal.returns-in_err-note_turn-clause-replied
returns-in_err-note_turn-clause-replied g c p s q h =
    let e = err_from_is_err_and c.from_residual.result c.from_residual.ensures.1 in
    memory_replied (lines.StepOf q) p s _ c.note_turn.new.session _ c.from_residual.result e.0 e.1 _ e.2

pub returns-in_err-note_turn-clause-cause : goal.returns-in_err-note_turn-clause-cause
returns-in_err-note_turn-clause-cause g c =
    let e = err_from_is_err_and c.from_residual.result c.from_residual.ensures.1 in
    memory_caused c.from_residual.result e.0 e.1 _ e.2

pub returns-in_err-put_turn-clause-replied : goal.returns-in_err-put_turn-clause-replied
returns-in_err-put_turn-clause-replied g c p s q h =
    let e = err_from_is_err_and c.from_residual-in_err-put_turn.result c.from_residual-in_err-put_turn.ensures.1 in
    let k = c.in_ok-note_turn.ensures.noted p s q h in
    write_replied (lines.StepOf q) p s _ c.note_turn.new.session _ c.from_residual-in_err-put_turn.result e.0 e.1 _ _ _ _
    (turn_text (outcome c.args.turned.now)) c.put_turn.result c.in_err-put_turn.field-0.0
    c.in_err-put_turn.was e.2 (turn_replies p s _ c.note_turn.new.session _ q c.args.turned.now k) c.put_turn.ensures

pub returns-in_err-put_turn-clause-cause : goal.returns-in_err-put_turn-clause-cause
returns-in_err-put_turn-clause-cause g c =
    let e = err_from_is_err_and c.from_residual-in_err-put_turn.result c.from_residual-in_err-put_turn.ensures.1 in
    write_caused c.from_residual-in_err-put_turn.result e.0 e.1 _ _ c.put_turn.result c.in_err-put_turn.field-0.0
    c.in_err-put_turn.was e.2 c.put_turn.ensures.cause

pub returns-clause-replied : goal.returns-clause-replied
returns-clause-replied g c p s q h =
    let k = c.in_ok-note_turn.ensures.noted p s q h in
    all_replied (lines.StepOf q) p s _ c.note_turn.new.session _ tt _ _ _ _
    (turn_text (outcome c.args.turned.now)) c.put_turn.result _ c.in_ok-put_turn.was
    (turn_replies p s _ c.note_turn.new.session _ q c.args.turned.now k) c.put_turn.ensures

pub returns-clause-cause : goal.returns-clause-cause
returns-clause-cause g c = none_caused _ _ c.put_turn.result _ c.in_ok-put_turn.was c.put_turn.ensures.cause
