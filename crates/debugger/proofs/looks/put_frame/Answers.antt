use Rattle.std.proofs.Common.{sym, ap, ◌∙◌}
use Rattle.std.specs.Prelude.{slice_get}
use Rattle.debugger.proofs.LookFacts.{prints_frame}
use Rattle.debugger.proofs.looks.put_frame.Goals as goal

pub returns-clause-text : goal.returns-clause-text
returns-clause-text g c = λ program frames k.
    prints_frame _ _ _ _ program c.args.i c.frame-frame.result _ (slice_get frames c.args.i) _
    (c.function_name.ensures program k.compiled)
    (ap (λ fs. slice_get fs c.args.i) (sym k.is)
    ∙ c.frame-frame.ensures program k.script k.letters k.events k.own k.stands)
    c.frame_line.ensures
