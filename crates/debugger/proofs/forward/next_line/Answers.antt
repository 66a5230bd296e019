use Rattle.std.proofs.Common.{◌∙◌, ap, sym, Some}
use Rattle.std.specs.Prelude.{slice_get}
use Rattle.c_process.specs.contracts.script.CProcProc.TheImpl as process
use Rattle.debugger.proofs.Running.{next_seen}
use Rattle.debugger.proofs.forward.next_line.Goals as goal

pub returns : goal.returns
returns g c p s h =
    let at = ap (λ w. slice_get w.processes c.args.q.no) (sym (c.world.ensures ∙ ap (λ v. v.replay.world) c.session.view_is))
    ∙ c.seat.ensures.process ∙ ap Some (sym c.process.ensures.process) in
    let name = ap process.name_of-value.it c.process.ensures.process ∙ c.seat.ensures.name in
    next_seen c.args.session.now p s h c.args.q.no c.process.result.now at name c.next_line.result c.next_line.ensures
