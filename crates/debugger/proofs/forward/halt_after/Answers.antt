use Rattle.std.proofs.Common.{◌∙◌, ap, sym}
use Rattle.std.specs.Prelude.{map}
use Rattle.debugger.proofs.Running.{halted, position_map}
use Rattle.debugger.specs.Sessions.{is_stopping}
use Rattle.debugger.proofs.forward.halt_after.Goals as goal

pub returns : goal.returns
returns g c p s h =
    halted p c.args.session.now.trace s
    (map g.W.Watcher.watched c.args.watch.now.items) c.args.event.now c.halt_by.result c.fitting-broke.result c.first_stop.result
    c.next_line-next.result c.session.inside.breaks (c.halt_by.ensures p c.args.session.now.trace s.run) c.fitting-broke.ensures
    (ap (λ v. v.breaks) c.session.view_is ∙ h.breaks) (c.next_line-next.ensures p s h)
    (c.first_stop.ensures ∙ sym (position_map g.W.Watcher.watched is_stopping
    c.args.watch.now.items))
