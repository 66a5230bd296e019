use Rattle.std.proofs.Common.{ap, sym}
use Rattle.debugger.specs.private.Making.{halt_text}
use Rattle.debugger.proofs.Replying.{same_text}
use Rattle.debugger.proofs.forward.put_halt.Goals as goal

pub returns-in-Over-clause-text : goal.returns-in-Over-clause-text
returns-in-Over-clause-text g c p s h =
    same_text _ _ (ap (halt_text p c.args.session.now.trace s.run) (sym c.in-Over.is)) (c.put_end.ensures.text p s h)

pub returns-in-Broke-clause-text : goal.returns-in-Broke-clause-text
returns-in-Broke-clause-text g c p s h =
    same_text _ _ (ap (halt_text p c.args.session.now.trace s.run) (sym c.in-Broke.is)) c.broke_line.ensures

pub returns-in-Watched-clause-text : goal.returns-in-Watched-clause-text
returns-in-Watched-clause-text g c p s h =
    same_text _ _ (ap (halt_text p c.args.session.now.trace s.run) (sym c.in-Watched.is)) c.watcher_line.ensures
