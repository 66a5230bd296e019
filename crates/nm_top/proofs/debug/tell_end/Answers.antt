use Rattle.report.specs.declared.cause.Refusal.TheVariants as refusals
use Rattle.nm_top.specs.declared.status.Status.TheVariants as statuses
use Rattle.nm_top.specs.private.Works.{Refusing}
use Rattle.nm_top.proofs.CarryLaws.{told_other}
use Rattle.nm_top.proofs.DebugLaws.{ends_line}
use Rattle.nm_top.proofs.debug.tell_end.Goals as goal

pub returns-in-InputFault-clause-tells : goal.returns-in-InputFault-clause-tells
returns-in-InputFault-clause-tells g c = rw c.in-InputFault.is (λ text before was replied still.
    ends_line text refusals.InputFault before _ _ was _ _ c.tell.result replied still c.tell.ensures)

pub returns-in-InputFull-clause-tells : goal.returns-in-InputFull-clause-tells
returns-in-InputFull-clause-tells g c = rw c.in-InputFull.is (λ text before was replied still.
    ends_line text refusals.InputFull before _ _ was _ _ c.tell-in-InputFull.result replied still c.tell-in-InputFull.ensures)

pub returns-in-InputFault-clause-full : goal.returns-in-InputFault-clause-full
returns-in-InputFault-clause-full g c = λ e.
    absurd (told_other (Refusing refusals.InputFault) statuses.InputFull (λ k. absurd cc) (λ k. absurd cc) _ _ _ _ c.tell.result c.tell.ensures e)

pub returns-in-InputFull-clause-full : goal.returns-in-InputFull-clause-full
returns-in-InputFull-clause-full g c = λ e. c.in-InputFull.is
