-- What comes next.
use Rattle.nm_base.specs.declared.kind.Kind.{Kind}
use Rattle.nm_base.specs.declared.kind.Kind.TheVariants as kind
use Rattle.c_tree.specs.State.{Status, Able, Wants, Over}
use Rattle.proc_machine.specs.declared.pause.Pause.{Pause}
use Rattle.proc_machine.specs.declared.pause.Pause.TheVariants as pause

-- where a machine stands that makes this event next
abbrev pub pause_of : Kind → Pause
pause_of (kind.Line line) = pause.Line line
pause_of (kind.Sent number dest chan len words) = pause.Send
pause_of (kind.Accepted set id) = pause.Receive set
pause_of (kind.Printed bytes) = pause.Print
pause_of (kind.Ended value) = pause.End value
pause_of (kind.Faulted cause) = pause.Fault cause

abbrev pub status_of : Pause → Status
status_of (pause.Receive set) = Wants set
status_of pause.Done = Over
status_of p = Able
