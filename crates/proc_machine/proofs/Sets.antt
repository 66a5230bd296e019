-- Two proofs that a run comes to something are the same.
use Rattle.std.proofs.Common.{List, Option}
use Rattle.std.proofs.Props.{props}
use Rattle.nm_base.specs.declared.kind.Kind.{Kind}
use Rattle.proc_machine.specs.declared.pause.Pause.{Pause}
use Rattle.nm_base.specs.Message.{Message}
use Rattle.c_tree.specs.State.{State, Status, Outcome, Frame}
use Rattle.stack_code.specs.Machine.{Control, Caller}

Frame-set : IsSet Frame
Frame-set = hlevel props

pub Status-set : IsSet Status
Status-set = hlevel props

Message-set : IsSet Message
Message-set = hlevel props

Kind-set : IsSet Kind
Kind-set = hlevel props

Kinds-set : IsSet (List Kind)
Kinds-set = hlevel (props, Kind-set)

State-set : IsSet State
State-set = hlevel (props, Frame-set, Message-set, Kind-set)

Caller-set : IsSet Caller
Caller-set = hlevel props

Control-set : IsSet Control
Control-set = hlevel (props, Caller-set)

pub Outcome-set : IsSet (Outcome Control)
Outcome-set = hlevel (props, State-set, Status-set, Control-set)

pub Pause-set : IsSet (Option Pause)
Pause-set = hlevel props
