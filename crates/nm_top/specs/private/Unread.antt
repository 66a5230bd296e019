-- What a reading of a program answers.
use Rattle.std.specs.Prelude.{ℕ, List, Option, None, IfSome}
use Rattle.nm_top.specs.declared.program.Unread.{Unread}
use Rattle.nm_top.specs.declared.program.Unread.TheVariants.{Refused, Memory}
use Rattle.nm_top.specs.Programs.{Cause, caused, RefusedFor}

-- why no program was read, where that isn't want of memory
abbrev pub cause_of : Unread → Option Cause
cause_of (Refused kind line) = caused kind.now line
cause_of Memory = None

abbrev pub IsUnread : List ℕ → Unread → Type 0
IsUnread text fault = IfSome (cause_of fault) (RefusedFor text)
