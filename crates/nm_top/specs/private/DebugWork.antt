-- The work of the command `debug`, for a program and a trace that were read.
use Rattle.std.specs.Prelude.{◌≡◌, ◌⊎◌, ℕ, List, [], Option}
use Rattle.nm_outside.specs.Causes.{BelongsTo}
use Rattle.c_tree.specs.declared.program.Program.{Program}
use Rattle.trace_file.specs.Content.{Content}
use Rattle.report.specs.declared.cause.Refusal.TheVariants as refusals
use Rattle.nm_top.specs.declared.status.Status.{Status}
use Rattle.nm_top.specs.declared.talk.End.{End}
use Rattle.nm_top.specs.declared.talk.End.TheVariants as ends
use Rattle.nm_top.specs.Debugs.{Debugged, Interrupted}
use Rattle.nm_top.specs.Watches.{Call}
use Rattle.nm_top.specs.private.Works.{Work, Whole, Ending, Short, Tells, is_take_fault}

-- what the end of a session is, after these replies
abbrev pub end_work : End → List ℕ → Work
end_work ends.Over text = Whole text
end_work ends.InputFault text = Ending text refusals.InputFault
end_work ends.InputFull text = Ending text refusals.InputFull
end_work ends.Write text = Short text
end_work ends.Memory text = Short text

-- a session came to its end after these replies, or there was want of memory
abbrev pub IsDebugWork : Program → Content → Call → Work → Type 0
IsDebugWork p t x (Whole text) = Debugged p t x ends.Over text
IsDebugWork p t x (Ending text refusals.InputFault) = Debugged p t x ends.InputFault text
IsDebugWork p t x (Ending text refusals.InputFull) = Debugged p t x ends.InputFull text
IsDebugWork p t x (Short text) = (text ≡ []) ⊎ Interrupted p t x text
IsDebugWork p t x work = ⊥

-- such work was told, and a take failed where it says so
pub record TellsDebug (p : Program) (t : Content) (x : Call) (before after : Option (List ℕ)) (was now takes takes' : ℕ)
    (status : Status) : Type 0 where
  pub work : Work
  pub is : IsDebugWork p t x work
  pub took : BelongsTo (is_take_fault work) takes takes'
  pub tells : Tells work before after was now status
