-- What the command `debug` prints, of a program and a trace that the files hold.
use Rattle.std.specs.Prelude.{ℕ, ◌≤◌, List, length, IfSome}
use Rattle.nm_outside.specs.Files.{Files}
use Rattle.c_tree.specs.declared.program.Program.{Program}
use Rattle.trace_file.specs.Content.{Content}
use Rattle.watchers.specs.Watched.{Watched}
use Rattle.replay_core.specs.Gates.{seen_trace}
use Rattle.debugger.specs.Sessions.{Session, first_session}
use Rattle.nm_top.specs.declared.talk.End.{End}
use Rattle.nm_top.specs.Debugging.{Talks, EndsAfter, IsFront, before_quit, lines_of, read_of}
use Rattle.nm_top.specs.Demands.{AreReplayed}
use Rattle.nm_top.specs.Watches.{Call}

-- A session came to its end so after these replies to lines of the input.
pub record Debugged (p : Program) (t : Content) (x : Call) (end : End) (printed : List ℕ) : Type 0 where
  pub taken : ℕ
  pub lines : List (List ℕ)
  pub last : Session
  pub ends : IfSome x.input (λ input. (taken ≤ length input) × EndsAfter t.n input taken lines end)
  pub talks : Talks p (seen_trace t) first_session x.watchers.watch lines printed last x.watchers.told

-- There was want of memory after these replies to the first lines of the input, none of them `quit`.
pub record Interrupted (p : Program) (t : Content) (x : Call) (printed : List ℕ) : Type 0 where
  pub lines : List (List ℕ)
  pub last : Session
  pub watch : List Watched
  pub first : IfSome x.input (λ input. IsFront lines (before_quit t.n (lines_of (read_of input))))
  pub talks : Talks p (seen_trace t) first_session x.watchers.watch lines printed last watch

-- the same, of the program in the first file and the trace in the second
pub record Debugs (x : Call) (program trace : List ℕ) (end : End) (files : Files) (printed : List ℕ) : Type 0 where
  pub of_program : Program
  pub content : Content
  pub has : AreReplayed files program trace of_program content
  pub session : Debugged of_program content x end printed

pub record DebugStops (x : Call) (program trace : List ℕ) (files : Files) (printed : List ℕ) : Type 0 where
  pub of_program : Program
  pub content : Content
  pub has : AreReplayed files program trace of_program content
  pub session : Interrupted of_program content x printed
