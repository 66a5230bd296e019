-- The command `replay`, with a schedule and without one.
use Rattle.std.specs.Prelude.{◌≡◌, ℕ, List, [], ◌++◌, take}
use Rattle.nm_outside.specs.Files.{Files}
use Rattle.c_tree.specs.declared.program.Program.{Program}
use Rattle.c_tree.specs.Play.{script_of}
use Rattle.schedules.specs.declared.schedule.Turn.{Turn}
use Rattle.event_list.specs.declared.Event.{Event}
use Rattle.event_list.specs.Turns.{finish_within, to_finish}
use Rattle.trace_file.specs.Content.{Content}
use Rattle.replay_core.specs.Gates.{seen_trace}
use Rattle.nm_top.specs.Schedules.{IsSchedule}
use Rattle.nm_top.specs.Demands.{AreReplayed, HoldsIn, schedule_file}
use Rattle.nm_top.specs.Finishing.{replayed, replay_text, finished, finish_text}
use Rattle.nm_top.specs.Watches.{Given, Hear, watch_lines}

-- What is printed are the blocks and the summary of the replay by the turns of the schedule, how many turns there were,
-- and how many of them made no event; and a line of each watcher, which were told of the events of the replay.
pub record ReplayPrints (x : Given) (program trace schedule : List ℕ) (files : Files)
    (printed : List ℕ) : Type 0 where
  pub of_program : Program
  pub content : Content
  pub has : AreReplayed files program trace of_program content
  pub turns : List Turn
  pub has_schedule : HoldsIn files (λ text. IsSchedule content.n text turns) (schedule_file schedule)
  pub hear : Hear (replayed of_program content turns) x
  pub is : printed ≡ replay_text of_program content turns ++ watch_lines 0 x.told

-- What is printed are the blocks and the summary of the finished replay, and its turns; and a line of each watcher,
-- which were told of its events.
pub record FinishPrints (x : Given) (program trace : List ℕ) (files : Files) (printed : List ℕ) : Type 0 where
  pub of_program : Program
  pub content : Content
  pub has : AreReplayed files program trace of_program content
  pub hear : Hear (finished of_program content).events x
  pub is : printed ≡ finish_text of_program content ++ watch_lines 0 x.told

-- the events of the replay by the turns of the schedule
pub record AreOfReplay (program trace schedule : List ℕ) (files : Files) (events : List Event) : Type 0 where
  pub of_program : Program
  pub content : Content
  pub has : AreReplayed files program trace of_program content
  pub turns : List Turn
  pub has_schedule : HoldsIn files (λ text. IsSchedule content.n text turns) (schedule_file schedule)
  pub is : events ≡ replayed of_program content turns

-- or by its first so many turns
pub record AreOfFirstTurns (program trace schedule : List ℕ) (files : Files) (events : List Event) : Type 0 where
  pub of_program : Program
  pub content : Content
  pub has : AreReplayed files program trace of_program content
  pub turns : List Turn
  pub has_schedule : HoldsIn files (λ text. IsSchedule content.n text turns) (schedule_file schedule)
  pub many : ℕ
  pub is : events ≡ replayed of_program content (take many turns)

-- the events of the finished replay
pub record AreOfFinish (program trace : List ℕ) (files : Files) (events : List Event) : Type 0 where
  pub of_program : Program
  pub content : Content
  pub has : AreReplayed files program trace of_program content
  pub is : events ≡ (finished of_program content).events

-- or of at most so many turns of finishing
pub record AreOfFirstRounds (program trace : List ℕ) (files : Files) (events : List Event) : Type 0 where
  pub of_program : Program
  pub content : Content
  pub has : AreReplayed files program trace of_program content
  pub many : ℕ
  pub is : events
      ≡ (finish_within many (script_of of_program content.n) (seen_trace content) (to_finish [])).events
