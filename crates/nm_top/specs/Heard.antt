-- The events that the watchers of a call are told of.
use Rattle.std.specs.Prelude.{◌≡◌, ◌⊎◌, ℕ, List, [], MatchOption, ⊤}
use Rattle.nm_outside.specs.Files.{Files}
use Rattle.event_list.specs.declared.Event.{Event}
use Rattle.nm_top.specs.declared.status.Status.{Status}
use Rattle.nm_top.specs.declared.status.Status.TheVariants.{Done, WriteFault, Stuck, WantOfMemory}
use Rattle.nm_top.specs.Commands.{Command, Replay, Finish, Debug, command_of}
use Rattle.nm_top.specs.Replays.{AreOfReplay, AreOfFirstTurns, AreOfFinish, AreOfFirstRounds}
use Rattle.nm_top.specs.Watches.{Given, Hear}

-- These are the events of the replay that a command made which ended with this status: the whole replay, or its first
-- turns where there was want of memory; none where the command refused before, and none of any other command.
abbrev pub Makes : Command → Files → Status → List Event → Type 0
Makes (Replay program trace schedule) files Done events = AreOfReplay program trace schedule files events
Makes (Replay program trace schedule) files WriteFault events =
    (events ≡ []) ⊎ AreOfReplay program trace schedule files events
Makes (Replay program trace schedule) files WantOfMemory events =
    (events ≡ []) ⊎ AreOfFirstTurns program trace schedule files events
Makes (Finish program trace) files Done events = AreOfFinish program trace files events
Makes (Finish program trace) files Stuck events = AreOfFinish program trace files events
Makes (Finish program trace) files WriteFault events = (events ≡ []) ⊎ AreOfFinish program trace files events
Makes (Finish program trace) files WantOfMemory events = (events ≡ []) ⊎ AreOfFirstRounds program trace files events
Makes command files status events = events ≡ []

-- The watchers of a command were told of the events of the replay that it made.
abbrev pub Hears : Command → Files → Status → Given → Type 0
Hears command files status x = (events : List Event) × Makes command files status events × Hear events x

-- What those of a debugger are told of, the replies to its lines say.
abbrev pub HearsAny : Command → Files → Status → Given → Type 0
HearsAny (Debug program trace) files status x = ⊤
HearsAny command files status x = Hears command files status x

-- Those of words were told so, and are as before where the words name no command.
abbrev pub AreTold : List (List ℕ) → Files → Status → Given → Type 0
AreTold words files status x =
    MatchOption (command_of words) (x.told ≡ x.watch) (λ command. HearsAny command files status x)
