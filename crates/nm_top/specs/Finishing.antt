-- The replay of a program under a trace, and how it is finished.
use Rattle.std.specs.Prelude.{ℕ, ◌-◌, List, [], ◌++◌, map, length}
use Rattle.nm_base.specs.declared.letter.LetterId.{LetterId}
use Rattle.c_tree.specs.declared.program.Program.{Program}
use Rattle.c_tree.specs.Play.{script_of}
use Rattle.schedules.specs.declared.schedule.Turn.{Turn}
use Rattle.event_list.specs.declared.Event.{Event}
use Rattle.event_list.specs.Turns.{replay_of, Finishing, finish_of}
use Rattle.trace_file.specs.Content.{Content}
use Rattle.replay_core.specs.Gates.{seen_trace}
use Rattle.cut_witness.specs.Comparisons.{letter_in, trace_entries}
use Rattle.report.specs.Texts.{turns_line}
use Rattle.report.specs.Runs.{blocks}
use Rattle.nm_top.specs.Schedules.{seen_turn}

-- the replay of the program under the trace by these turns
abbrev pub replayed : Program → Content → List Turn → List Event
replayed p t turns = replay_of (script_of p t.n) (seen_trace t) (map seen_turn turns)

-- what is printed of it: the blocks and the summary, and how many turns there were, and how many made no event
abbrev pub replay_text : Program → Content → List Turn → List ℕ
replay_text p t turns =
    blocks p t.n (replayed p t turns) ++ turns_line (length turns) (length turns - length (replayed p t turns))

-- its replay, finished by round robin from the beginning
abbrev pub finished : Program → Content → Finishing
finished p t = finish_of (script_of p t.n) (seen_trace t) []

-- what is printed of it: the blocks and the summary, and the turns of the round robin
abbrev pub finish_text : Program → Content → List ℕ
finish_text p t = blocks p t.n (finished p t).events ++ turns_line (finished p t).turns (finished p t).idle

-- the letters that the trace names, in file order
abbrev pub entries_of : Content → List LetterId
entries_of t = map letter_in (trace_entries t.notes t.lost)
