-- The blocks and the summary of a run of a program.
use Rattle.std.specs.Prelude.{◌≡◌, ℕ, List, ◌++◌, length, Some, slice_get}
use Rattle.std.specs.List.{flat_map, range_with_len}
use Rattle.c_tree.specs.declared.program.Program.{Program}
use Rattle.c_tree.specs.Play.{script_of}
use Rattle.stack_code.specs.Code.{Code}
use Rattle.event_list.specs.declared.Event.{Event}
use Rattle.event_list.specs.Events.{count, messages, letters, taken}
use Rattle.event_list.specs.Traces.{waiting}
use Rattle.world.specs.Worlds.{Parts, IsWorldOf}
use Rattle.c_process.specs.Standing.{IsCodeOf}
use Rattle.c_process.specs.contracts.script.CProcProc.TheImpl as process
use Rattle.c_process.specs.declared.process.CProc.{CProc}
use Rattle.c_process.specs.Shown.{look_after, line_after, output_after}
use Rattle.report.specs.Texts.{block, summary}

-- the block of a process among n after these events
abbrev pub block_of : Program → ℕ → List Event → ℕ → List ℕ
block_of program n E p =
    block p (look_after program n p (messages E p) (count E p)) (line_after program n p (messages E p) (count E p))
    (count E p) (output_after program n p (messages E p) (count E p))

-- the blocks of n processes, in order
abbrev pub all_blocks : Program → ℕ → List Event → List ℕ
all_blocks program n E = flat_map (block_of program n E) (range_with_len 0 n)

abbrev pub summary_of : List Event → List ℕ
summary_of E = summary (length E) (length (letters E)) (length (taken E)) (length (waiting E))

-- all blocks, and the summary
abbrev pub blocks : Program → ℕ → List Event → List ℕ
blocks program n E = all_blocks program n E ++ summary_of E

-- The world's processes run code of the program, as so many as they are, and it stands for the program's scripts after
-- these events.
pub record RunsProgram {M : Type 0} (w : Parts CProc M) (program : Program) (E : List Event) : Type 0 where
  pub stands : IsWorldOf process.stands_for-value.it w (script_of program (length w.processes)) E
  pub code : Code
  pub compiled : IsCodeOf program code
  pub runs : (p : ℕ) (x : CProc) → slice_get w.processes p ≡ Some x
      → process.origin_of-value.it x ≡ (code, length w.processes)
