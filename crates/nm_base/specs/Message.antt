-- Letters without their place in a run.
use Rattle.std.specs.Prelude.{ℕ, Bool, ◌==◌, ◌&&◌, List, take}
use Rattle.nm_base.specs.declared.letter.LetterId.{LetterId}
use Rattle.nm_base.specs.declared.letter.ProcNo.{ProcNo}
use Rattle.nm_base.specs.declared.letter.Letter.{Letter}

-- what a process sees of a letter: its name, where it goes, on which channel, and its words.
-- Its timestamp and its posting number depend on the interleaving and are no part of it
pub record Message : Type 0 where
  pub id : LetterId
  pub dest : ProcNo
  pub chan : ℕ
  pub words : List ℕ

abbrev pub message_of : Letter → Message
message_of l = record { id = l.id; dest = l.dest; chan = l.chan; words = take l.len l.words }

-- whether two names are of one letter
abbrev pub same_name : LetterId → LetterId → Bool
same_name a b = (a.sender.no == b.sender.no) && (a.number == b.number)
