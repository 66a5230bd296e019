-- How far a trace is that is written again.
use Rattle.std.specs.Prelude.{◌≡◌, ℕ, ◌≤◌, List, ◌++◌, length, take, Option, option_map, IsSome}
use Rattle.std.specs.List.{flat_map}
use Rattle.std.specs.FinMap.{insert}
use Rattle.nm_outside.specs.Files.{Files}
use Rattle.trace_file.specs.declared.writer.TraceWriter.{TraceWriter}
use Rattle.trace_file.specs.Content.{Content}
use Rattle.trace_file.specs.Bytes.{note, lost_entry}
use Rattle.trace_file.specs.Writing.{Writes}

-- the bytes of the entries
abbrev pub entries : Content → List ℕ
entries t = flat_map note t.notes ++ flat_map lost_entry t.lost

-- the file that is written: its name, and all files before it was begun
pub record Place : Type 0 where
  pub start : Option Files
  pub name : List ℕ

-- those files with these bytes in the named one, where they are told
abbrev pub holding : Place → List ℕ → Option Files
holding at bytes = option_map (λ fs. insert fs at.name bytes) at.start

-- the bytes so far: the writer stands for them, and the named file is open and holds them, where files are told
pub record IsSoFar (at : Place) (w : TraceWriter) (files : Option Files) (opened bytes : List ℕ) : Type 0 where
  pub writes : Writes w bytes
  pub is : files ≡ holding at bytes
  pub name_is : IsSome files → opened ≡ at.name

-- the named file holds a front of these bytes, where files are told, and no other file changed
pub record HoldsFront (at : Place) (files : Option Files) (bytes : List ℕ) : Type 0 where
  pub many : ℕ
  pub within : many ≤ length bytes
  pub is : files ≡ holding at (take many bytes)
