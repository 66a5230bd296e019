-- What a writer stands for.
use Rattle.std.specs.Prelude.{◌≡◌, ℕ, ◌<◌, List, length, slice_index}
use Rattle.sha2.specs.Hashers.{Holds256}
use Rattle.trace_file.specs.declared.writer.TraceWriter.{TraceWriter}

-- The number of processes, the number of bytes and the state of the digest are those of these bytes.
pub record Writes (w : TraceWriter) (bytes : List ℕ) : Type 0 where
  pub header : 5 < length bytes
  pub n : slice_index bytes 5 ≡ w.n
  pub size : length bytes ≡ w.size
  pub state : Holds256 w.hasher bytes

-- the number of processes
abbrev pub processes : TraceWriter → ℕ
processes w = w.n

-- the number of bytes so far
abbrev pub written : TraceWriter → ℕ
written w = w.size
