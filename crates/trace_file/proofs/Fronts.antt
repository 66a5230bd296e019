-- What a writer does to the front of a trace.
use Rattle.std.proofs.Common.{ℕ, List, Result, Ok, Err, sym, subst}
use Rattle.std.specs.Prelude.{OnOk}
use Rattle.trace_file.specs.declared.writer.TraceWriter.{TraceWriter}
use Rattle.trace_file.specs.Content.{begun}
use Rattle.trace_file.specs.Bytes.{front, header_part}
use Rattle.trace_file.specs.Writing.{Writes}
use Rattle.trace_file.proofs.Passing.{begun_front}

-- what follows where it is so after a success
pub on_ok : {T E P Q : Type 0} (r : Result T E) → (P → Q) → OnOk r P → OnOk r Q
on_ok (Ok x) f p = f p
on_ok (Err e) f p = tt

pub writes_begun : (w : TraceWriter) (version mask n : ℕ) (digest : List ℕ) → Writes w (header_part version mask n digest)
    → Writes w (front (begun version mask n digest))
writes_begun w version mask n digest = subst (Writes w) (sym (begun_front version mask n digest))
