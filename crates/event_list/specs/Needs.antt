-- A trace without one of its entries.
use Rattle.std.specs.Prelude.{not, filter}
use Rattle.nm_base.specs.declared.letter.LetterId.{LetterId}
use Rattle.nm_base.specs.Message.{same_name}
use Rattle.event_list.specs.Traces.{Trace}

-- the trace without the note or lost entry that names the letter
abbrev pub without : Trace → LetterId → Trace
without T id =
    record T {
      notes = filter (λ note. not (same_name note.id id)) T.notes;
      lost = filter (λ l. not (same_name l id)) T.lost;
    }
