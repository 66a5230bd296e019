use Rattle.std.proofs.Common.{◌≡◌, ℕ, [], take}
use Rattle.std.specs.Prelude.{slice_index}
use Rattle.trace_file.specs.Content.{count_of}
use Rattle.event_list.specs.Turns.{sum_below}
use Rattle.replay_core.specs.private.Held.{Holds}
use Rattle.replay_core.proofs.gate.TraceGate.new.Given as goal

abbrev pub invariant-loop-note : goal.invariant-loop-note
invariant-loop-note l = record {
  held : Holds l.gate (take l.note-index l.trace.notes) [];
  counts : (p : ℕ) → slice_index l.gate.counts p ≡ count_of l.trace p;
  total : l.gate.total ≡ sum_below l.trace.n (count_of l.trace);
}

abbrev pub invariant-loop-id : goal.invariant-loop-id
invariant-loop-id l = record {
  held : Holds l.gate l.trace.notes (take l.id-index l.trace.lost);
  counts : (p : ℕ) → slice_index l.gate.counts p ≡ count_of l.trace p;
  total : l.gate.total ≡ sum_below l.trace.n (count_of l.trace);
}
