use Rattle.std.proofs.Common.{◌≡◌, take, slice_index, Some}
use Rattle.std.specs.Prelude.{slice_get}
use Rattle.event_list.specs.declared.Event.{Event}
use Rattle.causal_stop.proofs.FreeFacts.{Frees}
use Rattle.causal_stop.proofs.cuts.free_of.Given as goal

abbrev pub invariant-loop-i : goal.invariant-loop-i
invariant-loop-i l = (a : Event) → slice_get l.events.events l.place ≡ Some a → Frees l.events.events a (take l.i l.events.events) (slice_index l.free.events) (slice_index l.free.letters)
