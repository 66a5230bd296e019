use Rattle.std.proofs.Common.{◌≡◌, drop, slice_index, Some}
use Rattle.std.specs.Prelude.{slice_get}
use Rattle.event_list.specs.declared.Event.{Event}
use Rattle.causal_stop.proofs.PastFacts.{Reaches}
use Rattle.causal_stop.proofs.cuts.past_from.Given as goal

abbrev pub invariant-loop-i : goal.invariant-loop-i
invariant-loop-i l = (a : Event) → slice_get l.events.events l.place ≡ Some a → Reaches l.events.events a (drop l.i l.events.events) (slice_index l.needs.events) (slice_index l.needs.letters)
