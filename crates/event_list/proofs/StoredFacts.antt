-- The bounds of a stored list.
use Rattle.std.proofs.Common.{◌<◌, ℕ, Bool, true, false, cond, List, [], ◌∷◌, ◌++◌, length, take, drop, ap, subst, inl, inr, arith, length-append}
use Rattle.std.specs.Prelude.{Contains}
use Rattle.std.proofs.lemmas.List.{take-append-drop}
use Rattle.std.proofs.lemmas.List.Elements.{Contains-append_left, Contains-push_cases}
use Rattle.nm_base.specs.declared.limits.TheConstants.{MAX_EVENTS, MAX_PROCESSES}
use Rattle.event_list.specs.declared.Event.{Event}
use Rattle.event_list.specs.Stored.{IsBounded}

bounded_push : (events : List Event) (e : Event) → IsBounded events → length events < MAX_EVENTS → e.proc.no < MAX_PROCESSES → IsBounded (events ++ e ∷ [])
bounded_push events e h room process = record {
  few = omega (arith, room, length-append events (e ∷ []));
  below = λ x c. elim (Contains-push_cases events e x c) [
    | inl o ↦ h.below x o
    | inr n ↦ omega (arith, process, ap (λ z. z.proc.no) n)
  ];
}

pub bounded_take : (events : List Event) (k : ℕ) → IsBounded events → IsBounded (take k events)
bounded_take events k h =
    let whole = take-append-drop k events in record {
      few = omega (arith, h.few, ap length whole, length-append (take k events) (drop k events));
      below = λ x c. h.below x (subst (λ xs. Contains xs x) whole (Contains-append_left (take k events) (drop k events) x c));
    }

-- what a push leaves, whether it succeeds or not
pub bounded_pushed : (b : Bool) (events : List Event) (e : Event) → IsBounded events → length events < MAX_EVENTS → e.proc.no < MAX_PROCESSES → IsBounded (cond b (events ++ e ∷ []) events)
bounded_pushed true events e h room process = bounded_push events e h room process
bounded_pushed false events e h room process = h
