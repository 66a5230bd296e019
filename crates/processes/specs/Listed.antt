-- Scripts for tests: a process that goes through a list of kinds of events, whatever letters it accepts.
-- An Accepted in the list stands for a receive with its set, of any letter
use Rattle.std.specs.Prelude.{ℕ, pos, ◌+◌, ◌==◌, ◌&&◌, ◌||◌, Bool, true, false, not, nat_lt, nat_le, List, [], ◌∷◌, Option, Some, None, slice_get, if◌then◌else◌}
use Rattle.nm_base.specs.declared.kind.Kind.{Kind}
use Rattle.nm_base.specs.declared.kind.Kind.TheVariants.{Sent, Accepted}
use Rattle.nm_base.specs.Scripts.{Script, Next, Goes, Wants, Over, is_send, is_last}
use Rattle.processes.specs.declared.proc.Look.{Look}
use Rattle.processes.specs.declared.proc.Look.TheVariants.{Able, Waiting, Ended}

-- what it does next, if this is the list's next kind
abbrev pub next_of : Option Kind → Next
next_of None = Over
next_of (Some (Accepted set id)) = Wants set
next_of (Some kind) = Goes kind

-- what it shows then
abbrev pub look_of : Option Kind → Look
look_of None = Ended (pos 0)
look_of (Some (Accepted set id)) = Waiting set
look_of (Some kind) = Able

abbrev pub listed : List Kind → Script
listed kinds = record { next = λ letters k. next_of (slice_get kinds k) }

abbrev pub is_end : List Kind → Bool
is_end [] = true
is_end (kind ∷ kinds) = false

-- whether a process that sent so many letters may make this event
abbrev pub is_proper : ℕ → Kind → Bool
is_proper sent (Sent number dest chan len words) = (number == sent)
    && (nat_lt chan 32 && (nat_lt 0 len && nat_le len 8))
is_proper sent _ = true

-- whether the events of a process that sent so many letters keep the laws of scripts
abbrev pub are_proper : ℕ → List Kind → Bool
are_proper sent [] = true
are_proper sent (kind ∷ kinds) = is_proper sent kind
    && ((not (is_last kind) || is_end kinds) && are_proper (if is_send kind then sent + 1 else sent) kinds)
