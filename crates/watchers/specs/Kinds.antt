-- The three kinds of watchers.
use Rattle.std.specs.Prelude.{ℕ, ◌+◌, ◌-◌, ◌/◌, ◌^◌, ◌==◌, nat_lt, Bool, true, false, if◌then◌else◌, List, [], ◌∷◌, ◌++◌, length, slice_index, slice_set, flat_map, codes, decimal}
use Rattle.std.specs.Option.{option_to_list}
use Rattle.nm_base.specs.declared.letter.LetterId.{LetterId}
use Rattle.nm_base.specs.declared.kind.Kind.{Kind}
use Rattle.nm_base.specs.declared.kind.Kind.TheVariants.{Line, Sent, Accepted, Printed, Ended, Faulted}
use Rattle.event_list.specs.declared.Event.{Event}
use Rattle.event_list.specs.Events.{taken_of}
use Rattle.watchers.specs.Watched.{WatcherKind}

-- a count that has reached the greatest number of 64 bits stays there
abbrev pub one_more : ℕ → ℕ
one_more count = if nat_lt count (2 ^ 64 - 1) then count + 1 else count

-- which of the six counts is that of this kind
abbrev pub place_of : Kind → ℕ
place_of (Line line) = 0
place_of (Sent number dest chan len words) = 1
place_of (Accepted set id) = 2
place_of (Printed bytes) = 3
place_of (Ended value) = 4
place_of (Faulted cause) = 5

-- `KindCount`: its notes are the six counts
abbrev pub counted : List ℕ → Event → List ℕ
counted counts e = slice_set counts (place_of e.kind) (one_more (slice_index counts (place_of e.kind)))

abbrev pub counts_text : List ℕ → List ℕ
counts_text counts =
    codes "lines " ++ decimal (slice_index counts 0) ++ codes " sent " ++ decimal (slice_index counts 1)
    ++ codes " accepted " ++ decimal (slice_index counts 2) ++ codes " printed " ++ decimal (slice_index counts 3)
    ++ codes " ended " ++ decimal (slice_index counts 4) ++ codes " faulted " ++ decimal (slice_index counts 5)

abbrev pub kind_count : WatcherKind
kind_count = record { noted = counted; stops = λ counts. false; said = counts_text; steady = true }

-- `FaultStop`: its notes are the number of faults, and 1 or 0, whether the last event was one
abbrev pub is_fault : Kind → Bool
is_fault (Faulted cause) = true
is_fault _ = false

abbrev pub fault_notes : ℕ → Bool → List ℕ
fault_notes faults at_fault = faults ∷ (if at_fault then 1 else 0) ∷ []

abbrev pub fault_noted : List ℕ → Event → List ℕ
fault_noted notes e =
    fault_notes (if is_fault e.kind then one_more (slice_index notes 0) else slice_index notes 0) (is_fault e.kind)

abbrev pub fault_stop : WatcherKind
fault_stop = record {
  noted = fault_noted;
  stops = λ notes. slice_index notes 1 == 1;
  said = λ notes. codes "faults " ++ decimal (slice_index notes 0);
  steady = true;
}

-- `LetterLog`: its notes are the sender and the number of each letter that was accepted
abbrev pub name_notes : LetterId → List ℕ
name_notes id = id.sender.no ∷ id.number ∷ []

abbrev pub letter_noted : List ℕ → Event → List ℕ
letter_noted notes e = notes ++ flat_map name_notes (option_to_list (taken_of e))

abbrev pub letter_log : WatcherKind
letter_log = record {
  noted = letter_noted;
  stops = λ notes. false;
  said = λ notes. codes "letters " ++ decimal (length notes / 2);
  steady = false;
}
