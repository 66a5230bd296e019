-- What the two walks keep for each process: a number of events, and a number of letters.
use Rattle.std.specs.Prelude.{ℕ, ◌+◌, ◌<◌, ◌==◌, ◌&&◌, ◌||◌, Bool, true, false, nat_le, nat_lt, Option, Some, None}
use Rattle.nm_base.specs.declared.letter.LetterId.{LetterId}
use Rattle.nm_base.specs.declared.limits.TheConstants.{MAX_PROCESSES}
use Rattle.nm_base.specs.Message.{Message}
use Rattle.event_list.specs.declared.Event.{Event}
use Rattle.event_list.specs.Events.{letter_of, taken_of}
use Rattle.event_list.specs.Order.{Cut}
use Rattle.event_list.specs.Cuts.{raised}

-- how many letters each process sends
abbrev pub Letters : Type 0
Letters = ℕ → ℕ

-- whether a letter is among each process's first so many
abbrev pub is_among : Letters → Option Message → Bool
is_among w None = false
is_among w (Some m) = nat_lt m.id.number (w m.id.sender.no)

-- a letter that is accepted, if one is, is of a process that there may be
abbrev pub IsFromProcess : Option LetterId → Type 0
IsFromProcess None = Unit {0}
IsFromProcess (Some id) = id.sender.no < MAX_PROCESSES

-- backwards: whether the event is needed, where so many events and letters are
abbrev pub is_needed : Cut → Letters → Event → Bool
is_needed v w e = nat_le e.number (v e.proc.no) || is_among w (letter_of e)

-- the events and the letters that are needed with the event, if it is needed
abbrev pub events_with : Bool → Cut → Event → Cut
events_with true v e = raised v e.proc.no e.number
events_with false v e = v

abbrev pub letters_with : Bool → Letters → Option LetterId → Letters
letters_with true w (Some id) = raised w id.sender.no (id.number + 1)
letters_with true w None = w
letters_with false w o = w

-- forwards: whether the letter that is accepted, if one is, is among each process's first so many
abbrev pub is_name_among : Letters → Option LetterId → Bool
is_name_among w None = true
is_name_among w (Some id) = nat_lt id.number (w id.sender.no)

-- whether the event is free, where so many events and letters before it are
abbrev pub is_free : Cut → Letters → Event → Bool
is_free v w e = (v e.proc.no + 1 == e.number) && is_name_among w (taken_of e)

-- the letters that are free with the event, if it is free
abbrev pub letters_sent : Bool → Letters → Option Message → Letters
letters_sent true w (Some m) = raised w m.id.sender.no (m.id.number + 1)
letters_sent true w None = w
letters_sent false w o = w
