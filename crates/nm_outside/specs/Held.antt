-- What the objects in memory hold, for their callers.
use Rattle.std.specs.Prelude.{ℕ, List, drop, length, Option, Some, None, ◌==◌, if◌then◌else◌}
use Rattle.nm_outside.specs.Files.{Files}
use Rattle.nm_outside.specs.InMemory.{files_of, first_bytes}
use Rattle.nm_outside.specs.Failing.{next_number, failing_call, failing_put, kept_within}
use Rattle.nm_outside.specs.declared.mem_cabinet.MemCabinet.{MemCabinet}
use Rattle.nm_outside.specs.declared.mem_cabinet.CabinetFail.{CabinetFail}
use Rattle.nm_outside.specs.declared.mem_cabinet.Calls.{Calls}
use Rattle.nm_outside.specs.declared.mem_cabinet.CabinetCall.{CabinetCall}
use Rattle.nm_outside.specs.declared.mem_cabinet.CabinetCall.TheVariants.{Fetch, Begin, Append, Close}
use Rattle.nm_outside.specs.declared.list_sink.ListSink.{ListSink}
use Rattle.nm_outside.specs.declared.list_source.ListSource.{ListSource}
use Rattle.nm_outside.specs.declared.list_sink.SinkFail.{SinkFail}

-- ---- a cabinet in memory

-- its files
abbrev pub held_by : MemCabinet → Files
held_by c = files_of c.files.items

-- the bytes that a file which is begun may have
abbrev pub room_in : MemCabinet → ℕ
room_in c = c.room

-- the calls that are to fail
abbrev pub fails_of : MemCabinet → List CabinetFail
fails_of c = c.fails.items

-- how many calls of each kind there were
abbrev pub calls_of : MemCabinet → Calls
calls_of c = c.calls

-- its sure room, which it tells where no call is to fail
abbrev pub room_of : MemCabinet → Option ℕ
room_of c = if length c.fails.items == 0 then Some c.room else None

-- what its next call of a kind keeps, where that is to fail
abbrev pub next_failing : MemCabinet → CabinetCall → Option ℕ
next_failing c Fetch = failing_call c.fails.items Fetch (next_number c.calls.fetches)
next_failing c Begin = failing_call c.fails.items Begin (next_number c.calls.begins)
next_failing c Append = failing_call c.fails.items Append (next_number c.calls.appends)
next_failing c Close = failing_call c.fails.items Close (next_number c.calls.closes)

-- what its next append of a piece keeps of it, where that fails
abbrev pub next_part : MemCabinet → List ℕ → Option ℕ
next_part c piece = kept_within c.room (first_bytes c.files.items) piece (next_failing c Append)

-- ---- a sink in memory

-- what it was given
abbrev pub bytes_of : ListSink → List ℕ
bytes_of s = s.bytes.items

-- the bytes that it may be given
abbrev pub sink_room : ListSink → ℕ
sink_room s = s.room

-- the puts that are to fail
abbrev pub sink_fails : ListSink → List SinkFail
sink_fails s = s.fails.items

-- how many puts there were
abbrev pub puts_of : ListSink → ℕ
puts_of s = s.puts

-- what the next put of a piece keeps of it, where that fails
abbrev pub next_kept : ListSink → List ℕ → Option ℕ
next_kept s piece = kept_within s.room s.bytes.items piece (failing_put s.fails.items (next_number s.puts))

-- ---- a source in memory

-- what it has left
abbrev pub left_in : ListSource → List ℕ
left_in s = drop s.place s.bytes.items

-- the most bytes of one take
abbrev pub piece_of : ListSource → ℕ
piece_of s = s.piece

-- the takes that are to fail
abbrev pub take_fails : ListSource → List ℕ
take_fails s = s.fails.items

-- how many takes there were
abbrev pub takes_of : ListSource → ℕ
takes_of s = s.takes
