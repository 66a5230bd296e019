-- Which calls of the objects in memory fail, and what a failing call keeps. Calls are numbered from 1.
use Rattle.std.specs.Prelude.{ℕ, ◌+◌, ◌-◌, ◌^◌, List, length, take, min, Bool, true, false, ◌&&◌, nat_lt, ◌==◌, Option, Some, None, if◌then◌else◌}
use Rattle.std.specs.Option.{option_map}
use Rattle.std.specs.List.{find, list_any}
use Rattle.nm_outside.specs.declared.mem_cabinet.CabinetCall.{CabinetCall}
use Rattle.nm_outside.specs.declared.mem_cabinet.CabinetCall.TheVariants.{Fetch, Begin, Append, Close}
use Rattle.nm_outside.specs.declared.mem_cabinet.CabinetFail.{CabinetFail}
use Rattle.nm_outside.specs.declared.list_sink.SinkFail.{SinkFail}

-- the number of the next call. It stops at the last value of its type, which no entry names
abbrev pub next_number : ℕ → ℕ
next_number calls = min (calls + 1) (2 ^ 64 - 1)

abbrev pub is_call : CabinetCall → CabinetCall → Bool
is_call Fetch Fetch = true
is_call Begin Begin = true
is_call Append Append = true
is_call Close Close = true
is_call one other = false

-- how many bytes the nth call of a kind keeps, where it is to fail: the first entry counts
abbrev pub failing_call : List CabinetFail → CabinetCall → ℕ → Option ℕ
failing_call fails call nth = option_map (λ f. f.kept) (find (λ f. is_call f.call call && (f.nth == nth)) fails)

-- the same of a put
abbrev pub failing_put : List SinkFail → ℕ → Option ℕ
failing_put fails nth = option_map (λ f. f.kept) (find (λ f. f.nth == nth) fails)

-- whether the nth take of a source is to fail
abbrev pub names_take : List ℕ → ℕ → Bool
names_take fails nth = list_any (λ fail. fail == nth) fails

-- how many bytes are kept of a piece that isn't wholly put behind these bytes: none where it is past
-- the room, and otherwise so many where the call is to fail
abbrev pub kept_within : ℕ → List ℕ → List ℕ → Option ℕ → Option ℕ
kept_within room bytes piece failing = if nat_lt room (length bytes + length piece) then Some 0 else failing

-- what is put of a piece
abbrev pub part_of : List ℕ → Option ℕ → List ℕ
part_of piece None = piece
part_of piece (Some kept) = take kept piece
