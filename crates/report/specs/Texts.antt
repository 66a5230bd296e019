-- The printed texts, as functions of plain values. Numbers are decimal without leading zeros; every line ends with one
-- newline.
use Rattle.std.specs.Prelude.{ℕ, ◌+◌, ◌-◌, ◌^◌, ◌/◌, ◌%◌, slice_get, List, [], ◌∷◌, ◌++◌, length, map, codes, ◌==◌, nat_lt, if◌then◌else◌, Option, Some, None, get_or}
use Rattle.std.specs.List.{flat_map, range_with_len}
use Rattle.std.specs.Option.{option_map_or}
use Rattle.std.specs.Fmt.{decimal, signed_decimal}
use Rattle.nm_base.specs.declared.kind.FaultCause.{FaultCause}
use Rattle.nm_base.specs.declared.kind.FaultCause.TheVariants.{Overflow, DivideByZero, Shift, Index, Address, EmptySet, NoLetter, DepthFull, DataFull, OutputFull}
use Rattle.nm_base.specs.declared.letter.LetterId.{LetterId}
use Rattle.processes.specs.declared.proc.Look.{Look}
use Rattle.processes.specs.declared.proc.Look.TheVariants.{Able, Waiting, Ended, Faulted}
use Rattle.cut_witness.specs.declared.certificates.Witness.{Witness}
use Rattle.cut_witness.specs.declared.certificates.WitnessTurn.{WitnessTurn}
use Rattle.report.specs.declared.cause.Refusal.{Refusal}
use Rattle.report.specs.declared.cause.Refusal.TheVariants.{Usage, Absent, ReadFault, InputFault, TooLong, ProgramRefused, ScheduleRefused, TraceDamaged, OtherProgram, Stuck, Stopped, NotItsTrace, InputFull}

-- the lower-case hexadecimal digit for the four bits of a number from bit `low` on
abbrev pub digit_of : ℕ → ℕ
digit_of d = if nat_lt d 10 then 48 + d else 87 + d

abbrev pub hex_digit : ℕ → ℕ → ℕ
hex_digit n low = digit_of ((n / 2 ^ low) % 16)

-- a set of channels, in eight digits
abbrev pub hex_digits : ℕ → List ℕ
hex_digits n = map (hex_digit n) (28 ∷ 24 ∷ 20 ∷ 16 ∷ 12 ∷ 8 ∷ 4 ∷ 0 ∷ [])

-- a byte, in two digits
abbrev pub byte_digits : ℕ → List ℕ
byte_digits byte = hex_digit byte 4 ∷ hex_digit byte 0 ∷ []

-- a digest, in two digits for each byte
abbrev pub digest_text : List ℕ → List ℕ
digest_text digest = flat_map byte_digits digest

abbrev pub digest_after : List ℕ → List ℕ → List ℕ
digest_after start digest = start ++ digest_text digest

-- the name `S.K` of a letter behind a text
abbrev pub letter_after : List ℕ → LetterId → List ℕ
letter_after start id = start ++ decimal id.sender.no ++ codes "." ++ decimal id.number

abbrev pub cause_name : FaultCause → List ℕ
cause_name Overflow = codes "Overflow"
cause_name DivideByZero = codes "DivideByZero"
cause_name Shift = codes "Shift"
cause_name Index = codes "Index"
cause_name Address = codes "Address"
cause_name EmptySet = codes "EmptySet"
cause_name NoLetter = codes "NoLetter"
cause_name DepthFull = codes "DepthFull"
cause_name DataFull = codes "DataFull"
cause_name OutputFull = codes "OutputFull"

-- how a process stands
abbrev pub status_text : Look → List ℕ
status_text Able = codes "able"
status_text (Waiting set) = codes "waiting 0x" ++ hex_digits set
status_text (Ended value) = codes "ended " ++ signed_decimal value
status_text (Faulted cause) = codes "faulted " ++ cause_name cause

-- the same, with the line of a fault
abbrev pub look_text : Look → ℕ → List ℕ
look_text (Faulted cause) line = status_text (Faulted cause) ++ codes " at line " ++ decimal line
look_text other line = status_text other

abbrev pub process_text : ℕ → List ℕ
process_text p = codes "== process " ++ decimal p ++ codes " "

abbrev pub counts_text : ℕ → ℕ → List ℕ
counts_text events bytes = codes ", " ++ decimal events ++ codes " events, " ++ decimal bytes ++ codes " bytes\n"

abbrev pub head_text : ℕ → Look → ℕ → ℕ → ℕ → List ℕ
head_text p look line events bytes = process_text p ++ look_text look line ++ counts_text events bytes

-- a newline behind bytes that don't end in one
abbrev pub line_end : List ℕ → List ℕ
line_end output = option_map_or (λ c. if c == 10 then [] else (10 ∷ [])) (slice_get output (length output - 1)) []

-- the block of a process: `== process P STATUS, E events, B bytes`, and its output
abbrev pub block : ℕ → Look → ℕ → ℕ → List ℕ → List ℕ
block p look line events output = head_text p look line events (length output) ++ (output ++ line_end output)

abbrev pub summary : ℕ → ℕ → ℕ → ℕ → List ℕ
summary events sent accepted waiting =
    codes "== events " ++ decimal events ++ codes ", sent " ++ decimal sent ++ codes ", accepted " ++ decimal accepted
    ++ codes ", waiting " ++ decimal waiting ++ codes "\n"

-- ---- the lines of traces and replays

abbrev pub sizes_line : List ℕ → ℕ → ℕ → ℕ → List ℕ
sizes_line start notes lost bytes =
    start ++ decimal notes ++ codes ", lost " ++ decimal lost ++ codes ", bytes " ++ decimal bytes ++ codes "\n"

abbrev pub trace_line : ℕ → ℕ → ℕ → List ℕ
trace_line notes lost bytes = sizes_line (codes "== trace notes ") notes lost bytes

-- what watcher k says at the end of a replay
abbrev pub watched_line : ℕ → List ℕ → List ℕ
watched_line k said = codes "== watch " ++ decimal k ++ codes ": " ++ said ++ codes "\n"

abbrev pub turns_line : ℕ → ℕ → List ℕ
turns_line turns idle = codes "== turns " ++ decimal turns ++ codes ", idle " ++ decimal idle ++ codes "\n"

abbrev pub number_line : List ℕ → ℕ → List ℕ → List ℕ
number_line start number end = start ++ decimal number ++ end

abbrev pub stopped_line : ℕ → List ℕ
stopped_line turns = number_line (codes "stopped: want of memory after ") turns (codes " turns\n")

abbrev pub upgraded_line : ℕ → ℕ → ℕ → List ℕ
upgraded_line notes lost bytes = sizes_line (codes "upgraded: notes ") notes lost bytes

-- the first line of a run that is generated
abbrev pub soak_line : ℕ → ℕ → ℕ → List ℕ
soak_line seed n turns =
    codes "soak " ++ decimal seed ++ codes ": N " ++ decimal n ++ codes ", turns " ++ decimal turns ++ codes "\n"

-- ---- certificates

-- the number of the receive of a letter, or that it was lost
abbrev pub received_text : Option ℕ → List ℕ
received_text None = codes ", lost\n"
received_text (Some number) = codes ", receive " ++ decimal number ++ codes "\n"

-- where a letter went, `== letter S.K to D on C`
abbrev pub went_text : LetterId → ℕ → ℕ → List ℕ
went_text id dest chan = letter_after (codes "== letter ") id ++ codes " to " ++ decimal dest ++ codes " on "
    ++ decimal chan

abbrev pub letter_line : LetterId → ℕ → ℕ → Option ℕ → List ℕ
letter_line id dest chan received = went_text id dest chan ++ received_text received

-- `earlier receive Q, event E, set SET`
abbrev pub earlier_line : ℕ → ℕ → ℕ → List ℕ
earlier_line receive event set =
    codes "earlier receive " ++ decimal receive ++ codes ", event " ++ decimal event ++ codes ", set 0x"
    ++ hex_digits set ++ codes "\n"

-- the letter that a turn accepts, behind its process
abbrev pub took_after : List ℕ → Option LetterId → List ℕ
took_after start None = start
took_after start (Some id) = letter_after (start ++ codes "<") id

-- a blank, and `P` or `P<S.K`
abbrev pub turn_text : WitnessTurn → List ℕ
turn_text t = took_after (codes " " ++ decimal t.proc.no) t.took

abbrev pub taken_turns : List WitnessTurn → List ℕ
taken_turns turns = (codes "turns" ++ flat_map turn_text turns) ++ codes "\n"

-- the three lines of a certificate
abbrev pub certificate : Witness → List ℕ
certificate w =
    (letter_line w.id w.dest.no w.chan w.received ++ earlier_line w.earlier_receive w.earlier_event w.set)
    ++ taken_turns w.turns

abbrev pub certificates_line : ℕ → List ℕ
certificates_line number = number_line (codes "== certificates ") number (codes "\n")

-- ---- parts of the lines of refusals

abbrev pub name_line : List ℕ → List ℕ → List ℕ
name_line start name = start ++ name ++ codes "\n"

abbrev pub kind_line : List ℕ → List ℕ → List ℕ → ℕ → List ℕ
kind_line start kind middle number = (start ++ kind ++ middle) ++ (decimal number ++ codes "\n")

-- ---- the lines of refusals

abbrev pub usage_line : List ℕ
usage_line = codes "usage\n"

abbrev pub absent_line : List ℕ → List ℕ
absent_line name = name_line (codes "absent: ") name

abbrev pub read_fault_line : List ℕ → List ℕ
read_fault_line name = name_line (codes "read fault: ") name

-- for the input of a debugger
abbrev pub input_fault_line : List ℕ
input_fault_line = codes "read fault: input\n"

abbrev pub input_full_line : List ℕ
input_full_line = codes "input full\n"

abbrev pub too_long_line : List ℕ → List ℕ
too_long_line name = name_line (codes "too long: ") name

abbrev pub program_refused_line : List ℕ → ℕ → List ℕ
program_refused_line kind line = kind_line (codes "program refused: ") kind (codes " at line ") line

abbrev pub schedule_refused_line : List ℕ → ℕ → List ℕ
schedule_refused_line kind place = kind_line (codes "schedule refused: ") kind (codes " at ") place

abbrev pub trace_damaged_line : List ℕ → ℕ → List ℕ
trace_damaged_line kind place = kind_line (codes "trace damaged: ") kind (codes " at ") place

-- the digest in the trace, and that of the file
abbrev pub other_program_line : List ℕ → List ℕ → List ℕ
other_program_line of_trace of_file =
    (digest_after (codes "other program: ") of_trace ++ digest_after (codes " ") of_file) ++ codes "\n"

-- how far a process came, `EVENTS/COUNT`
abbrev pub progress_text : List ℕ → List ℕ → ℕ → List ℕ
progress_text events counts p = codes " " ++ decimal (get_or events p 0) ++ codes "/" ++ decimal (get_or counts p 0)

-- how far each of n processes came
abbrev pub stuck_line : ℕ → List ℕ → List ℕ → List ℕ
stuck_line n events counts = (codes "stuck:" ++ flat_map (progress_text events counts) (range_with_len 0 n))
    ++ codes "\n"

abbrev pub not_its_trace_line : LetterId → List ℕ
not_its_trace_line id = letter_after (codes "not its trace: letter ") id ++ codes "\n"

abbrev pub refusal_line : Refusal → List ℕ
refusal_line Usage = usage_line
refusal_line (Absent name) = absent_line name.now
refusal_line (ReadFault name) = read_fault_line name.now
refusal_line InputFault = input_fault_line
refusal_line (TooLong name) = too_long_line name.now
refusal_line (ProgramRefused kind line) = program_refused_line kind.now line
refusal_line (ScheduleRefused kind place) = schedule_refused_line kind.now place
refusal_line (TraceDamaged kind place) = trace_damaged_line kind.now place
refusal_line (OtherProgram of_trace of_file) = other_program_line of_trace of_file
refusal_line (Stuck n events counts) = stuck_line n events counts
refusal_line (Stopped turns) = stopped_line turns
refusal_line (NotItsTrace letter) = not_its_trace_line letter
refusal_line InputFull = input_full_line
