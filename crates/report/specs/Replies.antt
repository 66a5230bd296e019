-- The replies of a debugger, as functions of plain values. Every line ends with one newline.
use Rattle.std.specs.Prelude.{◌≡◌, ℕ, ◌<◌, List, [], ◌++◌, length, codes, Option, Some, None}
use Rattle.std.specs.List.{flat_map, range_with_len}
use Rattle.std.specs.Fmt.{decimal, signed_decimal}
use Rattle.nm_base.specs.declared.kind.Kind.{Kind}
use Rattle.nm_base.specs.declared.kind.Kind.TheVariants.{Line, Sent, Accepted, Printed, Ended, Faulted}
use Rattle.nm_base.specs.declared.operator.Ctype.{Ctype}
use Rattle.nm_base.specs.declared.operator.Ctype.TheVariants.{Int, Unsigned}
use Rattle.nm_base.specs.declared.letter.LetterId.{LetterId}
use Rattle.nm_base.specs.Message.{Message}
use Rattle.nm_base.specs.Word.{as_int}
use Rattle.processes.specs.declared.proc.Look.{Look}
use Rattle.event_list.specs.declared.Event.{Event}
use Rattle.report.specs.declared.replies.Spot.{Spot}
use Rattle.report.specs.declared.replies.Spot.TheVariants as spot
use Rattle.report.specs.declared.replies.Notice.{Notice}
use Rattle.report.specs.declared.replies.Notice.TheVariants.{Full, NoBreak, Finished, Stuck, IdleOver, IdleCount, IdleLetter, NoEvent, NoName, NeedsIndex, NoIndex, NoFrame, NoMail, NoWatcher, NoProcess, Unknown, Same, Before, After, Unordered, TooLong}
use Rattle.report.specs.Texts.{hex_digits, letter_after, cause_name, status_text, line_end}

-- ---- events

-- a letter of process p that was sent
abbrev pub sent_text : ℕ → ℕ → ℕ → ℕ → List ℕ
sent_text p number dest chan =
    codes "sent " ++ decimal p ++ codes "." ++ decimal number ++ codes " to " ++ decimal dest ++ codes " on "
    ++ decimal chan

abbrev pub accepted_text : LetterId → ℕ → List ℕ
accepted_text id set = letter_after (codes "accepted ") id ++ codes " set 0x" ++ hex_digits set

-- what an event of process p is
abbrev pub kind_text : ℕ → Kind → List ℕ
kind_text p (Line line) = codes "line " ++ decimal line
kind_text p (Sent number dest chan len words) = sent_text p number dest.no chan
kind_text p (Accepted set id) = accepted_text id set
kind_text p (Printed bytes) = codes "printed " ++ decimal bytes
kind_text p (Ended value) = codes "ended " ++ signed_decimal value
kind_text p (Faulted cause) = codes "faulted " ++ cause_name cause

abbrev pub number_text : ℕ → ℕ → List ℕ
number_text p number = decimal p ++ codes "." ++ decimal number ++ codes " "

-- an event's line, `P.E KIND`
abbrev pub event_line : Event → List ℕ
event_line e = number_text e.proc.no e.number ++ kind_text e.proc.no e.kind ++ codes "\n"

-- ---- breakpoints

-- where a breakpoint fits: after an event of its process whose next event is a Line of this line, or at its receives
abbrev pub spot_text : Spot → List ℕ
spot_text (spot.Line line) = codes " line " ++ decimal line
spot_text spot.Receive = codes " recv"

abbrev pub break_text : ℕ → ℕ → List ℕ
break_text k p = codes "break " ++ decimal k ++ codes ": process " ++ decimal p

-- breakpoint k was set for process p
abbrev pub set_line : ℕ → ℕ → Spot → List ℕ
set_line k p at = break_text k p ++ spot_text at ++ codes "\n"

abbrev pub cleared_line : ℕ → List ℕ
cleared_line k = codes "cleared " ++ decimal k ++ codes "\n"

-- breakpoint k fits after the event
abbrev pub broke_line : ℕ → Event → List ℕ
broke_line k e = codes "break " ++ decimal k ++ codes " at " ++ event_line e

-- watcher k stops after the event
abbrev pub watcher_line : ℕ → Event → List ℕ
watcher_line k e = codes "watcher " ++ decimal k ++ codes " at " ++ event_line e

-- ---- where a run is

abbrev pub at_line : ℕ → List ℕ
at_line events = codes "at " ++ decimal events ++ codes " events\n"

abbrev pub of_process : ℕ → List ℕ
of_process p = codes "process " ++ decimal p ++ codes " "

-- the line at which a process is, and how many of its events it made
abbrev pub place_text : ℕ → ℕ → ℕ → List ℕ
place_text line events count =
    codes " line " ++ decimal line ++ codes ", " ++ decimal events ++ codes " of " ++ decimal count ++ codes " events\n"

-- where process p is
abbrev pub where_line : ℕ → Look → ℕ → ℕ → ℕ → List ℕ
where_line p look line events count = of_process p ++ status_text look ++ place_text line events count

-- frame i, of the function of this name
abbrev pub frame_line : ℕ → List ℕ → ℕ → List ℕ
frame_line i name line = codes "#" ++ decimal i ++ codes " " ++ name ++ codes " line " ++ decimal line ++ codes "\n"

-- ---- values

-- a name, with the index where one was given
abbrev pub named_text : List ℕ → Option ℕ → List ℕ
named_text name None = name
named_text name (Some i) = name ++ codes "[" ++ decimal i ++ codes "]"

-- a value by its type
abbrev pub value_text : ℕ → Ctype → List ℕ
value_text bits Int = signed_decimal (as_int bits)
value_text bits Unsigned = decimal bits

abbrev pub value_line : List ℕ → Option ℕ → ℕ → Ctype → List ℕ
value_line name index bits of = named_text name index ++ (codes " = " ++ value_text bits of ++ codes "\n")

abbrev pub length_text : ℕ → List ℕ
length_text bytes = decimal bytes ++ codes " bytes\n"

-- what a process printed: how many bytes, the bytes, and a newline if they don't end in one
abbrev pub output_text : List ℕ → List ℕ
output_text bytes = length_text (length bytes) ++ (bytes ++ line_end bytes)

-- ---- letters and clocks

abbrev pub word_text : ℕ → List ℕ
word_text bits = codes " " ++ signed_decimal (as_int bits)

-- part q of a timestamp
abbrev pub part_text : (ℕ → ℕ) → ℕ → List ℕ
part_text parts q = codes " " ++ decimal (parts q)

-- the parts of n processes
abbrev pub parts_text : ℕ → (ℕ → ℕ) → List ℕ
parts_text n parts = flat_map (part_text parts) (range_with_len 0 n)

-- the same parts of n processes
abbrev pub AgreeBelow : ℕ → (ℕ → ℕ) → (ℕ → ℕ) → Type 0
AgreeBelow n parts other = (q : ℕ) → q < n → parts q ≡ other q

-- a timestamp behind a letter
abbrev pub stamp_text : ℕ → (ℕ → ℕ) → List ℕ
stamp_text n parts = codes " @" ++ parts_text n parts ++ codes "\n"

-- its name and its channel
abbrev pub letter_text : LetterId → ℕ → List ℕ
letter_text id chan = letter_after [] id ++ codes " on " ++ decimal chan ++ codes ":"

-- a waiting letter with its words and its timestamp, `S.K on C: W .. @ T ..`
abbrev pub waiting_line : ℕ → Message → (ℕ → ℕ) → List ℕ
waiting_line n m parts = letter_text m.id m.chan ++ flat_map word_text m.words ++ stamp_text n parts

abbrev pub clock_text : ℕ → List ℕ
clock_text p = codes "clock " ++ decimal p ++ codes ":"

-- the clock of process p among n
abbrev pub clock_line : ℕ → ℕ → (ℕ → ℕ) → List ℕ
clock_line p n parts = clock_text p ++ parts_text n parts ++ codes "\n"

-- ---- watchers

-- what watcher k says, in a debugger
abbrev pub watch_line : ℕ → List ℕ → List ℕ
watch_line k said = codes "watch " ++ decimal k ++ codes ": " ++ said ++ codes "\n"

abbrev pub detached_line : ℕ → List ℕ
detached_line k = codes "detached " ++ decimal k ++ codes "\n"

-- ---- replies without a number

abbrev pub notice_line : Notice → List ℕ
notice_line Full = codes "full\n"
notice_line NoBreak = codes "no break\n"
notice_line Finished = codes "finished\n"
notice_line Stuck = codes "stuck\n"
notice_line IdleOver = codes "idle over\n"
notice_line IdleCount = codes "idle count\n"
notice_line IdleLetter = codes "idle letter\n"
notice_line NoEvent = codes "no event\n"
notice_line NoName = codes "no name\n"
notice_line NeedsIndex = codes "needs index\n"
notice_line NoIndex = codes "no index\n"
notice_line NoFrame = codes "no frame\n"
notice_line NoMail = codes "no mail\n"
notice_line NoWatcher = codes "no watcher\n"
notice_line NoProcess = codes "no process\n"
notice_line Unknown = codes "?\n"
notice_line Same = codes "same\n"
notice_line Before = codes "before\n"
notice_line After = codes "after\n"
notice_line Unordered = codes "unordered\n"
notice_line TooLong = codes "too long\n"
