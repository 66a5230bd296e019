-- What the lines of a debugger that only look reply, of n processes of a program after the events of a run.
use Rattle.std.specs.Prelude.{ℕ, ◌+◌, ◌==◌, List, [], ◌∷◌, ◌++◌, filter, Option, Some, None, slice_get}
use Rattle.std.specs.List.{flat_map, range_with_len}
use Rattle.nm_base.specs.Message.{Message}
use Rattle.c_tree.specs.declared.program.Program.{Program}
use Rattle.c_tree.specs.declared.program.Function.{Function}
use Rattle.c_tree.specs.NameLookup.{Seen, NoName, NeedsIndex, NoIndex, Sees}
use Rattle.c_process.specs.declared.answers.FrameSeen.{FrameSeen}
use Rattle.c_process.specs.Shown.{look_after, line_after, output_after}
use Rattle.c_process.specs.Values.{frames_after, value_after}
use Rattle.event_list.specs.declared.Event.{Event}
use Rattle.event_list.specs.Events.{count, messages}
use Rattle.event_list.specs.Clocks.{clocks}
use Rattle.event_list.specs.Traces.{waiting}
use Rattle.report.specs.declared.replies.Notice.TheVariants as notice
use Rattle.report.specs.Replies.{event_line, where_line, frame_line, value_line, output_text, waiting_line, clock_line}
use Rattle.report.specs.Replies.{notice_line}

-- the events that were made last, the oldest first
abbrev pub last_text : List Event → List ℕ
last_text [] = notice_line notice.NoEvent
last_text (e ∷ events) = flat_map event_line (e ∷ events)

-- what is seen of a variable
abbrev pub seen_text : List ℕ → Option ℕ → Seen → List ℕ
seen_text name index NoName = notice_line notice.NoName
seen_text name index NeedsIndex = notice_line notice.NeedsIndex
seen_text name index NoIndex = notice_line notice.NoIndex
seen_text name index (Sees bits of) = value_line name index bits of

-- the name of a function, if there is one
abbrev pub function_name : Option Function → List ℕ
function_name None = []
function_name (Some f) = f.name

-- frame i
abbrev pub frame_text : Program → ℕ → FrameSeen → List ℕ
frame_text p i f = frame_line i (function_name (slice_get p.functions f.function)) f.line

-- frames from number i on
abbrev pub frame_lines : Program → ℕ → List FrameSeen → List ℕ
frame_lines p i [] = []
frame_lines p i (f ∷ fs) = frame_text p i f ++ frame_lines p (i + 1) fs

-- the frames, the innermost first
abbrev pub frames_text : Program → List FrameSeen → List ℕ
frames_text p [] = notice_line notice.NoFrame
frames_text p (f ∷ fs) = frame_lines p 0 (f ∷ fs)

-- those of the letters that are sent to a process
abbrev pub messages_to : ℕ → List Message → List Message
messages_to q letters = filter (λ m. m.dest.no == q) letters

module _ (n : ℕ) (R : List Event) where
  -- a waiting letter, with the timestamp of its send
  abbrev pub letter_line : Message → List ℕ
  letter_line m = waiting_line n m ((clocks R).stamp m.id)

  -- the letters that wait for a process
  abbrev pub mail_text : List Message → List ℕ
  mail_text [] = notice_line notice.NoMail
  mail_text (m ∷ letters) = flat_map letter_line (m ∷ letters)

module _ (p : Program) (n : ℕ) (R : List Event) where
  abbrev pub where_of : (ℕ → ℕ) → ℕ → List ℕ
  where_of counts q =
      where_line q (look_after p n q (messages R q) (count R q)) (line_after p n q (messages R q) (count R q))
      (count R q) (counts q)

  abbrev pub seen_in : ℕ → List ℕ → Option ℕ → Seen
  seen_in q name index = value_after p n q (messages R q) (count R q) name index

  abbrev pub frames_in : ℕ → List ℕ
  frames_in q = frames_text p (frames_after p n q (messages R q) (count R q))

  -- the letters that wait for a process, in the order of their sends
  abbrev pub mail_of : ℕ → List ℕ
  mail_of q = mail_text n R (messages_to q (waiting R))

  abbrev pub output_of : ℕ → List ℕ
  output_of q = output_text (output_after p n q (messages R q) (count R q))

  abbrev pub clock_of : ℕ → List ℕ
  clock_of q = clock_line q n ((clocks R).clock q)

  -- where all processes are
  abbrev pub places_of : (ℕ → ℕ) → List ℕ
  places_of counts = flat_map (where_of counts) (range_with_len 0 n)

  -- what is replied of a variable
  abbrev pub value_of : ℕ → List ℕ → Option ℕ → List ℕ
  value_of q name index = seen_text name index (seen_in q name index)
