-- The command `debug`: its input is cut into lines, and each is answered as a session answers it.
use Rattle.std.specs.Prelude.{◌≡◌, ◌⊎◌, ℕ, ◌+◌, ◌-◌, ◌^◌, min, ◌<◌, ◌≤◌, ◌==◌, ◌&&◌, nat_le, nat_lt, Bool, true, false, not, List, [], ◌∷◌, ◌++◌, length, map, take, drop, Option, Some, if◌then◌else◌, ⊤}
use Rattle.std.specs.List.{list_any, take_while}
use Rattle.std.specs.Io.KnownBytes.{Appends}
use Rattle.nm_outside.specs.Files.{AppendsPart}
use Rattle.c_tree.specs.declared.program.Program.{Program}
use Rattle.event_list.specs.Traces.{Trace}
use Rattle.trace_file.specs.Content.{Content}
use Rattle.replay_core.specs.Gates.{seen_trace}
use Rattle.watchers.specs.Watched.{Watched}
use Rattle.report.specs.declared.replies.Notice.TheVariants as notice
use Rattle.report.specs.Replies.{notice_line}
use Rattle.debugger.specs.Lines.{Asked, Quit, asked_of}
use Rattle.debugger.specs.Sessions.{Session, Answers}
use Rattle.debugger.specs.Sittings.{Sitting, IsSessionOf}
use Rattle.nm_top.specs.declared.talk.TheConstants.{MAX_INPUT_BYTES}
use Rattle.nm_top.specs.declared.line_buffer.TheConstants.{MAX_LINE_BYTES}
use Rattle.nm_top.specs.declared.talk.End.{End}
use Rattle.nm_top.specs.declared.talk.End.TheVariants.{Over, InputFault, InputFull, Write, Memory}

-- ---- lines

-- what newlines make of bytes: the lines that they end, each without its newline, and what is behind the last one
pub record Split : Type 0 where
  pub ended : List (List ℕ)
  pub begun : List ℕ

-- a byte that isn't a newline begins the first line
abbrev pub begin_first : ℕ → List (List ℕ) → List ℕ → Split
begin_first b [] begun = record { ended = []; begun = b ∷ begun }
begin_first b (line ∷ lines) begun = record { ended = (b ∷ line) ∷ lines; begun = begun }

-- a byte before the others: a newline ends an empty line
abbrev pub split_before : ℕ → Split → Split
split_before b parts =
    if b == 10 then record { ended = [] ∷ parts.ended; begun = parts.begun } else begin_first b parts.ended parts.begun

abbrev pub split : List ℕ → Split
split [] = record { ended = []; begun = [] }
split (b ∷ bytes) = split_before b (split bytes)

-- a line with its newline, and whether one is in bytes
abbrev pub with_newline : List ℕ → List ℕ
with_newline line = line ++ 10 ∷ []

abbrev pub has_newline : List ℕ → Bool
has_newline bytes = list_any (λ b. b == 10) bytes

-- without one carriage return at the end
abbrev pub without_return : List ℕ → List ℕ
without_return [] = []
without_return (b ∷ []) = if b == 13 then [] else b ∷ []
without_return (b ∷ c ∷ line) = b ∷ without_return (c ∷ line)

-- the lines that newlines end, each without its newline and one carriage return before that
abbrev pub ended_lines : List ℕ → List (List ℕ)
ended_lines bytes = map without_return (split bytes).ended

-- what is behind the last newline is a line if it isn't empty
abbrev pub last_line : List ℕ → List (List ℕ)
last_line [] = []
last_line (b ∷ line) = (b ∷ line) ∷ []

-- the lines of an input
abbrev pub lines_of : List ℕ → List (List ℕ)
lines_of input = ended_lines input ++ last_line (split input).begun

-- ---- the line `quit`

abbrev pub asks_quit : Asked → Bool
asks_quit Quit = true
asks_quit asked = false

-- whether a line ends a session of n processes: one that is too long doesn't
abbrev pub is_quit : ℕ → List ℕ → Bool
is_quit n line = nat_le (length line) MAX_LINE_BYTES && asks_quit (asked_of n line)

-- the lines before the first `quit`
abbrev pub before_quit : ℕ → List (List ℕ) → List (List ℕ)
before_quit n lines = take_while (λ line. not (is_quit n line)) lines

-- whether a newline ends a line `quit`
abbrev pub quits : ℕ → List ℕ → Bool
quits n bytes = list_any (is_quit n) (ended_lines bytes)

-- ---- what is replied to lines

module _ (p : Program) (T : Trace) where
  -- the reply to a line, and the session and the watchers after it
  pub data LineReplies (line : List ℕ) : Session → List Watched → List ℕ → Session → List Watched → Type 0 where
    too_long : {s : Session} {watch : List Watched} → MAX_LINE_BYTES < length line
        → LineReplies line s watch (notice_line notice.TooLong) s watch
    answers : {s s' : Session} {watch watch' : List Watched} {text : List ℕ} → length line ≤ MAX_LINE_BYTES
        → Answers p T (asked_of T.n line) s watch text s' watch' → LineReplies line s watch text s' watch'

  -- the replies to lines one after the other, and the session and the watchers after them
  pub data Talks (s : Session) (watch : List Watched) : List (List ℕ) → List ℕ → Session → List Watched → Type 0 where
    silent : Talks s watch [] [] s watch
    talks_on : {lines : List (List ℕ)} {line text reply : List ℕ} {s' s'' : Session} {watch' watch'' : List Watched}
        → Talks s watch lines text s' watch' → LineReplies line s' watch' reply s'' watch''
        → Talks s watch (lines ++ line ∷ []) (text ++ reply) s'' watch''

-- ---- how a session ends

-- the bytes of an input that are read
abbrev pub read_of : List ℕ → List ℕ
read_of input = take MAX_INPUT_BYTES input

-- whether an input passes the limit before it ends and before a newline ends a line `quit`
abbrev pub passes_limit : ℕ → List ℕ → Bool
passes_limit n input = nat_lt MAX_INPUT_BYTES (length input) && not (quits n (read_of input))

abbrev pub IsFront : List (List ℕ) → List (List ℕ) → Type 0
IsFront lines all = (rest : List (List ℕ)) × (all ≡ lines ++ rest)

-- Which lines are answered where a session ends so after k bytes of the input were taken. It is over at a line `quit`
-- or at the input's end; a failed take and a byte too many leave a begun line unanswered; where the sink fails or
-- memory is refused some lines from the front are answered.
abbrev pub EndsAfter : ℕ → List ℕ → ℕ → List (List ℕ) → End → Type 0
EndsAfter n input k lines Over =
    (lines ≡ before_quit n (lines_of (read_of input)))
    × ((quits n (take k (read_of input)) ≡ true) ⊎ ((k ≡ length input) × (k ≤ MAX_INPUT_BYTES)))
EndsAfter n input k lines InputFault =
    (lines ≡ ended_lines (take k input)) × (quits n (take k input) ≡ false) × (k ≤ MAX_INPUT_BYTES)
EndsAfter n input k lines InputFull =
    (lines ≡ ended_lines (read_of input)) × (quits n (read_of input) ≡ false) × (k ≡ MAX_INPUT_BYTES + 1)
EndsAfter n input k lines Write = IsFront lines (before_quit n (lines_of (read_of input)))
EndsAfter n input k lines Memory = IsFront lines (before_quit n (lines_of (read_of input)))

-- the replies are printed, or a part of them where the sink fails
abbrev pub PrintsUntil : End → Option (List ℕ) → Option (List ℕ) → List ℕ → Type 0
PrintsUntil Write given given' text = AppendsPart given given' text
PrintsUntil end given given' text = Appends given given' text

-- the session and the watchers stand as the replies left them, unless memory was refused
abbrev pub StandsAfter : {M : Type 0} → End → Sitting M → Program → Session → List Watched → List Watched → Type 0
StandsAfter Memory new p next watch after = ⊤
StandsAfter end new p next watch after = IsSessionOf new p next × (after ≡ watch)

-- A session talked over an input, of which it took k bytes: which lines it answered, what their replies are, what of
-- them was printed, and how the session, the watchers and the source stand then.
pub record Talked {M : Type 0} (p : Program) (t : Content) (s : Session) (before : List Watched) (input : List ℕ)
    (left : Option (List ℕ)) (new : Sitting M) (after : List Watched) (given given' : Option (List ℕ))
    (end : End) : Type 0 where
  pub k : ℕ
  pub lines : List (List ℕ)
  pub text : List ℕ
  pub next : Session
  pub watch : List Watched
  pub within : k ≤ length input
  pub few : k ≤ MAX_INPUT_BYTES + 1
  pub is_left : left ≡ Some (drop k input)
  pub ends : EndsAfter t.n input k lines end
  pub talks : Talks p (seen_trace t) s before lines text next watch
  pub printed : PrintsUntil end given given' text
  pub stands : StandsAfter end new p next watch after

-- k bytes were taken: a source's count of them rises by so many, as far as its type goes, and stands where there were
-- none
abbrev pub HasTaken : ℕ → ℕ → ℕ → Type 0
HasTaken k before now = (now ≡ min (before + k) (2 ^ 64 - 1)) ⊎ ((k ≡ 0) × (now ≡ before))

-- the limit of an input was taken, and a byte more
abbrev pub TakesTooMany : ℕ → ℕ → Type 0
TakesTooMany before now = HasTaken (MAX_INPUT_BYTES + 1) before now

abbrev pub is_write_end : End → Bool
is_write_end Write = true
is_write_end end = false

abbrev pub is_fault_end : End → Bool
is_fault_end InputFault = true
is_fault_end end = false

abbrev pub is_full_end : End → Bool
is_full_end InputFull = true
is_full_end end = false
