-- What a line that was read asks.
use Rattle.std.specs.Prelude.{ℕ, ◌<◌, nat_lt, List, codes, Option, Some, if◌then◌else◌, ⊤}
use Rattle.std.specs.Option.{option_map, option_map_or}
use Rattle.std.specs.Str.{bytes_eq}
use Rattle.nm_base.specs.Decimal.{number_of}
use Rattle.report.specs.declared.replies.Spot.{Spot}
use Rattle.report.specs.declared.replies.Spot.TheVariants as spot
use Rattle.debugger.specs.declared.line.Line.{Line}
use Rattle.debugger.specs.declared.line.Line.TheVariants as line
use Rattle.debugger.specs.declared.rows.Who.{Who}
use Rattle.debugger.specs.declared.rows.Who.TheVariants as who
use Rattle.debugger.specs.declared.rows.Look.{Look}
use Rattle.debugger.specs.declared.rows.Look.TheVariants as look
use Rattle.debugger.specs.Lines.{Asked, Nothing, NotALine, NotAProcess, SetBreak, Clear, Step, StepOf, Run, Back, Print, Frames, Where, Output, Mail, Clock, Last, Watch, Detach, Stop, Avoid, Compare, Quit, without_process, with_number, with_process}

abbrev pub asked : Line → Asked
asked line.Nothing = Nothing
asked line.NotALine = NotALine
asked line.NotAProcess = NotAProcess
asked (line.SetBreak p at) = SetBreak p.no at
asked (line.Clear k) = Clear k
asked line.Step = Step
asked (line.StepOf p) = StepOf p.no
asked line.Run = Run
asked (line.Back k) = Back k
asked (line.Print p name index) = Print p.no name.now index
asked (line.Frames p) = Frames p.no
asked line.Where = Where
asked (line.Output p) = Output p.no
asked (line.Mail p) = Mail p.no
asked (line.Clock p) = Clock p.no
asked line.Last = Last
asked line.Watch = Watch
asked (line.Detach k) = Detach k
asked (line.Stop p k) = Stop p.no k
asked (line.Avoid p k) = Avoid p.no k
asked (line.Compare p k q j) = Compare p.no k q.no j
asked line.Quit = Quit

-- the processes of a line are among n
abbrev pub IsAmong : ℕ → Line → Type 0
IsAmong n (line.SetBreak p at) = p.no < n
IsAmong n (line.StepOf p) = p.no < n
IsAmong n (line.Print p name index) = p.no < n
IsAmong n (line.Frames p) = p.no < n
IsAmong n (line.Output p) = p.no < n
IsAmong n (line.Mail p) = p.no < n
IsAmong n (line.Clock p) = p.no < n
IsAmong n (line.Stop p k) = p.no < n
IsAmong n (line.Avoid p k) = p.no < n
IsAmong n (line.Compare p k q j) = (p.no < n) × (q.no < n)
IsAmong n other = ⊤

-- ---- the parts of a line

-- what a word says as the number of a process among n
abbrev pub who_in : ℕ → List ℕ → Who
who_in n word =
    option_map_or (λ p. if nat_lt p n then who.Present (record { no = p }) else who.Absent p)
    (number_of word) who.NoNumber

abbrev pub IsWithin : ℕ → Who → Type 0
IsWithin n (who.Present p) = p.no < n
IsWithin n other = ⊤

-- what is asked of it
abbrev pub by_who : Who → (ℕ → Asked) → Asked
by_who who.NoNumber ask = NotALine
by_who (who.Absent p) ask = without_process (ask p)
by_who (who.Present p) ask = ask p.no

-- where a breakpoint fits, by a word
abbrev pub spot_in : List ℕ → Option Spot
spot_in word = if bytes_eq word (codes "recv") then Some spot.Receive else option_map spot.Line (number_of word)

-- what a line looks at of one process
abbrev pub asks : Look → ℕ → Asked
asks look.Step = StepOf
asks look.Frames = Frames
asks look.Output = Output
asks look.Mail = Mail
asks look.Clock = Clock

-- what a line asks that compares event k of one process with event j of another
abbrev pub order_of : ℕ → List ℕ → List ℕ → List ℕ → List ℕ → Asked
order_of n a b c d =
    with_process n a (λ p. with_number b (λ k. with_process n c (λ q. with_number d (Compare p k q))))
