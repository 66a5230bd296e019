-- How far a session came with its input.
use Rattle.std.specs.Prelude.{◌≡◌, ◌↔◌, ◌⊎◌, ℕ, ◌+◌, ◌≤◌, ◌^◌, ◌-◌, min, Bool, true, false, List, [], ◌∷◌, ◌++◌, length, take, Option, Result, Ok, Err, OnOk, IfOk, ⊤}
use Rattle.std.specs.Io.KnownBytes.{Appends, Consumes, IsAtEnd}
use Rattle.nm_outside.specs.Files.{AppendsPart}
use Rattle.c_tree.specs.declared.program.Program.{Program}
use Rattle.trace_file.specs.Content.{Content}
use Rattle.watchers.specs.Watched.{Watched}
use Rattle.replay_core.specs.Gates.{seen_trace}
use Rattle.debugger.specs.declared.fault.SessionFault.{SessionFault}
use Rattle.debugger.specs.declared.fault.SessionFault.TheVariants as fault
use Rattle.debugger.specs.declared.dispatch.Next.{Next}
use Rattle.debugger.specs.declared.dispatch.Next.TheVariants as nexts
use Rattle.debugger.specs.Sessions.{Session}
use Rattle.debugger.specs.Sittings.{Sitting, IsSessionOf}
use Rattle.nm_top.specs.declared.talk.TheConstants.{MAX_INPUT_BYTES}
use Rattle.nm_top.specs.declared.talk.End.{End}
use Rattle.nm_top.specs.declared.talk.End.TheVariants as ends
use Rattle.nm_top.specs.declared.talk.Step.{Step}
use Rattle.nm_top.specs.declared.talk.Step.TheVariants as steps
use Rattle.nm_top.specs.Debugging.{split, ended_lines, lines_of, before_quit, quits, is_quit, IsFront, LineReplies, Talks, HasTaken, is_write_end, is_fault_end, is_full_end}
use Rattle.nm_top.specs.private.LineFronts.{Front, front_of}

-- where a session began: the program and its trace, the session and the watchers of the definitions, and what the sink
-- was given
pub record Origin : Type 0 where
  pub program : Program
  pub content : Content
  pub session : Session
  pub watch : List Watched
  pub given : Option (List ℕ)

abbrev pub origin : Program → Content → Session → List Watched → Option (List ℕ) → Origin
origin p t s watch given = record { program = p; content = t; session = s; watch = watch; given = given }

-- these lines were answered, and their replies printed
pub record Answered {M : Type 0} (o : Origin) (lines : List (List ℕ)) (new : Sitting M) (after : List Watched)
    (given : Option (List ℕ)) : Type 0 where
  pub text : List ℕ
  pub next : Session
  pub talks : Talks o.program (seen_trace o.content) o.session o.watch lines text next after
  pub stands : IsSessionOf new o.program next
  pub trace : new.trace ≡ o.content
  pub printed : Appends o.given given text

-- the same, but only a part of the replies was printed
pub record Broken {M : Type 0} (o : Origin) (lines : List (List ℕ)) (new : Sitting M) (after : List Watched)
    (given : Option (List ℕ)) : Type 0 where
  pub text : List ℕ
  pub next : Session
  pub talks : Talks o.program (seen_trace o.content) o.session o.watch lines text next after
  pub stands : IsSessionOf new o.program next
  pub printed : AppendsPart o.given given text

-- the same as the first, but neither the session nor the watchers are known any more
pub record Short (o : Origin) (lines : List (List ℕ)) (given : Option (List ℕ)) : Type 0 where
  pub text : List ℕ
  pub next : Session
  pub watch : List Watched
  pub talks : Talks o.program (seen_trace o.content) o.session o.watch lines text next watch
  pub printed : Appends o.given given text

-- the lines that end in these bytes were answered, none of them `quit`, and the line that is begun is kept
pub record Going {M : Type 0} (o : Origin) (read : List ℕ) (kept : Front) (new : Sitting M) (after : List Watched)
    (given : Option (List ℕ)) : Type 0 where
  pub answered : Answered o (ended_lines read) new after given
  pub quiet : quits o.content.n read ≡ false
  pub held : kept ≡ front_of (split read).begun

-- some of these lines were answered, from the front, when the sink failed or memory was refused
abbrev pub Stops : {M : Type 0} → Origin → List (List ℕ) → Sitting M → List Watched → Option (List ℕ) → SessionFault
    → Type 0
Stops o lines new after given fault.Write = (some : List (List ℕ)) × IsFront some lines × Broken o some new after given
Stops o lines new after given fault.Memory = (some : List (List ℕ)) × IsFront some lines × Short o some given

-- a line more was answered, or the session came to its end at it
abbrev pub LineDone : {M : Type 0} → Origin → List (List ℕ) → List ℕ → Sitting M → List Watched → Option (List ℕ)
    → Result Next SessionFault → Type 0
LineDone o done line new after given (Ok nexts.More) =
    Answered o (done ++ line ∷ []) new after given × (is_quit o.content.n line ≡ false)
LineDone o done line new after given (Ok nexts.Quit) =
    Answered o done new after given × (is_quit o.content.n line ≡ true)
LineDone o done line new after given (Err e) = Stops o (before_quit o.content.n (done ++ line ∷ [])) new after given e

-- these bytes were read, and the lines that end in them answered, up to `quit`
abbrev pub Came : {M : Type 0} → Origin → List ℕ → Front → Sitting M → List Watched → Option (List ℕ)
    → Result Next SessionFault → Type 0
Came o read kept new after given (Ok nexts.More) = Going o read kept new after given
Came o read kept new after given (Ok nexts.Quit) =
    (quits o.content.n read ≡ true) × Answered o (before_quit o.content.n (ended_lines read)) new after given
Came o read kept new after given (Err e) = Stops o (before_quit o.content.n (ended_lines read)) new after given e

-- what comes of one line: its whole reply was printed; or a part of it; or nothing was printed
pub record HasAnswered {M : Type 0} (p : Program) (t : Content) (s : Session) (before : List Watched) (line : List ℕ)
    (new : Sitting M) (after : List Watched) (given given' : Option (List ℕ))
    (result : Result Next SessionFault) : Type 0 where
  pub whole : OnOk result ((text : List ℕ) × (next : Session) × IsSessionOf new p next
      × LineReplies p (seen_trace t) line s before text next after × Appends given given' text)
  pub part : result ≡ Err fault.Write → (text : List ℕ) × (next : Session) × IsSessionOf new p next
      × LineReplies p (seen_trace t) line s before text next after × AppendsPart given given' text
  pub stopped : result ≡ Err fault.Memory → given' ≡ given
  pub ends : IfOk result (λ next. (next ≡ nexts.Quit) ↔ (is_quit t.n line ≡ true))

-- the end that a fault makes
abbrev pub fault_end : SessionFault → End
fault_end fault.Write = ends.Write
fault_end fault.Memory = ends.Memory

-- a fault came at a line that a newline ended, or at the last one
abbrev pub StopsIn : {M : Type 0} → Origin → List ℕ → Option (List ℕ) → Sitting M → List Watched → Option (List ℕ)
    → SessionFault → Type 0
StopsIn o taken left new after given e =
    Stops o (before_quit o.content.n (ended_lines (take MAX_INPUT_BYTES taken))) new after given e
    ⊎ (Stops o (before_quit o.content.n (lines_of taken)) new after given e
    × IsAtEnd left × (length taken ≤ MAX_INPUT_BYTES))

-- how a session of which these bytes were taken came to its end
abbrev pub Finished : {M : Type 0} → Origin → List ℕ → Option (List ℕ) → Sitting M → List Watched → Option (List ℕ)
    → End → Type 0
Finished o taken left new after given ends.Over =
    (Answered o (before_quit o.content.n (ended_lines (take MAX_INPUT_BYTES taken))) new after given
    × (quits o.content.n (take MAX_INPUT_BYTES taken) ≡ true))
    ⊎ (Answered o (before_quit o.content.n (lines_of taken)) new after given
    × IsAtEnd left × (length taken ≤ MAX_INPUT_BYTES))
Finished o taken left new after given ends.InputFault =
    Answered o (ended_lines taken) new after given × (quits o.content.n taken ≡ false)
    × (length taken ≤ MAX_INPUT_BYTES)
Finished o taken left new after given ends.InputFull =
    Answered o (ended_lines (take MAX_INPUT_BYTES taken)) new after given
    × (quits o.content.n (take MAX_INPUT_BYTES taken) ≡ false) × (length taken ≡ MAX_INPUT_BYTES + 1)
Finished o taken left new after given ends.Write = StopsIn o taken left new after given fault.Write
Finished o taken left new after given ends.Memory = StopsIn o taken left new after given fault.Memory

-- what comes of one take after these bytes
abbrev pub Stepped : {M : Type 0} → Origin → List ℕ → Option (List ℕ) → Option (List ℕ) → Front → Sitting M
    → List Watched → Option (List ℕ) → Step → Type 0
Stepped o read left left' kept new after given (steps.More n) =
    (piece : List ℕ) × Consumes left left' piece × (length piece ≡ n)
    × Going o (take MAX_INPUT_BYTES (read ++ piece)) kept new after given
Stepped o read left left' kept new after given (steps.Ended end) =
    (piece : List ℕ) × Consumes left left' piece × (length (read ++ piece) ≤ MAX_INPUT_BYTES + 1)
    × Finished o (read ++ piece) left' new after given end

-- a step goes on with some bytes more, and not past the byte too many
abbrev pub Grows : ℕ → Step → Type 0
Grows taken (steps.More n) = (1 ≤ n) × (taken + n ≤ MAX_INPUT_BYTES + 1)
Grows taken (steps.Ended end) = ⊤

-- how many bytes a step took
abbrev pub Takes : ℕ → ℕ → ℕ → Step → Type 0
Takes taken before now (steps.More n) = now ≡ min (before + n) (2 ^ 64 - 1)
Takes taken before now (steps.Ended end) =
    (k : ℕ) × (taken + k ≤ MAX_INPUT_BYTES + 1) × HasTaken k before now

abbrev pub is_write_step : Step → Bool
is_write_step (steps.More n) = false
is_write_step (steps.Ended end) = is_write_end end

abbrev pub is_fault_step : Step → Bool
is_fault_step (steps.More n) = false
is_fault_step (steps.Ended end) = is_fault_end end

abbrev pub is_full_step : Step → Bool
is_full_step (steps.More n) = false
is_full_step (steps.Ended end) = is_full_end end
