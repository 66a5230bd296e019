-- What may be printed with each status, also where the files aren't told.
use Rattle.std.specs.Prelude.{◌≡◌, ◌⊎◌, ℕ, List, [], ◌++◌, Option, Some, ⊤}
use Rattle.std.specs.Io.KnownBytes.{Appends}
use Rattle.nm_outside.specs.Causes.{Rose}
use Rattle.report.specs.declared.cause.Refusal.{Refusal}
use Rattle.report.specs.Texts.{refusal_line, usage_line, stopped_line, read_fault_line, input_fault_line}
use Rattle.nm_top.specs.declared.status.Status.{Status}
use Rattle.nm_top.specs.declared.status.Status.TheVariants.{Done, Usage, WriteFault, WantOfMemory}
use Rattle.nm_top.specs.Commands.{Command, Record, Certify, Debug, Soak, AsksInput, command_of}
use Rattle.nm_top.specs.Statuses.{status_of, IsOf, IsOfInput}
use Rattle.nm_top.specs.Answers.{Fetches}
use Rattle.nm_top.specs.Soaking.{SoakStops}

-- what a command may have printed where there was want of memory: nothing; or the one line of a recording that stopped,
-- certificates, replies, or the first parts of what `soak` prints
abbrev pub MayStopAt : Option Command → List ℕ → Type 0
MayStopAt (Some (Record program n schedule trace version mask)) text =
    (text ≡ []) ⊎ ((turns : ℕ) × (text ≡ stopped_line turns))
MayStopAt (Some (Certify program trace)) text = ⊤
MayStopAt (Some (Debug program trace)) text = ⊤
MayStopAt (Some (Soak seed)) text = (text ≡ []) ⊎ SoakStops seed text
MayStopAt command text = text ≡ []

-- The input of a debugger failed, or is too long: what was replied before, and the line of that.
abbrev pub EndsInLine : Option Command → Status → List ℕ → Type 0
EndsInLine (Some (Debug program trace)) status text =
    (replies : List ℕ) × (r : Refusal) × IsOfInput r × (status_of r ≡ status) × (text ≡ replies ++ refusal_line r)
EndsInLine command status text = ⊥

-- A refusal has its one line, which names no file or one that the words fetch, or is of a debugger's input. Any text
-- may go with Done, and with a write fault.
abbrev pub IsLineOf : List (List ℕ) → Status → List ℕ → Type 0
IsLineOf words Done text = ⊤
IsLineOf words WriteFault text = ⊤
IsLineOf words WantOfMemory text = MayStopAt (command_of words) text
IsLineOf words Usage text = text ≡ usage_line
IsLineOf words status text =
    ((r : Refusal) × (status_of r ≡ status) × IsOf (Fetches words) r × (text ≡ refusal_line r))
    ⊎ EndsInLine (command_of words) status text

-- Which read failed, and what is printed: that of a file which the words fetch, and its line alone; or a take of a
-- debugger's input, and its line after the replies. The other did not.
pub data ReadFails (words : List (List ℕ)) (reads reads' takes takes' : ℕ) (before after : Option (List ℕ))
    : Type 0 where
  file : (name : List ℕ) → Fetches words name → Rose reads reads' → takes' ≡ takes
      → Appends before after (read_fault_line name) → ReadFails words reads reads' takes takes' before after
  input : (replies : List ℕ) → AsksInput words → Rose takes takes' → reads' ≡ reads
      → Appends before after (replies ++ input_fault_line)
      → ReadFails words reads reads' takes takes' before after

-- That and nothing else was given.
abbrev pub PrintsLine : List (List ℕ) → Status → Option (List ℕ) → Option (List ℕ) → Type 0
PrintsLine words status before after = (text : List ℕ) × IsLineOf words status text × Appends before after text
