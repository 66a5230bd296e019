-- Worked runs, each of three processes: their clocks and timestamps, a replay that waits, and the finishing.
use Rattle.std.specs.Prelude.{◌≡◌, ℕ, zero, suc, pos, ◌+◌, List, [], ◌∷◌, ◌++◌, take, drop, replicate, map, slice_index}
use Rattle.nm_base.specs.declared.letter.ProcNo.{ProcNo}
use Rattle.nm_base.specs.declared.letter.LetterId.{LetterId}
use Rattle.nm_base.specs.declared.kind.Kind.{Kind}
use Rattle.nm_base.specs.declared.kind.Kind.TheVariants.{Line, Sent, Accepted, Printed, Ended}
use Rattle.nm_base.specs.Scripts.{Script, IsLawful}
use Rattle.processes.specs.Listed.{listed}
use Rattle.event_list.specs.declared.Event.{Event}
use Rattle.event_list.specs.Events.{entries}
use Rattle.event_list.specs.Clocks.{clocks}
use Rattle.event_list.specs.Traces.{Trace}
use Rattle.event_list.specs.Turns.{Turn, run_of, replay_of, finish_of}

abbrev pub process : ℕ → ProcNo
process p = record { no = p }

abbrev pub name : ℕ → ℕ → LetterId
name sender number = record { sender = process sender; number = number }

-- the number-th send, of one word to process 0 on channel 0
abbrev pub sends_zero : ℕ → ℕ → Kind
sends_zero number word = Sent number (process 0) 0 1 (word ∷ 0 ∷ 0 ∷ 0 ∷ 0 ∷ 0 ∷ 0 ∷ 0 ∷ [])

-- a receive of any letter on channel 0
abbrev pub receives_any : Kind
receives_any = Accepted 1 (name 0 0)

-- so many turns of the process, with pick 0
abbrev pub turns_of : ℕ → ℕ → List Turn
turns_of p many = replicate many (record { proc = p; pick = 0 })

-- the first parts of a vector
abbrev pub parts_below : ℕ → (ℕ → ℕ) → List ℕ
parts_below n v = map v (to_list n [])
  where
    to_list : ℕ → List ℕ → List ℕ
    to_list zero qs = qs
    to_list (suc q) qs = to_list q (q ∷ qs)

-- ---- processes 1 and 2 send their numbers to process 0, which receives and prints twice

abbrev pub gatherer : List Kind
gatherer =
    Line 1 ∷ Line 3 ∷ Line 4 ∷ receives_any ∷ Printed 2 ∷ Line 5 ∷ receives_any ∷ Printed 2 ∷ Line 9
    ∷ Ended (pos 0) ∷ []

abbrev pub teller : ℕ → List Kind
teller p = Line 1 ∷ Line 3 ∷ Line 7 ∷ sends_zero 0 p ∷ Line 9 ∷ Ended (pos 0) ∷ []

abbrev pub gathering_kinds : ℕ → List Kind
gathering_kinds zero = gatherer
gathering_kinds (suc p) = teller (suc p)

abbrev pub gathering : ℕ → Script
gathering p = listed (gathering_kinds p)

-- what process 0 does when letter 1.0 comes first
abbrev pub gathered : List Kind
gathered =
    Line 1 ∷ Line 3 ∷ Line 4 ∷ Accepted 1 (name 1 0) ∷ Printed 2 ∷ Line 5 ∷ Accepted 1 (name 2 0) ∷ Printed 2
    ∷ Line 9 ∷ Ended (pos 0) ∷ []

-- events of the process with these kinds, numbered from the first number on
abbrev pub numbered : ℕ → ℕ → List Kind → List Event
numbered p first [] = []
numbered p first (kind ∷ kinds) =
    record { proc = process p; number = first; kind = kind } ∷ numbered p (first + 1) kinds

-- the run of 1*6 2*6 0*10
abbrev pub recorded : List Event
recorded = numbered 1 1 (teller 1) ++ (numbered 2 1 (teller 2) ++ numbered 0 1 gathered)

-- its trace: process 0's receive 1 accepted letter 2.0, which raced with receive 0
abbrev pub trace : Trace
trace = record {
  version = 1;
  mask = 0;
  n = 3;
  notes = record { receiver = process 0; receive = 1; id = name 2 0 } ∷ [];
  lost = [];
  counts = λ p. slice_index (10 ∷ 6 ∷ 6 ∷ []) p;
}

-- the replay of 2*6 0*4 1*6 0*10: letter 2.0 waits first and is not accepted by receive 0
abbrev pub replayed : List Event
replayed =
    numbered 2 1 (teller 2)
    ++ (numbered 0 1 (take 3 gathered) ++ (numbered 1 1 (teller 1) ++ numbered 0 4 (drop 3 gathered)))

-- ---- one process that sends itself two letters, receives two, sends a third and receives it

abbrev pub talker : List Kind
talker =
    Line 1 ∷ Line 3 ∷ sends_zero 0 1 ∷ Line 4 ∷ sends_zero 1 2 ∷ Line 5 ∷ receives_any ∷ Line 6 ∷ receives_any ∷ Line 7
    ∷ sends_zero 2 3 ∷ Line 8 ∷ receives_any ∷ Line 9 ∷ Ended (pos 0) ∷ []

abbrev pub talking : ℕ → Script
talking p = listed talker

-- the run of 0*15
abbrev pub talked : List Event
talked = numbered 0 1
    (Line 1 ∷ Line 3 ∷ sends_zero 0 1 ∷ Line 4 ∷ sends_zero 1 2 ∷ Line 5 ∷ Accepted 1 (name 0 0) ∷ Line 6
    ∷ Accepted 1 (name 0 1) ∷ Line 7 ∷ sends_zero 2 3 ∷ Line 8 ∷ Accepted 1 (name 0 2) ∷ Line 9 ∷ Ended (pos 0) ∷ [])

pub record WorkedLaw : Type 0 where
  pub lawful : (p : ℕ) → IsLawful (gathering p)
  pub lawful_talker : (p : ℕ) → IsLawful (talking p)
  -- the schedule makes this run; each process's clock in it, and the timestamps of the two letters
  pub run : run_of gathering 0 (turns_of 1 6 ++ (turns_of 2 6 ++ turns_of 0 10)) ≡ recorded
  pub clock_0 : parts_below 3 ((clocks recorded).clock 0) ≡ 10 ∷ 4 ∷ 4 ∷ []
  pub clock_1 : parts_below 3 ((clocks recorded).clock 1) ≡ 0 ∷ 6 ∷ 0 ∷ []
  pub clock_2 : parts_below 3 ((clocks recorded).clock 2) ≡ 0 ∷ 0 ∷ 6 ∷ []
  pub stamp_1 : parts_below 3 ((clocks recorded).stamp (name 1 0)) ≡ 0 ∷ 4 ∷ 0 ∷ []
  pub stamp_2 : parts_below 3 ((clocks recorded).stamp (name 2 0)) ≡ 0 ∷ 0 ∷ 4 ∷ []
  -- another schedule, under the trace: each process has its recorded entries
  pub replay : replay_of gathering trace (turns_of 2 6 ++ (turns_of 0 4 ++ (turns_of 1 6 ++ turns_of 0 10))) ≡ replayed
  pub same_0 : entries replayed 0 ≡ entries recorded 0
  pub same_1 : entries replayed 1 ≡ entries recorded 1
  pub same_2 : entries replayed 2 ≡ entries recorded 2
  -- finishing from the start takes 31 turns, 9 of them idle
  pub turns : (finish_of gathering trace []).turns ≡ 31
  pub idle : (finish_of gathering trace []).idle ≡ 9
  -- the timestamps of the talker's second and third letters
  pub talk : run_of talking 0 (turns_of 0 15) ≡ talked
  pub stamp_of_second : (clocks talked).stamp (name 0 1) 0 ≡ 5
  pub stamp_of_third : (clocks talked).stamp (name 0 2) 0 ≡ 11
