-- Worked runs under a mask: letters of one sender that overtake each other, and that don't.
use Rattle.std.specs.Prelude.{◌≡◌, ℕ, zero, suc, pos, List, [], ◌∷◌, ◌++◌, Option, Some, None, option_map, map, take, replicate, slice_index}
use Rattle.nm_base.specs.declared.letter.LetterId.{LetterId}
use Rattle.nm_base.specs.declared.letter.AcceptNote.{AcceptNote}
use Rattle.nm_base.specs.declared.kind.Kind.{Kind}
use Rattle.nm_base.specs.declared.kind.Kind.TheVariants.{Line, Accepted, Printed, Ended}
use Rattle.nm_base.specs.Scripts.{Script, IsLawful}
use Rattle.processes.specs.Listed.{listed}
use Rattle.event_list.specs.declared.Event.{Event}
use Rattle.event_list.specs.Events.{entries, messages}
use Rattle.event_list.specs.Clocks.{clocks}
use Rattle.event_list.specs.Traces.{Trace, IsTraceOf}
use Rattle.event_list.specs.Turns.{Turn, run_of, replay_of, finish_of}
use Rattle.event_list.specs.Carrying.{Move, carried_out, moves_of}
use Rattle.event_list.specs.Worked.{process, name, sends_zero, receives_any, turns_of, parts_below, numbered}

-- the second of the letters that are allowed
abbrev pub second_of : ℕ → Turn
second_of p = record { proc = p; pick = 1 }

-- a turn that accepts nothing, and one that accepts the letter
abbrev pub going_on : ℕ → Move
going_on p = record { proc = p; takes = None }

abbrev pub accepting : ℕ → LetterId → Move
accepting p id = record { proc = p; takes = Some id }

-- the first words of the letters that p accepted
abbrev pub words_to : List Event → ℕ → List ℕ
words_to E p = map (λ m. slice_index m.words 0) (messages E p)

-- receive j of process 0 accepted the letter
abbrev pub note_at : ℕ → LetterId → AcceptNote
note_at j id = record { receiver = process 0; receive = j; id = id }

-- a trace of these processes under the mask, with these notes
abbrev pub trace_under : ℕ → ℕ → List AcceptNote → List ℕ → Trace
trace_under M n notes counts =
    record { version = 2; mask = M; n = n; notes = notes; lost = []; counts = λ p. slice_index counts p }

-- ---- process 1 sends 11 and 22 to process 0, which receives and prints twice

-- what process 0 does, if its receives are these
abbrev pub pair_taker : Kind → Kind → List Kind
pair_taker a b = Line 1 ∷ Line 3 ∷ Line 7 ∷ a ∷ Printed 3 ∷ Line 8 ∷ b ∷ Printed 3 ∷ Line 10 ∷ Ended (pos 0) ∷ []

abbrev pub pair_sender : List Kind
pair_sender = Line 1 ∷ Line 3 ∷ Line 4 ∷ sends_zero 0 11 ∷ Line 5 ∷ sends_zero 1 22 ∷ Line 10 ∷ Ended (pos 0) ∷ []

abbrev pub pair_kinds : ℕ → List Kind
pair_kinds zero = pair_taker receives_any receives_any
pair_kinds (suc p) = pair_sender

abbrev pub pair : ℕ → Script
pair p = listed (pair_kinds p)

-- 1*8 0*3 0/1 0*6
abbrev pub pair_schedule : List Turn
pair_schedule = turns_of 1 8 ++ (turns_of 0 3 ++ (second_of 0 ∷ turns_of 0 6))

-- its run where letters 1.a and then 1.b are accepted
abbrev pub pair_run : ℕ → ℕ → List Event
pair_run a b = numbered 1 1 pair_sender ++ numbered 0 1 (pair_taker (Accepted 1 (name 1 a)) (Accepted 1 (name 1 b)))

abbrev pub pair_trace : ℕ → List AcceptNote → Trace
pair_trace M notes = trace_under M 2 notes (10 ∷ 8 ∷ [])

-- 0 1 0 1 0 1 1 1 1 0<1.0: the receive that accepted 1.1 accepts 1.0
abbrev pub pair_moves : List Move
pair_moves =
    going_on 0 ∷ going_on 1 ∷ going_on 0 ∷ going_on 1 ∷ going_on 0 ∷ going_on 1 ∷ going_on 1 ∷ going_on 1 ∷ going_on 1
    ∷ accepting 0 (name 1 0) ∷ []

-- 1*6 0*3 0<1.1: both letters wait, and 22 is accepted
abbrev pub overtaking_moves : List Move
overtaking_moves = replicate 6 (going_on 1) ++ (replicate 3 (going_on 0) ++ accepting 0 (name 1 1) ∷ [])

-- ---- process 1 sends 11 and 12 to process 0, process 2 sends 22, and process 0 receives and prints three times

abbrev pub triple_taker : Kind → Kind → Kind → List Kind
triple_taker a b c =
    Line 1 ∷ Line 4 ∷ Line 5 ∷ Line 6 ∷ a ∷ Printed 3 ∷ Line 5 ∷ Line 6 ∷ b ∷ Printed 3 ∷ Line 5 ∷ Line 6 ∷ c
    ∷ Printed 3 ∷ Line 5 ∷ Line 11 ∷ Ended (pos 0) ∷ []

abbrev pub triple_first : List Kind
triple_first =
    Line 1 ∷ Line 4 ∷ Line 8 ∷ Line 9 ∷ sends_zero 0 11 ∷ Line 8 ∷ Line 9 ∷ sends_zero 1 12 ∷ Line 8 ∷ Line 11
    ∷ Ended (pos 0) ∷ []

abbrev pub triple_second : List Kind
triple_second =
    Line 1 ∷ Line 4 ∷ Line 8 ∷ Line 9 ∷ sends_zero 0 22 ∷ Line 8 ∷ Line 11 ∷ Ended (pos 0) ∷ []

abbrev pub triple_kinds : ℕ → List Kind
triple_kinds zero = triple_taker receives_any receives_any receives_any
triple_kinds (suc zero) = triple_first
triple_kinds (suc (suc p)) = triple_second

abbrev pub triple : ℕ → Script
triple p = listed (triple_kinds p)

-- the senders' run, and then process 0's where it accepts these letters
abbrev pub triple_run : LetterId → LetterId → LetterId → List Event
triple_run a b c =
    numbered 1 1 triple_first
    ++ (numbered 2 1 triple_second ++ numbered 0 1 (triple_taker (Accepted 1 a) (Accepted 1 b) (Accepted 1 c)))

abbrev pub triple_in_order : List Event
triple_in_order = triple_run (name 1 0) (name 1 1) (name 2 0)

-- 1*11 2*8 0*17
abbrev pub triple_schedule : List Turn
triple_schedule = turns_of 1 11 ++ (turns_of 2 8 ++ turns_of 0 17)

-- 1*11 2*8 0*8 0/1 0*8
abbrev pub picking_schedule : List Turn
picking_schedule = turns_of 1 11 ++ (turns_of 2 8 ++ (turns_of 0 8 ++ (second_of 0 ∷ turns_of 0 8)))

abbrev pub triple_trace : ℕ → List AcceptNote → Trace
triple_trace M notes = trace_under M 3 notes (17 ∷ 11 ∷ 8 ∷ [])

-- 2*8 0*8 1*6 0*8 1*5 0*17
abbrev pub replay_schedule : List Turn
replay_schedule = turns_of 2 8 ++ (turns_of 0 8 ++ (turns_of 1 6 ++ (turns_of 0 8 ++ (turns_of 1 5 ++ turns_of 0 17))))

-- 0 1 2 0 1 2 0 1 2 0 1 2 1 2 0<1.0 1 0 1 0 1 0 0<1.1: in the run of the second, receive 1 accepts 1.1 in the place of
-- 2.0
abbrev pub triple_moves : List Move
triple_moves =
    going_on 0 ∷ going_on 1 ∷ going_on 2 ∷ going_on 0 ∷ going_on 1 ∷ going_on 2 ∷ going_on 0 ∷ going_on 1 ∷ going_on 2
    ∷ going_on 0 ∷ going_on 1 ∷ going_on 2 ∷ going_on 1 ∷ going_on 2 ∷ accepting 0 (name 1 0) ∷ going_on 1 ∷ going_on 0
    ∷ going_on 1 ∷ going_on 0 ∷ going_on 1 ∷ going_on 0 ∷ accepting 0 (name 1 1) ∷ []

-- the words that p accepted in what is carried out, if it can be
abbrev pub words_carried : Option (List Event) → ℕ → Option (List ℕ)
words_carried o p = option_map (λ W. words_to W p) o

pub record WorkedOrderLaw : Type 0 where
  pub lawful_pair : (p : ℕ) → IsLawful (pair p)
  pub lawful_triple : (p : ℕ) → IsLawful (triple p)
  -- where channel 0 is ordered, 11 comes first, whatever is picked; where it isn't, 22 overtakes it
  pub in_order : run_of pair 1 pair_schedule ≡ pair_run 0 1
  pub overtaken : run_of pair 2 pair_schedule ≡ pair_run 1 0
  pub words_in_order : words_to (pair_run 0 1) 0 ≡ 11 ∷ 22 ∷ []
  pub words_overtaken : words_to (pair_run 1 0) 0 ≡ 22 ∷ 11 ∷ []
  -- on the ordered channel nothing is logged: no receive but its own comes after that of 11. Else 11 is
  pub trace_in_order : IsTraceOf (pair_run 0 1) (pair_trace 1 [])
  pub trace_overtaken : IsTraceOf (pair_run 1 0) (pair_trace 2 (note_at 1 (name 1 0) ∷ []))
  -- turns with their letters are carried out; a turn that names no letter must not accept one, and 22 can't overtake 11
  pub carried : words_carried (carried_out pair 0 pair_moves) 0 ≡ Some (11 ∷ [])
  pub not_named : carried_out pair 0 (moves_of (take 6 (pair_run 0 1)) ++ replicate 4 (going_on 0)) ≡ None
  pub free : words_carried (carried_out pair 2 overtaking_moves) 0 ≡ Some (22 ∷ [])
  pub held : carried_out pair 1 overtaking_moves ≡ None
  -- with pick 0 the letters are accepted in the order of their sends, with a mask and without one; with pick 1 that of
  -- process 2 comes second
  pub first_run : run_of triple 0 triple_schedule ≡ triple_in_order
  pub first_ordered : run_of triple 1 triple_schedule ≡ triple_in_order
  pub second_run : run_of triple 1 picking_schedule ≡ triple_run (name 1 0) (name 2 0) (name 1 1)
  pub stamp_first : parts_below 3 ((clocks triple_in_order).stamp (name 1 0)) ≡ 0 ∷ 5 ∷ 0 ∷ []
  pub stamp_later : parts_below 3 ((clocks triple_in_order).stamp (name 1 1)) ≡ 0 ∷ 8 ∷ 0 ∷ []
  pub stamp_other : parts_below 3 ((clocks triple_in_order).stamp (name 2 0)) ≡ 0 ∷ 0 ∷ 5 ∷ []
  -- without a mask 12 and 22 are logged; under one 12 is where 22 was received between 11 and 12, and else only 22 is
  pub trace_free : IsTraceOf triple_in_order (triple_trace 0 (note_at 1 (name 1 1) ∷ note_at 2 (name 2 0) ∷ []))
  pub trace_ordered : IsTraceOf triple_in_order (triple_trace 1 (note_at 2 (name 2 0) ∷ []))
  pub trace_second : IsTraceOf (triple_run (name 1 0) (name 2 0) (name 1 1))
      (triple_trace 1 (note_at 1 (name 2 0) ∷ note_at 2 (name 1 1) ∷ []))
  -- the one note is enough: letter 2.0 waits first and is not accepted by receives 0 and 1
  pub replay : entries (replay_of triple (triple_trace 1 (note_at 2 (name 2 0) ∷ [])) replay_schedule) 0
      ≡ entries triple_in_order 0
  pub finished : entries (finish_of triple (triple_trace 1 (note_at 2 (name 2 0) ∷ [])) []).events 0
      ≡ entries triple_in_order 0
  pub carried_under : words_carried (carried_out triple 1 triple_moves) 0 ≡ Some (11 ∷ 12 ∷ [])
