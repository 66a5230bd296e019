-- The worked runs under a mask, computed.
use Rattle.std.proofs.Common.{◌≡◌, ℕ, ◌<◌, ◌≤◌, zero, suc, [], ◌∷◌, ◌++◌, Some, None, take, replicate, refl, subst, arith}
use Rattle.std.specs.Prelude.{slice_index}
use Rattle.nm_base.specs.declared.letter.LetterId.{LetterId}
use Rattle.nm_base.specs.Channels.{has_channel}
use Rattle.nm_base.specs.Scripts.{IsLawful}
use Rattle.processes.specs.ListedFacts.{listed_lawful}
use Rattle.event_list.specs.Events.{entries, count}
use Rattle.event_list.specs.Clocks.{clocks}
use Rattle.event_list.specs.Runs.{Sound}
use Rattle.event_list.specs.Traces.{IsTraceOf}
use Rattle.event_list.specs.Turns.{run_of, replay_of, finish_of}
use Rattle.event_list.specs.Carrying.{carried_out, moves_of}
use Rattle.event_list.specs.Worked.{name, parts_below, receives_any}
use Rattle.event_list.specs.WorkedOrder.{going_on, note_at, words_to, words_carried, pair_taker, pair_sender, pair, pair_schedule, pair_run, pair_trace, pair_moves, overtaking_moves, triple_in_order, triple_taker, triple_first, triple_second, triple, triple_schedule, picking_schedule, replay_schedule, triple_run, triple_trace, triple_moves, WorkedOrderLaw}
use Rattle.event_list.proofs.RunsSound.{runs_sound}
use Rattle.event_list.proofs.TurnFacts.{run_of_runs}
use Rattle.event_list.proofs.LoggedTest.{trace_by}

lawful_pair : (p : ℕ) → IsLawful (pair p)
lawful_pair zero = listed_lawful (pair_taker receives_any receives_any) refl
lawful_pair (suc p) = listed_lawful pair_sender refl

lawful_triple : (p : ℕ) → IsLawful (triple p)
lawful_triple zero = listed_lawful (triple_taker receives_any receives_any receives_any) refl
lawful_triple (suc zero) = listed_lawful triple_first refl
lawful_triple (suc (suc p)) = listed_lawful triple_second refl

pair_counts : (a b p : ℕ) → p < 2 → slice_index (10 ∷ 8 ∷ []) p ≡ count (pair_run a b) p
pair_counts a b zero l = refl
pair_counts a b (suc zero) l = refl
pair_counts a b (suc (suc p)) l = absurd (omega (arith, l))

no_third : (p : ℕ) → 2 ≤ p → slice_index (10 ∷ 8 ∷ []) p ≡ 0
no_third zero l = absurd (omega (arith, l))
no_third (suc zero) l = absurd (omega (arith, l))
no_third (suc (suc p)) l = refl

triple_counts : (a b c : LetterId) (p : ℕ) → p < 3 → slice_index (17 ∷ 11 ∷ 8 ∷ []) p ≡ count (triple_run a b c) p
triple_counts a b c zero l = refl
triple_counts a b c (suc zero) l = refl
triple_counts a b c (suc (suc zero)) l = refl
triple_counts a b c (suc (suc (suc p))) l = absurd (omega (arith, l))

no_fourth : (p : ℕ) → 3 ≤ p → slice_index (17 ∷ 11 ∷ 8 ∷ []) p ≡ 0
no_fourth zero l = absurd (omega (arith, l))
no_fourth (suc zero) l = absurd (omega (arith, l))
no_fourth (suc (suc zero)) l = absurd (omega (arith, l))
no_fourth (suc (suc (suc p))) l = refl

in_order : run_of pair 1 pair_schedule ≡ pair_run 0 1
unfolding has_channel
in_order = refl

overtaken : run_of pair 2 pair_schedule ≡ pair_run 1 0
unfolding has_channel
overtaken = refl

words_in_order : words_to (pair_run 0 1) 0 ≡ 11 ∷ 22 ∷ []
words_in_order = refl

words_overtaken : words_to (pair_run 1 0) 0 ≡ 22 ∷ 11 ∷ []
words_overtaken = refl

trace_in_order : IsTraceOf (pair_run 0 1) (pair_trace 1 [])
unfolding has_channel
trace_in_order =
    trace_by (pair_run 0 1) _ (subst (Sound 1) in_order (runs_sound pair lawful_pair (run_of_runs pair lawful_pair 1 pair_schedule))) refl refl refl (pair_counts 0 1) no_third

trace_overtaken : IsTraceOf (pair_run 1 0) (pair_trace 2 (note_at 1 (name 1 0) ∷ []))
unfolding has_channel
trace_overtaken =
    trace_by (pair_run 1 0) _ (subst (Sound 2) overtaken (runs_sound pair lawful_pair (run_of_runs pair lawful_pair 2 pair_schedule))) refl refl refl (pair_counts 1 0) no_third

carried : words_carried (carried_out pair 0 pair_moves) 0 ≡ Some (11 ∷ [])
unfolding has_channel
carried = refl

not_named : carried_out pair 0 (moves_of (take 6 (pair_run 0 1)) ++ replicate 4 (going_on 0)) ≡ None
unfolding has_channel
not_named = refl

free : words_carried (carried_out pair 2 overtaking_moves) 0 ≡ Some (22 ∷ [])
unfolding has_channel
free = refl

held : carried_out pair 1 overtaking_moves ≡ None
unfolding has_channel
held = refl

first_run : run_of triple 0 triple_schedule ≡ triple_in_order
unfolding has_channel
first_run = refl

first_ordered : run_of triple 1 triple_schedule ≡ triple_in_order
unfolding has_channel
first_ordered = refl

second_run : run_of triple 1 picking_schedule ≡ triple_run (name 1 0) (name 2 0) (name 1 1)
unfolding has_channel
second_run = refl

stamp_first : parts_below 3 ((clocks triple_in_order).stamp (name 1 0)) ≡ 0 ∷ 5 ∷ 0 ∷ []
stamp_first = refl

stamp_later : parts_below 3 ((clocks triple_in_order).stamp (name 1 1)) ≡ 0 ∷ 8 ∷ 0 ∷ []
stamp_later = refl

stamp_other : parts_below 3 ((clocks triple_in_order).stamp (name 2 0)) ≡ 0 ∷ 0 ∷ 5 ∷ []
stamp_other = refl

trace_free : IsTraceOf triple_in_order (triple_trace 0 (note_at 1 (name 1 1) ∷ note_at 2 (name 2 0) ∷ []))
unfolding has_channel
trace_free =
    trace_by (triple_in_order) _ (subst (Sound 0) first_run (runs_sound triple lawful_triple (run_of_runs triple lawful_triple 0 triple_schedule))) refl refl refl (triple_counts (name 1 0) (name 1 1) (name 2 0)) no_fourth

trace_ordered : IsTraceOf triple_in_order (triple_trace 1 (note_at 2 (name 2 0) ∷ []))
unfolding has_channel
trace_ordered =
    trace_by (triple_in_order) _ (subst (Sound 1) first_ordered (runs_sound triple lawful_triple (run_of_runs triple lawful_triple 1 triple_schedule))) refl refl refl (triple_counts (name 1 0) (name 1 1) (name 2 0)) no_fourth

trace_second : IsTraceOf (triple_run (name 1 0) (name 2 0) (name 1 1)) (triple_trace 1 (note_at 1 (name 2 0) ∷ note_at 2 (name 1 1) ∷ []))
unfolding has_channel
trace_second =
    trace_by (triple_run (name 1 0) (name 2 0) (name 1 1)) _ (subst (Sound 1) second_run (runs_sound triple lawful_triple (run_of_runs triple lawful_triple 1 picking_schedule))) refl refl refl (triple_counts (name 1 0) (name 2 0) (name 1 1)) no_fourth

replay : entries (replay_of triple (triple_trace 1 (note_at 2 (name 2 0) ∷ [])) replay_schedule) 0 ≡ entries triple_in_order 0
unfolding has_channel
replay = refl

finished : entries (finish_of triple (triple_trace 1 (note_at 2 (name 2 0) ∷ [])) []).events 0 ≡ entries triple_in_order 0
unfolding has_channel
finished = refl

carried_under : words_carried (carried_out triple 1 triple_moves) 0 ≡ Some (11 ∷ 12 ∷ [])
unfolding has_channel
carried_under = refl

pub worked_order : WorkedOrderLaw
worked_order = record {
  lawful_pair = lawful_pair;
  lawful_triple = lawful_triple;
  in_order = in_order;
  overtaken = overtaken;
  words_in_order = words_in_order;
  words_overtaken = words_overtaken;
  trace_in_order = trace_in_order;
  trace_overtaken = trace_overtaken;
  carried = carried;
  not_named = not_named;
  free = free;
  held = held;
  first_run = first_run;
  first_ordered = first_ordered;
  second_run = second_run;
  stamp_first = stamp_first;
  stamp_later = stamp_later;
  stamp_other = stamp_other;
  trace_free = trace_free;
  trace_ordered = trace_ordered;
  trace_second = trace_second;
  replay = replay;
  finished = finished;
  carried_under = carried_under;
}
