-- The finished replay of `soak` is its recording again.
use Rattle.std.proofs.Common.{◌≡◌, ℕ, List, map, sym, subst}
use Rattle.nm_base.specs.Scripts.{Script}
use Rattle.c_tree.specs.declared.program.Program.{Program}
use Rattle.c_tree.specs.Play.{script_of}
use Rattle.c_tree.proofs.Histories.{scripts_are_lawful}
use Rattle.event_list.specs.declared.Event.{Event}
use Rattle.event_list.specs.Runs.{IsRun}
use Rattle.event_list.specs.Laws.{AreLawful}
use Rattle.event_list.specs.Sameness.{SameEntries}
use Rattle.event_list.specs.Traces.{Trace, IsReplay}
use Rattle.event_list.proofs.TurnFacts.{run_of_runs, replay_of_replays}
use Rattle.event_list.proofs.FinishFacts.{finish_replays, finish_reaches}
use Rattle.event_list.proofs.PrintFacts.{length_same, sent_same, taken_same, waiting_same}
use Rattle.event_list.proofs.RunsSound.{runs_sound}
use Rattle.event_list.proofs.SameFacts.{full_replay}
use Rattle.trace_file.specs.Content.{Content}
use Rattle.recorder.specs.Recording.{Form}
use Rattle.replay_core.specs.Gates.{seen_trace}
use Rattle.report.specs.Texts.{summary}
use Rattle.report.specs.Runs.{summary_of}
use Rattle.nm_top.specs.declared.soak.TheConstants.{SOAK_PROCESSES}
use Rattle.nm_top.specs.Schedules.{seen_turn}
use Rattle.nm_top.specs.Soaking.{Soaks, soak_turns, next_seed, soak_run, soak_replay, soak_finished}

module _ (seed : ℕ) (p : Program) (t : Content) (h : Soaks seed p t) where
  abbrev s : ℕ → Script
  s = script_of p t.n

  abbrev T : Trace
  T = seen_trace t

  abbrev E : List Event
  E = soak_run p seed

  abbrev F : List Event
  F = (soak_finished p t seed).events

  lawful : AreLawful s
  lawful = scripts_are_lawful p t.n

  -- the trace has the recording's processes, and orders no channel either
  run : IsRun s T.mask E
  run =
      subst (λ (f : Form). IsRun (script_of p f.n) f.mask E) (sym h.is_trace.form)
      (run_of_runs (script_of p SOAK_PROCESSES) (scripts_are_lawful p SOAK_PROCESSES) 0 (map seen_turn (soak_turns seed)))

  replay : IsReplay s T (soak_replay p t seed)
  replay = replay_of_replays s lawful T (map seen_turn (soak_turns (next_seed seed)))

  finished : IsReplay s T F
  finished = finish_replays s T lawful (soak_replay p t seed) replay

  same : SameEntries F E
  same =
      let full = full_replay s lawful T E F run h.is_trace.trace finished (finish_reaches s T lawful E (soak_replay p t seed) run h.is_trace.trace replay) in
      record { same = λ q. sym (full.same q) }

  pub summary_again : summary_of F ≡ summary_of E
  summary_again =
      let events = length_same same in
      let sent = sent_same same in
      let accepted = taken_same same in
      let waits = waiting_same same (runs_sound s lawful finished.run) (runs_sound s lawful run) in
      λ i. summary (events i) (sent i) (accepted i) (waits i)
