-- From the last turn to the end.
use Rattle.std.proofs.Common.{◌≡◌, ℕ, ◌+◌, ◌*◌, ◌≤◌, List, length, Option, None, Some, subst, arith}
use Rattle.nm_base.specs.declared.limits.TheConstants.{MAX_PROCESSES, MAX_EVENTS, MAX_TRACE_BYTES}
use Rattle.nm_base.specs.Scripts.{Script}
use Rattle.nm_outside.specs.Files.{Files}
use Rattle.processes.specs.Standing.{Standing}
use Rattle.schedules.specs.declared.schedule.Turn.{Turn}
use Rattle.event_list.specs.declared.Event.{Event}
use Rattle.event_list.specs.Runs.{Sound}
use Rattle.event_list.proofs.RunsSound.{runs_sound}
use Rattle.race_tracer.specs.Tracing.{Tables}
use Rattle.world.specs.Worlds.{Parts}
use Rattle.trace_file.specs.declared.writer.TraceWriter.{TraceWriter}
use Rattle.trace_file.specs.Writing.{written}
use Rattle.recorder.specs.Recording.{Form, IsFrontOf}
use Rattle.recorder.specs.Outcomes.{run_of_first, turns_made, IsStopped, IsCutOff}
use Rattle.recorder.specs.private.Stages.{Place, IsAfter}
use Rattle.recorder.proofs.LostLaws.{letters_few}
use Rattle.recorder.proofs.NoteLaws.{notes_few}

-- after all turns there is room for what is still to be written
pub small_end : {P M : Type 0} (stands_for : P → Standing) (w : Parts P M) (s : ℕ → Script) (f : Form) (at : Place) (t : Tables) (wr : TraceWriter) (files : Option Files) (opened : List ℕ) (notes : ℕ) (E : List Event)
    → w.mask ≡ f.mask → length w.processes ≤ MAX_PROCESSES → IsAfter stands_for w s f at t wr files opened notes E → length E ≤ MAX_EVENTS → written wr ≤ 42 + 11 * notes
    → written wr + 6 * length w.letters ≤ MAX_TRACE_BYTES
small_end stands_for w s f at t wr files opened notes E mask few k events bytes =
    let h = k.world_is in
    let sound : Sound f.mask E = subst (λ m. Sound m E) mask (runs_sound s h.lawful h.run) in
    let notes_are = notes_few f.mask E sound (λ e c. omega (arith, few, h.below e c)) k.noted.list k.noted.are_notes in
    omega (arith, letters_few stands_for w s E h, notes_are, k.noted.count, events, bytes)

-- so many turns of a schedule were made
pub made_within : (stopped : Option ℕ) (ts : List Turn) → IsStopped stopped ts → turns_made stopped ts ≤ length ts
made_within None ts h = omega arith
made_within (Some many) ts h = omega (arith, h)

-- what was cut off at the end
pub cut_at_end : (s : ℕ → Script) (f : Form) (ts : List Turn) (name : List ℕ) (old new : Option Files) (stopped : Option ℕ) → IsStopped stopped ts
    → IsFrontOf f (run_of_first s f.mask (turns_made stopped ts) ts) name old new → IsCutOff s f ts name old new
cut_at_end s f ts name old new stopped h front = record { turns = turns_made stopped ts; within = made_within stopped ts h; front = front }
