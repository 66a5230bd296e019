-- The run of the first turns, turn by turn.
use Rattle.std.proofs.Common.{◌≡◌, ℕ, ◌+◌, ◌*◌, ◌<◌, ◌≤◌, List, [], ◌∷◌, ◌++◌, length, take, Option, None, Some, sym, ap, ◌∙◌, subst, arith, length-append, add-one}
use Rattle.std.specs.Prelude.{map, fold, slice_get, IsSome, Contains}
use Rattle.std.proofs.Math.Seq.{take-suc, take-length}
use Rattle.std.proofs.lemmas.List.Sums.{fold_push}
use Rattle.std.proofs.lemmas.List.{length-take}
use Rattle.std.proofs.lemmas.Option.{slice_get_within, get_or_from_slice_get}
use Rattle.nm_base.specs.declared.limits.TheConstants.{MAX_PROCESSES}
use Rattle.nm_base.specs.Scripts.{Script}
use Rattle.nm_outside.specs.Files.{Files, file_in}
use Rattle.schedules.specs.declared.schedule.Turn.{Turn}
use Rattle.schedules.specs.Bounds.{NameBelow}
use Rattle.event_list.specs.declared.Event.{Event}
use Rattle.event_list.specs.Runs.{IsRun, Sound}
use Rattle.event_list.specs.Turns as turns
use Rattle.event_list.specs.Turns.{Stays, Went, go, after, run_of}
use Rattle.event_list.specs.Rules.{rule_of, go_under}
use Rattle.event_list.proofs.RuleFacts.{turn_rule}
use Rattle.processes.specs.Standing.{Standing}
use Rattle.race_tracer.specs.Tracing.{Tables, IsTracerOf}
use Rattle.world.specs.declared.world.Turned as outcomes
use Rattle.world.specs.Worlds.{Parts, IsWorldOf, StandsForAll}
use Rattle.world.specs.Outcomes.{HasTurned, outcome}
use Rattle.world.proofs.Places.{map_length, map_append}
use Rattle.trace_file.specs.declared.writer.TraceWriter.{TraceWriter}
use Rattle.trace_file.specs.Bytes.{front}
use Rattle.trace_file.specs.Writing.{written}
use Rattle.recorder.specs.Recording.{Form, seen_turn}
use Rattle.recorder.specs.Outcomes.{run_of_first}
use Rattle.recorder.specs.private.Receiving.{IsMade}
use Rattle.recorder.specs.private.Stages.{Place, IsNoted, IsBegun, IsAfter, IsCutInNotes, content_in}
use Rattle.recorder.proofs.Holding.{held_file, held_told}
use Rattle.recorder.proofs.NoteLaws.{notes_few}
use Rattle.recorder.proofs.RunLaws.{first_sound, first_below}
use Rattle.recorder.proofs.Growing.{cut_grows, all_from_first}

after_length : (E : List Event) (t : turns.Turned) → length (after E t) ≤ length E + 1
after_length E (Stays why) = omega arith
after_length E (Went e) = omega (arith, length-append E (e ∷ []))

from_length : (s : ℕ → Script) (M : ℕ) (E : List Event) (ts : List turns.Turn) → length (fold (λ E t. after E (go s M None E t)) E ts) ≤ length E + length ts
from_length s M E [] = omega arith
from_length s M E (t ∷ ts) = omega (arith, from_length s M (after E (go s M None E t)) ts, after_length E (go s M None E t))

-- a run has at most one event a turn
pub first_length : (s : ℕ → Script) (M many : ℕ) (ts : List Turn) → length (run_of_first s M many ts) ≤ many
first_length s M many ts =
    omega (arith, from_length s M [] (map seen_turn (take many ts)), map_length seen_turn (take many ts), length-take many ts)

-- one turn more
first_more : (s : ℕ → Script) (M : ℕ) (ts : List Turn) (i : ℕ) (t : Turn) → slice_get ts i ≡ Some t
    → run_of_first s M (i + 1) ts ≡ after (run_of_first s M i ts) (go s M None (run_of_first s M i ts) (seen_turn t))
first_more s M ts i t at =
    let one : take (i + 1) ts ≡ take i ts ++ t ∷ [] =
    ap (λ k. take k ts) (add-one i) ∙ take-suc ts i t (slice_get_within ts i t at) ∙ ap (λ u. take i ts ++ u ∷ []) (get_or_from_slice_get ts i t t at) in
    ap (λ us. run_of s M (map seen_turn us)) one ∙ ap (run_of s M) (map_append seen_turn (take i ts) (t ∷ []))
    ∙ fold_push (λ E u. after E (go s M None E u)) [] (map seen_turn (take i ts)) (seen_turn t)

-- for whatever scripts and in whatever form the recording began, this is how far it is after i turns
abbrev pub Recording : {P M : Type 0} → (P → Standing) → Parts P M → Tables → TraceWriter → Option Files → List ℕ
    → Parts P M → Tables → TraceWriter → Option Files → List ℕ → ℕ → List Turn → ℕ → Type 0
Recording stands_for w0 t0 wr0 files0 open0 w t wr files opened notes ts i =
    (f : Form) (at : Place) (s : ℕ → Script) → w0.mask ≡ f.mask → length w0.processes ≡ f.n → IsWorldOf stands_for w0 s []
    → IsNoted f at t0 wr0 files0 open0 0 [] → IsAfter stands_for w s f at t wr files opened notes (run_of_first s f.mask i ts)

module _ {P M : Type 0} (stands_for : P → Standing) (w0 : Parts P M) (t0 : Tables) (wr0 : TraceWriter) (files0 : Option Files) (open0 : List ℕ) (ts : List Turn) where
  abbrev Now : Parts P M → Tables → TraceWriter → Option Files → List ℕ → ℕ → ℕ → Type 0
  Now w t wr files opened notes i = Recording stands_for w0 t0 wr0 files0 open0 w t wr files opened notes ts i

  -- before the first turn
  pub at_start : Now w0 t0 wr0 files0 open0 0 0
  at_start f at s mask size h n = record { world_is = h; noted = n }

  -- where a turn lacked memory
  pub same_now : (w v : Parts P M) (t : Tables) (wr : TraceWriter) (files : Option Files) (opened : List ℕ) (notes i : ℕ) → StandsForAll stands_for w v → Now w t wr files opened notes i
      → Now v t wr files opened notes i
  same_now w v t wr files opened notes i stays now f at s mask size h n =
      let k = now f at s mask size h n in
      record { world_is = stays s (run_of_first s f.mask i ts) k.world_is; noted = k.noted }

  module _ (w v : Parts P M) (t : Tables) (wr : TraceWriter) (files : Option Files) (opened : List ℕ) (notes i : ℕ) (turn : Turn) (what : outcomes.Turned)
      (now : Now w t wr files opened notes i) (at_i : slice_get ts i ≡ Some turn)
      (turned : (s : ℕ → Script) (E : List Event) → IsWorldOf stands_for w s E → HasTurned stands_for w.mask (rule_of None) v s E (seen_turn turn) what)
      (order : w.mask ≡ w0.mask) (order' : v.mask ≡ w.mask) (size : length w.processes ≡ length w0.processes) (size' : length v.processes ≡ length w.processes) (few : length w0.processes ≤ MAX_PROCESSES) where
    went : (f : Form) (s : ℕ → Script) → w0.mask ≡ f.mask → IsWorldOf stands_for w s (run_of_first s f.mask i ts)
        → after (run_of_first s f.mask i ts) (outcome what) ≡ run_of_first s f.mask (i + 1) ts
    went f s mask h =
        let E = run_of_first s f.mask i ts in
        let k = turned s E h in
        sym (first_more s f.mask ts i turn at_i
        ∙ ap (after E) (turn_rule s f.mask None E (seen_turn turn) ∙ subst (λ m. go_under s m (rule_of None) E (seen_turn turn) ≡ outcome what) (order ∙ mask) k.is))

    -- the turn was made behind what the world stood for
    pub made_now : (s : ℕ → Script) (E : List Event) → IsWorldOf stands_for w s E → IsMade w.mask (length w0.processes) E what
    made_now s E h =
        let k = turned s E h in
        record {
          run = record {
            scripts = s;
            lawful = k.stands.lawful;
            run = subst (λ m. IsRun s m (after E (outcome what))) order' k.stands.run;
            below = λ e c. omega (arith, few, size, size', k.stands.below e c);
          };
          below = λ e c. omega (arith, size, size', k.stands.below e c);
          carries = k.carries;
        }

    -- and may be told
    pub made_here : IsBegun stands_for w0 t0 wr0 files0 open0 → (mask n : ℕ) → mask ≡ w.mask → n ≡ length w0.processes → (E : List Event) × IsTracerOf t E × IsMade mask n E what
    made_here b mask n same many =
        let E = run_of_first b.scripts b.form.mask i ts in
        let k = now b.form b.at b.scripts b.mask b.size b.world_is b.noted in
        (E, k.noted.tracer, subst (λ j. IsMade j n E what) (sym same) (subst (λ j. IsMade w.mask j E what) (sym many) (made_now b.scripts E k.world_is)))

    -- and was taken in
    pub next_now : (t' : Tables) (wr' : TraceWriter) (files' : Option Files) (opened' : List ℕ) (many : ℕ) → t.mask ≡ w.mask
        → ((f : Form) (at : Place) (notes : ℕ) (E : List Event) → t.mask ≡ f.mask → IsNoted f at t wr files opened notes E → IsMade f.mask f.n E what
        → IsNoted f at t' wr' files' opened' (notes + many) (after E (outcome what)))
        → Now v t' wr' files' opened' (notes + many) (i + 1)
    next_now t' wr' files' opened' many same noted f at s mask n h h0 =
        let E = run_of_first s f.mask i ts in
        let k = now f at s mask n h h0 in
        let e = went f s mask k.world_is in
        let m = subst (λ j. IsMade j f.n E what) (order ∙ mask) (subst (λ j. IsMade w.mask j E what) n (made_now s E k.world_is)) in
        record {
          world_is = subst (IsWorldOf stands_for v s) e (turned s E k.world_is).stands;
          noted = subst (IsNoted f at t' wr' files' opened' (notes + many)) e (noted f at notes E (same ∙ order ∙ mask) k.noted m);
        }

    -- or its note was not written whole: the file is a front of the trace of all turns
    pub cut_now : (files' : Option Files) → t.mask ≡ w.mask → NameBelow (length w0.processes) ts
        → ((f : Form) (at : Place) (notes : ℕ) (E : List Event) → t.mask ≡ f.mask → IsNoted f at t wr files opened notes E → IsMade f.mask f.n E what → IsCutInNotes f at files' (after E (outcome what)))
        → (f : Form) (at : Place) (s : ℕ → Script) → w0.mask ≡ f.mask → length w0.processes ≡ f.n → IsWorldOf stands_for w0 s [] → IsNoted f at t0 wr0 files0 open0 0 []
        → IsCutInNotes f at files' (run_of_first s f.mask (length ts) ts)
    cut_now files' same names cut f at s mask n h h0 =
        let E = run_of_first s f.mask i ts in
        let k = now f at s mask n h h0 in
        let m = subst (λ j. IsMade j f.n E what) (order ∙ mask) (subst (λ j. IsMade w.mask j E what) n (made_now s E k.world_is)) in
        let here = subst (IsCutInNotes f at files') (went f s mask k.world_is) (cut f at notes E (same ∙ order ∙ mask) k.noted m) in
        let rest = all_from_first s f.mask (i + 1) ts in
        let all : run_of_first s f.mask (i + 1) ts ++ rest.0 ≡ run_of_first s f.mask (length ts) ts =
        rest.1 ∙ ap (λ us. run_of s f.mask (map seen_turn us)) (sym (take-length ts)) in
        let sound = subst (Sound f.mask) (sym all) (first_sound s h.lawful f.mask (length ts) ts) in
        let below = subst (λ F. (e : Event) → Contains F e → e.proc.no < MAX_PROCESSES) (sym all)
        (λ e c. omega (arith, few, first_below s h.lawful f.mask (length ts) ts (length w0.processes) names e c)) in
        subst (IsCutInNotes f at files') all (cut_grows f at files' (run_of_first s f.mask (i + 1) ts) rest.0 sound below here)

  -- what was written, and that there is room for a note behind it
  pub room_now : (w : Parts P M) (t : Tables) (wr : TraceWriter) (files : Option Files) (opened : List ℕ) (notes i : ℕ) → Now w t wr files opened notes i
      → length w.processes ≡ length w0.processes → length w0.processes ≤ MAX_PROCESSES → i < length ts → written wr ≤ 42 + 11 * notes
      → (f : Form) (at : Place) (s : ℕ → Script) (room : ℕ) → w0.mask ≡ f.mask → length w0.processes ≡ f.n → IsWorldOf stands_for w0 s [] → IsNoted f at t0 wr0 files0 open0 0 []
      → IsSome at.start → 6 * length ts + 53 ≤ room → (bytes : List ℕ) × (file_in files opened ≡ Some bytes) × (length bytes + 11 ≤ room)
  room_now w t wr files opened notes i now size few more bytes_few f at s room mask n h h0 told fits =
      let E = run_of_first s f.mask i ts in
      let k = now f at s mask n h h0 in
      let bytes = front (content_in f k.noted.list []) in
      let notes_are = notes_few f.mask E (first_sound s h.lawful f.mask i ts) (λ e c. omega (arith, few, size, k.world_is.below e c)) k.noted.list k.noted.are_notes in (
        bytes,
        held_file at files opened bytes k.noted.held (held_told at files opened bytes k.noted.held told),
        omega (arith, k.noted.writes.size, k.noted.count, bytes_few, notes_are, first_length s f.mask i ts, more, fits),
      )

  -- fewer events happened than turns were made
  pub few_events : (w : Parts P M) (t : Tables) (wr : TraceWriter) (files : Option Files) (opened : List ℕ) (notes i : ℕ) → IsBegun stands_for w0 t0 wr0 files0 open0 → Now w t wr files opened notes i → w.events ≤ i
  few_events w t wr files opened notes i b now =
      omega (arith, (now b.form b.at b.scripts b.mask b.size b.world_is b.noted).world_is.events, first_length b.scripts b.form.mask i ts)

-- all turns of a schedule
pub all_turns : (s : ℕ → Script) (M : ℕ) (ts : List Turn) (i : ℕ) → i ≡ length ts → run_of_first s M i ts ≡ run_of_first s M (length ts) ts
all_turns s M ts i e = ap (λ k. run_of_first s M k ts) e
