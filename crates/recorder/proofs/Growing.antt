-- A front of a run's trace is a front of the trace of the run that goes on.
use Rattle.std.proofs.Common.{◌≡◌, ℕ, ◌<◌, List, [], ◌++◌, take, drop, Option, None, sym, ap, ◌∙◌, subst, append_assoc}
use Rattle.std.specs.Prelude.{Contains, map}
use Rattle.std.specs.List.{flat_map}
use Rattle.std.proofs.lemmas.List.{append-nil, take-append-drop}
use Rattle.std.proofs.lemmas.List.Concat.{flat_map-append}
use Rattle.nm_base.specs.declared.letter.AcceptNote.{AcceptNote}
use Rattle.nm_base.specs.declared.limits.TheConstants.{MAX_PROCESSES}
use Rattle.nm_base.specs.Scripts.{Script}
use Rattle.nm_outside.specs.Files.{Files}
use Rattle.schedules.specs.declared.schedule.Turn.{Turn}
use Rattle.event_list.specs.declared.Event.{Event}
use Rattle.event_list.specs.Runs.{Sound}
use Rattle.event_list.specs.Turns.{run_of}
use Rattle.event_list.proofs.Decisions.{trace_exists}
use Rattle.event_list.proofs.Fronts.{made_front}
use Rattle.event_list.proofs.NoteGrowth.{notes_front}
use Rattle.trace_file.specs.Bytes.{front, header, note}
use Rattle.world.proofs.Places.{map_append}
use Rattle.recorder.specs.Recording.{Form, seen_turn}
use Rattle.recorder.specs.Outcomes.{run_of_first}
use Rattle.recorder.specs.private.Stages.{Place, AreNotes, content_in, HoldsFront, IsCutInNotes}
use Rattle.recorder.proofs.Contents.{front_more}

-- notes come behind
front_notes : (f : Form) (xs ys : List AcceptNote) → front (content_in f (xs ++ ys) []) ≡ front (content_in f xs []) ++ flat_map note ys
unfolding front
front_notes f xs ys =
    let h = header (content_in f xs []) in
    ap (λ (zs : List ℕ). h ++ zs) (append-nil (flat_map note (xs ++ ys)) ∙ flat_map-append note xs ys)
    ∙ sym (append_assoc h (flat_map note xs) (flat_map note ys))
    ∙ ap (λ (zs : List ℕ). (h ++ zs) ++ flat_map note ys) (sym (append-nil (flat_map note xs)))

pub cut_grows : (f : Form) (at : Place) (files : Option Files) (E rest : List Event) → Sound f.mask (E ++ rest) → ((e : Event) → Contains (E ++ rest) e → e.proc.no < MAX_PROCESSES)
    → IsCutInNotes f at files E → IsCutInNotes f at files (E ++ rest)
cut_grows f at files E rest g below c =
    let u = trace_exists 1 f.mask MAX_PROCESSES (E ++ rest) g below in
    let whole = subst (λ m. AreNotes m (E ++ rest) u.0.notes) u.2 u.4.notes in
    let more = notes_front f.mask E rest c.list u.0.notes g c.are_notes whole in
    record {
      list = c.list ++ more.0;
      are_notes = subst (AreNotes f.mask (E ++ rest)) (sym more.1) whole;
      front_is = subst (HoldsFront at files) (sym (front_notes f c.list more.0)) (front_more at files (front (content_in f c.list [])) (flat_map note more.0) c.front_is);
    }

-- the first turns make a front of what all turns make
pub all_from_first : (s : ℕ → Script) (M many : ℕ) (ts : List Turn) → (rest : List Event) × (run_of_first s M many ts ++ rest ≡ run_of s M (map seen_turn ts))
all_from_first s M many ts =
    let r = made_front s M None (map seen_turn (take many ts)) (map seen_turn (drop many ts)) in
    (r.0, r.1 ∙ ap (run_of s M) (sym (map_append seen_turn (take many ts) (drop many ts)) ∙ ap (map seen_turn) (take-append-drop many ts)))
