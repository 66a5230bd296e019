-- The content of a run's trace, and the front of its bytes.
use Rattle.std.proofs.Common.{◌≡◌, ℕ, zero, suc, ◌<◌, ◌≤◌, List, [], ◌∷◌, ◌++◌, length, get_or, refl, sym, ap, ◌∙◌, subst, inl, inr, arith, append_assoc, length-append}
use Rattle.std.specs.Prelude.{Contains, Option}
use Rattle.std.specs.List.{flat_map}
use Rattle.std.proofs.lemmas.Bool.{cases_lt}
use Rattle.std.proofs.lemmas.List.{take-append-le}
use Rattle.std.proofs.lemmas.List.Concat.{flat_map-append}
use Rattle.nm_base.specs.declared.letter.LetterId.{LetterId}
use Rattle.nm_base.specs.declared.letter.AcceptNote.{AcceptNote}
use Rattle.nm_outside.specs.Files.{Files}
use Rattle.event_list.specs.declared.Event.{Event}
use Rattle.event_list.specs.Events.{count}
use Rattle.event_list.specs.Runs.{Sound}
use Rattle.event_list.proofs.Decisions.{trace_exists}
use Rattle.event_list.proofs.FormedFacts.{no_entries}
use Rattle.trace_file.specs.Content.{Content}
use Rattle.trace_file.specs.Bytes.{front, header, note, lost_entry, end_part, spelling}
use Rattle.trace_file.proofs.Ending.{end_spelled}
use Rattle.recorder.specs.Recording.{Form, IsContentOf, IsFrontOf, holding}
use Rattle.recorder.specs.private.Stages.{Place, content_in, AreNotes, AreLost, HoldsFront, IsCutInNotes, IsCutInLost}

-- the first n values of f
pub counts_list : ℕ → (ℕ → ℕ) → List ℕ
counts_list zero f = []
counts_list (suc n) f = f 0 ∷ counts_list n (λ p. f (suc p))

counts_length : (n : ℕ) (f : ℕ → ℕ) → length (counts_list n f) ≡ n
unfolding counts_list
counts_length zero f = refl
counts_length (suc n) f = ap suc (counts_length n (λ p. f (suc p)))

counts_at : (n : ℕ) (f : ℕ → ℕ) (p : ℕ) → p < n → get_or (counts_list n f) p 0 ≡ f p
unfolding counts_list
counts_at zero f p h = absurd (omega (arith, h))
counts_at (suc n) f zero h = refl
counts_at (suc n) f (suc p) h = counts_at n (λ q. f (suc q)) p (omega (arith, h))

-- there is nothing past the end
past_end : (xs : List ℕ) (p : ℕ) → length xs ≤ p → get_or xs p 0 ≡ 0
past_end [] p h = refl
past_end (x ∷ xs) zero h = absurd (omega (arith, h))
past_end (x ∷ xs) (suc p) h = past_end xs p (omega (arith, h))

-- the whole content
abbrev pub whole : Form → List AcceptNote → List LetterId → List ℕ → Content
whole f list names counts =
    record { version = f.version; mask = f.mask; n = f.n; digest = f.digest; notes = list; lost = names; counts = counts }

module _ (f : Form) (E : List Event) (below : (e : Event) → Contains E e → e.proc.no < f.n) (list : List AcceptNote) (notes : AreNotes f.mask E list) where
  pub is_content : (names : List LetterId) (counts : List ℕ) → AreLost f.mask E names → length counts ≡ f.n → ((p : ℕ) → p < f.n → get_or counts p 0 ≡ count E p)
      → IsContentOf f E (whole f list names counts)
  is_content names counts lost long at = record {
    form = refl;
    each = long;
    trace = record {
      processes = below;
      notes = notes;
      lost = lost;
      counts = λ p. elim (cases_lt p f.n) [
        | inl l ↦ at p l
        | inr g ↦ past_end counts p (omega (arith, long, g)) ∙ sym (no_entries f.n E below p g)
      ];
    };
  }

  -- its lost letters are there
  pub lost_names : Sound f.mask E → (names : List LetterId) × AreLost f.mask E names
  lost_names g = let t = trace_exists 1 f.mask f.n E g below in (t.0.lost, subst (λ m. AreLost m E t.0.lost) t.2 t.4.lost)

  pub counted : (names : List LetterId) → AreLost f.mask E names → IsContentOf f E (whole f list names (counts_list f.n (count E)))
  counted names lost = is_content names (counts_list f.n (count E)) lost (counts_length f.n (count E)) (counts_at f.n (count E))

-- lost letters come behind
pub front_lost : (f : Form) (list : List AcceptNote) (us vs : List LetterId) → front (content_in f list (us ++ vs)) ≡ front (content_in f list us) ++ flat_map lost_entry vs
unfolding front
front_lost f list us vs =
    let h = header (content_in f list us) in
    let ns = flat_map note list in
    let lost = flat_map lost_entry us in
    ap (λ (ys : List ℕ). h ++ (ns ++ ys)) (flat_map-append lost_entry us vs)
    ∙ ap (λ (ys : List ℕ). h ++ ys) (sym (append_assoc ns lost (flat_map lost_entry vs)))
    ∙ sym (append_assoc h (ns ++ lost) (flat_map lost_entry vs))

-- counts are no part of the front
pub same_front : (f : Form) (list : List AcceptNote) (names : List LetterId) (counts : List ℕ) → front (whole f list names counts) ≡ front (content_in f list names)
unfolding front
same_front f list names counts = refl

-- the front and then the end
pub front_first : (f : Form) (list : List AcceptNote) (names : List LetterId) (counts : List ℕ) → spelling (whole f list names counts) ≡ front (content_in f list names) ++ end_part (front (content_in f list names)) counts
front_first f list names counts =
    sym (end_spelled (whole f list names counts)) ∙ ap (λ (b : List ℕ). b ++ end_part b counts) (same_front f list names counts)

-- a front of a front of the bytes
pub front_more : (at : Place) (files : Option Files) (bytes rest : List ℕ) → HoldsFront at files bytes → HoldsFront at files (bytes ++ rest)
front_more at files bytes rest h = record {
  many = h.many;
  within = omega (arith, h.within, length-append bytes rest);
  is = h.is ∙ ap (holding at.start at.name) (sym (take-append-le h.many bytes rest h.within));
}

module _ (f : Form) (at : Place) (files : Option Files) (E : List Event) (below : (e : Event) → Contains E e → e.proc.no < f.n) where
  held_of : (list : List AcceptNote) (names : List LetterId) → AreNotes f.mask E list → AreLost f.mask E names → HoldsFront at files (front (content_in f list names))
      → IsFrontOf f E at.name at.start files
  held_of list names notes lost h =
      let counts = counts_list f.n (count E) in
      let b = front (content_in f list names) in
      let k = subst (HoldsFront at files) (sym (front_first f list names counts)) (front_more at files b (end_part b counts) h) in
      record { content = whole f list names counts; is = counted f E below list notes names lost; many = k.many; file = k.is }

  pub front_of_lost : IsCutInLost f at files E → IsFrontOf f E at.name at.start files
  front_of_lost c = held_of c.list c.names c.are_notes c.are_lost c.front_is

  pub front_of_notes : Sound f.mask E → IsCutInNotes f at files E → IsFrontOf f E at.name at.start files
  front_of_notes g c =
      let t = lost_names f E below c.list c.are_notes g in
      held_of c.list t.0 c.are_notes t.1 (subst (HoldsFront at files) (sym (front_lost f c.list [] t.0))
      (front_more at files (front (content_in f c.list [])) (flat_map lost_entry t.0) c.front_is))
