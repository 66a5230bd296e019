-- The pieces of a trace's bytes: the header, the notes, the lost letters and the end.
use Rattle.std.proofs.Common.{◌≡◌, ℕ, ◌+◌, ◌*◌, ◌≤◌, false, List, [], ◌∷◌, ◌++◌, length, take, Option, Some, Result, Ok, Err, refl, sym, ap, ◌∙◌, subst, inl, inr, arith, append_assoc, length-append}
use Rattle.std.specs.Prelude.{OnErr, IfOk, IsSome, ◌⊎◌}
use Rattle.std.specs.List.{flat_map}
use Rattle.std.proofs.lemmas.List.{append-nil, take-append-le}
use Rattle.nm_base.specs.declared.letter.LetterId.{LetterId}
use Rattle.nm_base.specs.declared.letter.AcceptNote.{AcceptNote}
use Rattle.nm_outside.specs.Begun.{has_failed}
use Rattle.nm_outside.specs.declared.cabinet.BeginFault.{BeginFault}
use Rattle.nm_outside.specs.declared.cabinet.BeginFault.TheVariants.{Failed, Memory}
use Rattle.nm_outside.specs.Files.{Files, file_in, emptied, extended, ExtendsPart, HasRoom}
use Rattle.trace_file.specs.declared.writer.TraceWriter.{TraceWriter}
use Rattle.trace_file.specs.Content.{Content}
use Rattle.trace_file.specs.Bytes.{header, header_part, front, note, lost_entry, mask_bytes, counts_part, end_part, ended, spelling}
use Rattle.trace_file.specs.Rules.{IsTrace}
use Rattle.trace_file.specs.Writing.{Writes}
use Rattle.trace_file.proofs.Ending.{end_spelled, length_numbers}
use Rattle.nm_top.specs.private.Rewriting.{Place, holding, IsSoFar, HoldsFront, entries}
use Rattle.nm_top.proofs.RewriteLaws.{begun_holding, whole_file, part_more, room_for}

-- ---- what follows from an answer

pub on_err : {T E P Q : Type 0} (r : Result T E) → (P → Q) → OnErr r P → OnErr r Q
on_err (Ok x) f p = tt
on_err (Err e) f p = f p

pub if_ok : {T E : Type 0} {P Q : T → Type 0} (r : Result T E) → ((x : T) → P x → Q x) → IfOk r P → IfOk r Q
if_ok (Ok x) f p = f x p
if_ok (Err e) f p = tt

-- a fault that is handed on
pub same_fault : (T U : Type 0) (e f : BeginFault) → f ≡ e → has_failed {T = T} (Err e) ≡ false → has_failed {T = U} (Err f) ≡ false
same_fault T U e f is h = subst (λ (x : BeginFault). has_failed {T = U} (Err x) ≡ false) (sym is) (by e h)
  where
    by : (x : BeginFault) → has_failed {T = T} (Err x) ≡ false → has_failed {T = U} (Err x) ≡ false
    by Failed k = k
    by Memory k = refl

-- ---- how many bytes there are

pub length_notes : (notes : List AcceptNote) → length (flat_map note notes) ≡ 11 * length notes
length_notes [] = refl
length_notes (a ∷ notes) =
    let one : length (note a) ≡ 11 = refl in
    omega (arith, one, length-append (note a) (flat_map note notes), length_notes notes)

pub length_lost : (lost : List LetterId) → length (flat_map lost_entry lost) ≡ 6 * length lost
length_lost [] = refl
length_lost (id ∷ lost) =
    let one : length (lost_entry id) ≡ 6 = refl in
    omega (arith, one, length-append (lost_entry id) (flat_map lost_entry lost), length_lost lost)

pub length_entries : (t : Content) → length (entries t) ≡ 11 * length t.notes + 6 * length t.lost
length_entries t =
    omega (arith, length-append (flat_map note t.notes) (flat_map lost_entry t.lost), length_notes t.notes, length_lost t.lost)

longer : (xs ys : List ℕ) → length xs ≤ length (xs ++ ys)
longer xs ys = omega (arith, length-append xs ys)

-- four bytes of a mask more are within what the counts take
pub small_again : (t : Content) (most : ℕ) → IsTrace t → length (spelling t) ≤ most → 42 + length (entries t) ≤ most
unfolding front
small_again t most h fits =
    let mask = mask_bytes t.version t.mask in
    let body = front t ++ counts_part t.counts in
    let long : length body ≤ length (spelling t) = longer body _ in
    omega (
      arith,
      fits,
      long,
      h.front.header.digest,
      h.front.header.some,
      h.counts.each,
      length_numbers t.counts,
      length-append t.digest mask,
      length-append (header t) (entries t),
      length-append (front t) (counts_part t.counts),
    )

-- ---- from the header on

module _ (t : Content) where
  abbrev pub with_notes : List ℕ
  with_notes = header t ++ flat_map note t.notes

  abbrev pub with_lost : List ℕ
  with_lost = with_notes ++ flat_map lost_entry t.lost

  pub is_front : with_lost ≡ front t
  unfolding front
  is_front = append_assoc (header t) (flat_map note t.notes) (flat_map lost_entry t.lost)

  pub behind_lost : spelling t ≡ with_lost ++ end_part with_lost t.counts
  behind_lost = sym (ap (λ (b : List ℕ). b ++ end_part b t.counts) is_front ∙ end_spelled t)

  pub behind_notes : spelling t ≡ with_notes ++ (flat_map lost_entry t.lost ++ end_part with_lost t.counts)
  behind_notes = behind_lost ∙ append_assoc with_notes (flat_map lost_entry t.lost) (end_part with_lost t.counts)

  -- a room that is enough for all bytes
  pub room_for_notes : (room : ℕ) → length (spelling t) ≤ room → length (header t) + length (flat_map note t.notes) ≤ room
  room_for_notes room fits =
      omega (
        arith,
        fits,
        ap length behind_notes,
        length-append with_notes (flat_map lost_entry t.lost ++ end_part with_lost t.counts),
        length-append (header t) (flat_map note t.notes),
      )

  pub room_for_lost : (room : ℕ) → length (spelling t) ≤ room → length with_notes + length (flat_map lost_entry t.lost) ≤ room
  room_for_lost room fits =
      omega (arith, fits, ap length behind_lost, length-append with_lost (end_part with_lost t.counts), length-append with_notes (flat_map lost_entry t.lost))

  room_for_end : (room : ℕ) → length (spelling t) ≤ room → length with_lost + length (end_part with_lost t.counts) ≤ room
  room_for_end room fits = omega (arith, fits, ap length behind_lost, length-append with_lost (end_part with_lost t.counts))

  module _ (at : Place) (files : Option Files) where
    front_more : (bytes rest : List ℕ) → HoldsFront at files bytes → HoldsFront at files (bytes ++ rest)
    front_more bytes rest h = record {
      many = h.many;
      within = omega (arith, h.within, length-append bytes rest);
      is = h.is ∙ ap (holding at) (sym (take-append-le h.many bytes rest h.within));
    }

    -- a file that was cut off in the notes, or in the lost letters
    pub cut_in_notes : HoldsFront at files with_notes → HoldsFront at files (spelling t)
    cut_in_notes h =
        subst (HoldsFront at files) (sym behind_notes) (front_more with_notes (flat_map lost_entry t.lost ++ end_part with_lost t.counts) h)

    pub cut_in_lost : HoldsFront at files with_lost → HoldsFront at files (spelling t)
    cut_in_lost h = subst (HoldsFront at files) (sym behind_lost) (front_more with_lost (end_part with_lost t.counts) h)

  -- the same lists under other names
  pub noted : {at : Place} {w : TraceWriter} {files : Option Files} {opened : List ℕ} (notes : List AcceptNote) → notes ≡ t.notes
      → IsSoFar at w files opened (header t ++ flat_map note notes) → IsSoFar at w files opened with_notes
  noted {at} {w} {files} {opened} notes same h = subst (λ (xs : List AcceptNote). IsSoFar at w files opened (header t ++ flat_map note xs)) same h

  pub lost_behind : {at : Place} {w : TraceWriter} {files : Option Files} {opened : List ℕ} (lost : List LetterId) → lost ≡ t.lost
      → IsSoFar at w files opened (with_notes ++ flat_map lost_entry lost) → IsSoFar at w files opened with_lost
  lost_behind {at} {w} {files} {opened} lost same h = subst (λ (xs : List LetterId). IsSoFar at w files opened (with_notes ++ flat_map lost_entry xs)) same h

  -- the end behind them
  module _ {at : Place} {w : TraceWriter} {files : Option Files} {opened : List ℕ} (h : IsSoFar at w files opened with_lost) (counts : List ℕ) (same : counts ≡ t.counts) where
    all_bytes : with_lost ++ end_part with_lost counts ≡ spelling t
    all_bytes = ap (λ (cs : List ℕ). with_lost ++ end_part with_lost cs) same ∙ sym behind_lost

    pub size_end : (size : ℕ) → ((b : List ℕ) → Writes w b → size ≡ length (ended b counts)) → size ≡ length (spelling t)
    size_end size sized =
        sized with_lost h.writes ∙ ap (λ (b : List ℕ). length (ended b counts)) is_front ∙ ap (λ (cs : List ℕ). length (ended (front t) cs)) same

    pub whole_end : (new : Option Files) → ((b : List ℕ) → Writes w b → new ≡ extended files opened (end_part b counts)) → new ≡ holding at (spelling t)
    whole_end new ok = whole_file at w files opened with_lost h (end_part with_lost counts) new (ok with_lost h.writes) ∙ ap (holding at) all_bytes

    pub cut_in_end : (new : Option Files) → ((b : List ℕ) → Writes w b → ExtendsPart files opened (end_part b counts) new) → HoldsFront at new (spelling t)
    cut_in_end new err =
        subst (HoldsFront at new) (append-nil (with_lost ++ end_part with_lost counts) ∙ all_bytes)
        (part_more at w files opened with_lost h (end_part with_lost counts) [] new (err with_lost h.writes))

    pub sure_end : (sure : Option ℕ) (room : ℕ) → IsSome at.start → sure ≡ Some room → length (spelling t) ≤ room
        → HasRoom sure (file_in files opened) (end_part with_lost counts)
    sure_end sure room told is fits =
        let size = ap (λ (cs : List ℕ). length (end_part with_lost cs)) same in
        room_for at w files opened with_lost h sure room (end_part with_lost counts) told is (omega (arith, room_for_end room fits, size))

-- ---- the header

module _ (t : Content) (at : Place) (mask n : ℕ) (digest : List ℕ) (masks : mask ≡ t.mask) (ns : n ≡ t.n) (digests : digest ≡ t.digest) where
  pub same_header : header_part t.version mask n digest ≡ header t
  same_header =
      ap (λ (k : ℕ). header_part t.version k n digest) masks ∙ ap (λ (k : ℕ). header_part t.version t.mask k digest) ns
      ∙ ap (λ (ds : List ℕ). header_part t.version t.mask t.n ds) digests

  -- a file that was begun
  pub begun_so_far : {w : TraceWriter} {new : Option Files} {opened : List ℕ} → Writes w (header_part t.version mask n digest)
      → new ≡ extended (emptied at.start at.name) at.name (header_part t.version mask n digest) → (IsSome new → opened ≡ at.name) → IsSoFar at w new opened (header t)
  begun_so_far {w = w} writes is named = record {
    writes = subst (Writes w) same_header writes;
    is = is ∙ begun_holding at (header_part t.version mask n digest) ∙ ap (holding at) same_header;
    name_is = named;
  }

  -- one that was not, or whose header was not written whole
  pub cut_in_header : (new : Option Files) → (new ≡ at.start) ⊎ ExtendsPart (emptied at.start at.name) at.name (header_part t.version mask n digest) new
      → (new ≡ at.start) ⊎ ((many : ℕ) × (new ≡ holding at (take many (spelling t))))
  cut_in_header new (inl same) = inl same
  cut_in_header new (inr p) =
      let short : p.0 ≤ length (header t) = omega (arith, p.1, ap length same_header) in
      let ns = flat_map note t.notes in
      let more = flat_map lost_entry t.lost ++ end_part (with_lost t) t.counts in
      let front : take p.0 (spelling t) ≡ take p.0 (header t) =
      ap (take p.0) (behind_notes t) ∙ take-append-le p.0 (header t ++ ns) more (omega (arith, short, length-append (header t) ns)) ∙ take-append-le p.0 (header t) ns short in
      inr (p.0, p.2 ∙ begun_holding at (take p.0 (header_part t.version mask n digest)) ∙ ap (λ (b : List ℕ). holding at (take p.0 b)) same_header ∙ ap (holding at) (sym front))

  -- room for it
  pub room_for_header : (sure : Option ℕ) (room : ℕ) → sure ≡ Some room → length (spelling t) ≤ room → HasRoom sure (Some []) (header_part t.version mask n digest)
  room_for_header sure room is fits =
      let ns = flat_map note t.notes in
      let all = room_for_notes t room fits in
      subst (λ (s : Option ℕ). HasRoom s (Some []) (header_part t.version mask n digest)) (sym is) (omega (arith, all, ap length same_header))
