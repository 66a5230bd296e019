-- The end of a trace.
use Rattle.std.proofs.Common.{◌≡◌, ℕ, zero, suc, ◌+◌, ◌*◌, ◌<◌, ◌≤◌, List, [], ◌∷◌, ◌++◌, length, get_or, Option, refl, sym, ap, ◌∙◌, subst, arith, length-append}
use Rattle.std.specs.Prelude.{Contains, slice_index, sum}
use Rattle.std.specs.Int.{w32, to_be_bytes}
use Rattle.sha2.specs.Sha256.{sha256, digest_bytes, final_hash, initial_hash_256}
use Rattle.std.proofs.lemmas.List.{append-nil}
use Rattle.std.proofs.lemmas.List.Sums.{sum_by-cons}
use Rattle.nm_outside.specs.Files.{Files, extended, ExtendsPart}
use Rattle.nm_base.specs.declared.letter.LetterId.{LetterId}
use Rattle.nm_base.specs.declared.letter.AcceptNote.{AcceptNote}
use Rattle.nm_base.specs.declared.limits.TheConstants.{MAX_PROCESSES}
use Rattle.event_list.specs.declared.Event.{Event}
use Rattle.event_list.specs.Events.{count}
use Rattle.event_list.specs.Turns.{sum_below}
use Rattle.event_list.specs.Runs.{Sound}
use Rattle.event_list.proofs.Decisions.{trace_exists}
use Rattle.event_list.proofs.OrderlyFacts.{all_counted, trace_size}
use Rattle.event_list.proofs.WitnessFacts.{keeps_one}
use Rattle.trace_file.specs.declared.writer.TraceWriter.{TraceWriter}
use Rattle.trace_file.specs.Content.{Content}
use Rattle.trace_file.specs.Bytes.{front, counts_part, end_part, ended}
use Rattle.trace_file.proofs.Ending.{length_numbers}
use Rattle.trace_file.specs.Writing.{Writes}
use Rattle.recorder.specs.Recording.{Form, IsRecorded, IsFrontOf, holding}
use Rattle.recorder.specs.private.Stages.{Place, IsWritten, AreNotes, AreLost, content_in, HoldsFront}
use Rattle.recorder.proofs.Holding.{held_more, held_part}
use Rattle.recorder.proofs.Contents.{whole, is_content, front_first, same_front}

module _ (f : Form) (at : Place) (w : TraceWriter) (files : Option Files) (opened : List ℕ) (notes lost : ℕ) (E : List Event) (k : IsWritten f at w files opened notes lost E)
    (below : (e : Event) → Contains E e → e.proc.no < f.n) (counts : List ℕ) (long : length counts ≡ f.n) (values : (p : ℕ) → p < f.n → get_or counts p 0 ≡ count E p) where
  abbrev t : Content
  t = whole f k.list k.names counts

  abbrev b : List ℕ
  b = front (content_in f k.list k.names)

  pub recorded_end : (files' : Option Files) (size : ℕ) → ((b : List ℕ) → Writes w b → files' ≡ extended files opened (end_part b counts))
      → ((b : List ℕ) → Writes w b → size ≡ length (ended b counts)) → IsRecorded f E at.name at.start files' notes lost size
  recorded_end files' size grown sized = record {
    content = t;
    is = is_content f E below k.list k.are_notes k.names counts k.are_lost long values;
    notes_are = k.notes_count;
    lost_are = k.lost_count;
    bytes_are = sized b k.writes ∙ ap (λ (c : List ℕ). length (ended c counts)) (sym (same_front f k.list k.names counts));
    file = (held_more at files files' opened b (end_part b counts) k.held opened (grown b k.writes) refl).is
        ∙ ap (holding at.start at.name) (sym (front_first f k.list k.names counts));
  }

  pub cut_end : (files' : Option Files) → ((b : List ℕ) → Writes w b → ExtendsPart files opened (end_part b counts) files') → IsFrontOf f E at.name at.start files'
  cut_end files' part =
      let h = subst (HoldsFront at files') (append-nil (b ++ end_part b counts) ∙ sym (front_first f k.list k.names counts))
      (held_part at files files' opened b (end_part b counts) k.held [] (part b k.writes)) in
      record {
        content = t;
        is = is_content f E below k.list k.are_notes k.names counts k.are_lost long values;
        many = h.many;
        file = h.is;
      }

digest_length : (h : List ℕ) (n : ℕ) → length (digest_bytes h n) ≡ 4 * n
unfolding digest_bytes
digest_length h zero = refl
digest_length h (suc n) =
    let last : length (to_be_bytes w32 (slice_index h n)) ≡ 4 = refl in
    let both = length-append (digest_bytes h n) (to_be_bytes w32 (slice_index h n)) in
    omega (arith, digest_length h n, last, both)

sha_length : (m : List ℕ) → length (sha256 m) ≡ 32
unfolding sha256
sha_length m = digest_length (final_hash initial_hash_256 m) 8

-- the end has four bytes for each process, and 33
pub end_length : (before counts : List ℕ) → length (end_part before counts) ≡ 33 + 4 * length counts
end_length before counts =
    omega (arith, length-append (counts_part counts) (sha256 (before ++ counts_part counts)), length_numbers counts, sha_length (before ++ counts_part counts))

-- ---- the sum of the counts

sum_first : (n : ℕ) (f : ℕ → ℕ) → sum_below (suc n) f ≡ f 0 + sum_below n (λ p. f (suc p))
sum_first zero f = refl
sum_first (suc n) f = omega (arith, sum_first n f)

sum_index : (xs : List ℕ) → sum xs ≡ sum_below (length xs) (λ p. get_or xs p 0)
sum_index [] = refl
sum_index (x ∷ xs) =
    sum_by-cons (λ (k : ℕ). k) x xs ∙ ap (λ (k : ℕ). x + k) (sum_index xs) ∙ sym (sum_first (length xs) (λ p. get_or (x ∷ xs) p 0))

sum_agree : (n : ℕ) (f g : ℕ → ℕ) → ((p : ℕ) → p < n → f p ≡ g p) → sum_below n f ≡ sum_below n g
sum_agree zero f g same = refl
sum_agree (suc n) f g same = omega (arith, same n (omega arith), sum_agree n f g (λ p l. same p (omega (arith, l))))

pub counts_sum : (counts : List ℕ) (n : ℕ) (E : List Event) → length counts ≡ n → ((p : ℕ) → p < n → get_or counts p 0 ≡ count E p)
    → ((e : Event) → Contains E e → e.proc.no < n) → sum counts ≡ length E
counts_sum counts n E long values below =
    sum_index counts ∙ ap (λ k. sum_below k (λ p. get_or counts p 0)) long ∙ sum_agree n (λ p. get_or counts p 0) (count E) values ∙ all_counted n E below

-- so many notes and lost letters take so many events
pub entries_few : (mask : ℕ) (E : List Event) → Sound mask E → ((e : Event) → Contains E e → e.proc.no < MAX_PROCESSES) → (list : List AcceptNote) (names : List LetterId) → AreNotes mask E list → AreLost mask E names
    → 2 * length list + length names ≤ length E
entries_few mask E g below list names notes lost =
    let t = trace_exists 1 mask MAX_PROCESSES E g below in
    let size = trace_size E t.0 (subst (λ m. Sound m E) (sym t.2) g) t.4 in
    let notes_are : t.0.notes ≡ list = keeps_one (subst (λ m. AreNotes m E t.0.notes) t.2 t.4.notes) notes in
    let lost_are : t.0.lost ≡ names = keeps_one (subst (λ m. AreLost m E t.0.lost) t.2 t.4.lost) lost in
    omega (arith, size, ap length notes_are, ap length lost_are)
