-- Going through the waiting letters.
use Rattle.std.proofs.Common.{◌≡◌, ℕ, ◌+◌, ◌*◌, ◌<◌, ◌≤◌, Bool, true, false, cond, leb, List, [], ◌∷◌, ◌++◌, length, Option, Some, None, refl, sym, ap, ◌∙◌, subst, inl, inr, arith, append_assoc, length-append}
use Rattle.std.specs.Prelude.{Contains, ◌⊎◌, ◌↔◌, ◌^◌, ◌&&◌, ◌||◌, not, IsTrue, find, nat_le, map}
use Rattle.std.specs.List.{flat_map, list_any}
use Rattle.std.proofs.lemmas.List.{append-nil}
use Rattle.std.proofs.lemmas.List.Elements.{Contains-append_cases, Contains-append_right}
use Rattle.std.proofs.lemmas.Option.{same_Some, none-some}
use Rattle.std.proofs.lemmas.Bool.{le-ltb, lt-ltb}
use Rattle.std.proofs.lemmas.Bool.Decides.{nat_tests}
use Rattle.std.proofs.lemmas.List.Folds.{list_any-append}
use Rattle.nm_base.specs.declared.letter.LetterId.{LetterId}
use Rattle.nm_base.specs.declared.letter.Letter.{Letter}
use Rattle.nm_base.specs.declared.letter.ProcNo.{ProcNo}
use Rattle.nm_base.specs.declared.limits.TheConstants.{MAX_PROCESSES}
use Rattle.nm_base.specs.Message.{Message, message_of}
use Rattle.nm_base.specs.Scripts.{Script}
use Rattle.nm_outside.specs.Files.{Files, extended, ExtendsPart, HasRoom}
use Rattle.processes.specs.Standing.{Standing}
use Rattle.event_list.specs.declared.Event.{Event}
use Rattle.event_list.specs.Runs.{Sound}
use Rattle.event_list.specs.Races.{IsLogged}
use Rattle.event_list.specs.Traces.{Keeps, nothing, kept, left_out, IsLoggedName, waiting}
use Rattle.event_list.specs.Turns.{is_first}
use Rattle.event_list.proofs.Decisions.{trace_exists}
use Rattle.event_list.proofs.Members.{empty, cons_here, cons_there, cons_cases}
use Rattle.event_list.proofs.OrderlyFacts.{trace_size, letters_wait}
use Rattle.event_list.proofs.RunsSound.{runs_sound}
use Rattle.event_list.proofs.Soundness.{letter_same, sender_is}
use Rattle.event_list.proofs.TraceFacts.{in_waiting, map_in}
use Rattle.event_list.proofs.WitnessFacts.{keeps_one}
use Rattle.mailboxes.specs.Letters as mail
use Rattle.mailboxes.specs.Letters.{Rises}
use Rattle.race_tracer.specs.Tracing.{Tables, IsTracerOf, IsLeft}
use Rattle.race_tracer.proofs.TracerFacts.{stamp_from}
use Rattle.world.specs.Worlds.{Parts, IsWorldOf}
use Rattle.world.proofs.Steps.{first_is, letters_le}
use Rattle.world.proofs.Places.{any_same, map_length}
use Rattle.trace_file.specs.declared.writer.TraceWriter.{TraceWriter}
use Rattle.trace_file.specs.Content.{Content, with_lost}
use Rattle.trace_file.specs.Bytes.{front, lost_entry}
use Rattle.trace_file.specs.Writing.{Writes}
use Rattle.trace_file.proofs.Passing.{lost_front}
use Rattle.recorder.specs.Recording.{Form}
use Rattle.recorder.specs.private.Stages.{Place, IsNoted, IsWritten, IsCutInLost, AreNotes, AreLost, content_in, HoldsFront, IsHeld}
use Rattle.recorder.specs.private.Lost.{IsFrom, AreLogged, IsGoing}
use Rattle.recorder.specs.private.Seen.{has_place, Holds}
use Rattle.recorder.proofs.Holding.{held_more, held_part}
use Rattle.recorder.proofs.Contents.{front_lost}

-- ---- the letters from a number of posting on

abbrev is_from : ℕ → Letter → Bool
is_from from l = nat_le from l.posted

test_no : (from posted : ℕ) → posted < from → leb from posted ≡ false
test_no from posted h = grind (arith, nat_tests)

test_is : (from posted : ℕ) → from ≤ posted → leb from posted ≡ true
test_is from posted h = grind (arith, nat_tests)

find_here : (from : ℕ) (l : Letter) (ls : List Letter) → leb from l.posted ≡ true → find (is_from from) (l ∷ ls) ≡ Some l
find_here from l ls e = ap (λ b. cond b (Some l) (find (is_from from) ls)) e

find_later : (from : ℕ) (l : Letter) (ls : List Letter) → leb from l.posted ≡ false → find (is_from from) (l ∷ ls) ≡ find (is_from from) ls
find_later from l ls e = ap (λ b. cond b (Some l) (find (is_from from) ls)) e

find_past : (from : ℕ) (before rest : List Letter) → ((l : Letter) → Contains before l → l.posted < from) → find (is_from from) (before ++ rest) ≡ find (is_from from) rest
find_past from [] rest h = refl
find_past from (l ∷ ls) rest h =
    find_later from l (ls ++ rest) (test_no from l.posted (h l (cons_here l ls)))
    ∙ find_past from ls rest (λ k c. h k (cons_there l ls k c))

-- what is found first is the first of the rest
pub found_first : (letters : List Letter) (from : ℕ) (gone rest : List Letter) (l : Letter) → IsFrom letters from gone rest → find (is_from from) letters ≡ Some l
    → (more : List Letter) × (rest ≡ l ∷ more)
found_first letters from gone rest l h e = by rest h.later (sym (ap (find (is_from from)) h.split ∙ find_past from gone rest h.earlier) ∙ e)
  where
    by : (rest : List Letter) → Rises from rest → find (is_from from) rest ≡ Some l → (more : List Letter) × (rest ≡ l ∷ more)
    by [] r e = absurd (none-some l e)
    by (k ∷ ks) r e = (ks, ap (λ (j : Letter). j ∷ ks) (same_Some k l (sym (find_here from k ks (test_is from k.posted r.0)) ∙ e)))

-- and where nothing is found, none is left
pub found_none : (letters : List Letter) (from : ℕ) (gone rest : List Letter) → IsFrom letters from gone rest → find (is_from from) letters ≡ None → rest ≡ []
found_none letters from gone rest h e = by rest h.later (sym (ap (find (is_from from)) h.split ∙ find_past from gone rest h.earlier) ∙ e)
  where
    by : (rest : List Letter) → Rises from rest → find (is_from from) rest ≡ None → rest ≡ []
    by [] r e = refl
    by (k ∷ ks) r e = absurd (none-some k (sym e ∙ find_here from k ks (test_is from k.posted r.0)))

-- the same where the letters are those of a mail
pub found : (letters mine : List Letter) (from : ℕ) (gone rest : List Letter) (l : Letter) → mine ≡ letters → IsFrom letters from gone rest → Some l ≡ find (is_from from) mine
    → (more : List Letter) × (rest ≡ l ∷ more)
found letters mine from gone rest l same h e = found_first letters from gone rest l h (ap (find (is_from from)) (sym same) ∙ sym e)

pub found_nothing : (letters mine : List Letter) (from : ℕ) (gone rest : List Letter) → mine ≡ letters → IsFrom letters from gone rest → None ≡ find (is_from from) mine → rest ≡ []
found_nothing letters mine from gone rest same h e = found_none letters from gone rest h (ap (find (is_from from)) (sym same) ∙ sym e)

pub all_from : (letters : List Letter) → Rises 0 letters → IsFrom letters 0 [] letters
all_from letters r = record { split = refl; earlier = λ l c. absurd (empty l c); later = r }

pub next_from : (letters : List Letter) (from : ℕ) (gone : List Letter) (l : Letter) (more : List Letter) → IsFrom letters from gone (l ∷ more)
    → IsFrom letters (l.posted + 1) (gone ++ l ∷ []) more
next_from letters from gone l more h = record {
  split = h.split ∙ sym (append_assoc gone (l ∷ []) more);
  earlier = λ k c. elim (Contains-append_cases gone (l ∷ []) k c) [
    | inl o ↦ omega (arith, h.earlier k o, h.later.0)
    | inr o ↦ elim (cons_cases l [] k o) [
      | inl e ↦ subst (λ (j : Letter). j.posted < l.posted + 1) e (omega arith)
      | inr n ↦ absurd (empty k n)
    ]
  ];
  later = h.later.1.1;
}

pub from_fits : (letters : List Letter) (from : ℕ) (gone : List Letter) (l : Letter) (more : List Letter) → IsFrom letters from gone (l ∷ more) → (from ≤ l.posted) × (l.posted + 1 < 2 ^ 32)
from_fits letters from gone l more h = (h.later.0, h.later.1.0)

pub from_in : (letters : List Letter) (from : ℕ) (gone : List Letter) (l : Letter) (more : List Letter) → IsFrom letters from gone (l ∷ more) → Contains letters l
from_in letters from gone l more h = subst (λ (ls : List Letter). Contains ls l) (sym h.split) (Contains-append_right gone (l ∷ more) l (cons_here l more))

-- letters that were posted at its number or later don't precede the letter
none_later : (low : ℕ) (ls : List Letter) (l : Letter) → Rises low ls → l.posted ≤ low → list_any (λ k. mail.precedes k l) ls ≡ false
none_later low [] l r h = refl
none_later low (k ∷ ks) l r h =
    ap (λ b. (b && mail.are_rivals k l) || list_any (λ k. mail.precedes k l) ks) (le-ltb k.posted l.posted (omega (arith, h, r.0)))
    ∙ none_later (k.posted + 1) ks l r.1.1 (omega (arith, h, r.0))

-- the next letter is first where none of those that are gone is its rival
pub first_next : (letters : List Letter) (from : ℕ) (gone : List Letter) (l : Letter) (more : List Letter) → IsFrom letters from gone (l ∷ more)
    → not (list_any (λ k. mail.are_rivals k l) gone) ≡ mail.is_first letters l
first_next letters from gone l more h = ap not (sym (
    ap (list_any (λ k. mail.precedes k l)) h.split
    ∙ list_any-append (λ k. mail.precedes k l) gone (l ∷ more)
    ∙ ap (λ b. list_any (λ k. mail.precedes k l) gone || b) none
    ∙ or_right_none (list_any (λ k. mail.precedes k l) gone)
    ∙ any_same (λ k. mail.precedes k l) (λ k. mail.are_rivals k l) gone (λ k c.
    ap (λ b. b && mail.are_rivals k l) (lt-ltb k.posted l.posted (omega (arith, h.earlier k c, h.later.0))))))
  where
    or_right_none : (b : Bool) → (b || false) ≡ b
    or_right_none true = refl
    or_right_none false = refl

    none : list_any (λ k. mail.precedes k l) (l ∷ more) ≡ false
    none =
        ap (λ b. (b && mail.are_rivals l l) || list_any (λ k. mail.precedes k l) more) (le-ltb l.posted l.posted (omega arith))
        ∙ none_later (l.posted + 1) more l h.later.1.1 (omega arith)

-- the letter that is looked at next
pub record Looked (letters : List Letter) (from : ℕ) (gone rest : List Letter) (l : Letter) : Type 0 where
  pub more : List Letter
  pub is : rest ≡ l ∷ more
  pub place : IsFrom letters from gone (l ∷ more)
  pub in_it : Contains letters l

pub looked : (letters mine : List Letter) (from : ℕ) (gone rest : List Letter) (l : Letter) → mine ≡ letters → IsFrom letters from gone rest → Some l ≡ find (is_from from) mine → Looked letters from gone rest l
looked letters mine from gone rest l same h e =
    let z = found letters mine from gone rest l same h e in
    let place = subst (IsFrom letters from gone) z.1 h in
    record { more = z.0; is = z.1; place = place; in_it = from_in letters from gone l z.0 place }

-- ---- which of them are logged

pub keeps_none : {X : Type 0} {P : X → Type 0} {ys : List X} → Keeps P [] ys → ys ≡ []
keeps_none nothing = refl

-- what was kept of a list with one more in front
keeps_cons : {X : Type 0} {P : X → Type 0} {x : X} {xs ys : List X} → Keeps P (x ∷ xs) ys → ((zs : List X) × (ys ≡ x ∷ zs) × P x × Keeps P xs zs) ⊎ ((P x → ⊥) × Keeps P xs ys)
keeps_cons (kept {ys = zs} p k) = inl (zs, refl, p, k)
keeps_cons (left_out q k) = inr (q, k)

names_map : (ls : List Letter) → map (λ (m : Message). m.id) (map message_of ls) ≡ map (λ (l : Letter). l.id) ls
names_map [] = refl
names_map (l ∷ ls) = ap (λ (ids : List LetterId). l.id ∷ ids) (names_map ls)

module _ {P M : Type 0} (stands_for : P → Standing) (w : Parts P M) (s : ℕ → Script) (E : List Event) (h : IsWorldOf stands_for w s E) where
  abbrev sound : Sound w.mask E
  sound = runs_sound s h.lawful h.run

  waits_there : (l : Letter) → Contains w.letters l → Contains (waiting E) (message_of l)
  waits_there l c = subst (λ ms. Contains ms (message_of l)) h.mail (map_in message_of w.letters l c)

  pub left_letter : length w.processes ≤ MAX_PROCESSES → (l : Letter) → Contains w.letters l → IsLeft w.mask E l
  left_letter few l c = record {
    run = record { scripts = s; lawful = h.lawful; run = h.run; below = λ e d. omega (arith, few, h.below e d) };
    stamp = stamp_from E sound l l.posted (h.posted l c).place (h.posted l c).stamp;
    waits = (in_waiting E (message_of l) (waits_there l c)).1;
  }

  -- its sender is one of the processes
  pub left_sender : (l : Letter) → Contains w.letters l → l.id.sender.no < length w.processes
  left_sender l c =
      let k = stamp_from E sound l l.posted (h.posted l c).place (h.posted l c).stamp in
      subst (λ n. n < length w.processes) (sender_is k.sends) (h.below k.send k.sends.in_list)

  -- the letter of this name is logged where it is
  named_logged : (l : Letter) → Contains w.letters l → IsLoggedName w.mask E l.id → IsLogged w.mask E (message_of l)
  named_logged l c k =
      subst (IsLogged w.mask E) (letter_same sound k.0 (message_of l) k.2.1.could.sent (in_waiting E (message_of l) (waits_there l c)).0 k.1) k.2

  -- what is said of a letter that is left
  pub left_logged : (name_of : P → ProcNo) (t : Tables) → t.mask ≡ w.mask → length w.processes ≤ MAX_PROCESSES
      → (from : ℕ) (gone : List Letter) (l : Letter) (more : List Letter) → IsFrom w.letters from gone (l ∷ more)
      → (sets : List ℕ) → Holds sets gone → (first b : Bool)
      → (has_place l ≡ true → (gone : List Letter) → Holds sets gone → first ≡ not (list_any (λ k. mail.are_rivals k l) gone)) → IsTracerOf t E
      → ((E : List Event) → IsTracerOf t E → IsLeft t.mask E l → (has_place l ≡ true → first ≡ is_first E (message_of l)) → IsTrue b ↔ IsLogged t.mask E (message_of l))
      → IsTrue b ↔ IsLogged w.mask E (message_of l)
  left_logged name_of t order few from gone l more place sets holds first b seen tracer says =
      let c = from_in w.letters from gone l more place in
      subst (λ m. IsTrue b ↔ IsLogged m E (message_of l)) order
      (says E tracer (subst (λ m. IsLeft m E l) (sym order) (left_letter few l c))
      (λ has. seen has gone holds ∙ first_next w.letters from gone l more place ∙ first_is stands_for name_of w s E h l c))

  module _ (f : Form) (at : Place) (order : w.mask ≡ f.mask) where
    -- before the first letter
    pub going_first : (t : Tables) (wr : TraceWriter) (files : Option Files) (opened : List ℕ) (notes : ℕ) → length w.processes ≤ MAX_PROCESSES → IsNoted f at t wr files opened notes E
        → IsGoing f at wr files opened notes 0 E w.letters
    going_first t wr files opened notes few k =
        let T = trace_exists 1 w.mask MAX_PROCESSES E sound (λ e d. omega (arith, few, h.below e d)) in
        let lost : AreLost f.mask E T.0.lost = subst (λ m. AreLost m E T.0.lost) (T.2 ∙ order) T.4.lost in
        record {
          list = k.list;
          written = [];
          left = T.0.lost;
          are_notes = k.are_notes;
          are_lost = lost;
          logged = subst (λ (ids : List LetterId). Keeps (IsLoggedName f.mask E) ids T.0.lost) (ap (map (λ (m : Message). m.id)) (sym h.mail) ∙ names_map w.letters) lost;
          notes_count = k.count;
          lost_count = refl;
          writes = k.writes;
          held = k.held;
        }

    -- behind the last one
    pub going_last : (wr : TraceWriter) (files : Option Files) (opened : List ℕ) (notes lost : ℕ) (rest : List Letter) → rest ≡ [] → IsGoing f at wr files opened notes lost E rest
        → IsWritten f at wr files opened notes lost E
    going_last wr files opened notes lost rest none k =
        let nothing_left = keeps_none (subst (λ (ls : List Letter). AreLogged f.mask E ls k.left) none k.logged) in
        record {
          list = k.list;
          names = k.written;
          are_notes = k.are_notes;
          are_lost = subst (AreLost f.mask E) (ap (λ (ids : List LetterId). k.written ++ ids) nothing_left ∙ append-nil k.written) k.are_lost;
          notes_count = k.notes_count;
          lost_count = k.lost_count;
          writes = k.writes;
          held = k.held;
        }

    module _ (wr : TraceWriter) (files : Option Files) (opened : List ℕ) (notes lost : ℕ) (l : Letter) (more : List Letter) (c : Contains w.letters l) (k : IsGoing f at wr files opened notes lost E (l ∷ more)) where
      -- a letter that is not logged
      pub going_past : (IsLogged w.mask E (message_of l) → ⊥) → IsGoing f at wr files opened notes lost E more
      going_past not_logged = elim (keeps_cons k.logged) [
        | inl z ↦ absurd (not_logged (named_logged l c (subst (λ m. IsLoggedName m E l.id) (sym order) z.2)))
        | inr z ↦ record {
          list = k.list;
          written = k.written;
          left = k.left;
          are_notes = k.are_notes;
          are_lost = k.are_lost;
          logged = z.1;
          notes_count = k.notes_count;
          lost_count = k.lost_count;
          writes = k.writes;
          held = k.held;
        }
      ]

      one_left : IsLogged w.mask E (message_of l) → (zs : List LetterId) × (k.left ≡ l.id ∷ zs) × Keeps (IsLoggedName f.mask E) (map (λ (j : Letter). j.id) more) zs
      one_left logged = elim (keeps_cons k.logged) [
        | inl z ↦ (z.0, z.1, z.3)
        | inr z ↦ absurd (z.0 (message_of l, refl, subst (λ m. IsLogged m E (message_of l)) order logged))
      ]

      -- the entries so far and it take so many events
      pub going_size : length w.processes ≤ MAX_PROCESSES → IsLogged w.mask E (message_of l) → 2 * notes + (lost + 1) ≤ length E
      going_size few logged =
          let z = one_left logged in
          let T = trace_exists 1 w.mask MAX_PROCESSES E sound (λ e d. omega (arith, few, h.below e d)) in
          let all : T.0.lost ≡ k.written ++ k.left = keeps_one (subst (λ m. AreLost m E T.0.lost) (T.2 ∙ order) T.4.lost) k.are_lost in
          let notes_are : T.0.notes ≡ k.list = keeps_one (subst (λ m. AreNotes m E T.0.notes) (T.2 ∙ order) T.4.notes) k.are_notes in
          let size = trace_size E T.0 (subst (λ m. Sound m E) (sym T.2) sound) T.4 in
          omega (arith, size, ap length all, ap length notes_are, length-append k.written k.left, ap length z.1, k.notes_count, k.lost_count)

      -- one that is
      pub going_on : (logged : IsLogged w.mask E (message_of l)) (wr' : TraceWriter) (files' : Option Files) (opened' : List ℕ)
          → ((t : Content) → Writes wr (front t) → Writes wr' (front (with_lost t l.id)))
          → files' ≡ extended files opened (lost_entry l.id) → opened' ≡ opened → IsGoing f at wr' files' opened' notes (lost + 1) E more
      going_on logged wr' files' opened' writes grown same =
          let z = one_left logged in
          let t = content_in f k.list k.written in
          record {
            list = k.list;
            written = k.written ++ l.id ∷ [];
            left = z.0;
            are_notes = k.are_notes;
            are_lost = subst (AreLost f.mask E) (ap (λ (ids : List LetterId). k.written ++ ids) z.1 ∙ sym (append_assoc k.written (l.id ∷ []) z.0)) k.are_lost;
            logged = z.2;
            notes_count = k.notes_count;
            lost_count = omega (arith, k.lost_count, length-append k.written (l.id ∷ []));
            writes = writes t k.writes;
            held = subst (IsHeld at files' opened') (sym (lost_front t l.id)) (held_more at files files' opened (front t) (lost_entry l.id) k.held opened' grown same);
          }

      -- whose entry is not written whole
      pub cut_in_lost : (logged : IsLogged w.mask E (message_of l)) (files' : Option Files) → ExtendsPart files opened (lost_entry l.id) files' → IsCutInLost f at files' E
      cut_in_lost logged files' part =
          let z = one_left logged in
          let t = content_in f k.list k.written in
          let all : k.written ++ k.left ≡ (k.written ++ l.id ∷ []) ++ z.0 =
          ap (λ (ids : List LetterId). k.written ++ ids) z.1 ∙ sym (append_assoc k.written (l.id ∷ []) z.0) in
          record {
            list = k.list;
            names = (k.written ++ l.id ∷ []) ++ z.0;
            are_notes = k.are_notes;
            are_lost = subst (AreLost f.mask E) all k.are_lost;
            front_is = subst (HoldsFront at files') (ap (λ (b : List ℕ). b ++ flat_map lost_entry z.0) (sym (lost_front t l.id)) ∙ sym (front_lost f k.list (k.written ++ l.id ∷ []) z.0))
                (held_part at files files' opened (front t) (lost_entry l.id) k.held (flat_map lost_entry z.0) part);
          }

-- no more letters wait than events happened
pub letters_few : {P M : Type 0} (stands_for : P → Standing) (w : Parts P M) (s : ℕ → Script) (E : List Event) → IsWorldOf stands_for w s E → length w.letters ≤ length E
letters_few stands_for w s E h =
    omega (arith, map_length message_of w.letters, ap length h.mail, letters_wait (runs_sound s h.lawful h.run), letters_le E)

-- room for a piece behind what was written
pub room_for : (sure : Option ℕ) (file : Option (List ℕ)) (bytes piece : List ℕ) (room : ℕ) → sure ≡ Some room → file ≡ Some bytes → length bytes + length piece ≤ room → HasRoom sure file piece
room_for sure file bytes piece room is held fits =
    subst (λ (s : Option ℕ). HasRoom s file piece) (sym is) (subst (λ (o : Option (List ℕ)). HasRoom (Some room) o piece) (sym held) fits)
