-- What is seen of a process is what the program says.
use Rattle.std.proofs.Common.{◌≡◌, ℕ, zero, suc, ◌+◌, ◌<◌, List, [], ◌∷◌, ◌++◌, map, length, Option, Some, None, Result}
use Rattle.std.proofs.Common.{Ok, Err, refl, sym, ap, ◌∙◌, subst, arith}
use Rattle.std.specs.Prelude.{slice_get, option_map, ⊤}
use Rattle.std.specs.List.{flat_map, range_with_len}
use Rattle.nm_outside.specs.declared.cabinet.Failed.{Failed}
use Rattle.c_tree.specs.declared.program.Program.{Program}
use Rattle.c_tree.specs.declared.program.Function.{Function}
use Rattle.c_tree.specs.NameLookup.{NoName, NeedsIndex, NoIndex, Sees}
use Rattle.c_tree.specs.NameLookup as meaning
use Rattle.stack_code.specs.Code.{Code, FunctionCode}
use Rattle.event_list.specs.declared.Event.{Event}
use Rattle.processes.specs.declared.proc.Look.{Look}
use Rattle.c_process.specs.Standing.{IsCodeOf}
use Rattle.c_process.specs.Values.{answered}
use Rattle.c_process.specs.declared.answers.Seen.{Seen}
use Rattle.c_process.specs.declared.answers.LookFault.{LookFault}
use Rattle.c_process.specs.declared.answers.FrameSeen.{FrameSeen}
use Rattle.report.specs.Printing.{Prints}
use Rattle.report.specs.Replies.{event_line, value_line, where_line, frame_line, notice_line}
use Rattle.report.specs.declared.replies.Notice.TheVariants as notice
use Rattle.debugger.specs.Looks.{last_text, seen_text, function_name, frame_text, frame_lines, frames_text}
use Rattle.debugger.specs.private.Looking.{text_if, notice_of}

-- ---- a variable

-- what is replied to an answer
abbrev pub answer_text : List ℕ → Option ℕ → Result Seen LookFault → List ℕ
answer_text name index (Ok seen) = value_line name index seen.bits seen.of
answer_text name index (Err fault) = notice_line (notice_of fault)

answer_is : (name : List ℕ) (index : Option ℕ) (v : meaning.Seen)
    → answer_text name index (answered v) ≡ seen_text name index v
answer_is name index NoName = refl
answer_is name index NeedsIndex = refl
answer_is name index NoIndex = refl
answer_is name index (Sees bits of) = refl

-- an answer's text is that of what is seen
pub prints_seen : (a b : Option (List ℕ)) (f g : ℕ) (name : List ℕ) (index : Option ℕ) (x y : Result Seen LookFault)
    (v w : meaning.Seen) (r : Result ⊤ Failed)
    → x ≡ y → x ≡ answered v → v ≡ w → Prints a b f g (answer_text name index y) r
    → Prints a b f g (seen_text name index w) r
prints_seen a b f g name index x y v w r is same end h =
    subst (λ t. Prints a b f g t r)
    (ap (answer_text name index) (sym is ∙ same) ∙ answer_is name index v ∙ ap (seen_text name index) end) h

-- ---- where it is

pub prints_where : (a b : Option (List ℕ)) (f g p : ℕ) (look look' : Look) (line line' events events' total total' : ℕ)
    (r : Result ⊤ Failed)
    → look ≡ look' → line ≡ line' → events ≡ events' → total ≡ total'
    → Prints a b f g (where_line p look line events total) r
    → Prints a b f g (where_line p look' line' events' total') r
prints_where a b f g p look look' line line' events events' total total' r k l e t h =
    let same : where_line p look line events total ≡ where_line p look' line' events' total' =
    λ i. where_line p (k i) (l i) (e i) (t i) in
    subst (λ text. Prints a b f g text r) same h

-- ---- frames

name_at : (cs : List FunctionCode) (fs : List Function) (i : ℕ) → map (λ f. f.name) cs ≡ map (λ f. f.name) fs
    → option_map (λ c. c.name) (slice_get cs i) ≡ option_map (λ f. f.name) (slice_get fs i)
name_at cs fs i same =
    sym (get_map (λ (c : FunctionCode). c.name) cs i) ∙ ap (λ (ns : List (List ℕ)). slice_get ns i) same
    ∙ get_map (λ (f : Function). f.name) fs i
  where
    get_map : {A B : Type 0} (f : A → B) (xs : List A) (i : ℕ) → slice_get (map f xs) i ≡ option_map f (slice_get xs i)
    get_map f [] i = refl
    get_map f (x ∷ xs) zero = refl
    get_map f (x ∷ xs) (suc i) = get_map f xs i

-- a function's name by the code
pub named : (p : Program) (code : Code) → IsCodeOf p code → (i : ℕ) (name : List ℕ)
    → option_map (λ c. c.name) (slice_get code.functions i) ≡ Some name
    → name ≡ function_name (slice_get p.functions i)
named p code is i name h =
    by (slice_get p.functions i) (sym (name_at code.functions p.functions i is.names.functions) ∙ h)
  where
    by : (o : Option Function) → option_map (λ f. f.name) o ≡ Some name → name ≡ function_name o
    by None e = cc
    by (Some f) e = cc

-- and without one
pub nameless : (p : Program) (code : Code) → IsCodeOf p code → (i : ℕ) → (i < length code.functions → ⊥)
    → [] ≡ function_name (slice_get p.functions i)
nameless p code is i past =
    by (slice_get p.functions i)
    (sym (name_at code.functions p.functions i is.names.functions) ∙ none code.functions i past)
  where
    none : (cs : List FunctionCode) (i : ℕ) → (i < length cs → ⊥) → option_map (λ c. c.name) (slice_get cs i) ≡ None
    none [] i past = refl
    none (c ∷ cs) zero past = absurd (past (omega arith))
    none (c ∷ cs) (suc i) past = none cs i (λ low. past (omega (arith, low)))

    by : (o : Option Function) → option_map (λ f. f.name) o ≡ None → [] ≡ function_name o
    by None e = refl
    by (Some f) e = cc

-- a frame's line is its text
pub prints_frame : (a b : Option (List ℕ)) (f g : ℕ) (p : Program) (i : ℕ) (x : FrameSeen) (name : List ℕ)
    (o : Option FrameSeen) (r : Result ⊤ Failed)
    → name ≡ function_name (slice_get p.functions x.function) → o ≡ Some x → Prints a b f g (frame_line i name x.line) r
    → Prints a b f g (text_if (frame_text p i) o) r
prints_frame a b f g p i x name o r same is h =
    subst (λ t. Prints a b f g t r)
    (ap (λ (n : List ℕ). frame_line i n x.line) same ∙ sym (ap (text_if (frame_text p i)) is)) h

-- ---- the texts of a list's elements, by their places

module _ {A : Type 0} (text_at : ℕ → A → List ℕ) where
  -- from number i on
  abbrev each_text : ℕ → List A → List ℕ
  each_text i [] = []
  each_text i (x ∷ xs) = text_at i x ++ each_text (i + 1) xs

  by_place : (at : ℕ → List ℕ) (i : ℕ) (xs : List A)
      → ((j : ℕ) → at (i + j) ≡ text_if (text_at (i + j)) (slice_get xs j))
      → flat_map at (range_with_len i (length xs)) ≡ each_text i xs
  by_place at i [] h = refl
  by_place at i (x ∷ xs) h =
      let here : i + 0 ≡ i = omega arith in
      let first : at i ≡ text_at i x = subst (λ k. at k ≡ text_at k x) here (h 0) in
      let next : (j : ℕ) → i + suc j ≡ (i + 1) + j = λ j. omega arith in
      let behind =
      by_place at (i + 1) xs
      (λ j. subst (λ k. at k ≡ text_if (text_at k) (slice_get xs j)) (next j) (h (suc j))) in
      λ k. first k ++ behind k

  each_place : (xs : List A)
      → flat_map (λ i. text_if (text_at i) (slice_get xs i)) (range_with_len 0 (length xs)) ≡ each_text 0 xs
  each_place xs =
      let same : (j : ℕ) → 0 + j ≡ j = λ j. omega arith in
      by_place (λ i. text_if (text_at i) (slice_get xs i)) 0 xs
      (λ j. ap (λ k. text_if (text_at (0 + j)) (slice_get xs k)) (same j))

frames_each : (p : Program) (i : ℕ) (fs : List FrameSeen) → each_text (frame_text p) i fs ≡ frame_lines p i fs
frames_each p i [] = refl
frames_each p i (f ∷ fs) = ap (λ (t : List ℕ). frame_text p i f ++ t) (frames_each p (i + 1) fs)

flat_each : {A : Type 0} (text_of : A → List ℕ) (i : ℕ) (xs : List A)
    → each_text (λ j. text_of) i xs ≡ flat_map text_of xs
flat_each text_of i [] = refl
flat_each text_of i (x ∷ xs) = ap (λ (t : List ℕ). text_of x ++ t) (flat_each text_of (i + 1) xs)

-- the frame of a place
abbrev pub frame_at : Program → List FrameSeen → ℕ → List ℕ
frame_at p fs i = text_if (frame_text p i) (slice_get fs i)

pub frames_by_place : (p : Program) (fs : List FrameSeen)
    → flat_map (frame_at p fs) (range_with_len 0 (length fs)) ≡ frame_lines p 0 fs
frames_by_place p fs = each_place (frame_text p) fs ∙ frames_each p 0 fs

-- the element of a place
abbrev pub element_at : {A : Type 0} → (A → List ℕ) → List A → ℕ → List ℕ
element_at text_of xs i = text_if text_of (slice_get xs i)

pub flat_by_place : {A : Type 0} (text_of : A → List ℕ) (xs : List A)
    → flat_map (element_at text_of xs) (range_with_len 0 (length xs)) ≡ flat_map text_of xs
flat_by_place text_of xs = each_place (λ j. text_of) xs ∙ flat_each text_of 0 xs

pub some_frames : (p : Program) (fs : List FrameSeen) → (length fs ≡ 0 → ⊥) → frame_lines p 0 fs ≡ frames_text p fs
some_frames p [] h = absurd (h refl)
some_frames p (f ∷ fs) h = refl

pub no_frames : (p : Program) (fs : List FrameSeen) → length fs ≡ 0 → notice_line notice.NoFrame ≡ frames_text p fs
no_frames p [] h = refl
no_frames p (f ∷ fs) h = absurd (omega (arith, h))

pub no_events : (events : List Event) → length events ≡ 0 → notice_line notice.NoEvent ≡ last_text events
no_events [] h = refl
no_events (e ∷ es) h = absurd (omega (arith, h))

pub some_events : (events : List Event) → (length events ≡ 0 → ⊥) → flat_map event_line events ≡ last_text events
some_events [] h = absurd (h refl)
some_events (e ∷ es) h = refl
