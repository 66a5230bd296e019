-- One line more.
use Rattle.std.proofs.Common.{◌≡◌, ℕ, ◌+◌, Bool, true, false, List, [], ◌∷◌, ◌++◌, length, take, refl, sym, ap, ◌∙◌, subst, append-nil, arith, zero, suc, Option, Result, Ok, Err, length-append}
use Rattle.std.specs.Prelude.{◌==◌}
use Rattle.std.specs.List.{list_any}
use Rattle.std.specs.Io.KnownBytes.{Appends}
use Rattle.std.proofs.KnownBytes.{Appends-trans}
use Rattle.std.proofs.Math.Seq.{take-append-add}
use Rattle.std.proofs.lemmas.List.{take_all}
use Rattle.nm_outside.specs.Files.{AppendsPart}
use Rattle.c_tree.specs.declared.program.Program.{Program}
use Rattle.watchers.specs.Watched.{Watched}
use Rattle.replay_core.specs.Gates.{seen_trace}
use Rattle.debugger.specs.declared.fault.SessionFault.{SessionFault}
use Rattle.debugger.specs.declared.fault.SessionFault.TheVariants as fault
use Rattle.debugger.specs.declared.dispatch.Next.{Next}
use Rattle.debugger.specs.declared.dispatch.Next.TheVariants as nexts
use Rattle.debugger.specs.Sessions.{Session}
use Rattle.debugger.specs.Sittings.{Sitting, IsSessionOf, IsSameSitting}
use Rattle.nm_top.specs.Debugging.{split, without_return, ended_lines, before_quit, quits, is_quit, IsFront, Talks, talks_on}
use Rattle.nm_top.specs.private.LineFronts.{Front, front_of}
use Rattle.nm_top.specs.private.Talking.{Origin, Answered, Going, Stops, LineDone, Came, HasAnswered}
use Rattle.nm_top.proofs.SplitFacts.{newline_split, newline_ends, byte_split, byte_ends, front_refl, front_trans}
use Rattle.nm_top.proofs.QuitFacts.{quit_left, line_kept, done_front, still_quiet, quit_found, quits_more, before_more, before_ended_front, quit_replies}

-- ---- what is printed

pub appends_part : (a b c : Option (List ℕ)) (xs ys : List ℕ) → Appends a b xs → AppendsPart b c ys → AppendsPart a c (xs ++ ys)
appends_part a b c xs ys h k = (
  length xs + k.0,
  omega (arith, k.1, length-append xs ys),
  subst (Appends a c) (sym (take-append-add xs ys k.0)) (Appends-trans a b c xs (take k.0 ys) h k.2),
)

pub all_is_part : (a b : Option (List ℕ)) (xs : List ℕ) → Appends a b xs → AppendsPart a b xs
all_is_part a b xs h = (length xs, omega arith, subst (Appends a b) (sym (take_all (length xs) xs (omega arith))) h)

part_of_nothing : (a b : Option (List ℕ)) (xs : List ℕ) → xs ≡ [] → AppendsPart a b xs → Appends a b []
part_of_nothing a b xs e h = subst (Appends a b) (ap (take h.0) e ∙ take_none h.0) h.2
  where
    take_none : (k : ℕ) → take {A = ℕ} k [] ≡ []
    take_none zero = refl
    take_none (suc k) = refl

-- ---- tests

pub is_false : (t : Bool) → (t ≡ true → ⊥) → t ≡ false
is_false true other = absurd (other refl)
is_false false other = refl

pub more_not_quit : nexts.More ≡ nexts.Quit → ⊥
more_not_quit e = cc

-- ---- one line

module _ {M : Type 0} (o : Origin) (done : List (List ℕ)) (line : List ℕ) (old new : Sitting M) (before after : List Watched)
    (given given' : Option (List ℕ)) (x : Answered o done old before given) (quiet : list_any (is_quit o.content.n) done ≡ false)
    (same : IsSameSitting old new) where
  line_more : HasAnswered o.program o.content x.next before line new after given given' (Ok nexts.More)
      → LineDone o done line new after given' (Ok nexts.More)
  line_more h =
      let w = h.whole in (
        record {
          text = x.text ++ w.0;
          next = w.1;
          talks = talks_on x.talks w.3;
          stands = w.2;
          trace = same.trace ∙ x.trace;
          printed = Appends-trans o.given given given' x.text w.0 x.printed w.4;
        },
        is_false (is_quit o.content.n line) (λ yes. more_not_quit (h.ends.1 yes)),
      )

  line_quit : HasAnswered o.program o.content x.next before line new after given given' (Ok nexts.Quit)
      → LineDone o done line new after given' (Ok nexts.Quit)
  line_quit h =
      let w = h.whole in
      let yes = h.ends.0 refl in
      let nothing = quit_replies line yes w.3 in (
        record {
          text = x.text;
          next = x.next;
          talks = subst (λ ws. Talks o.program (seen_trace o.content) o.session o.watch done x.text x.next ws) (sym nothing.2) x.talks;
          stands = subst (IsSessionOf new o.program) nothing.1 w.2;
          trace = same.trace ∙ x.trace;
          printed = subst (Appends o.given given') (ap (λ t. x.text ++ t) nothing.0 ∙ append-nil x.text)
              (Appends-trans o.given given given' x.text w.0 x.printed w.4);
        },
        yes,
      )

  write_by : (t : Bool) → is_quit o.content.n line ≡ t → HasAnswered o.program o.content x.next before line new after given given' (Err fault.Write)
      → LineDone o done line new after given' (Err fault.Write)
  write_by true e h =
      let w = h.part refl in
      let nothing = quit_replies line e w.3 in (
        done,
        done_front o.content.n done line quiet,
        record {
          text = x.text;
          next = x.next;
          talks = subst (λ ws. Talks o.program (seen_trace o.content) o.session o.watch done x.text x.next ws) (sym nothing.2) x.talks;
          stands = subst (IsSessionOf new o.program) nothing.1 w.2;
          printed = all_is_part o.given given' x.text (subst (Appends o.given given') (append-nil x.text)
              (Appends-trans o.given given given' x.text [] x.printed (part_of_nothing given given' w.0 nothing.0 w.4)));
        },
      )
  write_by false e h =
      let w = h.part refl in (
        done ++ line ∷ [],
        subst (IsFront (done ++ line ∷ [])) (sym (line_kept o.content.n done line quiet e)) (front_refl (done ++ line ∷ [])),
        record {
          text = x.text ++ w.0;
          next = w.1;
          talks = talks_on x.talks w.3;
          stands = w.2;
          printed = appends_part o.given given given' x.text w.0 x.printed w.4;
        },
      )

  line_memory : HasAnswered o.program o.content x.next before line new after given given' (Err fault.Memory)
      → LineDone o done line new after given' (Err fault.Memory)
  line_memory h = (
    done,
    done_front o.content.n done line quiet,
    record {
      text = x.text;
      next = x.next;
      watch = before;
      talks = x.talks;
      printed = subst (λ b. Appends o.given b x.text) (sym (h.stopped refl)) x.printed;
    },
  )

  line_by : (result : Result Next SessionFault) → HasAnswered o.program o.content x.next before line new after given given' result
      → LineDone o done line new after given' result
  line_by (Ok nexts.More) h = line_more h
  line_by (Ok nexts.Quit) h = line_quit h
  line_by (Err fault.Write) h = write_by (is_quit o.content.n line) refl h
  line_by (Err fault.Memory) h = line_memory h

  pub line_done : (result : Result Next SessionFault)
      → ((p : Program) (s : Session) → IsSessionOf old p s → HasAnswered p old.trace s before line new after given given' result)
      → LineDone o done line new after given' result
  line_done result h =
      line_by result (subst (λ t. HasAnswered o.program t x.next before line new after given given' result) x.trace (h o.program x.next x.stands))

-- ---- a newline, and another byte

module _ {M : Type 0} (o : Origin) (read : List ℕ) (new : Sitting M) (after : List Watched) (given : Option (List ℕ))
    (quiet : quits o.content.n read ≡ false) where
  pub came_line : (result : Result Next SessionFault) → LineDone o (ended_lines read) (without_return (split read).begun) new after given result
      → Came o (read ++ 10 ∷ []) (front_of []) new after given result
  came_line (Ok nexts.More) h = record {
    answered = subst (λ ls. Answered o ls new after given) (sym (newline_ends read)) h.0;
    quiet = ap (list_any (is_quit o.content.n)) (newline_ends read)
        ∙ still_quiet o.content.n (ended_lines read) (without_return (split read).begun) quiet h.1;
    held = sym (ap (λ s. front_of s.begun) (newline_split read));
  }
  came_line (Ok nexts.Quit) h = (
    ap (list_any (is_quit o.content.n)) (newline_ends read)
        ∙ quit_found o.content.n (ended_lines read) (without_return (split read).begun) quiet h.1,
    subst (λ ls. Answered o ls new after given) (sym (ap (before_quit o.content.n) (newline_ends read)
        ∙ quit_left o.content.n (ended_lines read) (without_return (split read).begun) quiet h.1)) h.0,
  )
  came_line (Err e) h = subst (λ ls. Stops o (before_quit o.content.n ls) new after given e) (sym (newline_ends read)) h

pub came_byte : {M : Type 0} (o : Origin) (read : List ℕ) (kept kept' : Front) (new : Sitting M) (after : List Watched) (given : Option (List ℕ)) (b : ℕ)
    → (b == 10) ≡ false → ((line : List ℕ) → kept ≡ front_of line → kept' ≡ front_of (line ++ b ∷ []))
    → Going o read kept new after given → Going o (read ++ b ∷ []) kept' new after given
came_byte o read kept kept' new after given b other put x = record {
  answered = subst (λ ls. Answered o ls new after given) (sym (byte_ends read b other)) x.answered;
  quiet = ap (list_any (is_quit o.content.n)) (byte_ends read b other) ∙ x.quiet;
  held = put (split read).begun x.held ∙ sym (ap (λ s. front_of s.begun) (byte_split read b other));
}

-- ---- bytes that aren't read any more

module _ {M : Type 0} (o : Origin) (xs ys : List ℕ) (kept : Front) (new : Sitting M) (after : List Watched) (given : Option (List ℕ)) where
  pub quit_stays : Came o xs kept new after given (Ok nexts.Quit) → Came o (xs ++ ys) kept new after given (Ok nexts.Quit)
  quit_stays h = (
    quits_more o.content.n xs ys h.0,
    subst (λ ls. Answered o ls new after given) (sym (before_more o.content.n xs ys h.0)) h.1,
  )

  pub fault_stays : (e : SessionFault) → Came o xs kept new after given (Err e) → Came o (xs ++ ys) kept new after given (Err e)
  fault_stays fault.Write h =
      (h.0, front_trans h.0 (before_quit o.content.n (ended_lines xs)) (before_quit o.content.n (ended_lines (xs ++ ys))) h.1 (before_ended_front o.content.n xs ys), h.2)
  fault_stays fault.Memory h =
      (h.0, front_trans h.0 (before_quit o.content.n (ended_lines xs)) (before_quit o.content.n (ended_lines (xs ++ ys))) h.1 (before_ended_front o.content.n xs ys), h.2)
