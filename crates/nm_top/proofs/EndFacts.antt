-- One take more, and the end.
use Rattle.std.proofs.Common.{◌≡◌, ℕ, ◌+◌, ◌-◌, ◌^◌, ◌≤◌, min, true, false, List, [], ◌∷◌, ◌++◌, length, take, refl, sym, ap, ◌∙◌, subst, append-nil, arith, inl, inr, Option, Result, Ok, Err, length-append}
use Rattle.std.specs.Prelude.{◌==◌}
use Rattle.std.specs.Io.KnownBytes.{Consumes, Keeps, IsAtEnd}
use Rattle.std.proofs.KnownBytes.{Appends-nil, Consumes-nil, Consumes-kept}
use Rattle.std.proofs.Math.Seq.{take-append-add}
use Rattle.std.proofs.lemmas.List.{take_all, take_min, take-append-le, length-take-le}
use Rattle.std.proofs.lemmas.Bool.{eqb-true, false≢true}
use Rattle.c_tree.specs.declared.program.Program.{Program}
use Rattle.trace_file.specs.Content.{Content}
use Rattle.watchers.specs.Watched.{Watched}
use Rattle.debugger.specs.declared.fault.SessionFault.{SessionFault}
use Rattle.debugger.specs.declared.fault.SessionFault.TheVariants as fault
use Rattle.debugger.specs.declared.dispatch.Next.{Next}
use Rattle.debugger.specs.declared.dispatch.Next.TheVariants as nexts
use Rattle.debugger.specs.Sessions.{Session}
use Rattle.debugger.specs.Sittings.{Sitting, IsSessionOf}
use Rattle.nm_top.specs.declared.talk.TheConstants.{MAX_INPUT_BYTES}
use Rattle.nm_top.specs.declared.talk.End.{End}
use Rattle.nm_top.specs.declared.talk.End.TheVariants as ends
use Rattle.nm_top.specs.Debugging.{split, ended_lines, last_line, lines_of, before_quit, quits, silent, HasTaken}
use Rattle.nm_top.specs.private.LineFronts.{Front, front_of}
use Rattle.nm_top.specs.private.Talking.{Origin, Answered, Going, Stops, LineDone, Came, StopsIn, Finished, fault_end, origin}
use Rattle.nm_top.proofs.QuitFacts.{quit_left, line_kept, none_before}

-- the bytes of a take that are read
pub take_within : (most : ℕ) (read piece : List ℕ) (taken within : ℕ) → length read ≡ taken → taken ≤ most → within ≡ min (length piece) (most - taken)
    → take most (read ++ piece) ≡ read ++ take within piece
take_within most read piece taken within size few is =
    let room : most ≡ length read + (most - taken) = omega (arith, size, few) in
    let same : min (most - taken) (length piece) ≡ within = omega (arith, is) in
    ap (λ k. take k (read ++ piece)) room ∙ take-append-add read piece (most - taken)
    ∙ ap (λ xs. read ++ xs) (sym (take_min (most - taken) piece) ∙ ap (λ k. take k piece) same)

-- ---- a take in which the session ended

module _ {M : Type 0} (o : Origin) (bytes : List ℕ) (left : Option (List ℕ)) (kept : Front) (new : Sitting M)
    (after : List Watched) (given : Option (List ℕ)) where
  pub finished_quit : Came o (take MAX_INPUT_BYTES bytes) kept new after given (Ok nexts.Quit) → Finished o bytes left new after given ends.Over
  finished_quit h = inl (h.1, h.0)

  pub finished_fault : (e : SessionFault) → Came o (take MAX_INPUT_BYTES bytes) kept new after given (Err e) → Finished o bytes left new after given (fault_end e)
  finished_fault fault.Write h = inl h
  finished_fault fault.Memory h = inl h

-- ---- the end of the input

no_last : (line : List ℕ) → (length line == 0) ≡ true → last_line line ≡ []
no_last [] e = refl
no_last (b ∷ line) e = absurd (omega (arith, eqb-true (length (b ∷ line)) 0 e))

one_last : (line : List ℕ) → (length line == 0) ≡ false → last_line line ≡ line ∷ []
one_last [] e = absurd (false≢true (sym e))
one_last (b ∷ line) e = refl

module _ {M : Type 0} (o : Origin) (read : List ℕ) (left : Option (List ℕ)) (new : Sitting M)
    (after : List Watched) (given : Option (List ℕ)) (few : length read ≤ MAX_INPUT_BYTES) (at_end : IsAtEnd left)
    (quiet : quits o.content.n read ≡ false) where
  pub last_empty : (length (split read).begun == 0) ≡ true → Answered o (ended_lines read) new after given → Finished o read left new after given ends.Over
  last_empty e x =
      let is : lines_of read ≡ ended_lines read = ap (λ ls. ended_lines read ++ ls) (no_last (split read).begun e) ∙ append-nil (ended_lines read) in
      inr (subst (λ ls. Answered o ls new after given) (sym (ap (before_quit o.content.n) is ∙ none_before o.content.n (ended_lines read) quiet)) x, at_end, few)

  last_is : (length (split read).begun == 0) ≡ false → lines_of read ≡ ended_lines read ++ (split read).begun ∷ []
  last_is e = ap (λ ls. ended_lines read ++ ls) (one_last (split read).begun e)

  pub last_answered : (next : Next) → (length (split read).begun == 0) ≡ false
      → LineDone o (ended_lines read) (split read).begun new after given (Ok next) → Finished o read left new after given ends.Over
  last_answered nexts.More e h =
      inr (
        subst (λ ls. Answered o ls new after given)
            (sym (ap (before_quit o.content.n) (last_is e) ∙ line_kept o.content.n (ended_lines read) (split read).begun quiet h.1)) h.0,
        at_end,
        few,
      )
  last_answered nexts.Quit e h =
      inr (
        subst (λ ls. Answered o ls new after given)
            (sym (ap (before_quit o.content.n) (last_is e) ∙ quit_left o.content.n (ended_lines read) (split read).begun quiet h.1)) h.0,
        at_end,
        few,
      )

  last_stops : (e : SessionFault) → (length (split read).begun == 0) ≡ false
      → LineDone o (ended_lines read) (split read).begun new after given (Err e) → StopsIn o read left new after given e
  last_stops e some h =
      inr (subst (λ ls. Stops o (before_quit o.content.n ls) new after given e) (sym (last_is some)) h, at_end, few)

  pub last_fault : (e : SessionFault) → (length (split read).begun == 0) ≡ false
      → LineDone o (ended_lines read) (split read).begun new after given (Err e) → Finished o read left new after given (fault_end e)
  last_fault fault.Write some h = last_stops fault.Write some h
  last_fault fault.Memory some h = last_stops fault.Memory some h

-- ---- a take that failed

pub kept_nothing : (a b : Option (List ℕ)) → Keeps a b → Consumes a b []
kept_nothing a b h = Consumes-kept a a b [] (Consumes-nil a) h

module _ {M : Type 0} (o : Origin) (read piece : List ℕ) (taken within : ℕ) (size : length read ≡ taken) (few : taken ≤ MAX_INPUT_BYTES)
    (is_within : within ≡ min (length piece) (MAX_INPUT_BYTES - taken)) (left : Option (List ℕ)) (kept : Front) (new : Sitting M)
    (after : List Watched) (given : Option (List ℕ)) where
  came_within : (result : Result Next SessionFault) → Came o (read ++ take within piece) kept new after given result
      → Came o (take MAX_INPUT_BYTES (read ++ piece)) kept new after given result
  came_within result h =
      subst (λ xs. Came o xs kept new after given result) (sym (take_within MAX_INPUT_BYTES read piece taken within size few is_within)) h

  pub after_more : (next : Next) → next ≡ nexts.More → Came o (read ++ take within piece) kept new after given (Ok next)
      → Going o (take MAX_INPUT_BYTES (read ++ piece)) kept new after given
  after_more next is h = subst (λ n. Came o (take MAX_INPUT_BYTES (read ++ piece)) kept new after given (Ok n)) is (came_within (Ok next) h)

  pub after_quit : (next : Next) → next ≡ nexts.Quit → Came o (read ++ take within piece) kept new after given (Ok next)
      → Finished o (read ++ piece) left new after given ends.Over
  after_quit next is h =
      finished_quit o (read ++ piece) left kept new after given
      (subst (λ n. Came o (take MAX_INPUT_BYTES (read ++ piece)) kept new after given (Ok n)) is (came_within (Ok next) h))

  pub after_fault : (e : SessionFault) (end : End) → end ≡ fault_end e → Came o (read ++ take within piece) kept new after given (Err e)
      → Finished o (read ++ piece) left new after given end
  after_fault e end is h =
      subst (Finished o (read ++ piece) left new after given) (sym is)
      (finished_fault o (read ++ piece) left kept new after given e (came_within (Err e) h))

-- ---- a line is answered that no newline ended

module _ {M : Type 0} (o : Origin) (read : List ℕ) (left : Option (List ℕ)) (new : Sitting M) (after : List Watched)
    (given : Option (List ℕ)) (few : length read ≤ MAX_INPUT_BYTES) (at_end : IsAtEnd left) (quiet : quits o.content.n read ≡ false) where
  pub last_end : (e : SessionFault) (end : End) → end ≡ fault_end e → (length (split read).begun == 0) ≡ false
      → LineDone o (ended_lines read) (split read).begun new after given (Err e) → Finished o read left new after given end
  last_end e end is some h =
      subst (Finished o read left new after given) (sym is) (last_fault o read left new after given few at_end quiet e some h)

-- ---- the loop

-- nothing was taken yet
pub begins : {M : Type 0} (p : Program) (t : Content) (s : Session) (watch : List Watched) (given : Option (List ℕ)) (x : Sitting M)
    → x.trace ≡ t → IsSessionOf x p s → Going (origin p t s watch given) [] (front_of []) x watch given
begins p t s watch given x same stands = record {
  answered = record { text = []; next = s; talks = silent; stands = stands; trace = same; printed = Appends-nil given };
  quiet = refl;
  held = refl;
}

module _ {M : Type 0} (o : Origin) (bytes : List ℕ) (kept : Front) (new : Sitting M)
    (after : List Watched) (given : Option (List ℕ)) where
  -- all bytes so far are read
  pub going_all : length bytes ≤ MAX_INPUT_BYTES → Going o (take MAX_INPUT_BYTES bytes) kept new after given → Going o bytes kept new after given
  going_all few h = subst (λ xs. Going o xs kept new after given) (take_all MAX_INPUT_BYTES bytes few) h

  pub going_full : (left : Option (List ℕ)) → length bytes ≡ MAX_INPUT_BYTES + 1 → Going o (take MAX_INPUT_BYTES bytes) kept new after given
      → Finished o bytes left new after given ends.InputFull
  going_full left full h = (h.answered, h.quiet, full)

  pub going_failed : (left : Option (List ℕ)) → length bytes ≤ MAX_INPUT_BYTES → Going o bytes kept new after given
      → Finished o (bytes ++ []) left new after given ends.InputFault
  going_failed left few h =
      subst (λ xs. Finished o xs left new after given ends.InputFault) (sym (append-nil bytes)) (h.answered, h.quiet, few)

-- ---- how many bytes were taken

pub took_more : (a c x y z : ℕ) → HasTaken a x y → z ≡ min (y + c) (2 ^ 64 - 1) → HasTaken (a + c) x z
took_more a c x y z (inl e) is = inl (omega (arith, e, is))
took_more a c x y z (inr e) is = inl (omega (arith, e.0, e.1, is))

pub took_both : (a c x y z : ℕ) → HasTaken a x y → HasTaken c y z → HasTaken (a + c) x z
took_both a c x y z h (inl is) = took_more a c x y z h is
took_both a c x y z (inl e) (inr f) = inl (omega (arith, e, f.0, f.1))
took_both a c x y z (inr e) (inr f) = inr (omega (arith, e.0, f.0), f.1 ∙ e.1)

-- ---- a take

pub no_bytes : (a b : Option (List ℕ)) (buf : List ℕ) (n : ℕ) → n ≡ 0 → Consumes a b (take n buf) → Consumes a b []
no_bytes a b buf n none h = subst (λ k. Consumes a b (take k buf)) none h

pub some_bytes : (a b : Option (List ℕ)) (buf rest : List ℕ) (n : ℕ) → n ≤ length buf → Consumes a b (take n buf) → Consumes a b (take n (buf ++ rest))
some_bytes a b buf rest n within h = subst (Consumes a b) (sym (take-append-le n buf rest within)) h

pub no_more : {M : Type 0} (o : Origin) (read : List ℕ) (left : Option (List ℕ)) (new : Sitting M) (after : List Watched) (given : Option (List ℕ)) (end : End)
    → Finished o read left new after given end → Finished o (read ++ []) left new after given end
no_more o read left new after given end h = subst (λ xs. Finished o xs left new after given end) (sym (append-nil read)) h

pub count_is : (buf rest : List ℕ) (n before now : ℕ) → n ≤ length buf → now ≡ min (before + n) (2 ^ 64 - 1)
    → min (before + length (take n (buf ++ rest))) (2 ^ 64 - 1) ≡ now
count_is buf rest n before now within is =
    let size : length (take n (buf ++ rest)) ≡ n = length-take-le n (buf ++ rest) (omega (arith, within, length-append buf rest)) in
    omega (arith, size, is)
