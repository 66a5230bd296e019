-- What comes of one line.
use Rattle.std.proofs.Common.{◌≡◌, ℕ, ◌≤◌, Bool, true, false, List, length, cond, refl, sym, ap, ◌∙◌, subst, arith, Option, Some, None, Result, Ok, Err}
use Rattle.std.specs.Prelude.{◌↔◌, ◌&&◌, nat_le, IfOk}
use Rattle.std.specs.Io.KnownBytes.{Appends}
use Rattle.std.proofs.lemmas.Bool.{le-leb, leb-false, leb-true}
use Rattle.nm_outside.specs.Files.{AppendsPart}
use Rattle.c_tree.specs.declared.program.Program.{Program}
use Rattle.trace_file.specs.Content.{Content}
use Rattle.watchers.specs.Watched.{Watched}
use Rattle.report.specs.declared.replies.Notice.TheVariants as notice
use Rattle.report.specs.Replies.{notice_line}
use Rattle.replay_core.specs.Gates.{seen_trace}
use Rattle.debugger.specs.declared.fault.SessionFault.{SessionFault}
use Rattle.debugger.specs.declared.fault.SessionFault.TheVariants as fault
use Rattle.debugger.specs.declared.dispatch.Next.{Next}
use Rattle.debugger.specs.declared.dispatch.Next.TheVariants as nexts
use Rattle.debugger.specs.Lines.{Quit, asked_of}
use Rattle.debugger.specs.Sessions.{Session, Answers}
use Rattle.debugger.specs.Sittings.{Sitting, IsSessionOf, HasReplied}
use Rattle.nm_top.specs.Debugging.{asks_quit, is_quit, LineReplies, too_long, answers}
use Rattle.nm_top.specs.private.LineFronts.{short}
use Rattle.nm_top.specs.private.Talking.{HasAnswered}
use Rattle.nm_top.proofs.QuitFacts.{and_left, and_right, asked_quit}
use Rattle.nm_top.proofs.TalkFacts.{more_not_quit}

-- ---- lines that are too long, and others

some_is : (a b : List ℕ) → Some a ≡ Some b → a ≡ b
some_is a b e = cc

none_some : (a : List ℕ) → None ≡ Some a → ⊥
none_some a e = cc

short_by : (text : List ℕ) (t : Bool) → nat_le (length text) 255 ≡ t → None ≡ short text → 256 ≤ length text
short_by text true e is = absurd (none_some text (is ∙ ap (λ t. cond t (Some text) None) e))
short_by text false e is = let k = leb-false (length text) 255 e in omega (arith, k)

pub is_long : (text : List ℕ) → None ≡ short text → 256 ≤ length text
is_long text is = short_by text (nat_le (length text) 255) refl is

shown_by : (text shown : List ℕ) (t : Bool) → nat_le (length text) 255 ≡ t → Some shown ≡ short text → (text ≡ shown) × (length text ≤ 255)
shown_by text shown true e is = (sym (some_is shown text (is ∙ ap (λ t. cond t (Some text) None) e)), leb-true (length text) 255 e)
shown_by text shown false e is = absurd (none_some shown (sym (is ∙ ap (λ t. cond t (Some text) None) e)))

pub is_shown : (text shown : List ℕ) → Some shown ≡ short text → (text ≡ shown) × (length text ≤ 255)
is_shown text shown is = shown_by text shown (nat_le (length text) 255) refl is

-- ---- `quit`

quit_is : (n : ℕ) (text : List ℕ) → length text ≤ 255 → asked_of n text ≡ Quit → is_quit n text ≡ true
quit_is n text few e =
    ap (λ t. t && asks_quit (asked_of n text)) (le-leb (length text) 255 few) ∙ ap asks_quit e

quit_asked : (n : ℕ) (text : List ℕ) → is_quit n text ≡ true → asked_of n text ≡ Quit
quit_asked n text e = asked_quit (asked_of n text) (and_right (nat_le (length text) 255) (asks_quit (asked_of n text)) e)

long_not_quit : (n : ℕ) (text : List ℕ) → 256 ≤ length text → is_quit n text ≡ true → ⊥
long_not_quit n text long e =
    let few = leb-true (length text) 255 (and_left (nat_le (length text) 255) (asks_quit (asked_of n text)) e) in
    omega (arith, long, few)

-- ---- what comes of a line

ok_not_err : (a : Next) (e : SessionFault) → Ok a ≡ Err e → ⊥
ok_not_err a e is = cc

memory_not_write : (r : Result Next SessionFault) → r ≡ Err fault.Memory → r ≡ Err fault.Write → ⊥
memory_not_write r e is = cc

write_not_memory : (r : Result Next SessionFault) → r ≡ Err fault.Write → r ≡ Err fault.Memory → ⊥
write_not_memory r e is = cc

module _ {M : Type 0} (p : Program) (t : Content) (s : Session) (watch : List Watched) (text : List ℕ) (new : Sitting M)
    (given given' : Option (List ℕ)) (long : 256 ≤ length text) (stands : IsSessionOf new p s) where
  -- the line is too long
  pub long_answered : Appends given given' (notice_line notice.TooLong) → HasAnswered p t s watch text new watch given given' (Ok nexts.More)
  long_answered printed = record {
    whole = (notice_line notice.TooLong, s, stands, too_long (omega (arith, long)), printed);
    part = λ is. absurd (ok_not_err nexts.More fault.Write is);
    stopped = λ is. absurd (ok_not_err nexts.More fault.Memory is);
    ends = (λ is. absurd (more_not_quit is), λ is. absurd (long_not_quit t.n text long is));
  }

  pub long_broken : (result : Result Next SessionFault) → result ≡ Err fault.Write → AppendsPart given given' (notice_line notice.TooLong)
      → HasAnswered p t s watch text new watch given given' result
  long_broken result is printed = subst (HasAnswered p t s watch text new watch given given') (sym is) (record {
    whole = tt;
    part = λ is. (notice_line notice.TooLong, s, stands, too_long (omega (arith, long)), printed);
    stopped = λ is. absurd (write_not_memory (Err fault.Write) refl is);
    ends = tt;
  })

module _ {M : Type 0} (p : Program) (t : Content) (s : Session) (before : List Watched) (text : List ℕ) (new : Sitting M)
    (after : List Watched) (given given' : Option (List ℕ)) (few : length text ≤ 255) (same : new.trace ≡ t) where
  replies : (reply : List ℕ) (next : Session) → Answers p (seen_trace new.trace) (asked_of t.n text) s before reply next after
      → LineReplies p (seen_trace t) text s before reply next after
  replies reply next h = answers few (subst (λ u. Answers p (seen_trace u) (asked_of t.n text) s before reply next after) same h)

  -- a session answered it
  pub short_answered : (result : Result Next SessionFault) → HasReplied (asked_of t.n text) p s before new after given given' result
      → IfOk result (λ next. (next ≡ nexts.Quit) ↔ (asked_of t.n text ≡ Quit))
      → HasAnswered p t s before text new after given given' result
  short_answered (Ok next) h ends = record {
    whole = let w = h.whole in (w.0, w.1.next, w.1.stands, replies w.0 w.1.next w.1.answers, w.2);
    part = λ is. absurd (ok_not_err next fault.Write is);
    stopped = λ is. absurd (ok_not_err next fault.Memory is);
    ends = (λ is. quit_is t.n text few (ends.0 is), λ is. ends.1 (quit_asked t.n text is));
  }
  short_answered (Err fault.Write) h ends = record {
    whole = tt;
    part = λ is. let w = h.part is in (w.0, w.1.next, w.1.stands, replies w.0 w.1.next w.1.answers, w.2);
    stopped = h.stopped;
    ends = tt;
  }
  short_answered (Err fault.Memory) h ends = record {
    whole = tt;
    part = λ is. absurd (memory_not_write (Err fault.Memory) refl is);
    stopped = h.stopped;
    ends = tt;
  }
