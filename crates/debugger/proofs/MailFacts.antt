-- The lines of the letters that wait for a process.
use Rattle.std.proofs.Common.{◌≡◌, ℕ, List, [], ◌∷◌, ◌++◌, length, Option, Some, None, Result, Ok, Err, refl, sym, ap}
use Rattle.std.proofs.Common.{◌∙◌, subst, append_assoc, append-nil, slice_index, arith}
use Rattle.std.specs.Prelude.{Contains, ◌==◌, find, ⊤, map}
use Rattle.std.specs.Result.{IsErr}
use Rattle.std.specs.List.{flat_map}
use Rattle.std.proofs.lemmas.Option.{none-some}
use Rattle.nm_base.specs.declared.letter.Letter.{Letter}
use Rattle.nm_base.specs.Message.{Message, message_of}
use Rattle.nm_outside.specs.declared.cabinet.Failed.{Failed}
use Rattle.c_tree.specs.declared.program.Program.{Program}
use Rattle.event_list.specs.declared.Event.{Event}
use Rattle.event_list.specs.Clocks.{clocks}
use Rattle.event_list.specs.Traces.{waiting}
use Rattle.mailboxes.specs.Letters.{Rises}
use Rattle.world.specs.Worlds.{Parts}
use Rattle.c_process.specs.declared.process.CProc.{CProc}
use Rattle.report.specs.Printing.{Prints}
use Rattle.report.specs.Runs.{RunsProgram}
use Rattle.report.specs.Replies.{AgreeBelow, waiting_line, notice_line}
use Rattle.report.specs.declared.replies.Notice.TheVariants as notice
use Rattle.report.proofs.Pieces.{prints_more, failed_first, same_text}
use Rattle.report.proofs.Each.{flat_append}
use Rattle.debugger.specs.Looks.{messages_to, letter_line, mail_text}
use Rattle.debugger.specs.private.Looking.{letters_to, is_from}
use Rattle.debugger.proofs.Walks.{kept_in, rises_kept, found_nothing, all_from, to_map, text_to, none_to}

-- ---- one more behind those that were printed

module _ {A : Type 0} (a b c : Option (List ℕ)) (f g h : ℕ) (text_of : A → List ℕ) (xs : List A) (x : A)
    (before : Prints a b f g (flat_map text_of xs) (Ok tt)) where
  flat_one : flat_map text_of (xs ++ x ∷ []) ≡ flat_map text_of xs ++ text_of x
  flat_one = flat_append text_of xs (x ∷ []) ∙ ap (λ (t : List ℕ). flat_map text_of xs ++ t) (append-nil (text_of x))

  pub one_behind : (r : Result ⊤ Failed) → r ≡ Ok tt → Prints b c g h (text_of x) r
      → Prints a c f h (flat_map text_of (xs ++ x ∷ [])) (Ok tt)
  one_behind r is one =
      same_text a c f h _ _ (Ok tt) (sym flat_one)
      (prints_more a b c f g h (flat_map text_of xs) (text_of x) (Ok tt) before
      (subst (Prints b c g h (text_of x)) is one))

  pub failed_behind : (all more : List A) → all ≡ xs ++ (x ∷ more) → (r s : Result ⊤ Failed) (e : Failed) → r ≡ Err e
      → IsErr s → Prints b c g h (text_of x) r
      → Prints a c f h (flat_map text_of all) s
  failed_behind all more split r s e is fails one =
      let so_far = flat_map text_of xs ++ text_of x in
      let whole : so_far ++ flat_map text_of more ≡ flat_map text_of all =
      append_assoc (flat_map text_of xs) (text_of x) (flat_map text_of more) ∙ sym (flat_append text_of xs (x ∷ more))
      ∙ sym (ap (flat_map text_of) split) in
      same_text a c f h _ _ s whole
      (failed_first a c f h so_far (flat_map text_of more) r s e is fails
      (prints_more a b c f g h (flat_map text_of xs) (text_of x) r before one))

-- ---- the letters of a world

module _ {M : Type 0} (w : Parts CProc M) (q : ℕ) where
  abbrev pub mine : List Letter
  mine = letters_to q w.letters

  pub mine_rise : (letters : List Letter) → letters ≡ w.letters → Rises 0 letters → Rises 0 mine
  mine_rise letters same r = rises_kept (λ l. l.dest.no == q) 0 w.letters (subst (Rises 0) same r)

  module _ (program : Program) (E : List Event) (k : RunsProgram w program E) where
    abbrev pub line_of : Letter → List ℕ
    line_of l = letter_line (length w.processes) E (message_of l)

    -- the parts of its timestamp are those of its send
    pub stamps_agree : (l : Letter) → Contains mine l
        → AgreeBelow (length w.processes) (slice_index l.stamp.parts) ((clocks E).stamp l.id)
    stamps_agree l c = λ p low. (k.stands.posted l (kept_in (λ m. m.dest.no == q) w.letters l c)).stamp p

    -- a letter's line is its text
    pub prints_letter : (a b : Option (List ℕ)) (f g n : ℕ) (l : Letter) (r : Result ⊤ Failed) → n ≡ length w.processes
        → Contains mine l
        → ((parts : ℕ → ℕ) → AgreeBelow n (slice_index l.stamp.parts) parts
        → Prints a b f g (waiting_line n (message_of l) parts) r) → Prints a b f g (line_of l) r
    prints_letter a b f g n l r same c one =
        let stamp = (clocks E).stamp l.id in
        same_text a b f g _ _ r (ap (λ m. waiting_line m (message_of l) stamp) same)
        (one stamp (λ p low. stamps_agree l c p (omega (arith, low, same))))

    pub lines_are : flat_map line_of mine ≡ flat_map (letter_line (length w.processes) E) (messages_to q (waiting E))
    lines_are = text_to (letter_line (length w.processes) E) q w.letters (waiting E) k.stands.mail

    -- where no letter is found the reply says so
    pub no_mail : (letters : List Letter) → letters ≡ w.letters → Rises 0 letters
        → None ≡ find (is_from 0) (letters_to q letters)
        → notice_line notice.NoMail ≡ mail_text (length w.processes) E (messages_to q (waiting E))
    no_mail letters same r e =
        let none : mine ≡ [] =
        found_nothing mine 0 [] mine (all_from mine (mine_rise letters same r))
        (e ∙ ap (λ (ls : List Letter). find (is_from 0) (letters_to q ls)) same) in
        sym (ap (mail_text (length w.processes) E) (none_to q w.letters (waiting E) k.stands.mail none))

    -- and where one is, there are some
    pub some_mail : (letters : List Letter) → letters ≡ w.letters → (l : Letter)
        → Some l ≡ find (is_from 0) (letters_to q letters)
        → flat_map (letter_line (length w.processes) E) (messages_to q (waiting E))
        ≡ mail_text (length w.processes) E (messages_to q (waiting E))
    some_mail letters same l e =
        by mine (e ∙ ap (λ (ls : List Letter). find (is_from 0) (letters_to q ls)) same) to_waiting
      where
        to_waiting : map message_of mine ≡ messages_to q (waiting E)
        to_waiting = sym (to_map q w.letters) ∙ ap (messages_to q) k.stands.mail

        by : (ls : List Letter) → Some l ≡ find (is_from 0) ls → map message_of ls ≡ messages_to q (waiting E)
            → flat_map (letter_line (length w.processes) E) (messages_to q (waiting E))
            ≡ mail_text (length w.processes) E (messages_to q (waiting E))
        by [] e m = absurd (none-some l (sym e))
        by (x ∷ xs) e m =
            let line = letter_line (length w.processes) E in
            subst (λ (ms : List Message). flat_map line ms ≡ mail_text (length w.processes) E ms) m refl
