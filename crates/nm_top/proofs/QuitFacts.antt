-- Lines before the first `quit`.
use Rattle.std.proofs.Common.{◌≡◌, ℕ, Bool, true, false, List, [], ◌∷◌, ◌++◌, refl, sym, ap, ◌∙◌, subst, cond, append-nil, arith}
use Rattle.std.specs.Prelude.{Some, ◌||◌, ◌&&◌, not, nat_le, length}
use Rattle.std.specs.List.{list_any, take_while}
use Rattle.std.proofs.lemmas.Bool.{false≢true, leb-true}
use Rattle.std.proofs.lemmas.List.Folds.{list_any-append}
use Rattle.std.proofs.lemmas.List.Sums.{take_while-cons}
use Rattle.c_tree.specs.declared.program.Program.{Program}
use Rattle.event_list.specs.Traces.{Trace}
use Rattle.watchers.specs.Watched.{Watched}
use Rattle.debugger.specs.Lines.{Asked, Quit, asked_of}
use Rattle.debugger.specs.Sessions.{Session, Reply, Answers, says}
use Rattle.debugger.specs.Sessions as sessions
use Rattle.nm_top.specs.Debugging.{is_quit, asks_quit, before_quit, quits, ended_lines, lines_of, IsFront, LineReplies, too_long, answers}
use Rattle.nm_top.proofs.SplitFacts.{ended_front, front_append}

pub or_false : (a b : Bool) → (a || b) ≡ false → (a ≡ false) × (b ≡ false)
or_false true b e = absurd (false≢true (sym e))
or_false false b e = (refl, e)

or_left : (a b : Bool) → a ≡ true → (a || b) ≡ true
or_left true b e = refl
or_left false b e = absurd (false≢true e)

or_none : (a b : Bool) → a ≡ false → b ≡ false → (a || b) ≡ false
or_none true b e f = e
or_none false b e f = f

or_nothing : (a : Bool) → a ≡ false → (a || false) ≡ false
or_nothing true e = e
or_nothing false e = refl

module _ (q : List ℕ → Bool) where
  abbrev until : List (List ℕ) → List (List ℕ)
  until lines = take_while (λ line. not (q line)) lines

  abbrev step_of : Bool → List ℕ → List (List ℕ) → List (List ℕ)
  step_of t line lines = cond (not t) (line ∷ lines) []

  until_step : (line : List ℕ) (lines : List (List ℕ)) → until (line ∷ lines) ≡ step_of (q line) line (until lines)
  until_step line lines = take_while-cons (λ l. not (q l)) line lines

  goes_by : (line : List ℕ) (a b : List (List ℕ)) (t : Bool) → t ≡ false → a ≡ b → step_of t line a ≡ line ∷ b
  goes_by line a b true e is = absurd (false≢true (sym e))
  goes_by line a b false e is = ap (λ ls. line ∷ ls) is

  -- lines without `quit`, and lines behind them
  goes : (xs ys : List (List ℕ)) → list_any q xs ≡ false → until (xs ++ ys) ≡ xs ++ until ys
  goes [] ys e = refl
  goes (x ∷ xs) ys e =
      let k = or_false (q x) (list_any q xs) e in
      until_step x (xs ++ ys) ∙ goes_by x (until (xs ++ ys)) (xs ++ until ys) (q x) k.0 (goes xs ys k.1)

  stops_by : (x : List ℕ) (xs ys : List (List ℕ)) (t : Bool) → (t || list_any q xs) ≡ true → (list_any q xs ≡ true → until (xs ++ ys) ≡ until xs)
      → step_of t x (until (xs ++ ys)) ≡ step_of t x (until xs)
  stops_by x xs ys true e next = refl
  stops_by x xs ys false e next = ap (λ ls. x ∷ ls) (next e)

  -- lines with `quit`: what is behind them doesn't count
  stops : (xs ys : List (List ℕ)) → list_any q xs ≡ true → until (xs ++ ys) ≡ until xs
  stops [] ys e = absurd (false≢true e)
  stops (x ∷ xs) ys e = until_step x (xs ++ ys) ∙ stops_by x xs ys (q x) e (stops xs ys) ∙ sym (until_step x xs)

  all_gone : (xs : List (List ℕ)) → list_any q xs ≡ false → until xs ≡ xs
  all_gone xs e = ap until (sym (append-nil xs)) ∙ goes xs [] e ∙ append-nil xs

  one_by : (line : List ℕ) (t : Bool) → q line ≡ t → until (line ∷ []) ≡ cond t [] (line ∷ [])
  one_by line true e = until_step line [] ∙ ap (λ t. step_of t line []) e
  one_by line false e = until_step line [] ∙ ap (λ t. step_of t line []) e

module _ (n : ℕ) (done : List (List ℕ)) (line : List ℕ) (quiet : list_any (is_quit n) done ≡ false) where
  -- one line more, `quit` or not
  pub quit_left : is_quit n line ≡ true → before_quit n (done ++ line ∷ []) ≡ done
  quit_left e = goes (is_quit n) done (line ∷ []) quiet ∙ ap (λ ls. done ++ ls) (one_by (is_quit n) line true e) ∙ append-nil done

  pub line_kept : is_quit n line ≡ false → before_quit n (done ++ line ∷ []) ≡ done ++ line ∷ []
  line_kept e = goes (is_quit n) done (line ∷ []) quiet ∙ ap (λ ls. done ++ ls) (one_by (is_quit n) line false e)

  pub done_front : IsFront done (before_quit n (done ++ line ∷ []))
  done_front = (before_quit n (line ∷ []), goes (is_quit n) done (line ∷ []) quiet)

  pub still_quiet : is_quit n line ≡ false → list_any (is_quit n) (done ++ line ∷ []) ≡ false
  still_quiet e =
      list_any-append (is_quit n) done (line ∷ []) ∙ or_none (list_any (is_quit n) done) (is_quit n line || false) quiet (or_nothing (is_quit n line) e)

  pub quit_found : is_quit n line ≡ true → list_any (is_quit n) (done ++ line ∷ []) ≡ true
  quit_found e =
      list_any-append (is_quit n) done (line ∷ [])
      ∙ ap (λ t. t || (is_quit n line || false)) quiet ∙ or_left (is_quit n line) false e

pub none_before : (n : ℕ) (done : List (List ℕ)) → list_any (is_quit n) done ≡ false → before_quit n done ≡ done
none_before n done quiet = all_gone (is_quit n) done quiet

-- more bytes
pub quits_more : (n : ℕ) (xs ys : List ℕ) → quits n xs ≡ true → quits n (xs ++ ys) ≡ true
quits_more n xs ys e =
    let f = ended_front xs ys in
    ap (list_any (is_quit n)) f.1 ∙ list_any-append (is_quit n) (ended_lines xs) f.0 ∙ or_left (list_any (is_quit n) (ended_lines xs)) (list_any (is_quit n) f.0) e

pub before_more : (n : ℕ) (xs ys : List ℕ) → quits n xs ≡ true → before_quit n (ended_lines (xs ++ ys)) ≡ before_quit n (ended_lines xs)
before_more n xs ys e =
    let f = ended_front xs ys in
    ap (before_quit n) f.1 ∙ stops (is_quit n) (ended_lines xs) f.0 e

before_by : (n : ℕ) (a b : List (List ℕ)) (t : Bool) → list_any (is_quit n) a ≡ t → IsFront (before_quit n a) (before_quit n (a ++ b))
before_by n a b true e = ([], stops (is_quit n) a b e ∙ sym (append-nil (before_quit n a)))
before_by n a b false e = (before_quit n b, goes (is_quit n) a b e ∙ ap (λ ls. ls ++ before_quit n b) (sym (all_gone (is_quit n) a e)))

pub before_front : (n : ℕ) (a b : List (List ℕ)) → IsFront a b → IsFront (before_quit n a) (before_quit n b)
before_front n a b f =
    subst (λ ls. IsFront (before_quit n a) (before_quit n ls)) (sym f.1) (before_by n a f.0 (list_any (is_quit n) a) refl)

pub before_ended_front : (n : ℕ) (xs ys : List ℕ) → IsFront (before_quit n (ended_lines xs)) (before_quit n (ended_lines (xs ++ ys)))
before_ended_front n xs ys = before_front n (ended_lines xs) (ended_lines (xs ++ ys)) (ended_front xs ys)

-- the last line, too
pub before_last : (n : ℕ) (xs : List ℕ) → quits n xs ≡ true → before_quit n (lines_of xs) ≡ before_quit n (ended_lines xs)
before_last n xs e = stops (is_quit n) (ended_lines xs) _ e

pub before_all_front : (n : ℕ) (xs : List ℕ) → IsFront (before_quit n (ended_lines xs)) (before_quit n (lines_of xs))
before_all_front n xs = before_front n (ended_lines xs) (lines_of xs) (front_append (ended_lines xs) _)

-- ---- what `quit` replies

pub and_right : (a b : Bool) → (a && b) ≡ true → b ≡ true
and_right true b e = e
and_right false b e = absurd (false≢true e)

pub and_left : (a b : Bool) → (a && b) ≡ true → a ≡ true
and_left true b e = refl
and_left false b e = e

abbrev SaysNothing : Session → List Watched → List ℕ → Session → List Watched → Type 0
SaysNothing s watch text s' watch' = (text ≡ []) × (s' ≡ s) × (watch' ≡ watch)

reply_is : (a b : Reply) → Some a ≡ Some b → b ≡ a
reply_is a b e = cc

quit_says : {p : Program} {T : Trace} {s s' : Session} {watch watch' : List Watched} {text : List ℕ}
    → Answers p T Quit s watch text s' watch' → SaysNothing s watch text s' watch'
quit_says {s} (sessions.quietly {r} is) =
    let e : r ≡ says s [] = reply_is (says s []) r is in
    (ap (λ x. x.text) e, ap (λ x. x.session) e, refl)

pub asked_quit : (asked : Asked) → asks_quit asked ≡ true → asked ≡ Quit
asked_quit Quit e = refl
asked_quit asked e = absurd (false≢true e)

pub quit_replies : {p : Program} {T : Trace} {s s' : Session} {watch watch' : List Watched} {text : List ℕ} (line : List ℕ)
    → is_quit T.n line ≡ true → LineReplies p T line s watch text s' watch' → SaysNothing s watch text s' watch'
quit_replies {T} line e (too_long long) =
    let few = leb-true (length line) 255 (and_left (nat_le (length line) 255) (asks_quit (asked_of T.n line)) e) in
    absurd (omega (arith, long, few))
quit_replies {p} {T} {s} {s'} {watch} {watch'} {text} line e (answers few h) =
    let is = asked_quit (asked_of T.n line) (and_right (nat_le (length line) 255) (asks_quit (asked_of T.n line)) e) in
    quit_says (subst (λ a. Answers p T a s watch text s' watch') is h)
