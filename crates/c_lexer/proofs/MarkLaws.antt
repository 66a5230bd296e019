-- The mark that is read is the longest that stands there.
use Rattle.std.proofs.Common.{◌≡◌, ℕ, ◌≤◌, Bool, true, false, ◌&&◌, List, [], ◌∷◌, length, take, Option, Some, None, refl, sym, ap, subst, ◌∙◌, arith, nat_eq, cond}
use Rattle.std.specs.Prelude.{option_map, find, nat_le, Contains}
use Rattle.std.specs.List.{starts_with, list_all, AllByRecursion}
use Rattle.std.proofs.lemmas.Bool.{leb-true, and_parts}
use Rattle.std.proofs.lemmas.List.{length-take, length-take-le}
use Rattle.std.proofs.lemmas.List.Elements.{All-from_recursion, All-contains, Contains-append_right}
use Rattle.std.proofs.lemmas.Slice.Eq.{bytes_eq-Decides}
use denote.Enum.Bare.{sameb, same_true}
use Rattle.c_lexer.specs.declared.token.Mark.{Mark}
use Rattle.c_lexer.specs.contracts.token.Mark.{the_type}
use Rattle.c_lexer.specs.Tables.{marks}
use Rattle.c_lexer.specs.Lexemes.{mark_in}
use Rattle.c_lexer.proofs.Parts.{some_parts}
use Rattle.c_lexer.specs.Laws.{BeginsWith, IsLongestMark, MarkLaw, NoMarkLaw}

abbrev Entry : Type 0
Entry = List ℕ × Mark

abbrev sized : Option Entry → Option (Mark × ℕ)
sized = option_map (λ (k : Entry). (k.1, length k.0))

-- no later entry is longer
falling : List Entry → Bool
falling [] = true
falling (e ∷ es) = list_all (λ (f : Entry). nat_le (length f.0) (length e.0)) es && falling es

marks_fall : falling marks ≡ true
unfolding falling marks
marks_fall = refl

begins : (text word : List ℕ) → starts_with nat_eq text word ≡ true → BeginsWith text word
begins text word e = sym ((bytes_eq-Decides word (take (length word) text)).0 e)

apart : (text word : List ℕ) → starts_with nat_eq text word ≡ false → BeginsWith text word → ⊥
apart text word e at = let t = (bytes_eq-Decides word (take (length word) text)).1 (sym at) in cc

shorter : (text : List ℕ) (n : ℕ) (es : List Entry) → list_all (λ (f : Entry). nat_le (length f.0) n) es ≡ true → AllByRecursion (λ (e : Entry). BeginsWith text e.0 → length e.0 ≤ n) es
shorter text n [] e = tt
shorter text n (f ∷ fs) e =
    let h = and_parts (nat_le (length f.0) n) (list_all (λ (g : Entry). nat_le (length g.0) n) fs) e in
    ((λ at. leb-true (length f.0) n h.0), shorter text n fs h.1)

record Found (text : List ℕ) (table : List Entry) (m : Mark) (n : ℕ) : Type 0 where
  within : n ≤ length text
  listed : Contains table (take n text, m)
  longest : AllByRecursion (λ (e : Entry). BeginsWith text e.0 → length e.0 ≤ n) table

chosen : (text : List ℕ) (e : Entry) (es : List Entry) (m : Mark) (n : ℕ) (here : Bool) → starts_with nat_eq text e.0 ≡ here → list_all (λ (f : Entry). nat_le (length f.0) (length e.0)) es ≡ true
    → (mark_in es text ≡ Some (m, n) → Found text es m n)
    → sized (cond here (Some e) (find (λ k. starts_with nat_eq text k.0) es)) ≡ Some (m, n) → Found text (e ∷ es) m n
chosen text e es m n true h low ih f =
    let read = some_parts (e.1, length e.0) (m, n) f in
    let mark = read.0 in
    let width = read.1 in
    let at : take n text ≡ e.0 = subst (λ (k : ℕ). take k text ≡ e.0) width (begins text e.0 h) in
    let entry : e ≡ (take n text, m) = ap (λ (w : List ℕ). (w, e.1)) (sym at) ∙ ap (λ (k : Mark). (take n text, k)) mark in
    record {
      within = omega (arith, length-take n text, ap length at, width);
      listed = (0, omega arith, entry);
      longest = ((λ here. omega (arith, width)), subst (λ (k : ℕ). AllByRecursion (λ (g : Entry). BeginsWith text g.0 → length g.0 ≤ k) es) width (shorter text (length e.0) es low));
    }
chosen text e es m n false h low ih f =
    let found = ih f in
    record {
      within = found.within;
      listed = Contains-append_right (e ∷ []) es (take n text, m) found.listed;
      longest = ((λ at. absurd (apart text e.0 h at)), found.longest);
    }

found_in : (text : List ℕ) (table : List Entry) (m : Mark) (n : ℕ) → falling table ≡ true → mark_in table text ≡ Some (m, n) → Found text table m n
unfolding falling
found_in text [] m n low f = absurd cc
found_in text (e ∷ es) m n low f =
    let h = and_parts (list_all (λ (g : Entry). nat_le (length g.0) (length e.0)) es) (falling es) low in
    chosen text e es m n (starts_with nat_eq text e.0) refl h.0 (λ g. found_in text es m n h.1 g) f

neither : (e : Entry) (here : Bool) (o : Option Entry) → sized (cond here (Some e) o) ≡ None → (here ≡ false) × (o ≡ None)
neither e true o f = absurd cc
neither e false None f = (refl, refl)
neither e false (Some k) f = absurd cc

none_in : (text : List ℕ) (table : List Entry) → mark_in table text ≡ None → AllByRecursion (λ (e : Entry). BeginsWith text e.0 → ⊥) table
none_in text [] f = tt
none_in text (e ∷ es) f =
    let h = neither e (starts_with nat_eq text e.0) (find (λ k. starts_with nat_eq text k.0) es) f in
    ((λ at. apart text e.0 h.0 at), none_in text es (ap sized h.1))

mark_is : (text : List ℕ) (m : Mark) (n : ℕ) → mark_in marks text ≡ Some (m, n) → IsLongestMark text m n
mark_is text m n f =
    let h = found_in text marks m n marks_fall f in
    record { within = h.within; listed = h.listed; longest = All-from_recursion (λ (e : Entry). BeginsWith text e.0 → length e.0 ≤ n) marks h.longest }

pub no_mark_law : NoMarkLaw
no_mark_law text f = All-from_recursion (λ (e : Entry). BeginsWith text e.0 → ⊥) marks (none_in text marks f)

-- ---- each entry of the table is the one that its own bytes are read as

owns : Option (Mark × ℕ) → Mark → Bool
owns None m = false
owns (Some p) m = sameb the_type p.0 m

all_own : list_all (λ (e : Entry). owns (mark_in marks e.0) e.1) marks ≡ true
unfolding owns marks
all_own = refl

own_all : (es : List Entry) → list_all (λ (e : Entry). owns (mark_in marks e.0) e.1) es ≡ true → AllByRecursion (λ (e : Entry). owns (mark_in marks e.0) e.1 ≡ true) es
own_all [] e = tt
own_all (f ∷ fs) e = let h = and_parts (owns (mark_in marks f.0) f.1) _ e in (h.0, own_all fs h.1)

same_owner : (o : Option (Mark × ℕ)) (m n : Mark) → owns o m ≡ true → owns o n ≡ true → m ≡ n
unfolding owns
same_owner None m n e f = absurd cc
same_owner (Some p) m n e f = sym (same_true the_type tt p.0 m e) ∙ same_true the_type tt p.0 n f

one_mark : (word : List ℕ) (m n : Mark) → Contains marks (word, m) → Contains marks (word, n) → m ≡ n
one_mark word m n a b =
    let P : Entry → Type 0 = λ e. owns (mark_in marks e.0) e.1 ≡ true in
    let all = All-from_recursion P marks (own_all marks all_own) in
    same_owner (mark_in marks word) m n (All-contains P marks (word, m) all a) (All-contains P marks (word, n) all b)

-- the front of a text begins it
begins_itself : (text : List ℕ) (n : ℕ) → n ≤ length text → (length (take n text) ≡ n) × BeginsWith text (take n text)
begins_itself text n le =
    let l : length (take n text) ≡ n = length-take-le n text le in
    (l, rw l refl)

longest_is : (text : List ℕ) (m : Mark) (n : ℕ) (o : Option (Mark × ℕ)) → mark_in marks text ≡ o → IsLongestMark text m n → o ≡ Some (m, n)
longest_is text m n None e h =
    let absent = All-contains (λ (e : Entry). BeginsWith text e.0 → ⊥) marks (take n text, m) (no_mark_law text e) h.listed in
    absurd (absent (begins_itself text n h.within).1)
longest_is text m n (Some p) e h =
    let g = mark_is text p.0 p.1 e in
    let a = begins_itself text n h.within in
    let b = begins_itself text p.1 g.within in
    let below = All-contains (λ (e : Entry). BeginsWith text e.0 → length e.0 ≤ p.1) marks (take n text, m) g.longest h.listed a.1 in
    let above = All-contains (λ (e : Entry). BeginsWith text e.0 → length e.0 ≤ n) marks (take p.1 text, p.0) h.longest g.listed b.1 in
    let width : p.1 ≡ n = omega (arith, below, above, a.0, b.0) in
    let listed : Contains marks (take n text, p.0) = subst (λ (k : ℕ). Contains marks (take k text, p.0)) width g.listed in
    let mark = one_mark (take n text) p.0 m listed h.listed in
    ap (λ (k : ℕ). Some (p.0, k)) width ∙ ap (λ (k : Mark). Some (k, n)) mark

pub mark_law : MarkLaw
mark_law text m n = (mark_is text m n, longest_is text m n (mark_in marks text) refl)
