-- The turns of a text name processes that there are, and are few.
use Rattle.std.proofs.Common.{◌≡◌, ℕ, zero, suc, ◌+◌, ◌<◌, ◌≤◌, List, [], ◌∷◌, ◌++◌, length, Result, Ok, Err, refl, sym, ap, ◌∙◌, subst, arith, length-append}
use Rattle.std.specs.Prelude.{drop, replicate}
use Rattle.std.proofs.lemmas.List.{append-nil, drop_all}
use Rattle.schedules.specs.declared.schedule.Turn.{Turn}
use Rattle.schedules.specs.declared.reader.Entry.{Entry}
use Rattle.schedules.specs.declared.reader.ScheduleFault.{ScheduleFault}
use Rattle.schedules.specs.Texts.{Word, words, spelled, admitted, followed, entries, turn_of, turns_in, after_turns, text_turns, text_entries}
use Rattle.schedules.proofs.TextFacts.{entry_fits}
use Rattle.schedules.specs.Bounds.{NameBelow, AreFewTurns}

-- turns that name processes below n
none_below : (n : ℕ) → NameBelow n []
none_below n i t at = absurd cc

replicate_below : (n k : ℕ) (t : Turn) → t.proc.no < n → NameBelow n (replicate k t)
replicate_below n zero t l i u at = absurd cc
replicate_below n (suc k) t l zero u at = let same : t ≡ u = cc in subst (λ (v : Turn). v.proc.no < n) same l
replicate_below n (suc k) t l (suc i) u at = replicate_below n k t l i u at

append_below : (n : ℕ) (ts us : List Turn) → NameBelow n ts → NameBelow n us → NameBelow n (ts ++ us)
append_below n [] us h k i u at = k i u at
append_below n (t ∷ ts) us h k zero u at = h zero u at
append_below n (t ∷ ts) us h k (suc i) u at = append_below n ts us (λ j v q. h (suc j) v q) k i u at

length_replicate : (k : ℕ) (t : Turn) → length (replicate k t) ≡ k
length_replicate zero t = refl
length_replicate (suc k) t = ap suc (length_replicate k t)

-- ---- entries

-- the turns of entries that were admitted after so many turns
pub record AreFew (n made : ℕ) (ts : List Turn) : Type 0 where
  pub below : NameBelow n ts
  pub few : made + length ts ≤ 1000000

entries_few : (n made : ℕ) (ws : List Word) (es : List Entry) → made ≤ 1000000 → entries n made ws ≡ Ok es → AreFew n made (turns_in es)
entries_few n made [] es m e = let none : [] ≡ es = cc in subst (λ xs. AreFew n made (turns_in xs)) none (record { below = none_below n; few = omega (arith, m) })
entries_few n made (w ∷ ws) es m e = by (admitted n made w) refl e (λ more. entries_few n more ws)
  where
    rest : (x : Entry) (r : Result (List Entry) ScheduleFault) → entries n (made + x.times) ws ≡ r → Ok x ≡ admitted n made w → followed x r ≡ Ok es
        → ((more : ℕ) (ys : List Entry) → more ≤ 1000000 → entries n more ws ≡ Ok ys → AreFew n more (turns_in ys)) → AreFew n made (turns_in es)
    rest x (Err fault) is a e ih = absurd cc
    rest x (Ok ys) is a e ih =
        let fits = entry_fits n made w.place (spelled w.bytes) x a in
        let tail = ih (made + x.times) ys fits.1 is in
        let all : x ∷ ys ≡ es = cc in
        subst (λ xs. AreFew n made (turns_in xs)) all (record {
          below = append_below n (replicate x.times (turn_of x)) (turns_in ys) (replicate_below n x.times (turn_of x) fits.0) tail.below;
          few = omega (arith, tail.few, length-append (replicate x.times (turn_of x)) (turns_in ys), length_replicate x.times (turn_of x));
        })

    by : (r : Result Entry ScheduleFault) → admitted n made w ≡ r
        → (elim r as (λ r. Result (List Entry) ScheduleFault) [ Ok x ↦ followed x (entries n (made + x.times) ws) | Err fault ↦ Err fault ]) ≡ Ok es
        → ((more : ℕ) (ys : List Entry) → more ≤ 1000000 → entries n more ws ≡ Ok ys → AreFew n more (turns_in ys)) → AreFew n made (turns_in es)
    by (Err fault) a e ih = absurd cc
    by (Ok x) a e ih = rest x (entries n (made + x.times) ws) refl (sym a) e ih

-- the turns of a text name processes below n, and are at most 1,000,000
pub text_few : (n : ℕ) (text : List ℕ) (ts : List Turn) → text_turns n text ≡ Ok ts → AreFewTurns n ts
text_few n text ts e = let few = by (text_entries n text) refl e in record { below = few.below; few = omega (arith, few.few) }
  where
    by : (r : Result (List Entry) ScheduleFault) → text_entries n text ≡ r → after_turns [] r ≡ Ok ts → AreFew n 0 ts
    by (Err fault) k e = absurd cc
    by (Ok es) k e = let same : turns_in es ≡ ts = cc in subst (AreFew n 0) same (entries_few n 0 (words 0 text) es (omega arith) k)

-- at the end of a text, what was read is what it says
pub few_read : (n : ℕ) (ts : List Turn) (i : ℕ) (text : List ℕ) → after_turns ts (entries n (length ts) (words i (drop i text))) ≡ text_turns n text → length text ≤ i → AreFewTurns n ts
few_read n ts i text same ends =
    let none : drop i text ≡ [] = drop_all i text ends in
    let all : text_turns n text ≡ Ok (ts ++ []) = sym same ∙ ap (λ (b : List ℕ). after_turns ts (entries n (length ts) (words i b))) none in
    subst (AreFewTurns n) (append-nil ts) (text_few n text (ts ++ []) all)
