-- The table of blocks: it keeps its entries when blocks are added, and an entry begins with its block's locals.
use Rattle.std.proofs.Common.{◌≡◌, ℕ, zero, suc, ◌+◌, ◌-◌, ◌<◌, ◌≤◌, Bool, true, false, List, [], ◌∷◌, ◌++◌, length, get_or, Some, None, refl, sym, ap, ◌∙◌, subst, arith, length-append}
use Rattle.std.specs.Prelude.{slice_get, unwrap_or, nat_le, ◌&&◌, IsTrue}
use Rattle.std.proofs.lemmas.Bool.{leb-true}
use Rattle.stack_code.specs.declared.instr.Instr.{Instr}
use Rattle.stack_code.specs.declared.code.Block.{Block}
use Rattle.stack_code.specs.declared.code.Variable.{Variable}
use Rattle.stack_code.specs.Blocks.{entered_in, table_from, table_of, placed_in, blocks_nest}
use Rattle.stack_code.specs.Seek.{in_blocks}

abbrev pub Table : Type 0
Table = List (List (List ℕ))

pub get_left : {A : Type 0} (xs ys : List A) (i : ℕ) → i < length xs → slice_get (xs ++ ys) i ≡ slice_get xs i
get_left [] ys i h = absurd (omega (arith, h))
get_left (x ∷ xs) ys zero h = refl
get_left (x ∷ xs) ys (suc i) h = get_left xs ys i (omega (arith, h))

from_more : (t : Table) (bs : List Block) (b : Block) → table_from t (bs ++ b ∷ []) ≡ table_from t bs ++ (b.slots.items ∷ entered_in (table_from t bs) b.outer) ∷ []
from_more t [] b = refl
from_more t (x ∷ bs) b = from_more (t ++ (x.slots.items ∷ entered_in t x.outer) ∷ []) bs b

from_length : (t : Table) (bs : List Block) → length (table_from t bs) ≡ length t + length bs
from_length t [] = let e : length t ≡ length t + 0 = omega arith in e
from_length t (x ∷ bs) =
    let u = t ++ (x.slots.items ∷ entered_in t x.outer) ∷ [] in
    let r = from_length u bs in
    omega (arith, r, length-append t ((x.slots.items ∷ entered_in t x.outer) ∷ []))

pub table_more : (bs : List Block) (b : Block) → table_of (bs ++ b ∷ []) ≡ table_of bs ++ (b.slots.items ∷ entered_in (table_of bs) b.outer) ∷ []
table_more bs b = from_more ([] ∷ []) bs b

pub table_length : (bs : List Block) → length (table_of bs) ≡ length bs + 1
table_length bs = let e = from_length ([] ∷ []) bs in omega (arith, e)

pub entered_left : (t u : Table) (n : ℕ) → n < length t → entered_in (t ++ u) n ≡ entered_in t n
entered_left t u n h = ap (λ o. unwrap_or o []) (get_left t u n h)

pub at_end : (t : Table) (x : List (List ℕ)) (n : ℕ) → n ≡ length t → entered_in (t ++ x ∷ []) n ≡ x
at_end t x n h = ap (λ k. entered_in (t ++ x ∷ []) k) h ∙ at t
  where
    at : (u : Table) → entered_in (u ++ x ∷ []) (length u) ≡ x
    at [] = refl
    at (y ∷ u) = at u

-- ---- entries

from_keeps : (t : Table) (bs : List Block) (n : ℕ) → n < length t → entered_in (table_from t bs) n ≡ entered_in t n
from_keeps t [] n h = refl
from_keeps t (x ∷ bs) n h =
    let row = (x.slots.items ∷ entered_in t x.outer) in
    let longer : n < length (t ++ row ∷ []) = omega (arith, h, length-append t (row ∷ [])) in
    from_keeps (t ++ row ∷ []) bs n longer ∙ entered_left t (row ∷ []) n h

both : (a b : Bool) → (a && b) ≡ true → (a ≡ true) × (b ≡ true)
both true b h = (refl, h)
both false b h = cc

from_entry : (t : Table) (bs : List Block) (number k : ℕ) (b : Block) → length t ≡ number + 1 → blocks_nest number bs ≡ true → slice_get bs k ≡ Some b → (b.outer < number + 1 + k) × (entered_in (table_from t bs) (number + 1 + k) ≡ b.slots.items ∷ entered_in (table_from t bs) b.outer)
from_entry t [] number k b e nest h = cc
from_entry t (x ∷ bs) number zero b e nest h =
    let same : x ≡ b = cc in
    let row = (x.slots.items ∷ entered_in t x.outer) in
    let u = t ++ row ∷ [] in
    let low : x.outer ≤ number = leb-true x.outer number (both (nat_le x.outer number) (blocks_nest (number + 1) bs) nest).0 in
    let in_t : x.outer < length t = omega (arith, low, e) in
    let in_u : length t < length u = omega (arith, length-append t (row ∷ [])) in
    let in_u2 : x.outer < length u = omega (arith, in_t, in_u) in
    let place : number + 1 + 0 ≡ length t = omega (arith, e) in
    let first : entered_in (table_from u bs) (length t) ≡ row = from_keeps u bs (length t) in_u ∙ at_end t row (length t) refl in
    let rest : entered_in (table_from u bs) x.outer ≡ entered_in t x.outer = from_keeps u bs x.outer in_u2 ∙ entered_left t (row ∷ []) x.outer in_t in
    let below : x.outer < number + 1 + 0 = omega (arith, low) in
    subst (λ (z : Block). (z.outer < number + 1 + 0) × (entered_in (table_from u bs) (number + 1 + 0) ≡ z.slots.items ∷ entered_in (table_from u bs) z.outer)) same
    (below, ap (entered_in (table_from u bs)) place ∙ first ∙ ap (λ l. x.slots.items ∷ l) (sym rest))
from_entry t (x ∷ bs) number (suc k) b e nest h =
    let row = (x.slots.items ∷ entered_in t x.outer) in
    let u = t ++ row ∷ [] in
    let e2 : length u ≡ number + 1 + 1 = omega (arith, e, length-append t (row ∷ [])) in
    let r = from_entry u bs (number + 1) k b e2 (both (nat_le x.outer number) (blocks_nest (number + 1) bs) nest).1 h in
    let place : number + 1 + 1 + k ≡ number + 1 + suc k = omega arith in
    subst (λ n. (b.outer < n) × (entered_in (table_from u bs) n ≡ b.slots.items ∷ entered_in (table_from u bs) b.outer)) place r

-- a block's entry begins with its locals, and goes on as that of the block round it
pub table_entry : (bs : List Block) (k : ℕ) (b : Block) → blocks_nest 0 bs ≡ true → slice_get bs k ≡ Some b → (b.outer < k + 1) × (entered_in (table_of bs) (k + 1) ≡ b.slots.items ∷ entered_in (table_of bs) b.outer)
table_entry bs k b nest h =
    let r = from_entry ([] ∷ []) bs 0 k b refl nest h in
    let place : 0 + 1 + k ≡ k + 1 = omega arith in
    subst (λ n. (b.outer < n) × (entered_in (table_of bs) n ≡ b.slots.items ∷ entered_in (table_of bs) b.outer)) place r

-- ---- steps

-- steps that were written stay as they are
pub placed_left : (t u : Table) (is : List Instr) (ns : List ℕ) → ((k : ℕ) → k < length ns → get_or ns k 0 < length t) → placed_in (t ++ u) is ns ≡ placed_in t is ns
placed_left t u [] ns h = refl
placed_left t u (i ∷ is) [] h = refl
placed_left t u (i ∷ is) (n ∷ ns) h =
    let first : n < length t = h 0 (omega arith) in
    ap (λ e. record { instr = i; entered = e } ∷ placed_in (t ++ u) is ns) (entered_left t u n first)
    ∙ ap (λ l. record { instr = i; entered = entered_in t n } ∷ l) (placed_left t u is ns (λ k lt. h (suc k) (omega (arith, lt))))

-- more instructions in one block
pub placed_both : (t : Table) (is js : List Instr) (ns ms : List ℕ) → length ns ≡ length is → placed_in t (is ++ js) (ns ++ ms) ≡ placed_in t is ns ++ placed_in t js ms
placed_both t [] js [] ms e = refl
placed_both t [] js (n ∷ ns) ms e = absurd (omega (arith, e))
placed_both t (i ∷ is) js [] ms e = absurd (omega (arith, e))
placed_both t (i ∷ is) js (n ∷ ns) ms e = ap (λ l. record { instr = i; entered = entered_in t n } ∷ l) (placed_both t is js ns ms (omega (arith, e)))

-- the block of a step
pub placed_entered : (t : Table) (is : List Instr) (ns : List ℕ) (k n : ℕ) → length ns ≡ length is → slice_get ns k ≡ Some n → (i : Instr) × (slice_get (placed_in t is ns) k ≡ Some (record { instr = i; entered = entered_in t n }))
placed_entered t is [] k n e h = cc
placed_entered t [] (m ∷ ns) k n e h = absurd (omega (arith, e))
placed_entered t (i ∷ is) (m ∷ ns) zero n e h = let same : m ≡ n = cc in (i, ap (λ z. Some (record { instr = i; entered = entered_in t z })) same)
placed_entered t (i ∷ is) (m ∷ ns) (suc k) n e h = placed_entered t is ns k n (omega (arith, e)) h

pub placed_length : (t : Table) (is : List Instr) (ns : List ℕ) → length ns ≡ length is → length (placed_in t is ns) ≡ length is
placed_length t [] ns e = refl
placed_length t (i ∷ is) [] e = absurd (omega (arith, e))
placed_length t (i ∷ is) (n ∷ ns) e = ap suc (placed_length t is ns (omega (arith, e)))

-- the same of an indexed block, by its number
pub table_entry_at : (bs : List Block) (number : ℕ) (b : Block) → IsTrue (blocks_nest 0 bs) → 0 < number → number ≤ length bs → b ≡ get_or bs (number - 1) b → (b.outer < number) × (entered_in (table_of bs) number ≡ b.slots.items ∷ entered_in (table_of bs) b.outer)
table_entry_at bs number b nest pos le is =
    let lt : number - 1 < length bs = omega arith in
    let n : number - 1 + 1 ≡ number = omega arith in
    let r = table_entry bs (number - 1) b nest (got bs (number - 1) b lt is) in
    subst (λ k. (b.outer < k) × (entered_in (table_of bs) k ≡ b.slots.items ∷ entered_in (table_of bs) b.outer)) n r
  where
    got : (xs : List Block) (k : ℕ) (x : Block) → k < length xs → x ≡ get_or xs k x → slice_get xs k ≡ Some x
    got [] k x lt e = absurd (omega (arith, lt))
    got (y ∷ ys) zero x lt e = ap Some (sym e)
    got (y ∷ ys) (suc k) x lt e = got ys k x (omega (arith, lt)) e

pub none_outside : (name : List ℕ) (slots : List Variable) (bs : List Block) → in_blocks name slots (entered_in (table_of bs) 0) ≡ None
none_outside name slots bs =
    let t : Table = [] ∷ [] in
    let h : 0 < length t = omega arith in
    ap (in_blocks name slots) (from_keeps t bs 0 h)
