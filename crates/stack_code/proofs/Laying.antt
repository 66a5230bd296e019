-- How the functions' code is laid out, one function after the other.
use Rattle.std.proofs.Common.{◌≡◌, ℕ, ◌+◌, ◌≤◌, Bool, true, false, List, [], ◌∷◌, ◌++◌, length, map, take, drop, refl, sym, ap, ◌∙◌, subst, arith, length-append}
use Rattle.std.proofs.lemmas.List.{map-append, length-drop, take-append-le, drop-append-le, take_all}
use Rattle.std.specs.Prelude.{IsTrue, ◌&&◌, ◌==◌, nat_le, string_bytes}
use Rattle.std.specs.List.{list_all}
use Rattle.std.proofs.lemmas.Bool.{eqb-true, eq-eqb, le-leb}
use Rattle.stack_code.specs.declared.instr.Instr.{Instr}
use Rattle.stack_code.specs.declared.code.CodeFunction.{CodeFunction}
use Rattle.stack_code.specs.declared.layout.LaidFunction.{LaidFunction}
use Rattle.stack_code.specs.Code.{Placed, FunctionCode}
use Rattle.stack_code.specs.Blocks.{table_of, placed_in, blocks_nest, function_of, is_kept}
use Rattle.stack_code.specs.Layout.{slice_of, laid_function_of, follow_from, is_part, is_laid_out}
use Rattle.stack_code.proofs.Laid.{both, ends_within, all_known, nest_is, numbered_is, follow_is, split}

and_true : (a b : Bool) → a ≡ true → b ≡ true → (a && b) ≡ true
and_true true b h k = k
and_true false b h k = cc

pub nothing_left : {A : Type 0} (xs : List A) → length xs ≡ 0 → xs ≡ []
nothing_left [] h = refl
nothing_left (x ∷ xs) h = absurd (omega (arith, h))

slice_left : {A : Type 0} (start len : ℕ) (xs ys : List A) → start + len ≤ length xs → slice_of start len (xs ++ ys) ≡ slice_of start len xs
slice_left start len xs ys h = ap (take len) (drop-append-le start xs ys (omega (arith, h))) ∙ take-append-le len (drop start xs) ys (omega (arith, h, length-drop start xs))

drop_front : {A : Type 0} (xs ys : List A) → drop (length xs) (xs ++ ys) ≡ ys
drop_front [] ys = refl
drop_front (x ∷ xs) ys = drop_front xs ys

slice_right : {A : Type 0} (start len : ℕ) (xs ys : List A) → start ≡ length xs → len ≡ length ys → slice_of start len (xs ++ ys) ≡ ys
slice_right start len xs ys e n = ap (λ k. slice_of k len (xs ++ ys)) e ∙ ap (take len) (drop_front xs ys) ∙ take_all len ys (omega (arith, n))

-- a laid function with these steps
abbrev with_steps : LaidFunction → List Placed → FunctionCode
with_steps f steps = record {
  name = string_bytes f.name;
  steps = steps;
  line = f.line;
  param_words = f.param_words;
  frame_words = f.frame_words;
  param_count = f.param_count;
  slots = f.slots.items;
}

-- a function laid out from a place on
abbrev pub laid_at : ℕ → ℕ → CodeFunction → LaidFunction
laid_at start len f = record {
  name = f.name;
  line = f.line;
  param_words = f.param_words;
  frame_words = f.frame_words;
  start = start;
  len = len;
  blocks = f.blocks;
  param_count = f.param_count;
  slots = f.slots;
}

follow_more : (fs : List LaidFunction) (place e : ℕ) (g : LaidFunction) → follow_from place fs e ≡ true → g.start ≡ e → follow_from place (fs ++ g ∷ []) (e + g.len) ≡ true
follow_more [] place e g h s =
    let p = eqb-true place e h in
    and_true (g.start == place) (place + g.len == e + g.len) (eq-eqb g.start place (omega (arith, p, s))) (eq-eqb (place + g.len) (e + g.len) (omega (arith, p)))
follow_more (f ∷ fs) place e g h s =
    let b = both (f.start == place) (follow_from (place + f.len) fs e) h in
    and_true (f.start == place) (follow_from (place + f.len) (fs ++ g ∷ []) (e + g.len)) b.0 (follow_more fs (place + f.len) e g b.1 s)

all_more : {A : Type 0} (test : A → Bool) (xs : List A) (y : A) → list_all test xs ≡ true → test y ≡ true → list_all test (xs ++ y ∷ []) ≡ true
all_more test [] y h k = and_true (test y) true k refl
all_more test (x ∷ xs) y h k = let b = both (test x) (list_all test xs) h in and_true (test x) (list_all test (xs ++ y ∷ [])) b.0 (all_more test xs y b.1 k)

module _ (is js : List Instr) (ns ms : List ℕ) (numbered : length ns ≡ length is) where
  part_stays : (f : LaidFunction) → is_part ns f ≡ true → is_part (ns ++ ms) f ≡ true
  part_stays f h =
      let e = ends_within is ns numbered f h in
      let within = nat_le (f.start + f.len) (length (ns ++ ms)) in
      let known = list_all (λ n. nat_le n (length f.blocks.items)) (slice_of f.start f.len (ns ++ ms)) in
      let k : known ≡ true = ap (list_all (λ n. nat_le n (length f.blocks.items))) (slice_left f.start f.len ns ms e) ∙ all_known is ns numbered f h in
      and_true (within && known) (blocks_nest 0 f.blocks.items) (and_true within known (le-leb (f.start + f.len) (length (ns ++ ms)) (omega (arith, e, length-append ns ms))) k) (nest_is is ns numbered f h)

  parts_stay : (fs : List LaidFunction) → list_all (is_part ns) fs ≡ true → list_all (is_part (ns ++ ms)) fs ≡ true
  parts_stay [] h = refl
  parts_stay (f ∷ fs) h = let b = both (is_part ns f) (list_all (is_part ns) fs) h in and_true (is_part (ns ++ ms) f) (list_all (is_part (ns ++ ms)) fs) (part_stays f b.0) (parts_stay fs b.1)

  stays : (f : LaidFunction) → is_part ns f ≡ true → laid_function_of (is ++ js) (ns ++ ms) f ≡ laid_function_of is ns f
  stays f h =
      let e = ends_within is ns numbered f h in
      ap (λ a. with_steps f (placed_in (table_of f.blocks.items) a (slice_of f.start f.len (ns ++ ms)))) (slice_left f.start f.len is js (omega (arith, e, numbered)))
      ∙ ap (λ b. with_steps f (placed_in (table_of f.blocks.items) (slice_of f.start f.len is) b)) (slice_left f.start f.len ns ms e)

  all_stay : (fs : List LaidFunction) → list_all (is_part ns) fs ≡ true → map (laid_function_of (is ++ js) (ns ++ ms)) fs ≡ map (laid_function_of is ns) fs
  all_stay [] h = refl
  all_stay (f ∷ fs) h =
      let b = both (is_part ns f) (list_all (is_part ns) fs) h in
      ap (λ x. x ∷ map (laid_function_of (is ++ js) (ns ++ ms)) fs) (stays f b.0) ∙ ap (λ l. laid_function_of is ns f ∷ l) (all_stay fs b.1)

-- one more function
module _ (fs : List LaidFunction) (is : List Instr) (ns : List ℕ) (laid : IsTrue (is_laid_out fs is ns)) (f : CodeFunction) (kept : IsTrue (is_kept f)) (start len : ℕ) (starts : start ≡ length is) (lens : len ≡ length f.instrs.items) where
  abbrev g : LaidFunction
  g = laid_at start len f

  abbrev js : List Instr
  js = f.instrs.items

  abbrev ms : List ℕ
  ms = f.inside.items

  abbrev even : Bool
  even = length ms == length js

  abbrev known : Bool
  known = list_all (λ n. nat_le n (length f.blocks.items)) ms

  abbrev halves : ((even && known) ≡ true) × (blocks_nest 0 f.blocks.items ≡ true)
  halves = both (even && known) (blocks_nest 0 f.blocks.items) kept

  same_count : length ms ≡ length js
  same_count = eqb-true (length ms) (length js) (both even known halves.0).0

  numbered : length ns ≡ length is
  numbered = numbered_is fs is ns laid

  slice_inside : slice_of start len (ns ++ ms) ≡ ms
  slice_inside = slice_right start len ns ms (starts ∙ sym numbered) (lens ∙ sym same_count)

  last_part : is_part (ns ++ ms) g ≡ true
  last_part =
      let within = nat_le (start + len) (length (ns ++ ms)) in
      let there = list_all (λ n. nat_le n (length f.blocks.items)) (slice_of start len (ns ++ ms)) in
      let a = numbered in
      let b = same_count in
      and_true (within && there) (blocks_nest 0 f.blocks.items)
      (and_true within there (le-leb (start + len) (length (ns ++ ms)) (omega (arith, starts, lens, a, b, length-append ns ms))) (ap (list_all (λ n. nat_le n (length f.blocks.items))) slice_inside ∙ (both even known halves.0).1)) halves.1

  laid_more : IsTrue (is_laid_out (fs ++ g ∷ []) (is ++ js) (ns ++ ms))
  laid_more =
      let a = numbered in
      let b = same_count in
      let end : length is + len ≡ length (is ++ js) = omega (arith, lens, length-append is js) in
      let follow : follow_from 0 (fs ++ g ∷ []) (length (is ++ js)) ≡ true =
      subst (λ n. follow_from 0 (fs ++ g ∷ []) n ≡ true) end (follow_more fs 0 (length is) g (follow_is fs is ns laid) starts) in
      and_true (length (ns ++ ms) == length (is ++ js) && follow_from 0 (fs ++ g ∷ []) (length (is ++ js))) (list_all (is_part (ns ++ ms)) (fs ++ g ∷ []))
      (and_true (length (ns ++ ms) == length (is ++ js)) (follow_from 0 (fs ++ g ∷ []) (length (is ++ js))) (eq-eqb (length (ns ++ ms)) (length (is ++ js)) (omega (arith, a, b, length-append ns ms, length-append is js))) follow)
      (all_more (is_part (ns ++ ms)) fs g (parts_stay is js ns ms numbered fs (split fs is ns laid).1) last_part)

  last_is : laid_function_of (is ++ js) (ns ++ ms) g ≡ function_of f
  last_is =
      ap (λ a. with_steps g (placed_in (table_of f.blocks.items) a (slice_of start len (ns ++ ms)))) (slice_right start len is js starts lens)
      ∙ ap (λ b. with_steps g (placed_in (table_of f.blocks.items) js b)) slice_inside

  seen_more : map (laid_function_of (is ++ js) (ns ++ ms)) (fs ++ g ∷ []) ≡ map (laid_function_of is ns) fs ++ function_of f ∷ []
  seen_more =
      map-append (laid_function_of (is ++ js) (ns ++ ms)) fs (g ∷ [])
      ∙ ap (λ l. l ++ laid_function_of (is ++ js) (ns ++ ms) g ∷ []) (all_stay is js ns ms numbered fs (split fs is ns laid).1)
      ∙ ap (λ x. map (laid_function_of is ns) fs ++ x ∷ []) last_is

  module _ (fs2 : List LaidFunction) (is2 : List Instr) (ns2 : List ℕ) (functions : fs2 ≡ fs ++ g ∷ []) (instrs : is2 ≡ is ++ js) (inside : ns2 ≡ ns ++ ms) where
    pub laid_by : IsTrue (is_laid_out fs2 is2 ns2)
    laid_by =
        subst (λ l. IsTrue (is_laid_out l is2 ns2)) (sym functions)
        (subst (λ l. IsTrue (is_laid_out (fs ++ g ∷ []) l ns2)) (sym instrs) (subst (λ l. IsTrue (is_laid_out (fs ++ g ∷ []) (is ++ js) l)) (sym inside) laid_more))

    pub seen_by : map (laid_function_of is2 ns2) fs2 ≡ map (laid_function_of is ns) fs ++ function_of f ∷ []
    seen_by =
        ap (map (laid_function_of is2 ns2)) functions
        ∙ ap (λ l. map (laid_function_of l ns2) (fs ++ g ∷ [])) instrs
        ∙ ap (λ l. map (laid_function_of (is ++ js) l) (fs ++ g ∷ [])) inside
        ∙ seen_more
