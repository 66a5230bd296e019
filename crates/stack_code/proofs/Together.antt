-- Steps of functions that stand one behind the other.
use Rattle.std.proofs.Common.{◌≡◌, ℕ, zero, suc, ◌+◌, ◌<◌, List, [], ◌∷◌, ◌++◌, length, take, ap, ◌∙◌, arith, length-append}
use Rattle.std.specs.Prelude.{slice_get}
use Rattle.stack_code.specs.Code.{FunctionCode, steps_by}
use Rattle.stack_code.specs.Together.{steps_together}
use Rattle.stack_code.proofs.Tables.{get_left}

get_right : {A : Type 0} (xs ys : List A) (k : ℕ) → slice_get (xs ++ ys) (length xs + k) ≡ slice_get ys k
get_right [] ys k = let none : 0 + k ≡ k = omega arith in ap (slice_get ys) none
get_right (x ∷ xs) ys k = let one : length (x ∷ xs) + k ≡ suc (length xs + k) = omega arith in ap (slice_get (x ∷ (xs ++ ys))) one ∙ get_right xs ys k

pub start_within : (fs : List FunctionCode) (g pc : ℕ) → pc < length (steps_by (slice_get fs g)) → length (steps_together (take g fs)) + pc < length (steps_together fs)
start_within [] g pc h = absurd (omega (arith, h))
start_within (f ∷ fs) zero pc h = omega (arith, h, length-append f.steps (steps_together fs))
start_within (f ∷ fs) (suc g) pc h =
    let r = start_within fs g pc h in
    omega (arith, r, length-append f.steps (steps_together fs), length-append f.steps (steps_together (take g fs)))

-- a function's step, among those of all functions
pub fetched : (fs : List FunctionCode) (g pc : ℕ) → pc < length (steps_by (slice_get fs g)) → slice_get (steps_together fs) (length (steps_together (take g fs)) + pc) ≡ slice_get (steps_by (slice_get fs g)) pc
fetched [] g pc h = absurd (omega (arith, h))
fetched (f ∷ fs) zero pc h = let none : 0 + pc ≡ pc = omega arith in ap (slice_get (f.steps ++ steps_together fs)) none ∙ get_left f.steps (steps_together fs) pc h
fetched (f ∷ fs) (suc g) pc h =
    let before = steps_together (take g fs) in
    let place : length (f.steps ++ before) + pc ≡ length f.steps + (length before + pc) = omega (arith, length-append f.steps before) in
    ap (slice_get (f.steps ++ steps_together fs)) place ∙ get_right f.steps (steps_together fs) (length before + pc) ∙ fetched fs g pc h
