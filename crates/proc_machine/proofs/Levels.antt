-- How many operands there are at most, from place to place.
use Rattle.std.proofs.Common.{◌≡◌, ℕ, zero, suc, ◌+◌, ◌-◌, ◌*◌, ◌<◌, ◌≤◌, Bool, true, false, List, [], ◌∷◌, length, Option, Some, None, inl, inr, ◌⊎◌, ◌^◌, refl, sym, ap, ◌∙◌, subst, arith}
use Rattle.std.specs.Prelude.{nat_le, nat_lt, max, slice_get, option_map, if◌then◌else◌}
use Rattle.std.proofs.lemmas.Bool.{ltb-false, leb-false}
use Rattle.stack_code.specs.declared.instr.Instr.{Instr}
use Rattle.stack_code.specs.declared.instr.Instr.TheVariants as instr
use Rattle.stack_code.specs.Code.{Placed, FunctionCode, Code, steps_by, steps_of}
use Rattle.proc_machine.specs.declared.heights.Level.{Level}
use Rattle.proc_machine.specs.private.Heights.{takes, pushes, height_at, jump_on, after, first_level, level_from, level_before, high}

level_zero : (code : Code) (place : ℕ) (xs : List Placed) (l : Level) → level_from code place xs 0 l ≡ l
level_zero code place [] l = refl
level_zero code place (x ∷ xs) l = refl

level_on : (code : Code) (place : ℕ) (xs : List Placed) (n : ℕ) (x : Placed) (l : Level) → slice_get xs n ≡ Some x
    → level_from code place xs (suc n) l ≡ after code (place + n) x.instr (level_from code place xs n l)
level_on code place [] n x l h = cc
level_on code place (y ∷ ys) zero x l h =
    let same : y ≡ x = cc in
    let here : place ≡ place + 0 = omega arith in
    level_zero code (suc place) ys (after code place y.instr l) ∙ ap (λ (z : Placed). after code place z.instr l) same ∙ ap (λ p. after code p x.instr l) here
level_on code place (y ∷ ys) (suc n) x l h =
    let here : suc place + n ≡ place + suc n = omega arith in
    level_on code (suc place) ys n x (after code place y.instr l) h ∙ ap (λ p. after code p x.instr (level_from code (suc place) ys n (after code place y.instr l))) here

-- behind an instruction
pub level_next : (code : Code) (g place : ℕ) (x : Placed) → slice_get (steps_of code g) place ≡ Some x → level_before code g (place + 1) ≡ after code place x.instr (level_before code g place)
level_next code g place x h =
    let one : place + 1 ≡ suc place = omega arith in
    let none : 0 + place ≡ place = omega arith in
    ap (level_before code g) one ∙ level_on code 0 (steps_of code g) place x first_level h ∙ ap (λ p. after code p x.instr (level_before code g place)) none

pub height_most : (place most : ℕ) (l : Level) → l.now ≤ most → l.jumped ≤ most → height_at place l ≤ most
height_most place most l now jumped = by (nat_le place l.reach)
  where
    by : (b : Bool) → (if b then max l.now l.jumped else l.now) ≤ most
    by true = omega (arith, now, jumped)
    by false = now

-- what is known where the first places of a function were seen
pub record Seen (code : Code) (g places most : ℕ) (level : Level) : Type 0 where
  pub level_is : level ≡ level_before code g places
  pub now : level.now ≤ 2 * places
  pub jumped : level.jumped ≤ 2 * places
  pub covers : (p : ℕ) → p < places → high code g p + 2 ≤ most
  pub within : most ≤ 2 * places

pub nothing_seen : (code : Code) (g : ℕ) → Seen code g 0 0 first_level
nothing_seen code g = record {
  level_is = sym (level_zero code 0 (steps_of code g) first_level);
  now = omega arith;
  jumped = omega arith;
  covers = λ p h. absurd (omega (arith, h));
  within = omega arith;
}

instr_there : (o : Option Placed) (i : Instr) → option_map (λ (x : Placed). x.instr) o ≡ Some i → (x : Placed) × (o ≡ Some x) × (x.instr ≡ i)
instr_there None i h = cc
instr_there (Some x) i h = let same : x.instr ≡ i = cc in (x, refl, same)

pub seen_next : (code : Code) (g place most most' : ℕ) (i : Instr) (level new : Level) → Seen code g place most level
    → option_map (λ (x : Placed). x.instr) (slice_get (steps_of code g) place) ≡ Some i
    → new ≡ after code place i level → new.now ≤ 2 * (place + 1) → new.jumped ≤ 2 * (place + 1) → most' ≡ max most (height_at place level + 2) → Seen code g (place + 1) most' new
seen_next code g place most most' i level new seen there is now jumped grows =
    let x = instr_there (slice_get (steps_of code g) place) i there in
    let here : high code g place ≡ height_at place level = ap (height_at place) (sym seen.level_is) in
    let bound = height_most place (2 * place) level seen.now seen.jumped in
    record {
      level_is = is ∙ ap (after code place i) seen.level_is ∙ ap (λ j. after code place j (level_before code g place)) (sym x.2) ∙ sym (level_next code g place x.0 x.1);
      now = now;
      jumped = jumped;
      covers = λ p h. by p h here;
      within = let w = seen.within in omega (arith, grows, w, bound);
    }
  where
    by : (p : ℕ) → p < place + 1 → high code g place ≡ height_at place level → high code g p + 2 ≤ most'
    by p h here = elim (lt_or_same p place h) [
      | inl lt ↦ let c = seen.covers p lt in omega (arith, c, grows)
      | inr same ↦ let there : high code g p ≡ high code g place = ap (high code g) same in omega (arith, there, here, grows)
    ]
      where
        lt_or_same : (a b : ℕ) → a < b + 1 → (a < b) ⊎ (a ≡ b)
        lt_or_same a b l = grind arith

-- ---- all functions

pub record Covered (code : Code) (functions most : ℕ) : Type 0 where
  pub covers : (g place : ℕ) → g < functions → place < length (steps_of code g) → high code g place + 2 ≤ most
  pub within : most < 2 ^ 32

pub none_covered : (code : Code) → Covered code 0 0
none_covered code = record { covers = λ g place h lt. absurd (omega (arith, h)); within = omega arith }

pub covered_next : (code : Code) (functions most one most' : ℕ) → Covered code functions most
    → ((place : ℕ) → place < length (steps_of code functions) → high code functions place + 2 ≤ one) → one < 2 ^ 32 → most' ≡ max most one → Covered code (functions + 1) most'
covered_next code functions most one most' c h lt grows = record {
  covers = λ g place l inside. by g place inside (lt_or_same g functions l);
  within = let w = c.within in omega (arith, w, lt, grows);
}
  where
    lt_or_same : (a b : ℕ) → a < b + 1 → (a < b) ⊎ (a ≡ b)
    lt_or_same a b l = grind arith

    by : (g place : ℕ) → place < length (steps_of code g) → (g < functions) ⊎ (g ≡ functions) → high code g place + 2 ≤ most'
    by g place inside (inl l) = let k = c.covers g place l inside in omega (arith, k, grows)
    by g place inside (inr same) =
        let k = h place (subst (λ f. place < length (steps_of code f)) same inside) in
        let there : high code g place ≡ high code functions place = ap (λ f. high code f place) same in
        omega (arith, k, there, grows)

pub has_function : (fs : List FunctionCode) (g place : ℕ) → place < length (steps_by (slice_get fs g)) → g < length fs
has_function [] g place h = absurd (omega (arith, h))
has_function (f ∷ fs) zero place h = omega arith
has_function (f ∷ fs) (suc g) place h = let r = has_function fs g place h in omega (arith, r)

-- ---- going on

now_least : (place : ℕ) (l : Level) → l.now ≤ height_at place l
now_least place l = by (nat_le place l.reach)
  where
    by : (b : Bool) → l.now ≤ (if b then max l.now l.jumped else l.now)
    by true = omega arith
    by false = omega arith

abbrev now_in : Level → ℕ
now_in l = l.now

-- whether the code goes on behind it with what it leaves
abbrev pub leads_on : Instr → Bool
leads_on (instr.Line line) = false
leads_on instr.Return = false
leads_on (instr.Jump target) = false
leads_on (instr.JumpZero target) = false
leads_on i = true

after_now : (code : Code) (place : ℕ) (i : Instr) (l : Level) → leads_on i ≡ true → (after code place i l).now ≡ (height_at place l - takes code i) + pushes i
after_now code place (instr.Line line) l h = cc
after_now code place instr.Return l h = cc
after_now code place (instr.Jump target) l h = cc
after_now code place (instr.JumpZero target) l h = cc
after_now code place i l h = refl

module _ (code : Code) (g place : ℕ) (x : Placed) (is : slice_get (steps_of code g) place ≡ Some x) where
  abbrev here : Level
  here = level_before code g place

  now_on : (after code place x.instr here).now ≤ high code g (place + 1)
  now_on = subst (λ (l : Level). l.now ≤ high code g (place + 1)) (level_next code g place x is) (now_least (place + 1) (level_before code g (place + 1)))

  -- the next place, behind an instruction that goes on
  pub on : (n : ℕ) → leads_on x.instr ≡ true → n ≤ (high code g place - takes code x.instr) + pushes x.instr → n ≤ high code g (place + 1)
  on n h few = let a = after_now code place x.instr here h in let b = now_on in omega (arith, a, b, few)

  pub on_test : (target n : ℕ) → x.instr ≡ instr.JumpZero target → n ≤ high code g place - 1 → n ≤ high code g (place + 1)
  on_test target n same few =
      let a = ap (λ i. (after code place i here).now) same in
      let b = jump_now (nat_lt place here.reach) target (high code g place - 1) (high code g place - 1) here in
      let d = now_on in
      omega (arith, a, b, d, few)
    where
      jump_now : (b : Bool) (target height now : ℕ) (l : Level)
          → now_in (if b then record { now = now; jumped = max l.jumped height; reach = max l.reach target } else record { now = now; jumped = height; reach = target }) ≡ now
      jump_now true target height now l = refl
      jump_now false target height now l = refl

-- ---- jumps ahead

level_last : (code : Code) (place : ℕ) (xs : List Placed) (n : ℕ) (l : Level) → slice_get xs n ≡ None → level_from code place xs (suc n) l ≡ level_from code place xs n l
level_last code place [] n l h = refl
level_last code place (y ∷ ys) zero l h = cc
level_last code place (y ∷ ys) (suc n) l h = level_last code (suc place) ys n (after code place y.instr l) h

-- a jump with so many operands to this target still counts
record Carries (height target : ℕ) (l : Level) : Type 0 where
  pub jumped : height ≤ l.jumped
  pub reach : target ≤ l.reach

module _ (height target : ℕ) where
  kept_jump : (place to h now : ℕ) (l : Level) → place < target → Carries height target l → Carries height target (jump_on place to h now l)
  kept_jump place to h now l lt c = by (nat_lt place l.reach) refl
    where
      by : (b : Bool) → nat_lt place l.reach ≡ b
          → Carries height target (if b then record { now = now; jumped = max l.jumped h; reach = max l.reach to } else record { now = now; jumped = h; reach = to })
      by true e = let j = c.jumped in let r = c.reach in record { jumped = omega (arith, j); reach = omega (arith, r) }
      by false e = let r = c.reach in let no = ltb-false place l.reach e in absurd (omega (arith, no, r, lt))

  kept_after : (code : Code) (place : ℕ) (i : Instr) (l : Level) → place < target → Carries height target l → Carries height target (after code place i l)
  kept_after code place (instr.Jump to) l lt c = kept_jump place to (height_at place l) 0 l lt c
  kept_after code place (instr.JumpZero to) l lt c = kept_jump place to (height_at place l - 1) (height_at place l - 1) l lt c
  kept_after code place i l lt c = record { jumped = c.jumped; reach = c.reach }

  begun_jump : (place now : ℕ) (l : Level) → Carries height target (jump_on place target height now l)
  begun_jump place now l = by (nat_lt place l.reach)
    where
      by : (b : Bool) → Carries height target (if b then record { now = now; jumped = max l.jumped height; reach = max l.reach target } else record { now = now; jumped = height; reach = target })
      by true = record { jumped = omega arith; reach = omega arith }
      by false = record { jumped = omega arith; reach = omega arith }

  module _ (code : Code) (g : ℕ) where
    kept_on : (place : ℕ) → place < target → Carries height target (level_before code g place) → Carries height target (level_before code g (place + 1))
    kept_on place lt c = by (slice_get (steps_of code g) place) refl
      where
        by : (o : Option Placed) → slice_get (steps_of code g) place ≡ o → Carries height target (level_before code g (place + 1))
        by (Some x) e = subst (Carries height target) (sym (level_next code g place x e)) (kept_after code place x.instr (level_before code g place) lt c)
        by None e =
            let one : place + 1 ≡ suc place = omega arith in
            subst (Carries height target) (sym (ap (level_before code g) one ∙ level_last code 0 (steps_of code g) place first_level e)) c

    kept_to : (place n : ℕ) → place + n ≤ target → Carries height target (level_before code g place) → Carries height target (level_before code g (place + n))
    kept_to place zero le c = let same : place ≡ place + 0 = omega arith in subst (λ p. Carries height target (level_before code g p)) same c
    kept_to place (suc n) le c =
        let same : (place + n) + 1 ≡ place + suc n = omega arith in
        subst (λ p. Carries height target (level_before code g p)) same (kept_on (place + n) (omega (arith, le)) (kept_to place n (omega (arith, le)) c))

    arrives : Carries height target (level_before code g target) → height ≤ high code g target
    arrives c = by (nat_le target (level_before code g target).reach) refl
      where
        by : (b : Bool) → nat_le target (level_before code g target).reach ≡ b
            → height ≤ (if b then max (level_before code g target).now (level_before code g target).jumped else (level_before code g target).now)
        by true e = let j = c.jumped in omega (arith, j)
        by false e = let r = c.reach in let no = leb-false target (level_before code g target).reach e in absurd (omega (arith, no, r))

    -- where a jump leads ahead, there are its operands
    lands : (place : ℕ) → place < target → Carries height target (level_before code g (place + 1)) → height ≤ high code g target
    lands place lt c =
        let far : (place + 1) + (target - (place + 1)) ≡ target = omega (arith, lt) in
        arrives (subst (λ p. Carries height target (level_before code g p)) far (kept_to (place + 1) (target - (place + 1)) (omega (arith, lt)) c))

pub ahead : (code : Code) (g place target : ℕ) (x : Placed) → slice_get (steps_of code g) place ≡ Some x → x.instr ≡ instr.Jump target → place < target → high code g place ≤ high code g target
ahead code g place target x is same lt =
    let h = high code g place in
    let to = level_next code g place x is ∙ ap (λ i. after code place i (level_before code g place)) same in
    lands h target code g place lt (subst (Carries h target) (sym to) (begun_jump h target place 0 (level_before code g place)))

pub ahead_test : (code : Code) (g place target : ℕ) (x : Placed) → slice_get (steps_of code g) place ≡ Some x → x.instr ≡ instr.JumpZero target → place < target
    → high code g place - 1 ≤ high code g target
ahead_test code g place target x is same lt =
    let h = high code g place - 1 in
    let to = level_next code g place x is ∙ ap (λ i. after code place i (level_before code g place)) same in
    lands h target code g place lt (subst (Carries h target) (sym to) (begun_jump h target place h (level_before code g place)))
