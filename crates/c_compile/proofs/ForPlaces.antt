-- Where the parts of a `for` lie, and where its jumps lead.
use Rattle.std.proofs.Common.{◌≡◌, ℕ, ◌+◌, List, Option, Some, sym, ap, ◌∙◌, subst}
use Rattle.std.specs.Prelude.{slice_get}
use Rattle.c_tree.specs.declared.program.PExpr.{PExpr}
use Rattle.stack_code.specs.declared.instr.Instr.{Instr}
use Rattle.stack_code.specs.declared.instr.Instr.TheVariants as instr
use Rattle.stack_code.specs.Code.{Placed}
use Rattle.c_compile.specs.Asm.{end_of, ◌⨾◌}
use Rattle.c_compile.specs.ExprCode.{Shape}
use Rattle.c_compile.specs.StmtCode.{Exits, Blocks, StmtCode, put, test_code, test_ends, effect_code, effect_ends, for_code, for_ends}
use Rattle.c_compile.proofs.Lies.{LiesAt, split_at}
use Rattle.c_compile.proofs.Lengths as lengths

pub record ForPlaces : Type 0 where
  -- where the jumps take the Line of each later turn to stand
  pub top : ℕ
  pub exits : Exits
  -- behind the first part, the test, the body and the third part
  pub over : ℕ
  pub start : ℕ
  pub again : ℕ
  pub back : ℕ

-- the jumps lead to where the parts lie
pub record ForMeets (w : ForPlaces) : Type 0 where
  pub top : w.over + 1 ≡ w.top
  pub continues : w.again ≡ w.exits.continues
  pub breaks : w.back + 1 ≡ w.exits.breaks

-- the code of a statement ends where this is said of it
abbrev pub EndsSo : StmtCode → Type 0
EndsSo x = (exits : Exits) (blocks : Blocks) (p : ℕ) → end_of (x.code exits blocks) p ≡ x.ends p

module _ (sh : Shape) (blocks : Blocks) (first test third : Option PExpr) (x : StmtCode) where
  -- each jump's target is counted before the parts are laid out
  abbrev pub for_places : ℕ → ForPlaces
  for_places p =
      let top = effect_ends sh first (p + 1) + 1 in
      let continues = x.ends (test_ends sh test (top + 1)) in
      let exits : Exits = record { breaks = effect_ends sh third continues + 1; continues = continues } in
      let over = end_of (effect_code sh first blocks) (p + 1) in
      let start = end_of (test_code sh test exits.breaks blocks) (over + 1 + 1) in
      let again = end_of (x.code exits blocks) start in
      record { top = top; exits = exits; over = over; start = start; again = again; back = end_of (effect_code sh third blocks) again }

  -- the same places, with each target told by where the parts lie
  abbrev pub for_at : ℕ → ℕ → ForPlaces
  for_at p q = let w = for_places p in record w { top = w.over + 1; exits = record { breaks = q; continues = w.again } }

  pub for_meets : (p : ℕ) → EndsSo x → ForMeets (for_places p)
  for_meets p ends =
      let w = for_places p in
      let top_is : w.over + 1 ≡ w.top = ap (λ k. k + 1) (lengths.effect_end sh blocks first (p + 1)) in
      let again_is : w.again ≡ w.exits.continues =
      ends w.exits blocks w.start
      ∙ ap x.ends (lengths.test_end sh blocks test w.exits.breaks (w.over + 1 + 1))
      ∙ ap (λ k. x.ends (test_ends sh test (k + 1))) top_is in
      record {
        top = top_is;
        continues = again_is;
        breaks = ap (λ k. k + 1) (lengths.effect_end sh blocks third w.again ∙ ap (effect_ends sh third) again_is);
      }

  pub for_end : (line p : ℕ) → EndsSo x → end_of (for_code sh first test third x line blocks) p ≡ for_ends sh first test third x p
  for_end line p ends =
      let w = for_places p in
      let body = x.code w.exits blocks in
      let turn = effect_code sh third blocks ⨾ put blocks (instr.Jump w.top) in
      let tests = test_code sh test w.exits.breaks blocks ⨾ (body ⨾ turn) in
      let later = put blocks (instr.Line line) ⨾ tests in
      let jump = put blocks (instr.Jump (w.top + 1)) ⨾ later in
      lengths.end_of_put blocks (instr.Line line) (effect_code sh first blocks ⨾ jump) p
      ∙ lengths.end_of_seq (effect_code sh first blocks) jump (p + 1)
      ∙ lengths.end_of_put blocks (instr.Jump (w.top + 1)) later w.over
      ∙ lengths.end_of_put blocks (instr.Line line) tests (w.over + 1)
      ∙ lengths.end_of_seq (test_code sh test w.exits.breaks blocks) (body ⨾ turn) (w.over + 1 + 1)
      ∙ lengths.end_of_seq body turn w.start
      ∙ lengths.end_of_seq (effect_code sh third blocks) (put blocks (instr.Jump w.top)) w.again
      ∙ (for_meets p ends).breaks

  module _ (steps : List Placed) (line p q : ℕ) where
    abbrev Holds : ℕ → Instr → Type 0
    Holds k i = slice_get steps k ≡ Some (record { instr = i; entered = blocks })

    -- what lies from p up to q
    pub record ForLaid (w : ForPlaces) : Type 0 where
      pub line_at : Holds p (instr.Line line)
      pub first_at : LiesAt steps (p + 1) w.over (effect_code sh first blocks (p + 1))
      pub over_at : Holds w.over (instr.Jump (w.top + 1))
      pub top_at : Holds (w.over + 1) (instr.Line line)
      pub test_at : LiesAt steps (w.over + 1 + 1) w.start (test_code sh test w.exits.breaks blocks (w.over + 1 + 1))
      pub body_at : LiesAt steps w.start w.again (x.code w.exits blocks w.start)
      pub third_at : LiesAt steps w.again w.back (effect_code sh third blocks w.again)
      pub back_at : Holds w.back (instr.Jump w.top)
      pub end_at : w.back + 1 ≡ q

    pub for_lies : LiesAt steps p q (for_code sh first test third x line blocks p) → ForLaid (for_places p)
    for_lies h =
        let w = for_places p in
        let turn = effect_code sh third blocks ⨾ put blocks (instr.Jump w.top) in
        let inner = x.code w.exits blocks ⨾ turn in
        let tests = test_code sh test w.exits.breaks blocks ⨾ inner in
        let jump = put blocks (instr.Jump (w.top + 1)) ⨾ (put blocks (instr.Line line) ⨾ tests) in
        let s1 = split_at steps (effect_code sh first blocks (p + 1)) (jump w.over) (p + 1) q h.1 in
        let s2 = split_at steps (test_code sh test w.exits.breaks blocks (w.over + 1 + 1)) (inner w.start) (w.over + 1 + 1) q s1.1.1.1 in
        let s3 = split_at steps (x.code w.exits blocks w.start) (turn w.again) w.start q s2.1 in
        let s4 = split_at steps (effect_code sh third blocks w.again) (put blocks (instr.Jump w.top) w.back) w.again q s3.1 in
        record {
          line_at = h.0;
          first_at = s1.0;
          over_at = s1.1.0;
          top_at = s1.1.1.0;
          test_at = s2.0;
          body_at = s3.0;
          third_at = s4.0;
          back_at = s4.1.0;
          end_at = s4.1.1;
        }

    pub for_laid : EndsSo x → LiesAt steps p q (for_code sh first test third x line blocks p) → ForLaid (for_at p q)
    for_laid ends h =
        let w = for_places p in
        let l = for_lies h in
        let meets = for_meets p ends in
        let same : w ≡ for_at p q =
        ap (λ (k : ℕ). record w { top = k }) (sym meets.top)
        ∙ ap (λ (k : ℕ). record w { top = w.over + 1; exits = record { breaks = k; continues = w.exits.continues } }) (sym meets.breaks ∙ l.end_at)
        ∙ ap (λ (k : ℕ). record w { top = w.over + 1; exits = record { breaks = q; continues = k } }) (sym meets.continues) in
        subst ForLaid same l
