-- Statements fit the whole program, where no rule is broken.
use Rattle.std.proofs.Common.{◌≡◌, ℕ, suc, ◌+◌, Bool, true, false, List, [], ◌∷◌, ◌++◌, map, length, Option, Some, None, refl, sym, ap, ◌∙◌, subst, arith, append_assoc}
use Rattle.std.proofs.Common.{length-append}
use Rattle.std.specs.Prelude.{◌||◌, ◌==◌, not, is_none, unwrap_or, option_map}
use Rattle.std.specs.List.{list_any}
use denote.Hole.Carrier.{out, roll}
use Rattle.std.proofs.lemmas.List.{append-nil}
use Rattle.std.proofs.lemmas.List.Folds.{list_any-append}
use Rattle.nm_base.specs.declared.operator.Ctype.{Ctype}
use Rattle.c_tree.specs.declared.program.Slot.{Slot}
use Rattle.c_tree.specs.declared.program.Start.{Start}
use Rattle.c_tree.specs.declared.program.PLabel.{PLabel}
use Rattle.c_tree.specs.declared.program.PExpr.{PExpr}
use Rattle.c_tree.specs.declared.program.PArm.{PArm, roll-PArm, out-roll-PArm}
use Rattle.c_tree.specs.declared.program.PStmt.{PStmt, roll-PStmt, out-PStmt, out-roll-PStmt}
use Rattle.c_tree.specs.declared.program.PStmt.TheOpen.{PStmt-F, PArm-F}
use Rattle.c_tree.specs.declared.program.PStmt.TheBlock.{laid-PArm, the_family as pstmt_family, the_fold as pstmt_fold, body-PStmt, body-PArm, lays-PStmt, lays-PArm}
use Rattle.c_tree.specs.declared.program.PStmt.TheFolds.{family as pstmts, steps as pstmt_steps, map-PStmt, map_is-PStmt, map-PArm, map_is-PArm}
use Rattle.c_tree.specs.declared.program.PStmt.TheVariants as p
use Rattle.c_tree.specs.declared.tree.Expr.{Expr}
use Rattle.c_tree.specs.declared.tree.Vars.{Vars}
use Rattle.c_tree.specs.declared.tree.Label.{Label}
use Rattle.c_tree.specs.Typing as typing
use Rattle.c_tree.specs.Checks as checks
use Rattle.c_tree.specs.Checks.{StmtCheck, ArmCheck, all_fine, blocks_of, labels_differ, same_label, in_loop}
use Rattle.c_tree.specs.Checks.{value_fits, effect_fits, test_fits, check_of, check_step, blocks_fit}
use Rattle.c_checker.specs.declared.fault.CheckFault.TheVariants.{DoubleCase, DoubleDefault}
use Rattle.c_checker.specs.declared.headings.Heading.{Heading}
use Rattle.c_checker.specs.declared.state.Body.{Body}
use Rattle.c_checker.specs.declared.state.Around.{Around}
use Rattle.c_checker.specs.Found.{pure, ◌>>=◌}
use Rattle.c_checker.specs.Scope.{ScopeNames, params_of}
use Rattle.c_checker.specs.Statements.{Writes, slots, constant_pattern, label_faults, new_label, case_label, label, labels, outside, StmtPart, sequence, begin_block, end_block}
use Rattle.c_checker.specs.Statements.{block_from, block, plain}
use Rattle.c_checker.proofs.TypedLists.{unless_none, and_true, both_true, not_true, not_false}
use Rattle.c_checker.proofs.TypedSorts.{is_value_true, effect_true}
use Rattle.c_checker.proofs.TypedBodies.{take_fits, grows_same, Good, good_pure, good_bind, good_weak, good_map, good_noted, good_lift, good_get, Laid, laid_then, Still}
use Rattle.c_checker.proofs.TypedBodies.{still_same, still_laid, HasValue, UsedIfAny}
use Rattle.c_checker.proofs.TypedLocals.{pattern_is, Begun, begin_good}

-- ---- labels

any_alike : {A : Type 0} (f g : A → Bool) → ((x : A) → f x ≡ g x) → (xs : List A) → list_any f xs ≡ list_any g xs
any_alike f g h [] = refl
any_alike f g h (x ∷ xs) = ap (λ b. b || list_any f xs) (h x) ∙ ap (λ b. g x || b) (any_alike f g h xs)

or_false : (a b : Bool) → (a || b) ≡ false → (a ≡ false) × (b ≡ false)
or_false true b h = cc
or_false false b h = (refl, h)

false_or : {a b : Bool} → a ≡ false → b ≡ false → (a || b) ≡ false
false_or {a = a} {b = b} h g = ap (λ x. x || b) h ∙ g

differ_more : (before : List PLabel) (l : PLabel) → labels_differ before ≡ true → list_any (λ x. same_label x l) before ≡ false → labels_differ (before ++ l ∷ []) ≡ true
differ_more [] l d h = refl
differ_more (x ∷ xs) l d h =
    let b = both_true (not (list_any (same_label x) xs)) (labels_differ xs) d in
    let o = or_false (same_label x l) (list_any (λ x. same_label x l) xs) h in
    and_true
    (not_false (list_any (same_label x) (xs ++ l ∷ [])) (list_any-append (same_label x) xs (l ∷ []) ∙ false_or (not_true (list_any (same_label x) xs) b.0) (false_or o.0 refl)))
    (differ_more xs l b.1 o.1)

default_alike : (line : ℕ) (x : PLabel) → same_label x (record { value = None; line = line }) ≡ is_none x.value
default_alike line x = by x.value
  where
    by : (o : Option ℕ) → same_label (record x { value = o }) (record { value = None; line = line }) ≡ is_none o
    by None = refl
    by (Some m) = refl

case_alike : (n line : ℕ) (x : PLabel) → same_label x (record { value = Some n; line = line }) ≡ unwrap_or (option_map (λ m. m == n) x.value) false
case_alike n line x = by x.value
  where
    by : (o : Option ℕ) → same_label (record x { value = o }) (record { value = Some n; line = line }) ≡ unwrap_or (option_map (λ m. m == n) o) false
    by None = refl
    by (Some m) = refl

label_differs : (before : List PLabel) (o : Option ℕ) (line : ℕ) → label_faults before o line ≡ [] → labels_differ before ≡ true
    → labels_differ (before ++ record { value = o; line = line } ∷ []) ≡ true
label_differs before None line h d =
    differ_more before _ d
    (any_alike (λ x. same_label x (record { value = None; line = line })) (λ l. is_none l.value) (default_alike line) before
    ∙ not_true _ (unless_none _ (DoubleDefault line) h))
label_differs before (Some n) line h d =
    differ_more before _ d
    (any_alike (λ x. same_label x (record { value = Some n; line = line })) (λ l. unwrap_or (option_map (λ m. m == n) l.value) false) (case_alike n line) before
    ∙ not_true _ (unless_none _ (DoubleCase line) h))

module _ (final : typing.Declarations) (functions : List Heading) (ps : List Slot) where
  -- labels after those of the switch before them
  pub record Labels (before : List PLabel) (n : ℕ) (s : Body) (all : List PLabel) (t : Body) : Type 0 where
    pub count : length all ≡ n
    pub differ : labels_differ before ≡ true → labels_differ (before ++ all) ≡ true
    pub still : Still final functions ps s t

  new_label_good : (before : List PLabel) (o : Option ℕ) (line : ℕ) → Good final functions ps (new_label before o line) (Labels before 1)
  new_label_good before o line =
      good_noted final functions ps (label_faults before o line) (good_pure final functions ps (record { value = o; line = line } ∷ []) (λ s h.
      record { count = refl; differ = label_differs before o line h; still = still_same final functions ps s }))

  case_good : (before : List PLabel) (o : Option ℕ) (line : ℕ) → Good final functions ps (case_label before o line) (λ s xs t. (n : ℕ) → o ≡ Some n → Labels before 1 s xs t)
  case_good before None line = good_pure final functions ps [] (λ s n e. cc)
  case_good before (Some m) line = good_weak final functions ps (new_label_good before (Some m) line) (λ s xs t h n e. h)

  label_good : (names : ScopeNames) (before : List PLabel) (o : Option Expr) (line : ℕ) → Good final functions ps (label names before o line) (Labels before 1)
  label_good names before None line = new_label_good before None line
  label_good names before (Some e) line =
      let found = constant_pattern names e in
      good_bind final functions ps {f = λ n. case_label before n line}
      (good_lift final functions ps {Q = λ s x t. ((found.faults ≡ []) × (x ≡ found.value)) × Still final functions ps s t} found (λ h s. ((h, refl), still_same final functions ps s))) (λ n.
      good_weak final functions ps (case_good before n line) (λ t xs u k s h.
      let is = pattern_is names e h.0.0 in
      let made = k is.bits (h.0.1 ∙ is.is) in
      record { count = made.count; differ = made.differ; still = record { slots = made.still.slots ∙ h.1.slots; blocks = made.still.blocks ∙ h.1.blocks } }))

  -- labels of one arm after some of them
  pub record LabelsAfter (before these : List PLabel) (n : ℕ) (s : Body) (all : List PLabel) (t : Body) : Type 0 where
    pub count : length all ≡ length these + n
    pub differ : labels_differ (before ++ these) ≡ true → labels_differ (before ++ all) ≡ true
    pub still : Still final functions ps s t

  labels_then : (before these xs all : List PLabel) (n : ℕ) (s t u : Body) → Labels (before ++ these) 1 s xs t → LabelsAfter before (these ++ xs) n t all u
      → LabelsAfter before these (suc n) s all u
  labels_then before these xs all n s t u h g = record {
    count = omega (arith, g.count, length-append these xs, h.count);
    differ = λ d. g.differ (subst (λ l. labels_differ l ≡ true) (append_assoc before these xs) (h.differ d));
    still = record { slots = g.still.slots ∙ h.still.slots; blocks = g.still.blocks ∙ h.still.blocks };
  }

  pub labels_good : (names : ScopeNames) (before these : List PLabel) (ls : List Label) → Good final functions ps (labels names before these ls) (LabelsAfter before these (length ls))
  labels_good names before these [] = good_pure final functions ps these (λ s. record { count = omega arith; differ = λ d. d; still = still_same final functions ps s })
  labels_good names before these (l ∷ more) =
      good_bind final functions ps {f = λ xs. labels names before (these ++ xs) more} (label_good names (before ++ these) l.value l.line) (λ xs.
      good_weak final functions ps (labels_good names before (these ++ xs) more) (λ t all u g s h. labels_then before these xs all (length more) s t u h g))

-- ---- one level of a checked statement

module _ (names : typing.Declarations) (result : Option Ctype) where
  abbrev pub check_arm : PArm → ArmCheck
  check_arm x = laid-PArm (pstmts StmtCheck ArmCheck) (pstmt_steps StmtCheck ArmCheck (check_step names result) (checks.arm_step names result)) x

  pub check_roll : (x : PStmt-F PStmt PArm)
      → check_of names result (roll-PStmt x) ≡ check_step names result (map-PStmt PStmt PArm StmtCheck ArmCheck (check_of names result) check_arm x)
  unfolding out-PStmt roll-PStmt out
  check_roll x =
      let A = pstmts StmtCheck ArmCheck in
      let S = pstmt_steps StmtCheck ArmCheck (check_step names result) (checks.arm_step names result) in
      lays-PStmt A S (roll-PStmt x)
      ∙ ap (λ l. check_step names result ((body-PStmt).map pstmt_family A (pstmt_fold A S) l)) (out-roll-PStmt x)
      ∙ ap (check_step names result) (map_is-PStmt pstmt_family A (pstmt_fold A S) x)

  arm_roll : (x : PArm-F PStmt PArm) → check_arm (roll-PArm x) ≡ checks.arm_step names result (map-PArm PStmt PArm StmtCheck ArmCheck (check_of names result) check_arm x)
  unfolding out roll
  arm_roll x =
      let A = pstmts StmtCheck ArmCheck in
      let S = pstmt_steps StmtCheck ArmCheck (check_step names result) (checks.arm_step names result) in
      lays-PArm A S (roll-PArm x)
      ∙ ap (λ l. checks.arm_step names result ((body-PArm).map pstmt_family A (pstmt_fold A S) l)) (out-roll-PArm x)
      ∙ ap (checks.arm_step names result) (map_is-PArm pstmt_family A (pstmt_fold A S) x)

  pub check_block : (xs : List Start) (ys : List PStmt) (line : ℕ)
      → check_of names result (p.Block xs ys line) ≡ check_step names result (PStmt-F.Block xs (map (check_of names result) ys) line)
  check_block xs ys line = ap (check_of names result) (sym (p.rolls-Block xs ys line)) ∙ check_roll (PStmt-F.Block xs ys line)

  pub check_empty : (line : ℕ) → check_of names result (p.Empty line) ≡ check_step names result (PStmt-F.Empty line)
  check_empty line = ap (check_of names result) (sym (p.rolls-Empty line)) ∙ check_roll (PStmt-F.Empty line)

  pub check_run : (x : PExpr) (line : ℕ) → check_of names result (p.Run x line) ≡ check_step names result (PStmt-F.Run x line)
  check_run x line = ap (check_of names result) (sym (p.rolls-Run x line)) ∙ check_roll (PStmt-F.Run x line)

  pub check_if : (x : PExpr) (y : PStmt) (line : ℕ) → check_of names result (p.If x y None line) ≡ check_step names result (PStmt-F.If x (check_of names result y) None line)
  check_if x y line = ap (check_of names result) (sym (p.rolls-If x y None line)) ∙ check_roll (PStmt-F.If x y None line)

  pub check_if_else : (x : PExpr) (y z : PStmt) (line : ℕ)
      → check_of names result (p.If x y (Some z) line) ≡ check_step names result (PStmt-F.If x (check_of names result y) (Some (check_of names result z)) line)
  check_if_else x y z line = ap (check_of names result) (sym (p.rolls-If x y (Some z) line)) ∙ check_roll (PStmt-F.If x y (Some z) line)

  pub check_while : (x : PExpr) (y : PStmt) (line : ℕ) → check_of names result (p.While x y line) ≡ check_step names result (PStmt-F.While x (check_of names result y) line)
  check_while x y line = ap (check_of names result) (sym (p.rolls-While x y line)) ∙ check_roll (PStmt-F.While x y line)

  pub check_do : (y : PStmt) (x : PExpr) (line : ℕ) → check_of names result (p.Do y x line) ≡ check_step names result (PStmt-F.Do (check_of names result y) x line)
  check_do y x line = ap (check_of names result) (sym (p.rolls-Do y x line)) ∙ check_roll (PStmt-F.Do y x line)

  pub check_for : (x y z : Option PExpr) (b : PStmt) (line : ℕ)
      → check_of names result (p.For x y z b line) ≡ check_step names result (PStmt-F.For x y z (check_of names result b) line)
  check_for x y z b line = ap (check_of names result) (sym (p.rolls-For x y z b line)) ∙ check_roll (PStmt-F.For x y z b line)

  pub check_break : (line : ℕ) → check_of names result (p.Break line) ≡ check_step names result (PStmt-F.Break line)
  check_break line = ap (check_of names result) (sym (p.rolls-Break line)) ∙ check_roll (PStmt-F.Break line)

  pub check_continue : (line : ℕ) → check_of names result (p.Continue line) ≡ check_step names result (PStmt-F.Continue line)
  check_continue line = ap (check_of names result) (sym (p.rolls-Continue line)) ∙ check_roll (PStmt-F.Continue line)

  pub check_return : (x : Option PExpr) (line : ℕ) → check_of names result (p.Return x line) ≡ check_step names result (PStmt-F.Return x line)
  check_return x line = ap (check_of names result) (sym (p.rolls-Return x line)) ∙ check_roll (PStmt-F.Return x line)

  pub check_switch : (x : PExpr) (ys : List PArm) (line : ℕ) → check_of names result (p.Switch x ys line) ≡ check_step names result (PStmt-F.Switch x (map check_arm ys) line)
  check_switch x ys line = ap (check_of names result) (sym (p.rolls-Switch x ys line)) ∙ check_roll (PStmt-F.Switch x ys line)

  pub check_arm_is : (ls : List PLabel) (ys : List PStmt)
      → check_arm (record { labels = ls; list = ys }) ≡ record { labels = ls; is_fine = all_fine (map (check_of names result) ys); blocks = blocks_of (map (check_of names result) ys) }
  unfolding out roll
  check_arm_is ls ys = arm_roll (record { labels = ls; list = ys })

-- ---- statements

abbrev pub around_of : Around → checks.Around
around_of a = record { loop = a.in_loop; breaks = a.breaks }

module _ (final : typing.Declarations) (functions : List Heading) (ps : List Slot) (result : Option Ctype) where
  abbrev pub Lays : Body → Body → List (List ℕ) → Type 0
  Lays s t bs = Laid final functions ps s t bs

  abbrev pub laid_on : (s t u : Body) (cs bs : List (List ℕ)) → Lays s t cs → Lays t u bs → Lays s u (cs ++ bs)
  laid_on s t u cs bs a b = laid_then final functions ps s t u cs bs a b

  abbrev pub of_still : (s t : Body) → Still final functions ps s t → Lays s t []
  of_still s t e = still_laid final functions ps e

  -- it keeps the rules, and its blocks are those that were begun
  pub record Fits (c : StmtCheck) (around : Around) (s t : Body) : Type 0 where
    pub fine : c.is_fine (around_of around) ≡ true
    pub laid : Lays s t c.blocks

  abbrev pub StmtFits : Around → Body → PStmt → Body → Type 0
  StmtFits around s y t = Fits (check_of final result y) around s t

  pub along : {c d : StmtCheck} {around : Around} {s t : Body} → c ≡ d → Fits d around s t → Fits c around s t
  along {around = around} {s = s} {t = t} e h = subst (λ c. Fits c around s t) (sym e) h

  abbrev pub CheckFits : StmtPart → Type 0
  CheckFits x = (around : Around) → Good final functions ps (x.check around) (StmtFits around)

  abbrev pub AllCheck : List StmtPart → Type 0
  AllCheck [] = Unit {0}
  AllCheck (x ∷ xs) = CheckFits x × AllCheck xs

  abbrev pub checks_of : List PStmt → List StmtCheck
  checks_of ys = map (check_of final result) ys

  -- ---- expressions

  pub value_true : {s t : Body} (x : PExpr) → HasValue final functions ps true s x t → value_fits final result x ≡ true
  value_true x h = is_value_true final x h.fits

  pub effect_if_any : (x : Option PExpr) → UsedIfAny final functions ps false x → effect_fits final result x ≡ true
  effect_if_any None h = refl
  effect_if_any (Some e) h = effect_true final e h

  pub test_if_any : (x : Option PExpr) → UsedIfAny final functions ps true x → test_fits final result x ≡ true
  test_if_any None h = refl
  test_if_any (Some e) h = is_value_true final e h

  -- ---- blocks

  -- statements after those before them
  pub record StmtsAfter (before : List PStmt) (around : Around) (s : Body) (all : List PStmt) (t : Body) : Type 0 where
    pub more : List PStmt
    pub is : all ≡ before ++ more
    pub fine : all_fine (checks_of more) (around_of around) ≡ true
    pub laid : Lays s t (blocks_of (checks_of more))

  stmts_then : (before : List PStmt) (around : Around) (y : PStmt) (all : List PStmt) (s t u : Body) → StmtFits around s y t → StmtsAfter (before ++ y ∷ []) around t all u
      → StmtsAfter before around s all u
  stmts_then before around y all s t u h g = record {
    more = y ∷ g.more;
    is = g.is ∙ append_assoc before (y ∷ []) g.more;
    fine = and_true h.fine g.fine;
    laid = laid_on s t u (check_of final result y).blocks (blocks_of (checks_of g.more)) h.laid g.laid;
  }

  pub sequence_good : (before : List PStmt) (xs : List StmtPart) (around : Around) → AllCheck xs → Good final functions ps (sequence before xs around) (StmtsAfter before around)
  sequence_good before [] around h = good_pure final functions ps before (λ s. record { more = []; is = sym (append-nil before); fine = refl; laid = of_still s s (still_same final functions ps s) })
  sequence_good before (x ∷ more) around h =
      good_bind final functions ps {f = λ y. sequence (before ++ y ∷ []) more around} (h.0 around) (λ y.
      good_weak final functions ps (sequence_good (before ++ y ∷ []) more around h.1) (λ t all u g s f. stmts_then before around y all s t u f g))

  end_good : (n : ℕ) → Good final functions ps (end_block functions n) (λ s x t. Still final functions ps s t)
  end_good n = record {
    grows = λ s. let g = grows_same s in record { texts = g.texts; locals = g.locals; params = g.params };
    keeps = λ s h e k. record { entries = take_fits final (params_of functions) n s.entries k.entries; params = k.params; short = k.short; locals = k.locals; room = k.room };
    holds = λ s h e k. record { slots = refl; blocks = refl };
  }

  abbrev pub BodyFits : Around → Body → PStmt → Body → Type 0
  BodyFits around s y t = StmtFits around s y t × ((check_of final result y).is_block ≡ true)

  block_laid : (s t u v : Body) (xs : List Start) (bs : List (List ℕ)) → Begun final functions ps result s xs t → Lays t u bs → Still final functions ps u v
      → Lays s v (map (λ (x : Start). x.slot) xs ∷ bs)
  block_laid s t u v xs bs b l e rest h =
      let inner = l rest (of_still u v e rest h) in
      and_true (and_true b.order b.block)
      (ap (λ n. blocks_fit final.slots n (s.blocks + 1) (bs ++ rest)) (sym b.count) ∙ ap (λ n. blocks_fit final.slots (slots t) n (bs ++ rest)) (sym b.blocks) ∙ inner)

  block_fits : (around : Around) (line : ℕ) (xs : List Start) (ys : List PStmt) (s t u v : Body) → Begun final functions ps result s xs t → StmtsAfter [] around t ys u
      → Still final functions ps u v → BodyFits around s (p.Block xs ys line) v
  block_fits around line xs ys s t u v b g e =
      let is = check_block final result xs ys line in (
        along is (record {
          fine = and_true b.fine (ap (λ l. all_fine (checks_of l) (around_of around)) g.is ∙ g.fine);
          laid = block_laid s t u v xs (blocks_of (checks_of ys)) b (subst (λ l. Lays t u (blocks_of (checks_of l))) (sym g.is) g.laid) e;
        }),
        ap (λ c. c.is_block) is,
      )

  pub block_from_good : (from : ℕ) (vs : List Vars) (xs : List StmtPart) (line : ℕ) (around : Around) → AllCheck xs
      → Good final functions ps (block_from functions from vs xs line around) (BodyFits around)
  block_from_good from vs list line around h =
      let ended : ℕ → List Start → List PStmt → Writes PStmt = λ n xs ys. end_block functions n >>= (λ u. pure (p.Block xs ys line)) in
      good_get final functions ps {f = λ s. begin_block functions from vs >>= (λ xs. sequence [] list around >>= ended (length s.entries) xs)} (λ x.
      good_bind final functions ps {f = λ xs. sequence [] list around >>= ended (length x.entries) xs} (begin_good final functions ps result from vs) (λ xs.
      good_bind final functions ps {f = ended (length x.entries) xs} (sequence_good [] list around h) (λ ys.
      good_map final functions ps (λ u. p.Block xs ys line) (end_good (length x.entries)) (λ u w v e t g s b same. block_fits around line xs ys s t u v b g e))))

  pub block_good : (vs : List Vars) (xs : List StmtPart) (line : ℕ) (around : Around) → AllCheck xs → Good final functions ps (block functions vs xs line around) (StmtFits around)
  block_good vs xs line around h =
      good_get final functions ps {f = λ s. block_from functions (length s.entries) vs xs line around} (λ x.
      good_weak final functions ps (block_from_good (length x.entries) vs xs line around h) (λ s y t b same. b.0))

  -- what a statement is checked for fits
  pub record PartFits (x : StmtPart) : Type 0 where
    pub check : CheckFits x
    pub body : (from : ℕ) → Good final functions ps (x.body from) (BodyFits outside)

  pub plain_fits : (line : ℕ) (check : Around → Writes PStmt) → ((around : Around) → Good final functions ps (check around) (StmtFits around))
      → PartFits (plain functions line check)
  plain_fits line check h = record {
    check = h;
    body = λ from. block_from_good from [] (record { check = check; body = λ _. check outside } ∷ []) line outside (h, tt);
  }
