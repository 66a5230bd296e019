-- Each form of statement fits the whole program, where no rule is broken.
use Rattle.std.proofs.Common.{◌≡◌, ℕ, true, false, List, [], ◌∷◌, ◌++◌, map, length, Option, Some, None, refl, sym, ap, ◌∙◌, subst, arith, append_assoc}
use Rattle.std.specs.Prelude.{nat_lt, is_some, is_none}
use Rattle.std.specs.List.{list_all}
use denote.Hole.Carrier.{out, roll}
use Rattle.std.proofs.lemmas.List.{append-nil}
use Rattle.std.proofs.lemmas.Bool.{ltb-true, lt-ltb}
use Rattle.nm_base.specs.declared.operator.Ctype.{Ctype}
use Rattle.c_tree.specs.declared.program.Slot.{Slot}
use Rattle.c_tree.specs.declared.program.PLabel.{PLabel}
use Rattle.c_tree.specs.declared.program.PExpr.{PExpr}
use Rattle.c_tree.specs.declared.program.PArm.{PArm}
use Rattle.c_tree.specs.declared.program.PStmt.{PStmt}
use Rattle.c_tree.specs.declared.program.PStmt.TheOpen.{PStmt-F}
use Rattle.c_tree.specs.declared.program.PStmt.TheVariants as p
use Rattle.c_tree.specs.declared.tree.Expr.{Expr}
use Rattle.c_tree.specs.declared.tree.Label.{Label}
use Rattle.c_tree.specs.declared.tree.Arm.{Arm, roll-Arm, out-roll-Arm}
use Rattle.c_tree.specs.declared.tree.Stmt.{Stmt, roll-Stmt, out-Stmt, out-roll-Stmt}
use Rattle.c_tree.specs.declared.tree.Stmt.TheOpen.{Stmt-F, Arm-F}
use Rattle.c_tree.specs.declared.tree.Stmt.TheBlock.{the_family, the_fold, body-Stmt, body-Arm, lays-Stmt, lays-Arm}
use Rattle.c_tree.specs.declared.tree.Stmt.TheFolds.{ind-Stmt, family, steps, map-Stmt, map_is-Stmt, map-Arm, map_is-Arm}
use Rattle.c_tree.specs.Typing as typing
use Rattle.c_tree.specs.Checks.{StmtCheck, ArmCheck, all_fine, blocks_of, arms_fine, blocks_of_arms, labels_of, labels_differ, has_labels, effect_fits, test_fits, return_fits}
use Rattle.c_tree.specs.Checks.{check_of, check_step}
use Rattle.c_checker.specs.declared.fault.CheckFault.TheVariants.{VoidValue, BreakOutside, ContinueOutside, NotConstant}
use Rattle.c_checker.specs.declared.headings.Heading.{Heading}
use Rattle.c_checker.specs.declared.state.Body.{Body}
use Rattle.c_checker.specs.declared.state.Around.{Around}
use Rattle.c_checker.specs.Found.{pure, note, unless, ◌>>=◌, ◌>>◌}
use Rattle.c_checker.specs.Statements.{Writes, visible, value, optional, labels, outside, inside_loop, inside_switch, StmtPart, ArmPart, sequence, else_part, return_faults, arms}
use Rattle.c_checker.specs.Statements.{run, if_stmt, while_stmt, do_stmt, controls, for_stmt, break_stmt, continue_stmt, return_stmt, switch_stmt, arm, plain, stmt_step, arm_step}
use Rattle.c_checker.specs.Statements.{stmt_of, arm_of}
use Rattle.c_checker.proofs.TypedLists.{unless_none, and_true}
use Rattle.c_checker.proofs.TypedSorts.{is_value_true, effect_true}
use Rattle.c_checker.proofs.TypedBodies.{Good, good_pure, good_bind, good_weak, good_map, good_noted, good_get, Still, still_same, HasValue, UsedIfAny, value_good, optional_good}
use Rattle.c_checker.proofs.TypedStmts as level
use Rattle.c_checker.proofs.TypedStmts.{LabelsAfter, labels_good, check_arm, check_empty, check_run, check_if, check_if_else, check_while, check_do, check_for, check_break}
use Rattle.c_checker.proofs.TypedStmts.{check_continue, check_return, check_switch, check_arm_is, around_of}

module _ (final : typing.Declarations) (functions : List Heading) (ps : List Slot) (result : Option Ctype) where
  abbrev Laid : Body → Body → List (List ℕ) → Type 0
  Laid s t bs = level.Lays final functions ps result s t bs

  abbrev laid_on : (s t u : Body) (cs bs : List (List ℕ)) → Laid s t cs → Laid t u bs → Laid s u (cs ++ bs)
  laid_on s t u cs bs a b = level.laid_on final functions ps result s t u cs bs a b

  abbrev of_still : (s t : Body) → Still final functions ps s t → Laid s t []
  of_still s t e = level.of_still final functions ps result s t e

  abbrev Fits : StmtCheck → Around → Body → Body → Type 0
  Fits c around s t = level.Fits final functions ps result c around s t

  abbrev pub StmtFits : Around → Body → PStmt → Body → Type 0
  StmtFits around s y t = level.StmtFits final functions ps result around s y t

  along : {c d : StmtCheck} {around : Around} {s t : Body} → c ≡ d → Fits d around s t → Fits c around s t
  along {around = around} {s = s} {t = t} e h = subst (λ c. Fits c around s t) (sym e) h

  abbrev CheckFits : StmtPart → Type 0
  CheckFits x = level.CheckFits final functions ps result x

  abbrev check : PStmt → StmtCheck
  check y = check_of final result y

  -- ---- leaves

  run_good : (e : Expr) (line : ℕ) (around : Around) → Good final functions ps (run functions e line) (StmtFits around)
  run_good e line around =
      good_map final functions ps (λ x. p.Run x line) (value_good final functions ps false e) (λ s x t h.
      along (check_run final result x line) (record { fine = effect_true final x h.fits; laid = of_still s t h.still }))

  break_good : (line : ℕ) (around : Around) → Good final functions ps (break_stmt functions line around) (StmtFits around)
  break_good line around =
      good_noted final functions ps (unless around.breaks (BreakOutside line)) (good_pure final functions ps (p.Break line) (λ s h.
      along (check_break final result line) (record { fine = unless_none around.breaks (BreakOutside line) h; laid = of_still s s (still_same final functions ps s) })))

  continue_good : (line : ℕ) (around : Around) → Good final functions ps (continue_stmt functions line around) (StmtFits around)
  continue_good line around =
      good_noted final functions ps (unless around.in_loop (ContinueOutside line)) (good_pure final functions ps (p.Continue line) (λ s h.
      along (check_continue final result line) (record { fine = unless_none around.in_loop (ContinueOutside line) h; laid = of_still s s (still_same final functions ps s) })))

  empty_good : (line : ℕ) (around : Around) → Good final functions ps (pure (p.Empty line)) (StmtFits around)
  empty_good line around = good_pure final functions ps (p.Empty line) (λ s. along (check_empty final result line) (record { fine = refl; laid = of_still s s (still_same final functions ps s) }))

  returns : (e : Option Expr) (x : Option PExpr) (line : ℕ) → return_faults result e line ≡ [] → is_none x ≡ is_none e → UsedIfAny final functions ps true x
      → return_fits final result x ≡ true
  returns e None line h a u = refl
  returns None (Some y) line h a u = cc
  returns (Some e) (Some y) line h a u = and_true (unless_none (is_some result) (VoidValue line) h) (is_value_true final y u)

  return_good : (e : Option Expr) (line : ℕ) (around : Around) → Good final functions ps (return_stmt functions result e line) (StmtFits around)
  return_good e line around =
      good_noted final functions ps (return_faults result e line) (good_map final functions ps (λ x. p.Return x line) (optional_good final functions ps true e) (λ s x t h n.
      along (check_return final result x line) (record { fine = returns e x line n h.alike h.fits; laid = of_still s t h.still })))

  -- ---- `if` and the loops

  abbrev ElseFits : Around → Body → Option PStmt → Body → Type 0
  ElseFits around s None t = Laid s t []
  ElseFits around s (Some z) t = StmtFits around s z t

  abbrev ElseCheck : Option StmtPart → Type 0
  ElseCheck None = Unit {0}
  ElseCheck (Some x) = CheckFits x

  else_good : (x : Option StmtPart) (around : Around) → ElseCheck x → Good final functions ps (else_part x around) (ElseFits around)
  else_good None around h = good_pure final functions ps None (λ s. of_still s s (still_same final functions ps s))
  else_good (Some x) around h = good_map final functions ps Some (h around) (λ s y t f. f)

  if_fits : (around : Around) (line : ℕ) (x : PExpr) (y : PStmt) (z : Option PStmt) (s t u v : Body) → HasValue final functions ps true s x t → StmtFits around t y u
      → ElseFits around u z v → StmtFits around s (p.If x y z line) v
  if_fits around line x y None s t u v a b c =
      along (check_if final result x y line) (record {
        fine = and_true (and_true (is_value_true final x a.fits) b.fine) refl;
        laid = laid_on s t v [] ((check y).blocks ++ []) (of_still s t a.still) (laid_on t u v (check y).blocks [] b.laid c);
      })
  if_fits around line x y (Some z) s t u v a b c =
      along (check_if_else final result x y z line) (record {
        fine = and_true (and_true (is_value_true final x a.fits) b.fine) c.fine;
        laid = laid_on s t v [] ((check y).blocks ++ (check z).blocks) (of_still s t a.still) (laid_on t u v (check y).blocks (check z).blocks b.laid c.laid);
      })

  if_good : (test : Expr) (first : StmtPart) (second : Option StmtPart) (line : ℕ) (around : Around) → CheckFits first → ElseCheck second
      → Good final functions ps (if_stmt functions test first second line around) (StmtFits around)
  if_good test first second line around f g =
      good_bind final functions ps {f = λ x. first.check around >>= (λ y. else_part second around >>= (λ z. pure (p.If x y z line)))} (value_good final functions ps true test) (λ x.
      good_bind final functions ps {f = λ y. else_part second around >>= (λ z. pure (p.If x y z line))} (f around) (λ y.
      good_map final functions ps (λ z. p.If x y z line) (else_good second around g) (λ u z v c t b s a. if_fits around line x y z s t u v a b c)))

  while_fits : (around : Around) (line : ℕ) (x : PExpr) (y : PStmt) (s t u : Body) → HasValue final functions ps true s x t → StmtFits inside_loop t y u
      → StmtFits around s (p.While x y line) u
  while_fits around line x y s t u a b =
      along (check_while final result x y line) (record { fine = and_true (is_value_true final x a.fits) b.fine; laid = laid_on s t u [] (check y).blocks (of_still s t a.still) b.laid })

  while_good : (test : Expr) (body : StmtPart) (line : ℕ) (around : Around) → CheckFits body → Good final functions ps (while_stmt functions test body line) (StmtFits around)
  while_good test body line around f =
      good_bind final functions ps {f = λ x. body.check inside_loop >>= (λ y. pure (p.While x y line))} (value_good final functions ps true test) (λ x.
      good_map final functions ps (λ y. p.While x y line) (f inside_loop) (λ t y u b s a. while_fits around line x y s t u a b))

  do_fits : (around : Around) (line : ℕ) (x : PExpr) (y : PStmt) (s t u : Body) → StmtFits inside_loop s y t → HasValue final functions ps true t x u
      → StmtFits around s (p.Do y x line) u
  do_fits around line x y s t u a b =
      along (check_do final result y x line) (record {
        fine = and_true (is_value_true final x b.fits) a.fine;
        laid = subst (Laid s u) (append-nil (check y).blocks) (laid_on s t u (check y).blocks [] a.laid (of_still t u b.still));
      })

  do_good : (body : StmtPart) (test : Expr) (line : ℕ) (around : Around) → CheckFits body → Good final functions ps (do_stmt functions body test line) (StmtFits around)
  do_good body test line around f =
      good_bind final functions ps {f = λ y. value functions true test >>= (λ x. pure (p.Do y x line))} (f inside_loop) (λ y.
      good_map final functions ps (λ x. p.Do y x line) (value_good final functions ps true test) (λ t x u b s a. do_fits around line x y s t u a b))

  -- the three parts of a `for`
  record Controls (s : Body) (c : Option PExpr × Option PExpr × Option PExpr) (t : Body) : Type 0 where
    first : effect_fits final result c.0 ≡ true
    test : test_fits final result c.1 ≡ true
    third : effect_fits final result c.2 ≡ true
    laid : Laid s t []

  controls_good : (first test third : Option Expr) → Good final functions ps (controls functions first test third) Controls
  controls_good first test third =
      good_bind final functions ps {f = λ x. optional functions true test >>= (λ y. optional functions false third >>= (λ z. pure (x, y, z)))} (optional_good final functions ps false first) (λ x.
      good_bind final functions ps {f = λ y. optional functions false third >>= (λ z. pure (x, y, z))} (optional_good final functions ps true test) (λ y.
      good_map final functions ps (λ z. (x, y, z)) (optional_good final functions ps false third) (λ u z v c t b s a.
      record {
        first = level.effect_if_any final functions ps result x a.fits;
        test = level.test_if_any final functions ps result y b.fits;
        third = level.effect_if_any final functions ps result z c.fits;
        laid = laid_on s t v [] [] (of_still s t a.still) (laid_on t u v [] [] (of_still t u b.still) (of_still u v c.still));
      })))

  for_fits : (around : Around) (line : ℕ) (c : Option PExpr × Option PExpr × Option PExpr) (y : PStmt) (s t u : Body) → Controls s c t → StmtFits inside_loop t y u
      → StmtFits around s (p.For c.0 c.1 c.2 y line) u
  for_fits around line c y s t u a b =
      along (check_for final result c.0 c.1 c.2 y line) (record {
        fine = and_true (and_true (and_true a.first a.test) a.third) b.fine;
        laid = laid_on s t u [] (check y).blocks a.laid b.laid;
      })

  for_good : (first test third : Option Expr) (body : StmtPart) (line : ℕ) (around : Around) → CheckFits body
      → Good final functions ps (for_stmt functions first test third body line) (StmtFits around)
  for_good first test third body line around f =
      good_bind final functions ps {f = λ c. body.check inside_loop >>= (λ b. pure (p.For c.0 c.1 c.2 b line))} (controls_good first test third) (λ c.
      good_map final functions ps (λ b. p.For c.0 c.1 c.2 b line) (f inside_loop) (λ t y u b s a. for_fits around line c y s t u a b))

  -- ---- switches

  -- an arm after labels of its switch
  record ArmFits (before : List PLabel) (around : Around) (s : Body) (y : PArm) (t : Body) : Type 0 where
    fine : (check_arm final result y).is_fine (around_of around) ≡ true
    laid : Laid s t (check_arm final result y).blocks
    labelled : has_labels (check_arm final result y) ≡ true
    differ : labels_differ before ≡ true → labels_differ (before ++ y.labels) ≡ true
    same : (check_arm final result y).labels ≡ y.labels

  abbrev ArmChecks : ArmPart → Type 0
  ArmChecks x = (before : List PLabel) (line : ℕ) (around : Around) → Good final functions ps (x.check before line around) (ArmFits before around)

  arm_fits : (before : List PLabel) (around : Around) (n line : ℕ) (ls : List PLabel) (ys : List PStmt) (s t u : Body) → unless (nat_lt 0 n) (NotConstant line) ≡ []
      → LabelsAfter final functions ps before [] n s ls t → level.StmtsAfter final functions ps result [] around t ys u
      → ArmFits before around s (record { labels = ls; list = ys }) u
  arm_fits before around n line ls ys s t u h l g =
      let is = check_arm_is final result ls ys in
      let some = ltb-true 0 n (unless_none (nat_lt 0 n) (NotConstant line) h) in
      record {
        fine = ap (λ c. c.is_fine (around_of around)) is ∙ ap (λ l. all_fine (map check l) (around_of around)) g.is ∙ g.fine;
        laid = subst (λ c. Laid s u c.blocks) (sym is) (subst (λ l. Laid s u (blocks_of (map check l))) (sym g.is) (laid_on s t u [] (blocks_of (map check g.more)) (of_still s t l.still) g.laid));
        labelled = ap has_labels is ∙ lt-ltb 0 (length ls) (omega (arith, l.count, some));
        differ = λ d. l.differ (subst (λ l. labels_differ l ≡ true) (sym (append-nil before)) d);
        same = ap (λ c. c.labels) is;
      }

  arm_good : (these : List Label) (list : List StmtPart) → level.AllCheck final functions ps result list → (before : List PLabel) (line : ℕ) (around : Around)
      → Good final functions ps (arm functions these list before line around) (ArmFits before around)
  arm_good these list f before line around =
      let made : List PLabel → List PStmt → PArm = λ ls xs. record { labels = ls; list = xs } in
      let some = unless (nat_lt 0 (length these)) (NotConstant line) in
      good_get final functions ps {f = λ s. note some >> (labels (visible functions s) before [] these >>= (λ ls. sequence [] list around >>= (λ xs. pure (made ls xs))))} (λ x.
      good_noted final functions ps some
      (good_bind final functions ps {f = λ ls. sequence [] list around >>= (λ xs. pure (made ls xs))} (labels_good final functions ps (visible functions x) before [] these) (λ ls.
      good_map final functions ps (made ls) (level.sequence_good final functions ps result [] list around f) (λ t ys u g s l h same.
      arm_fits before around (length these) line ls ys s t u h l g))))

  abbrev AllArms : List ArmPart → Type 0
  AllArms [] = Unit {0}
  AllArms (x ∷ xs) = ArmChecks x × AllArms xs

  abbrev arm_checks : List PArm → List ArmCheck
  arm_checks ys = map (check_arm final result) ys

  record ArmsAfter (before : List PLabel) (these : List PArm) (around : Around) (s : Body) (all : List PArm) (t : Body) : Type 0 where
    more : List PArm
    is : all ≡ these ++ more
    fine : arms_fine (arm_checks more) (around_of around) ≡ true
    laid : Laid s t (blocks_of_arms (arm_checks more))
    labelled : list_all has_labels (arm_checks more) ≡ true
    differ : labels_differ before ≡ true → labels_differ (before ++ labels_of (arm_checks more)) ≡ true

  arms_then : (before : List PLabel) (these : List PArm) (around : Around) (y : PArm) (all : List PArm) (s t u : Body) → ArmFits before around s y t
      → ArmsAfter (before ++ y.labels) (these ++ y ∷ []) around t all u → ArmsAfter before these around s all u
  arms_then before these around y all s t u h g =
      let rest = labels_of (arm_checks g.more) in
      record {
        more = y ∷ g.more;
        is = g.is ∙ append_assoc these (y ∷ []) g.more;
        fine = and_true h.fine g.fine;
        laid = laid_on s t u (check_arm final result y).blocks (blocks_of_arms (arm_checks g.more)) h.laid g.laid;
        labelled = and_true h.labelled g.labelled;
        differ = λ d. subst (λ l. labels_differ (before ++ (l ++ rest)) ≡ true) (sym h.same) (subst (λ l. labels_differ l ≡ true) (append_assoc before y.labels rest) (g.differ (h.differ d)));
      }

  arms_good : (xs : List ArmPart) (before : List PLabel) (these : List PArm) (line : ℕ) (around : Around) → AllArms xs
      → Good final functions ps (arms xs before these line around) (ArmsAfter before these around)
  arms_good [] before these line around h = good_pure final functions ps these (λ s. record {
    more = [];
    is = sym (append-nil these);
    fine = refl;
    laid = of_still s s (still_same final functions ps s);
    labelled = refl;
    differ = λ d. subst (λ l. labels_differ l ≡ true) (sym (append-nil before)) d;
  })
  arms_good (x ∷ more) before these line around h =
      good_bind final functions ps {f = λ y. arms more (before ++ y.labels) (these ++ y ∷ []) line around} (h.0 before line around) (λ y.
      good_weak final functions ps (arms_good more (before ++ y.labels) (these ++ y ∷ []) line around h.1) (λ t all u g s f. arms_then before these around y all s t u f g))

  switch_fits : (around : Around) (line : ℕ) (x : PExpr) (ys : List PArm) (s t u : Body) → HasValue final functions ps true s x t → ArmsAfter [] [] (inside_switch around) t ys u
      → StmtFits around s (p.Switch x ys line) u
  switch_fits around line x ys s t u a g =
      along (check_switch final result x ys line) (subst (λ l. Fits (check_step final result (PStmt-F.Switch x (arm_checks l) line)) around s u) (sym g.is) (record {
        fine = and_true (and_true (and_true (is_value_true final x a.fits) g.fine) g.labelled) (g.differ refl);
        laid = laid_on s t u [] (blocks_of_arms (arm_checks g.more)) (of_still s t a.still) g.laid;
      }))

  switch_good : (on : Expr) (list : List ArmPart) (line : ℕ) (around : Around) → AllArms list
      → Good final functions ps (switch_stmt functions on list line around) (StmtFits around)
  switch_good on list line around f =
      good_bind final functions ps {f = λ x. arms list [] [] line (inside_switch around) >>= (λ xs. pure (p.Switch x xs line))} (value_good final functions ps true on) (λ x.
      good_map final functions ps (λ xs. p.Switch x xs line) (arms_good list [] [] line (inside_switch around) f) (λ t ys u g s a. switch_fits around line x ys s t u a g))

-- ---- all statements

module _ (functions : List Heading) (result : Option Ctype) where
  stmt_roll : (x : Stmt-F Stmt Arm)
      → stmt_of functions result (roll-Stmt x) ≡ stmt_step functions result (map-Stmt Stmt Arm StmtPart ArmPart (stmt_of functions result) (arm_of functions result) x)
  unfolding stmt_of arm_of out-Stmt roll-Stmt out
  stmt_roll x =
      let A = family StmtPart ArmPart in
      let S = steps StmtPart ArmPart (stmt_step functions result) (arm_step functions result) in
      lays-Stmt A S (roll-Stmt x)
      ∙ ap (λ l. stmt_step functions result ((body-Stmt).map the_family A (the_fold A S) l)) (out-roll-Stmt x)
      ∙ ap (stmt_step functions result) (map_is-Stmt the_family A (the_fold A S) x)

  arm_roll : (x : Arm-F Stmt Arm)
      → arm_of functions result (roll-Arm x) ≡ arm_step functions result (map-Arm Stmt Arm StmtPart ArmPart (stmt_of functions result) (arm_of functions result) x)
  unfolding stmt_of arm_of out roll
  arm_roll x =
      let A = family StmtPart ArmPart in
      let S = steps StmtPart ArmPart (stmt_step functions result) (arm_step functions result) in
      lays-Arm A S (roll-Arm x)
      ∙ ap (λ l. arm_step functions result ((body-Arm).map the_family A (the_fold A S) l)) (out-roll-Arm x)
      ∙ ap (arm_step functions result) (map_is-Arm the_family A (the_fold A S) x)

module _ (final : typing.Declarations) (functions : List Heading) (ps : List Slot) (result : Option Ctype) where
  abbrev PartFits : StmtPart → Type 0
  PartFits x = level.PartFits final functions ps result x

  abbrev TreeFits : Stmt → Type 0
  TreeFits x = PartFits (stmt_of functions result x)

  abbrev ArmTreeFits : Arm → Type 0
  ArmTreeFits x = ArmChecks final functions ps result (arm_of functions result x)

  abbrev Child : Type 0
  Child = (x : Stmt) × TreeFits x

  abbrev ArmChild : Type 0
  ArmChild = (x : Arm) × ArmTreeFits x

  abbrev parts : List Child → List StmtPart
  parts xs = map (stmt_of functions result) (map (λ x. x.0) xs)

  all_check : (xs : List Child) → level.AllCheck final functions ps result (parts xs)
  all_check [] = tt
  all_check (x ∷ xs) = (x.1.check, all_check xs)

  all_arms : (xs : List ArmChild) → AllArms final functions ps result (map (arm_of functions result) (map (λ x. x.0) xs))
  all_arms [] = tt
  all_arms (x ∷ xs) = (x.1, all_arms xs)

  abbrev plain_fits : (line : ℕ) (check : Around → Writes PStmt) → ((around : Around) → Good final functions ps (check around) (StmtFits final functions ps result around))
      → PartFits (plain functions line check)
  plain_fits line check h = level.plain_fits final functions ps result line check h

  abbrev trees : Stmt-F Child ArmChild → Stmt-F Stmt Arm
  trees y = map-Stmt Child ArmChild Stmt Arm (λ x. x.0) (λ x. x.0) y

  step_fits : (y : Stmt-F Child ArmChild)
      → PartFits (stmt_step functions result (map-Stmt Stmt Arm StmtPart ArmPart (stmt_of functions result) (arm_of functions result) (trees y)))
  step_fits (Stmt-F.Block vars list line) = record {
    check = λ around. level.block_good final functions ps result vars (parts list) line around (all_check list);
    body = λ from. level.block_from_good final functions ps result from vars (parts list) line outside (all_check list);
  }
  step_fits (Stmt-F.Empty line) = plain_fits line _ (λ around. empty_good final functions ps result line around)
  step_fits (Stmt-F.Run e line) = plain_fits line _ (λ around. run_good final functions ps result e line around)
  step_fits (Stmt-F.If test first None line) = plain_fits line _ (λ around. if_good final functions ps result test (stmt_of functions result first.0) None line around first.1.check tt)
  step_fits (Stmt-F.If test first (Some second) line) = plain_fits line _ (λ around.
      if_good final functions ps result test (stmt_of functions result first.0) (Some (stmt_of functions result second.0)) line around first.1.check second.1.check)
  step_fits (Stmt-F.While test body line) = plain_fits line _ (λ around. while_good final functions ps result test (stmt_of functions result body.0) line around body.1.check)
  step_fits (Stmt-F.Do body test line) = plain_fits line _ (λ around. do_good final functions ps result (stmt_of functions result body.0) test line around body.1.check)
  step_fits (Stmt-F.For first test third body line) = plain_fits line _ (λ around. for_good final functions ps result first test third (stmt_of functions result body.0) line around body.1.check)
  step_fits (Stmt-F.Break line) = plain_fits line _ (λ around. break_good final functions ps result line around)
  step_fits (Stmt-F.Continue line) = plain_fits line _ (λ around. continue_good final functions ps result line around)
  step_fits (Stmt-F.Return e line) = plain_fits line _ (λ around. return_good final functions ps result e line around)
  step_fits (Stmt-F.Switch on list line) = plain_fits line _ (λ around. switch_good final functions ps result on _ line around (all_arms list))

  abbrev arm_trees : Arm-F Child ArmChild → Arm-F Stmt Arm
  arm_trees y = map-Arm Child ArmChild Stmt Arm (λ x. x.0) (λ x. x.0) y

  arm_step_fits : (y : Arm-F Child ArmChild)
      → ArmChecks final functions ps result (arm_step functions result (map-Arm Stmt Arm StmtPart ArmPart (stmt_of functions result) (arm_of functions result) (arm_trees y)))
  arm_step_fits y = arm_good final functions ps result y.labels (parts y.list) (all_check y.list)

  rolled : (x : Stmt-F Stmt Arm) (y : Stmt-F Child ArmChild) → trees y ≡ x → TreeFits (roll-Stmt x)
  rolled x y is = subst (λ z. TreeFits (roll-Stmt z)) is (subst PartFits (sym (stmt_roll functions result (trees y))) (step_fits y))

  arm_rolled : (x : Arm-F Stmt Arm) (y : Arm-F Child ArmChild) → arm_trees y ≡ x → ArmTreeFits (roll-Arm x)
  arm_rolled x y is = subst (λ z. ArmTreeFits (roll-Arm z)) is (subst (ArmChecks final functions ps result) (sym (arm_roll functions result (arm_trees y))) (arm_step_fits y))

  pub stmt_fits : (x : Stmt) → level.PartFits final functions ps result (stmt_of functions result x)
  stmt_fits = ind-Stmt TreeFits ArmTreeFits rolled arm_rolled
