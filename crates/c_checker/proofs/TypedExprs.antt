-- Expressions fit the whole program, where no rule is broken.
use Rattle.std.proofs.Common.{◌≡◌, ℕ, Bool, true, false, List, [], ◌∷◌, map, sym, ap, ◌∙◌, subst}
use denote.Hole.Carrier.{out}
use Rattle.c_tree.specs.declared.program.PExpr.{PExpr}
use Rattle.c_tree.specs.declared.tree.Expr.{Expr, ind-Expr, roll-Expr, out-Expr, out-roll-Expr}
use Rattle.c_tree.specs.declared.tree.Expr.TheOpen.{Expr-F}
use Rattle.c_tree.specs.declared.tree.Expr.TheBlock.{the_family, the_fold, body-Expr, lays-Expr}
use Rattle.c_tree.specs.declared.tree.Expr.TheFolds.{family, steps, map-Expr, map_is-Expr}
use Rattle.c_tree.specs.Typing as typing
use Rattle.c_checker.specs.Found.{broken}
use Rattle.c_checker.specs.Scope.{ScopeNames}
use Rattle.c_checker.specs.Expressions.{Reads, ExprCheck, valued, nothing, unary_of, binary_of, choose_of, and_of, or_of, comma_of, bump_of, assign_of, element, part_step, part_of}
use Rattle.c_checker.specs.declared.fault.CheckFault.TheVariants.{NotAssignable, NotArray, Format}
use Rattle.c_checker.proofs.TypedSorts.{IsValue, Used, value_used, place_value, const_is, unary_is, binary_is, and_is, or_is, choose_is, comma_is, bump_is, assign_is}
use Rattle.c_checker.proofs.TypedReads.{Good, good_pure, good_broken, good_weak, good_map, good_both, good_three, good_after}
use Rattle.c_checker.proofs.TypedParts.{ThingFits, NamesFit, PartFits, AllFit, value_named, place_named, array_named, loose_named, element_good, element_place_good, call_good}

pub part_roll : (names : ScopeNames) (x : Expr-F Expr) → part_of names (roll-Expr x) ≡ part_step names (map-Expr Expr ExprCheck (part_of names) x)
unfolding part_of out-Expr roll-Expr out
part_roll names x =
    lays-Expr (family ExprCheck) (steps ExprCheck (part_step names)) (roll-Expr x)
    ∙ ap (λ l. part_step names ((body-Expr).map the_family (family ExprCheck) (the_fold (family ExprCheck) (steps ExprCheck (part_step names))) l)) (out-roll-Expr x)
    ∙ ap (part_step names) (map_is-Expr the_family (family ExprCheck) (the_fold (family ExprCheck) (steps ExprCheck (part_step names))) x)

module _ (final : typing.Declarations) (H : Type 0) where
  valued_fits : (line : ℕ) (value : Bool → Reads PExpr) → ((used : Bool) → Good final.texts H (value used) (Used final used)) → PartFits final H (valued line value)
  valued_fits line value h = record {
    value = h;
    place = λ at. good_after final.texts H (NotAssignable at) (nothing line) (h true);
    array = λ of. good_after final.texts H (NotArray line) (nothing line) (h true);
    loose = good_weak final.texts H (h true) (λ e v. tt);
  }

  -- of one that has a value whether it is used or not
  plain_fits : (line : ℕ) (value : Bool → Reads PExpr) → ((used : Bool) → Good final.texts H (value used) (IsValue final)) → PartFits final H (valued line value)
  plain_fits line value h = valued_fits line value (λ used. good_weak final.texts H (h used) (value_used final used))

  module _ (names : ScopeNames) (fit : H → NamesFit final names) where
    abbrev ExprFits : Expr → Type 0
    ExprFits e = PartFits final H (part_of names e)

    abbrev Child : Type 0
    Child = (e : Expr) × ExprFits e

    abbrev trees : Expr-F Child → Expr-F Expr
    trees y = map-Expr Child Expr (λ c. c.0) y

    all_fit : (xs : List Child) → AllFit final H (map (part_of names) (map (λ c. c.0) xs))
    all_fit [] = tt
    all_fit (x ∷ xs) = (x.1, all_fit xs)

    step_fits : (y : Expr-F Child) → PartFits final H (part_step names (map-Expr Expr ExprCheck (part_of names) (trees y)))
    step_fits (Expr-F.Const bits of line) = plain_fits line _ (λ used. good_pure final.texts H _ (λ w. const_is final bits of line))
    step_fits (Expr-F.Text bytes line) =
        let f = valued_fits line (λ used. broken (Format line) (nothing line)) (λ used. good_broken final.texts H (Format line) (nothing line)) in
        record { value = f.value; place = f.place; array = f.array; loose = f.loose }
    step_fits (Expr-F.Name name line) = record {
      value = λ used. value_named final H names.params (names.find name) line used (λ w. (fit w).things name);
      place = λ at. place_named final H names.params (names.find name) line at (λ w. (fit w).things name);
      array = λ of. array_named final H names.params (names.find name) line of (λ w. (fit w).things name);
      loose = loose_named final H (names.find name) line;
    }
    step_fits (Expr-F.At name index line) =
        let thing = names.find name in
        let known : H → ThingFits final names.params thing = λ w. (fit w).things name in
        let f = plain_fits line (λ used. element thing line (part_of names index.0)) (λ used.
        good_weak final.texts H (element_good final H names.params thing line _ known index.1) (place_value final)) in
        record { value = f.value; place = λ at. element_place_good final H names.params thing line _ at known index.1; array = f.array; loose = f.loose }
    step_fits (Expr-F.Call name args line) = valued_fits line _ (λ used. call_good final H names (names.find name) _ line used (λ w. (fit w).things name) (all_fit args))
    step_fits (Expr-F.Paren part line) = let f = valued_fits line (part_of names part.0).value (part.1).value in record { value = f.value; place = (part.1).place; array = f.array; loose = f.loose }
    step_fits (Expr-F.Unary op part line) = plain_fits line _ (λ used. good_map final.texts H (λ x. unary_of op x line) ((part.1).value true) (λ x v. unary_is final op x line v))
    step_fits (Expr-F.Bump up before part line) =
        plain_fits line _ (λ used. good_map final.texts H (λ x. bump_of up before x line) ((part.1).place (part_of names part.0).line) (λ x v. bump_is final up before x line v))
    step_fits (Expr-F.Binary op left right line) =
        plain_fits line _ (λ used. good_map final.texts H (λ p. binary_of op p.0 p.1 line)
        (good_both final.texts H ((left.1).value true) ((right.1).value true)) (λ p v. binary_is final op p.0 p.1 line v.0 v.1))
    step_fits (Expr-F.And left right line) =
        plain_fits line _ (λ used. good_map final.texts H (λ p. and_of p.0 p.1 line)
        (good_both final.texts H ((left.1).value true) ((right.1).value true)) (λ p v. and_is final p.0 p.1 line v.0 v.1))
    step_fits (Expr-F.Or left right line) =
        plain_fits line _ (λ used. good_map final.texts H (λ p. or_of p.0 p.1 line)
        (good_both final.texts H ((left.1).value true) ((right.1).value true)) (λ p v. or_is final p.0 p.1 line v.0 v.1))
    step_fits (Expr-F.Choose test first second line) =
        plain_fits line _ (λ used. good_map final.texts H (λ p. choose_of p.0 p.1 p.2 line)
        (good_three final.texts H ((test.1).value true) ((first.1).value true) ((second.1).value true)) (λ p v. choose_is final p.0 p.1 p.2 line v.0 v.1 v.2))
    step_fits (Expr-F.Comma left right line) =
        valued_fits line _ (λ used. good_map final.texts H (λ p. comma_of p.0 p.1 line)
        (good_both final.texts H ((left.1).value false) ((right.1).value used)) (λ p v. comma_is final used p.0 p.1 line v.0 v.1))
    step_fits (Expr-F.Assign op place value line) =
        plain_fits line _ (λ used. good_map final.texts H (λ p. assign_of op p.0 p.1 line)
        (good_both final.texts H ((place.1).place (part_of names place.0).line) ((value.1).value true)) (λ p v. assign_is final op p.0 p.1 line v.0 v.1))

    rolled : (x : Expr-F Expr) (y : Expr-F Child) → trees y ≡ x → ExprFits (roll-Expr x)
    rolled x y is = subst (λ z. ExprFits (roll-Expr z)) is (subst (PartFits final H) (sym (part_roll names (trees y))) (step_fits y))

    pub expr_fits : (e : Expr) → PartFits final H (part_of names e)
    expr_fits = ind-Expr ExprFits rolled
