use Rattle.std.proofs.Common.{rules, ◌≡◌, ◌∷◌, [], ◌++◌, length, map, sym, ap, ◌∙◌, append_assoc, append-nil, subst, arith, true}
use Rattle.std.specs.List.{list_all}
use Rattle.std.specs.Vec.Iter.{into_iter_items}
use Rattle.stack_code.specs.Blocks.{function_of, is_kept}
use Rattle.stack_code.specs.Layout.{functions_in}
use Rattle.stack_code.proofs.Laid.{both}
use Rattle.stack_code.proofs.Laying.{nothing_left}
use Rattle.stack_code.proofs.layout.Layout.of.Goals as goal

pub push-requires-clause-kept : goal.push-requires-clause-kept
push-requires-clause-kept c =
    let at = c.loop-function in
    let x = c.in-Some.function in
    let steps : into_iter_items at.function-iterator ≡ x ∷ into_iter_items c.next.new.self = c.in-Some.ensures.steps.0 in
    (both (is_kept x) (list_all is_kept (into_iter_items c.next.new.self)) (subst (λ l. list_all is_kept l ≡ true) steps at.invariant.2)).0

pub loop-function-init : goal.loop-function-init
loop-function-init c =
    let it = c.into_iter-function-iterator in
    (c.in_ok-layout.ensures.laid, ap (λ l. l ++ map function_of (into_iter_items it.result)) c.in_ok-layout.ensures.same, subst (λ l. list_all is_kept l ≡ true) (sym it.ensures.into_iter_gives.0) c.requires, search rules)

pub loop-function-preserved : goal.loop-function-preserved
loop-function-preserved c =
    let at = c.loop-function in
    let x = c.in-Some.function in
    let left = into_iter_items c.next.new.self in
    let steps : into_iter_items at.function-iterator ≡ x ∷ left = c.in-Some.ensures.steps.0 in (
      c.in_ok-push.ensures.laid,
      ap (λ l. l ++ map function_of left) c.in_ok-push.ensures.same
          ∙ append_assoc (functions_in at.layout) (function_of x ∷ []) (map function_of left)
          ∙ ap (λ l. functions_in at.layout ++ map function_of l) (sym steps)
          ∙ at.invariant.1,
      (both (is_kept x) (list_all is_kept left) (subst (λ l. list_all is_kept l ≡ true) steps at.invariant.2)).1,
      let was = at.invariant.3 in
          let gone = c.in-Some.ensures.steps.1 in
          let short = ap length steps in
          omega arith,
    )

pub returns : goal.returns
returns c =
    let at = c.loop-function in
    let none = c.in-None.ensures.steps in
    let empty : into_iter_items at.function-iterator ≡ [] = nothing_left _ (sym at.invariant.3 ∙ none.0) in
    record {
      laid = at.invariant.0;
      same = sym (append-nil (functions_in at.layout))
          ∙ ap (λ l. functions_in at.layout ++ map function_of l) (sym empty)
          ∙ at.invariant.1
          ∙ ap (map function_of) c.into_iter-function-iterator.ensures.into_iter_gives.0;
    }
