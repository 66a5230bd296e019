-- A call, by its arguments.
use Rattle.std.proofs.Common.{◌≡◌, ℕ, Bool, List, ◌∷◌, sym, subst, ap, ◌∙◌, refl, Result, Ok, Err}
use Rattle.c_tree.specs.declared.program.PExpr.{PExpr}
use Rattle.c_tree.specs.declared.program.Slot.{Slot}
use Rattle.c_checker.specs.declared.fault.CheckFault.{CheckFault}
use Rattle.c_checker.specs.declared.fault.CheckFault.TheVariants.{NotAssignable}
use Rattle.c_checker.specs.declared.entries.Thing.{Thing}
use Rattle.c_checker.specs.declared.entries.Thing.TheVariants.{Scalar, Array, Function, BuiltIn, Unknown}
use Rattle.c_checker.specs.Found.{Check, fine, ◌>>=◌, ◌>>◌, pure, note, unless, Refuses, CheckGives}
use Rattle.c_checker.proofs.Found.{refuses_left}
use Rattle.c_tree.specs.declared.tree.Expr.{Expr}
use Rattle.c_checker.specs.Scope.{ScopeNames}
use Rattle.c_checker.specs.Expressions.{ExprCheck, part_of, argument, arguments, element, element_place, is_array}

-- what follows a part that breaks no rule
pub bind_fine : {S A B : Type 0} (m : Check S A) (k : A → Check S B) (s t : S) (x : A) → m s ≡ fine x t → (m >>= k) s ≡ k x t
bind_fine m k s t x h = rw h refl

pub arguments_err : (x : Slot) (xs : List Slot) (before : List PExpr) (a : ExprCheck) (more : List ExprCheck) (s : List (List ℕ)) (f : CheckFault) → Refuses (argument a x s).faults f
    → Refuses (arguments (x ∷ xs) before (a ∷ more) s).faults f
arguments_err x xs before a more s f h = refuses_left _ _ f h

-- an element that is found is a place
pub as_place : (thing : Thing) (line : ℕ) (index : ExprCheck) (target : ℕ) (s t : List (List ℕ)) (r : Result PExpr CheckFault) → CheckGives (element thing line index s) r t
    → CheckGives (element_place thing line index target s) r t
as_place thing line index target s t (Err f) h = refuses_left _ _ f h
as_place (Array what of) line index target s t (Ok e) h = bind_fine (element (Array what of) line index) (λ x. note (unless (is_array (Array what of)) (NotAssignable target)) >> pure x) s t e h
as_place (Scalar what of) line index target s t (Ok e) h = let no = ap (λ x. x.faults) h in absurd cc
as_place (Function number result) line index target s t (Ok e) h = let no = ap (λ x. x.faults) h in absurd cc
as_place (BuiltIn b) line index target s t (Ok e) h = let no = ap (λ x. x.faults) h in absurd cc
as_place Unknown line index target s t (Ok e) h = let no = ap (λ x. x.faults) h in absurd cc

-- a value, by the form of the expression
pub value_form : (names : ScopeNames) (e form : Expr) (p : ExprCheck) (used : Bool) (s t : List (List ℕ)) (r : Result PExpr CheckFault) → e ≡ form → part_of names form ≡ p
    → CheckGives (p.value used s) r t → CheckGives ((part_of names e).value used s) r t
value_form names e form p used s t r is same h = subst (λ p. CheckGives (p.value used s) r t) (sym (ap (part_of names) is ∙ same)) h

-- the same of a place
pub place_form : (names : ScopeNames) (e form : Expr) (p : ExprCheck) (target : ℕ) (s t : List (List ℕ)) (r : Result PExpr CheckFault) → e ≡ form → part_of names form ≡ p
    → CheckGives (p.place target s) r t → CheckGives ((part_of names e).place target s) r t
place_form names e form p target s t r is same h = subst (λ p. CheckGives (p.place target s) r t) (sym (ap (part_of names) is ∙ same)) h
