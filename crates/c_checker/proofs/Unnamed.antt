-- What is neither an array's name nor a place.
use Rattle.std.proofs.Common.{◌≡◌, ℕ, List, None, refl, sym, subst, ap, ◌∙◌, inl, inr}
use Rattle.nm_base.specs.declared.operator.Ctype.{Ctype}
use Rattle.c_tree.specs.declared.tree.Expr.{Expr, roll-Expr, out-Expr, roll-out-Expr}
use Rattle.c_tree.specs.declared.tree.Expr.TheVariants.{Name, At, Paren, Text, rolls-Text, rolls-Name, rolls-At, rolls-Paren}
use Rattle.c_checker.specs.declared.fault.CheckFault.TheVariants.{NotArray, NotAssignable}
use Rattle.c_checker.specs.Found.{Refuses}
use Rattle.c_checker.specs.Scope.{ScopeNames}
use Rattle.c_tree.specs.declared.tree.Expr.TheOpen.{Expr-F}
use Rattle.c_tree.specs.declared.tree.Expr.TheFolds.{map-Expr}
use Rattle.c_checker.specs.Expressions.{ExprCheck, part_step, part_of}
use Rattle.c_checker.proofs.Forms.{part_roll}

module _ (names : ScopeNames) where
  abbrev level : Expr-F Expr → ExprCheck
  level x = part_step names (map-Expr Expr ExprCheck (part_of names) x)

  abbrev RefusesArray : ExprCheck → Type 0
  RefusesArray p = (of : Ctype) (texts : List (List ℕ)) → Refuses (p.array of texts).faults (NotArray p.line)

  level_array : (x : Expr-F Expr) → ((n : List ℕ) (l : ℕ) → roll-Expr x ≡ Name n l → ⊥) → RefusesArray (level x)
  level_array (Expr-F.Name n l) h of texts = absurd (h n l (rolls-Name n l))
  level_array other h of texts = record { cause = inr (inl refl) }

  rolled_array : (x : Expr-F Expr) → ((n : List ℕ) (l : ℕ) → roll-Expr x ≡ Name n l → ⊥) → RefusesArray (part_of names (roll-Expr x))
  rolled_array x h = subst RefusesArray (sym (part_roll names x)) (level_array x h)

  -- only a name can be an array
  pub refuses_array : (e : Expr) → ((n : List ℕ) (l : ℕ) → e ≡ Name n l → ⊥) → RefusesArray (part_of names e)
  refuses_array e = subst (λ e. ((n : List ℕ) (l : ℕ) → e ≡ Name n l → ⊥) → RefusesArray (part_of names e)) (roll-out-Expr e) (rolled_array (out-Expr e))

  abbrev RefusesPlace : ExprCheck → Type 0
  RefusesPlace p = (target : ℕ) (texts : List (List ℕ)) → Refuses (p.place target texts).faults (NotAssignable target)

  record IsNoPlace (e : Expr) : Type 0 where
    no_name : (n : List ℕ) (l : ℕ) → e ≡ Name n l → ⊥
    no_element : (n : List ℕ) (i : Expr) (l : ℕ) → e ≡ At n i l → ⊥
    no_parentheses : (p : Expr) (l : ℕ) → e ≡ Paren p l → ⊥

  level_place : (x : Expr-F Expr) → IsNoPlace (roll-Expr x) → RefusesPlace (level x)
  level_place (Expr-F.Name n l) h target texts = absurd (h.no_name n l (rolls-Name n l))
  level_place (Expr-F.At n i l) h target texts = absurd (h.no_element n i l (rolls-At n i l))
  level_place (Expr-F.Paren p l) h target texts = absurd (h.no_parentheses p l (rolls-Paren p l))
  level_place other h target texts = record { cause = inr (inl refl) }

  rolled_place : (x : Expr-F Expr) → IsNoPlace (roll-Expr x) → RefusesPlace (part_of names (roll-Expr x))
  rolled_place x h = subst RefusesPlace (sym (part_roll names x)) (level_place x h)

  pub refuses_place : (e : Expr) → ((n : List ℕ) (l : ℕ) → e ≡ Name n l → ⊥) → ((n : List ℕ) (i : Expr) (l : ℕ) → e ≡ At n i l → ⊥) → ((p : Expr) (l : ℕ) → e ≡ Paren p l → ⊥)
      → RefusesPlace (part_of names e)
  refuses_place e a b c =
      subst (λ e. IsNoPlace e → RefusesPlace (part_of names e)) (roll-out-Expr e) (rolled_place (out-Expr e)) (record { no_name = a; no_element = b; no_parentheses = c })

  level_text : (x : Expr-F Expr) → ((b : List ℕ) (l : ℕ) → roll-Expr x ≡ Text b l → ⊥) → (level x).text ≡ None
  level_text (Expr-F.Text b l) h = absurd (h b l (rolls-Text b l))
  level_text other h = refl

  rolled_text : (x : Expr-F Expr) → ((b : List ℕ) (l : ℕ) → roll-Expr x ≡ Text b l → ⊥) → (part_of names (roll-Expr x)).text ≡ None
  rolled_text x h = ap (λ p. p.text) (part_roll names x) ∙ level_text x h

  -- only a text has one
  pub no_text : (e : Expr) → ((b : List ℕ) (l : ℕ) → e ≡ Text b l → ⊥) → (part_of names e).text ≡ None
  no_text e = subst (λ e. ((b : List ℕ) (l : ℕ) → e ≡ Text b l → ⊥) → (part_of names e).text ≡ None) (roll-out-Expr e) (rolled_text (out-Expr e))
