use Rattle.std.proofs.Common.{◌≡◌, ◌-◌, ◌/◌, ◌++◌, ◌∷◌, [], ℕ, List, suc, sym, append_assoc, ap, ◌∙◌, arith}
use Rattle.c_tree.specs.Print.{digits}
use Rattle.proc_machine.proofs.Prints.{one_digit, more_digits}
use Rattle.proc_machine.proofs.printing.+push_digits.Goals as goal
use Rattle.proc_machine.proofs.printing.+push_digits.Goals.{then-n-base-gt0, else-n-base-gt0}

pub returns-clause-items : goal.returns-clause-items
returns-clause-items t c =
    let k = c.args.places in
    let b = c.args.base in
    let n = c.args.n in
    let old = c.args.out.now.items in
    let more : k ≡ suc (k - 1) = omega (arith, c.if-places-eq0.false) in
    elim c.if-n-base-gt0.branch [
      | then-n-base-gt0 w ↦
          c.push_reserved.ensures.items
          ∙ ap (λ (l : List ℕ). l ++ c.digit.result ∷ []) (ap (λ v. v.items) w.out-is ∙ w.push_digits.ensures.items)
          ∙ append_assoc old (digits (k - 1) b (n / b) []) (c.digit.result ∷ [])
          ∙ ap (λ x. old ++ (digits (k - 1) b (n / b) [] ++ x ∷ [])) c.digit.ensures
          ∙ ap (λ l. old ++ l) (sym (more_digits k (k - 1) b n more w.if-n-base-gt0.true))
      | else-n-base-gt0 w ↦
          c.push_reserved.ensures.items
          ∙ ap (λ (l : List ℕ). l ++ c.digit.result ∷ []) (ap (λ v. v.items) w.out-is)
          ∙ ap (λ x. old ++ x ∷ []) c.digit.ensures
          ∙ ap (λ l. old ++ l) (sym (one_digit k (k - 1) b n more (omega (arith, w.if-n-base-gt0.false))))
    ]
