use Rattle.std.proofs.Common.{◌≡◌, ℕ, false, ◌+◌, drop, get_or, sym, ap, ◌∙◌, arith, rules, tests}
use Rattle.std.specs.Prelude.{◌==◌}
use Rattle.c_tree.specs.Typing.{conversions_from}
use Rattle.proc_machine.proofs.Counts.{and_so_many, outside_sign, after_sign, is_one}
use Rattle.proc_machine.proofs.messages.conversions.Goals as goal
use Rattle.proc_machine.proofs.messages.conversions.Goals.{then-not-after_percent, else-not-after_percent+then-byte-ne37+else-not-is_conversion, else-not-after_percent+else-byte-ne37}

not_37 : (b : ℕ) → (b ≡ 37 → ⊥) → (b == 37) ≡ false
not_37 b h = search (rules, tests)

pub loop-byte-preserved : goal.loop-byte-preserved
loop-byte-preserved c =
    let text = c.args.text.now in
    let i = c.loop-byte.byte-index in
    let k = c.loop-byte.count in
    let whole = conversions_from false text in
    let lt = c.loop-byte-test.true in
    let v = c.loop-byte.invariant in
    let bs = drop (i + 1) text in
    elim c.if-not-after_percent.branch [
      | then-not-after_percent w ↦ (
        outside_sign text i k whole lt (v.0 ∙ ap (λ a. and_so_many k (conversions_from a (drop i text))) w.if-not-after_percent.true)
            ∙ ap (λ a. and_so_many k (conversions_from a bs)) (sym w.after_percent-is)
            ∙ ap (λ n. and_so_many n (conversions_from c.if-not-after_percent.after_percent bs)) (sym w.count-is),
        omega (arith, v.1, w.count-is),
      )
      | else-not-after_percent+then-byte-ne37+else-not-is_conversion w ↦ (
        is_one text i k whole lt (not_37 (get_or text i 0) w.if-byte-ne37.true) (sym w.is_conversion.ensures ∙ w.if-not-is_conversion.false)
            (v.0 ∙ ap (λ a. and_so_many k (conversions_from a (drop i text))) w.if-not-after_percent.false)
            ∙ ap (λ a. and_so_many (k + 1) (conversions_from a bs)) (sym w.after_percent-is)
            ∙ ap (λ n. and_so_many n (conversions_from c.if-not-after_percent.after_percent bs)) (sym w.count-is),
        omega (arith, v.1, w.count-is),
      )
      | else-not-after_percent+else-byte-ne37 w ↦ (
        after_sign text i k whole lt w.if-byte-ne37.false (v.0 ∙ ap (λ a. and_so_many k (conversions_from a (drop i text))) w.if-not-after_percent.false)
            ∙ ap (λ a. and_so_many k (conversions_from a bs)) (sym w.after_percent-is)
            ∙ ap (λ n. and_so_many n (conversions_from c.if-not-after_percent.after_percent bs)) (sym w.count-is),
        omega (arith, v.1, w.count-is),
      )
    ]
