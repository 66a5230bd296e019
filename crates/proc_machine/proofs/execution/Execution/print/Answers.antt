use Rattle.std.proofs.Common.{◌≡◌, ◌<◌, ◌≤◌, ◌^◌, ℕ, List, [], get_or, length, take, reverse, subst, refl, sym, ap, ◌∙◌, arith}
use Rattle.std.specs.Prelude.{unwrap_or, slice_index, slice_get}
use Rattle.c_tree.specs.Print.{printed}
use Rattle.stack_code.specs.Machine.{conversions}
use Rattle.stack_code.specs.View.{seen_code}
use Rattle.proc_machine.proofs.Sending.{print_pauses, print_faults, is_below, taken_words, has_room, no_room}
use Rattle.proc_machine.proofs.execution.Execution.print.Goals as goal

pub printed_length-length-requires-clause-words : goal.printed_length-length-requires-clause-words
printed_length-length-requires-clause-words c =
    let own = c.args.self.now.calls.own in
    let n : c.conversions.result ≡ conversions (unwrap_or (slice_get (seen_code c.args.at.code.now).texts c.args.text) []) = c.conversions.ensures
    ∙ ap (λ o. conversions (unwrap_or o [])) (sym c.text-bytes.ensures) in
    let some : c.conversions.result ≤ length own = omega (arith, n, c.requires.some) in
    let words : (j : ℕ) → j < c.conversions.result → slice_index own j < 2 ^ 32 = λ j h. c.requires.words j (is_below j _ (omega (arith, h, n))) in
    λ k d _ lt.
    let len = ap length c.last-values.ensures in
    let small = taken_words own c.conversions.result some words k d (omega (arith, lt, len)) in
    let P : List ℕ → Type 0 = λ l. get_or l k d < 2 ^ 32 in
    subst P (sym c.last-values.ensures) small

printed_bytes : (text values values2 text2 : List ℕ) → values ≡ values2 → text ≡ text2 → printed text values ≡ printed text2 values2
printed_bytes text values values2 text2 h e = ap (printed text) h ∙ ap (λ t. printed t values2) e

pub returns-then-saturating_add-le-OUTPUT_LIMIT : goal.returns-then-saturating_add-le-OUTPUT_LIMIT
returns-then-saturating_add-le-OUTPUT_LIMIT c =
    let e = c.args.self.now in
    let own = e.calls.own in
    let text = unwrap_or (slice_get (seen_code c.args.at.code.now).texts c.args.text) [] in
    let is : c.text-bytes.result.now ≡ text = sym (ap (λ o. unwrap_or o []) c.text-bytes.ensures) in
    let n : c.conversions.result ≡ conversions text = c.conversions.ensures ∙ ap conversions is in
    let values : c.last-values.result.now ≡ reverse (take (conversions text) own) = c.last-values.ensures ∙ ap (λ k. reverse (take k own)) n in
    let len : c.printed_length-length.result ≡ length (printed text (reverse (take (conversions text) own))) = c.printed_length-length.ensures
    ∙ ap length (printed_bytes c.text-bytes.result.now c.last-values.result.now (reverse (take (conversions text) own)) text values is) in (
      refl,
      refl,
      print_pauses e text (conversions text) c.requires.some
          (has_room _ _ (omega (arith, len, c.if-saturating_add-le-OUTPUT_LIMIT.true, c.saturating_add.ensures, c.len.ensures, e.output.ok.0))),
    )

pub returns-else-saturating_add-le-OUTPUT_LIMIT : goal.returns-else-saturating_add-le-OUTPUT_LIMIT
returns-else-saturating_add-le-OUTPUT_LIMIT c =
    let e = c.args.self.now in
    let own = e.calls.own in
    let text = unwrap_or (slice_get (seen_code c.args.at.code.now).texts c.args.text) [] in
    let is : c.text-bytes.result.now ≡ text = sym (ap (λ o. unwrap_or o []) c.text-bytes.ensures) in
    let n : c.conversions.result ≡ conversions text = c.conversions.ensures ∙ ap conversions is in
    let values : c.last-values.result.now ≡ reverse (take (conversions text) own) = c.last-values.ensures ∙ ap (λ k. reverse (take k own)) n in
    let len : c.printed_length-length.result ≡ length (printed text (reverse (take (conversions text) own))) = c.printed_length-length.ensures
    ∙ ap length (printed_bytes c.text-bytes.result.now c.last-values.result.now (reverse (take (conversions text) own)) text values is) in (
      refl,
      refl,
      print_faults e text (conversions text) c.requires.some
          (no_room _ _ (omega (arith, len, c.if-saturating_add-le-OUTPUT_LIMIT.false, c.saturating_add.ensures, c.len.ensures, e.output.ok.0))),
    )
