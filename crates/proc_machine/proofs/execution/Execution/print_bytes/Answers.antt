use Rattle.std.proofs.Common.{◌≡◌, ◌<◌, ◌≤◌, ◌^◌, ◌+◌, ◌-◌, ◌++◌, ℕ, List, [], get_or, length, take, reverse, subst, sym, ap, ◌∙◌, arith, length-append, Ok}
use Rattle.std.specs.Prelude.{unwrap_or, slice_index, slice_get}
use Rattle.std.proofs.lemmas.Bool.{leb-true}
use Rattle.nm_base.specs.declared.limits.TheConstants.{MAX_OUTPUT_BYTES}
use Rattle.c_tree.specs.Print.{printed}
use Rattle.stack_code.specs.Machine.{conversions}
use Rattle.stack_code.specs.View.{seen_code}
use Rattle.proc_machine.specs.private.Moves.{given}
use Rattle.proc_machine.specs.private.Ready.{bytes_of}
use Rattle.proc_machine.proofs.Sending.{is_below, taken_words, print_makes}
use Rattle.proc_machine.proofs.execution.Execution.print_bytes.Goals as goal

pub push_printed-requires-clause-words : goal.push_printed-requires-clause-words
push_printed-requires-clause-words c =
    let own = c.args.self.now.calls.own in
    let n : c.conversions-count.result ≡ conversions (unwrap_or (slice_get (seen_code c.args.at.code.now).texts c.args.text) []) = c.conversions-count.ensures
    ∙ ap (λ o. conversions (unwrap_or o [])) (sym c.text-bytes.ensures) in
    let some : c.conversions-count.result ≤ length own = omega (arith, n, c.requires.ready.some) in
    let words : (j : ℕ) → j < c.conversions-count.result → slice_index own j < 2 ^ 32 = λ j h. c.requires.ready.words j (is_below j _ (omega (arith, h, n))) in
    λ k d _ lt.
    let len = ap length c.last.ensures in
    let small = taken_words own c.conversions-count.result some words k d (omega (arith, lt, len)) in
    let P : List ℕ → Type 0 = λ l. get_or l k d < 2 ^ 32 in
    subst P (sym c.last.ensures) small

pub returns-clause-made : goal.returns-clause-made
returns-clause-made c =
    let e = c.args.self.now in
    let own = e.calls.own in
    let code = seen_code c.args.at.code.now in
    let text = unwrap_or (slice_get code.texts c.args.text) [] in
    let bytes = bytes_of code c.args.text own in
    let is : c.text-bytes.result.now ≡ text = sym (ap (λ o. unwrap_or o []) c.text-bytes.ensures) in
    let n : c.conversions-count.result ≡ conversions text = c.conversions-count.ensures ∙ ap conversions is in
    let values : c.last.result.now ≡ reverse (take (conversions text) own) = c.last.ensures ∙ ap (λ k. reverse (take k own)) n in
    let out = c.push_printed.new.out in
    let shown : printed c.text-bytes.result.now c.last.result.now ≡ bytes = ap (printed c.text-bytes.result.now) values ∙ ap (λ t. printed t (reverse (take (conversions text) own))) is in
    let items : out.items ≡ e.output.items ++ bytes = c.push_printed.ensures.items ∙ ap (λ l. e.output.items ++ l) shown in
    let room = leb-true (length e.output.items + length bytes) MAX_OUTPUT_BYTES c.requires.room in
    let len = c.len.result - c.len-before.result in
    let all = ap length items in
    let len_is : len ≡ length bytes = omega (arith, c.len.ensures, c.len-before.ensures, all, length-append e.output.items bytes, e.output.ok.0, out.ok.0) in
    let small : len < 2 ^ 32 = omega (arith, len_is, room) in
    print_makes e text (conversions text) c.requires.ready.some code c.args.text c.give-value.new.self out len c.requires.room small len_is items
    (c.give-value.ensures.state ∙ ap (λ v. given c.conversions-count.result (Ok v) (record e { output = out })) c.from.ensures ∙ ap (λ k. given k (Ok len) (record e { output = out })) n)
