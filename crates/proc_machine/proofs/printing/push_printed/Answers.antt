use Rattle.std.proofs.Common.{◌≡◌, ℕ, Bool, rules, tests, ◌+◌, ◌++◌, ◌∷◌, [], false, drop, sym, ap, ◌∙◌, arith, get_or}
use Rattle.std.specs.Prelude.{if◌then◌else◌, ◌==◌}
use Rattle.std.proofs.lemmas.List.{append-nil}
use Rattle.c_tree.specs.Print.{converted, printed_from, later_values}
use Rattle.proc_machine.proofs.Prints.{first_dropped, later_dropped, sign_begins, byte_is, sign_is, value_is, next_shown}
use Rattle.proc_machine.proofs.printing.push_printed.Goals as goal
use Rattle.proc_machine.proofs.printing.push_printed.Goals.{then-not-after_percent+then-byte-eq37, then-not-after_percent+else-byte-eq37}
use Rattle.proc_machine.proofs.printing.push_printed.Goals.{else-not-after_percent+then-byte-eq37-2, else-not-after_percent+else-byte-eq37-2}

abbrev six : Bool → ℕ
six x = if x then 6 else 0

not_37 : (b : ℕ) → (b ≡ 37 → ⊥) → (b == 37) ≡ false
not_37 b h = search (rules, tests)

pub loop-byte-preserved : goal.loop-byte-preserved
loop-byte-preserved c =
    let v = c.loop-byte.invariant in
    let text = c.args.text.now in
    let vs = c.args.values.now in
    let i = c.loop-byte.byte-index in
    let b = get_or text i 0 in
    let bs = drop (i + 1) text in
    let t = c.loop-byte.taken in
    let lt = c.loop-byte-test.true in
    let whole = c.args.out.now.items ++ printed_from false text vs in
    let out2 = c.if-not-after_percent.out.items in
    let a = c.loop-byte.after_percent in
    let a2 = c.if-not-after_percent.after_percent in
    let t2 = c.if-not-after_percent.taken in
    elim c.if-not-after_percent.branch [
      | then-not-after_percent+then-byte-eq37 w ↦
          let rest : printed_from a (b ∷ bs) (drop t vs) ≡ [] ++ printed_from a2 bs (drop t2 vs) =
          ap (λ x. printed_from x (b ∷ bs) (drop t vs)) w.if-not-after_percent.true
          ∙ sign_begins bs (drop t vs) b w.if-byte-eq37.true
          ∙ ap (λ x. printed_from x bs (drop t vs)) (sym w.after_percent-is)
          ∙ ap (λ k. printed_from a2 bs (drop k vs)) (sym w.taken-is) in
          record {
            items = next_shown text vs c.loop-byte.out.items out2 [] whole i t t2 a a2 lt v.items rest (ap (λ o. o.items) w.out-is ∙ sym (append-nil c.loop-byte.out.items));
            room = omega (arith, v.room, ap (λ o. o.len) w.out-is, ap (λ o. o.cap) w.out-is, ap six w.after_percent-is, ap six w.if-not-after_percent.true, lt);
            capacity = ap (λ o. o.cap) w.out-is ∙ v.capacity;
            few = omega (arith, v.few, w.taken-is);
          }
      | then-not-after_percent+else-byte-eq37 w ↦
          let rest : printed_from a (b ∷ bs) (drop t vs) ≡ (b ∷ []) ++ printed_from a2 bs (drop t2 vs) =
          ap (λ x. printed_from x (b ∷ bs) (drop t vs)) w.if-not-after_percent.true
          ∙ byte_is bs (drop t vs) b (not_37 b w.if-byte-eq37.false)
          ∙ ap (λ x. (b ∷ []) ++ printed_from x bs (drop t vs)) (sym (w.after_percent-is ∙ w.if-not-after_percent.true))
          ∙ ap (λ k. (b ∷ []) ++ printed_from a2 bs (drop k vs)) (sym w.taken-is) in
          record {
            items = next_shown text vs c.loop-byte.out.items out2 ((b ∷ [])) whole i t t2 a a2 lt v.items rest (ap (λ o. o.items) w.out-is ∙ w.push_reserved.ensures.items);
            room = omega (
              arith,
              v.room,
              ap (λ o. o.len) w.out-is,
              ap
                  (λ o. o.cap) w.out-is,
              w.push_reserved.ensures.len,
              w.push_reserved.ensures.capacity,
              ap six w.after_percent-is,
              ap six w.if-not-after_percent.true,
              lt,
            );
            capacity = ap (λ o. o.cap) w.out-is ∙ w.push_reserved.ensures.capacity ∙ v.capacity;
            few = omega (arith, v.few, w.taken-is);
          }
      | else-not-after_percent+then-byte-eq37-2 w ↦
          let rest : printed_from a (b ∷ bs) (drop t vs) ≡ (b ∷ []) ++ printed_from a2 bs (drop t2 vs) =
          ap (λ x. printed_from x (b ∷ bs) (drop t vs)) w.if-not-after_percent.false
          ∙ sign_is bs (drop t vs) b w.if-byte-eq37-2.true
          ∙ ap (λ x. (b ∷ []) ++ printed_from x bs (drop t vs)) (sym w.after_percent-is)
          ∙ ap (λ k. (b ∷ []) ++ printed_from a2 bs (drop k vs)) (sym w.taken-is) in
          record {
            items = next_shown text vs c.loop-byte.out.items out2 ((b ∷ [])) whole i t t2 a a2 lt v.items rest (ap (λ o. o.items) w.out-is ∙ w.push_reserved-then-byte-eq37-2.ensures.items);
            room = omega (
              arith,
              v.room,
              ap (λ o. o.len) w.out-is,
              ap
                  (λ o. o.cap) w.out-is,
              w.push_reserved-then-byte-eq37-2.ensures.len,
              w.push_reserved-then-byte-eq37-2.ensures.capacity,
              ap six w.after_percent-is,
              ap six
                  w.if-not-after_percent.false,
              lt,
            );
            capacity = ap (λ o. o.cap) w.out-is ∙ w.push_reserved-then-byte-eq37-2.ensures.capacity ∙ v.capacity;
            few = omega (arith, v.few, w.taken-is);
          }
      | else-not-after_percent+else-byte-eq37-2 w ↦
          let rest : printed_from a (b ∷ bs) (drop t vs) ≡ converted b w.word_or_zero.result ++ printed_from a2 bs (drop t2 vs) =
          ap (λ x. printed_from x (b ∷ bs) (drop t vs)) w.if-not-after_percent.false
          ∙ value_is bs (drop t vs) b (not_37 b w.if-byte-eq37-2.false)
          ∙ ap (λ x. converted b x ++ printed_from false bs (later_values (drop t vs))) (first_dropped vs t ∙ sym w.word_or_zero.ensures)
          ∙ ap (λ l. converted b w.word_or_zero.result ++ printed_from false bs l) (later_dropped vs t)
          ∙ ap (λ x. converted b w.word_or_zero.result ++ printed_from x bs (drop (t + 1) vs)) (sym w.after_percent-is)
          ∙ ap (λ k. converted b w.word_or_zero.result ++ printed_from a2 bs (drop k vs)) (sym w.taken-is) in
          record {
            items = next_shown text vs c.loop-byte.out.items out2 (converted b w.word_or_zero.result) whole i t t2 a a2 lt v.items rest (ap (λ o. o.items) w.out-is ∙ w.push_converted.ensures.items);
            room = omega (
              arith,
              v.room,
              ap (λ o. o.len) w.out-is,
              ap
                  (λ o. o.cap) w.out-is,
              w.push_converted.ensures.len,
              w.push_converted.ensures.capacity,
              ap six w.after_percent-is,
              ap six w.if-not-after_percent.false,
              lt,
            );
            capacity = ap (λ o. o.cap) w.out-is ∙ w.push_converted.ensures.capacity ∙ v.capacity;
            few = omega (arith, v.few, w.taken-is);
          }
    ]
