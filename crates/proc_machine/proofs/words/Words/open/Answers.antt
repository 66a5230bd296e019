use Rattle.std.proofs.Common.{◌≡◌, ◌++◌, ◌+◌, ◌∷◌, [], suc, take, replicate, sym, ap, ◌∙◌, arith, append_assoc}
use Rattle.proc_machine.proofs.Upper.{next_word}
use Rattle.proc_machine.proofs.words.Words.open.Goals as goal

pub loop-i-preserved : goal.loop-i-preserved
loop-i-preserved c =
    let v = c.loop-i.invariant in
    let first = c.args.first.now in
    let more : c.loop-i.i + 1 ≡ suc c.loop-i.i = omega arith in
    let rows = first ++ replicate c.args.size 0 in
    record {
      items =
          c.push_reserved.ensures.items
          ∙ ap (λ l. l ++ c.word_or_zero.result ∷ []) v.items
          ∙ append_assoc c.self.inside.items.items (take c.loop-i.i rows) (c.word_or_zero.result ∷ [])
          ∙ ap (λ x. c.self.inside.items.items ++ (take c.loop-i.i rows ++ x ∷ [])) c.word_or_zero.ensures
          ∙ ap (λ l. c.self.inside.items.items ++ l) (sym (next_word first c.args.size c.loop-i.i c.loop-i-test.true))
          ∙ ap (λ k. c.self.inside.items.items ++ take k rows) (sym more);
      len = omega (arith, c.push_reserved.ensures.len, v.len);
      room = omega (arith, c.push_reserved.ensures.capacity, v.room);
    }
