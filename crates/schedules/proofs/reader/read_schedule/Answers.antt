use Rattle.std.proofs.Common.{◌≡◌, length, sym, ◌∙◌, subst, inr, arith}
use Rattle.schedules.specs.Bounds.{AreFewTurns}
use Rattle.schedules.proofs.BoundFacts.{few_read}
use Rattle.schedules.proofs.TextFacts.{code_ends_within, bad_at, good_at, good_few}
use Rattle.schedules.proofs.reader.read_schedule.Goals as goal

pub overflow_add-end : goal.overflow_add-end
overflow_add-end c =
    let e = code_ends_within c.args.bytes.now c.loop-i.i c.word_length.result c.loop-i-test.true c.word_length.ensures in
    omega (arith, e, c.requires.size)

pub slice_bounds-spelled-end : goal.slice_bounds-spelled-end
slice_bounds-spelled-end c =
    let e = code_ends_within c.args.bytes.now c.loop-i.i c.word_length.result c.loop-i-test.true c.word_length.ensures in
    omega (arith, e)

pub returns-in-Err-clause-refused : goal.returns-in-Err-clause-refused
returns-in-Err-clause-refused c =
    let made : c.len.result ≡ length c.loop-i.turns.items = omega (arith, c.len.ensures, c.loop-i.turns.ok) in
    inr (bad_at c.args.n c.loop-i.turns.items c.args.bytes.now c.loop-i.i c.word_length.result _ _ _ c.loop-i.invariant.same c.loop-i-test.true (sym c.is_blank.ensures ∙ c.if-is_blank.false)
    c.word_length.ensures c.spelled-word.ensures made c.admitted.ensures c.in-Err.fault c.in-Err.is)

pub loop-i-preserved : goal.loop-i-preserved
loop-i-preserved c =
    let made : c.len.result ≡ length c.loop-i.turns.items = omega (arith, c.len.ensures, c.loop-i.turns.ok) in
    let blank = sym c.is_blank.ensures ∙ c.if-is_blank.false in
    record {
      same = good_at c.args.n c.loop-i.turns.items c.args.bytes.now c.loop-i.i c.word_length.result _ _ _ c.loop-i.invariant.same c.loop-i-test.true blank
          c.word_length.ensures c.spelled-word.ensures made c.admitted.ensures c.in-Ok.entry _ c.in-Ok.is c.in-Ok-add_turns.ensures;
      few = good_few c.args.n c.loop-i.turns.items c.args.bytes.now c.loop-i.i c.word_length.result _ _ _ c.loop-i.invariant.same c.loop-i-test.true blank
          c.word_length.ensures c.spelled-word.ensures made c.admitted.ensures c.in-Ok.entry _ c.in-Ok.is c.in-Ok-add_turns.ensures;
      within = code_ends_within c.args.bytes.now c.loop-i.i c.word_length.result c.loop-i-test.true c.word_length.ensures;
    }

pub returns-clause-turns : goal.returns-clause-turns
returns-clause-turns c =
    subst (AreFewTurns c.args.n) (sym c.from_vec.ensures) (few_read c.args.n c.loop-i.turns.items c.loop-i.i c.args.bytes.now c.loop-i.invariant.same c.loop-i-test.false)
