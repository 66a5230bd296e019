use Rattle.std.proofs.Common.{◌≡◌, ◌++◌, [], ◌∷◌, cond, length, ap, not, ◌∙◌, arith}
use Rattle.trace_file.specs.Reading.{counts_at}
use Rattle.trace_file.proofs.Counts.{counts_go_on, counts_are_done, length_counts}
use Rattle.trace_file.proofs.trace.counts_of.Goals as goal

pub word-requires : goal.word-requires
word-requires c = omega (arith, c.loop.invariant.long)

pub loop-preserved : goal.loop-preserved
loop-preserved c =
    let pushed : c.push.new.self.items ≡ c.loop.counts.items ++ c.word.result ∷ [] =
    c.push.ensures.items ∙ ap (λ b. cond b (c.loop.counts.items ++ c.word.result ∷ []) c.loop.counts.items) (c.is_err.ensures.negation
    ∙ ap not c.if-is_err.false) in
    record {
      long = omega (arith, c.loop.invariant.long, c.split_at.ensures.back_len);
      joined = rw (pushed, c.split_at.ensures.back, c.word.ensures)
          (counts_go_on c.loop.counts.items c.args.n c.loop.counter c.loop.rest.now
          (counts_at c.args.n c.args.bytes.now) c.loop-test.true c.loop.invariant.joined);
    }

pub returns-clause-counts : goal.returns-clause-counts
returns-clause-counts c = counts_are_done c.loop.counts.items c.args.n c.loop.counter c.loop.rest.now (counts_at c.args.n c.args.bytes.now) c.loop-test.false c.loop.invariant.joined

pub returns-clause-len : goal.returns-clause-len
returns-clause-len c =
    ap length (counts_are_done c.loop.counts.items c.args.n c.loop.counter c.loop.rest.now
    (counts_at c.args.n c.args.bytes.now) c.loop-test.false c.loop.invariant.joined) ∙ length_counts c.args.n c.args.bytes.now
