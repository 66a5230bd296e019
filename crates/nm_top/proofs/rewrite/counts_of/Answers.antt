use Rattle.std.proofs.Common.{◌≡◌, ◌++◌, ◌<◌, ℕ, List, [], ◌∷◌, length, take, sym, ap, ◌∙◌, arith, add-one}
use Rattle.std.proofs.Math.Seq.{take-suc, take-length}
use Rattle.std.proofs.lemmas.List.{take_more_set, length-set}
use Rattle.nm_top.proofs.rewrite.counts_of.Goals as goal

pub loop-p-preserved : goal.loop-p-preserved
loop-p-preserved c =
    let p = c.loop-p.p in
    let old = c.loop-p.counts in
    let all = c.args.trace.now.counts in
    let v = c.count.result in
    let within : p < length all = omega (arith, c.loop-p-test.true, c.n-p-end.ensures, c.requires.each) in
    record {
      long = length-set old p v ∙ c.loop-p.invariant.long;
      done = take_more_set old p v (omega (arith, within, c.requires.few, c.requires.each, c.loop-p.invariant.long))
          ∙ ap (λ (xs : List ℕ). xs ++ v ∷ []) c.loop-p.invariant.done
          ∙ ap (λ (n : ℕ). take p all ++ n ∷ []) c.count.ensures
          ∙ sym (ap (λ (k : ℕ). take k all) (add-one p) ∙ take-suc all p 0 within);
    }

pub returns : goal.returns
returns c =
    let all = c.args.trace.now.counts in
    let end : c.loop-p.p ≡ c.args.trace.now.n = omega (arith, c.loop-p-test.false, c.n-p-end.ensures, c.loop-p.auto.p-end) in
    let whole : c.args.trace.now.n ≡ length all = sym c.requires.each in
    ap (λ (k : ℕ). take k c.loop-p.counts) (sym end) ∙ c.loop-p.invariant.done
    ∙ ap (λ (k : ℕ). take k all) (end ∙ whole) ∙ take-length all
