use Rattle.std.proofs.Common.{◌≡◌, ◌<◌, set, get_or, replicate, refl, sym, ap, ◌∙◌, inl, inr, arith, get_or-set_same, get_or-set_other}
use Rattle.std.proofs.lemmas.Bool.{cases_lt}
use Rattle.std.proofs.lemmas.List.{length-set}
use Rattle.event_list.specs.Events.{count}
use Rattle.trace_file.proofs.Marks.{zero_at}
use Rattle.recorder.proofs.ending.counts_of.Goals as goal

pub bounds-counts-p : goal.bounds-counts-p
bounds-counts-p g c = omega (arith, c.loop-p-test.true, c.n-p-end.ensures, c.requires)

pub loop-p-init : goal.loop-p-init
loop-p-init g c = record {
  long = refl;
  done = λ s E h q l. absurd (omega (arith, l));
  rest = λ q l. zero_at (replicate 32 0) refl q;
}

pub loop-p-preserved : goal.loop-p-preserved
loop-p-preserved g c =
    let p = c.loop-p.p in
    let old = c.loop-p.counts in
    let v = c.count.result in
    let within : p < 32 = omega (arith, c.loop-p-test.true, c.n-p-end.ensures, c.requires) in
    record {
      long = length-set old p v ∙ c.loop-p.invariant.long;
      done = λ s E h q l. elim (cases_lt q p) [
        | inl less ↦ get_or-set_other old p q v 0 (λ e. omega (arith, less, e)) ∙ c.loop-p.invariant.done s E h q less
        | inr more ↦
            let e : q ≡ p = omega (arith, l, more) in
            ap (λ j. get_or (set old p v) j 0) e ∙ get_or-set_same old p v 0 (omega (arith, within, c.loop-p.invariant.long)) ∙ c.count.ensures s E h ∙ ap (count E) (sym e)
      ];
      rest = λ q l. get_or-set_other old p q v 0 (λ e. omega (arith, l, e)) ∙ c.loop-p.invariant.rest q (omega (arith, l));
    }
