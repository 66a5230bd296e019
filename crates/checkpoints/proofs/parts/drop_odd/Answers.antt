use Rattle.std.proofs.Common.{◌≡◌, ◌≤◌, ◌<◌, ◌+◌, suc, length, arith, ap, ap₂, sym, ◌∙◌}
use Rattle.checkpoints.proofs.Thinning.{left_at, one_kept, all_kept}
use Rattle.checkpoints.proofs.parts.drop_odd.Goals as goal

pub loop-from-preserved : goal.loop-from-preserved
loop-from-preserved g c =
    let xs = c.loop-from.worlds.items in
    let before : c.loop-from.kept ≤ c.loop-from.from = omega (arith, c.loop-from.invariant.1) in
    let within : c.loop-from.from < length xs = omega (arith, c.loop-from-test.true, c.len.ensures, c.loop-from.worlds.ok) in
    let further : suc c.loop-from.kept ≡ c.loop-from.kept + 1 = omega arith in
    let second : suc (suc c.loop-from.from) ≡ c.loop-from.from + 2 = omega arith in
    let moved : left_at (c.loop-from.kept + 1) (c.loop-from.from + 2) c.swap.new.self.items ≡ left_at (suc c.loop-from.kept) (suc (suc c.loop-from.from)) c.swap.new.self.items =
    ap₂ (λ i j. left_at i j c.swap.new.self.items) (sym further) (sym second) in
    let swapped = ap (left_at (suc c.loop-from.kept) (suc (suc c.loop-from.from))) c.swap.ensures.items in (
      moved ∙ swapped ∙ one_kept xs c.loop-from.kept c.loop-from.from before within ∙ c.loop-from.invariant.0,
      omega (arith, c.loop-from.invariant.1),
      omega (arith, c.swap.ensures.len, c.loop-from-test.true, c.len.ensures),
      c.swap.ensures.len ∙ c.loop-from.invariant.3,
      c.swap.ensures.capacity ∙ c.loop-from.invariant.4,
    )

pub returns-clause-evens : goal.returns-clause-evens
returns-clause-evens g c =
    let xs = c.loop-from.worlds.items in
    let all : length xs ≤ c.loop-from.from = omega (arith, c.loop-from-test.false, c.len.ensures, c.loop-from.worlds.ok) in
    c.truncate.ensures.items ∙ sym (all_kept xs c.loop-from.kept c.loop-from.from all) ∙ c.loop-from.invariant.0
