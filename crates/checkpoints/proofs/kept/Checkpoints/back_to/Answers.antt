use Rattle.std.proofs.Common.{◌≤◌, length, ap, sym, subst, arith}
use Rattle.checkpoints.specs.Kept.{AreKept}
use Rattle.checkpoints.proofs.Keeping.{kept_front}
use Rattle.checkpoints.proofs.kept.Checkpoints.back_to.Goals as goal

pub invariant_of-self : goal.invariant_of-self
invariant_of-self g c =
    let within : c.count_up_to-left.result ≤ length c.self.inside.worlds.items =
    omega (arith, c.count_up_to-left.ensures.within, ap length c.as_slice.ensures.value) in
    subst AreKept (sym c.truncate.ensures.items)
    (kept_front c.self.inside.worlds.items c.count_up_to-left.result within c.self.invariant)
