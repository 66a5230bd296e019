use Rattle.std.proofs.Common.{refl, sym, subst}
use Rattle.cut_witness.specs.private.Lookups.{Holds}
use Rattle.cut_witness.proofs.LookupFacts.{holds_lost}
use Rattle.cut_witness.proofs.lookups.EntrySet.add_lost.Goals as goal

pub returns : goal.returns
returns c notes lost h =
    holds_lost _ _ c.args.id.now notes lost (λ r. refl) c.in_ok-add_letter.ensures (subst (λ g. Holds g notes lost) (sym c.self.view_is) h)
