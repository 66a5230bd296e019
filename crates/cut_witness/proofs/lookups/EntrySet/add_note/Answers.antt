use Rattle.std.proofs.Common.{refl, sym, ap, ◌∙◌, subst, [], cond, true}
use Rattle.std.specs.List.{list_any}
use Rattle.cut_witness.specs.private.Lookups.{Holds, same_key}
use Rattle.cut_witness.proofs.LookupFacts.{holds_note}
use Rattle.cut_witness.proofs.lookups.EntrySet.add_note.Goals as goal

pub returns : goal.returns
returns c notes h =
    holds_note _ _ c.args.note.now notes [] (λ q. c.in_ok-add_key.ensures q ∙ ap (λ k. cond (same_key k q) true (list_any (same_key q) c.self.inside.noted.keys)) c.key_of.ensures) (λ r. refl)
    (subst (λ g. Holds g notes []) (sym c.self.view_is) h)
