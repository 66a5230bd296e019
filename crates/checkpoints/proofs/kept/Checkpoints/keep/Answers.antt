use Rattle.std.proofs.Common.{◌++◌, ◌∷◌, [], ap, sym, subst, ◌∙◌}
use Rattle.checkpoints.specs.Kept.{AreKept, AreBelow, thinned}
use Rattle.checkpoints.proofs.Keeping.{kept_one_more}
use Rattle.checkpoints.proofs.kept.Checkpoints.keep.Goals as goal

pub invariant_of-self-2 : goal.invariant_of-self-2
invariant_of-self-2 g c =
    let now =
    c.put_last.ensures
    ∙ ap (λ l. l ++ c.in_ok-copy.copy ∷ []) (c.thin.ensures.thinned ∙ ap thinned c.make_room.ensures.same) in
    let below =
    subst (λ n. AreBelow n c.self.inside.worlds.items) (sym c.in_ok-copy.ensures.events)
    (subst (λ l. AreBelow c.args.world.now.events l) (sym c.self.view_is) c.requires.later) in
    subst AreKept (sym now) (kept_one_more c.self.inside.worlds.items c.in_ok-copy.copy c.self.invariant below)

pub returns-clause-kept : goal.returns-clause-kept
returns-clause-kept g c =
    let now =
    c.put_last.ensures
    ∙ ap (λ l. l ++ c.in_ok-copy.copy ∷ []) (c.thin.ensures.thinned
    ∙ ap thinned (c.make_room.ensures.same ∙ c.self.view_is)) in
    let k = c.in_ok-copy.ensures in
    record {
      copy = c.in_ok-copy.copy;
      is_copy = record {
        same = k.same;
        size = k.size;
        origins = k.origins;
        letters = k.letters;
        mask = k.mask;
        events = k.events;
      };
      is = now;
    }
