use Rattle.std.proofs.Common.{refl}
use Rattle.std.proofs.lemmas.Bool.{false≢true}
use Rattle.cut_witness.proofs.MakingFacts.{sound_unmasked, found_logged, carried_logged}
use Rattle.cut_witness.proofs.making.witness.Goals as goal

pub certificate-requires : goal.certificate-requires
certificate-requires c = sound_unmasked c.requires

pub returns-in_ok-w-in-Some-clause-logged : goal.returns-in_ok-w-in-Some-clause-logged
returns-in_ok-w-in-Some-clause-logged c = ((λ t. found_logged c.requires c.in-Some.ensures), (λ t. refl))

pub returns-in_ok-w-in-Some-clause-certificate : goal.returns-in_ok-w-in-Some-clause-certificate
returns-in_ok-w-in-Some-clause-certificate c = c.in_ok-w-in-Some.ensures c.args.mask c.args.id c.requires c.in-Some.ensures

pub returns-in_ok-w-in-Some-clause-carried : goal.returns-in_ok-w-in-Some-clause-carried
returns-in_ok-w-in-Some-clause-carried c s law run =
    let w = c.in_ok-w-in-Some.ensures c.args.mask c.args.id c.requires c.in-Some.ensures in
    carried_logged c.args.mask c.args.events.now.events c.args.id c.in_ok-w-in-Some.w c.requires w.0 w.1 (found_logged c.requires c.in-Some.ensures) s law run

pub returns-in-None-clause-logged : goal.returns-in-None-clause-logged
returns-in-None-clause-logged c = ((λ t. absurd (false≢true t)), (λ l. absurd (c.in-None.ensures l)))
