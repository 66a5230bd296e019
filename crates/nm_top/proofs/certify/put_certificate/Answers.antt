use Rattle.c_tree.specs.Play.{script_of}
use Rattle.c_tree.proofs.Histories.{scripts_are_lawful}
use Rattle.event_list.proofs.RunsSound.{runs_sound}
use Rattle.nm_top.proofs.CertifyLaws.{certifies, given_none, gave_one, gave_part}
use Rattle.nm_top.proofs.certify.put_certificate.Goals as goal

pub witness-requires : goal.witness-requires
witness-requires g c =
    let s = c.requires.sound in
    runs_sound (script_of s.0 s.1) (scripts_are_lawful s.0 s.1) s.2

pub returns-in_default : goal.returns-in_default
returns-in_default g c = λ p n run. (0, given_none p n c.args.mask c.args.events.now.events _ _)

pub returns-in-Ok-certificate : goal.returns-in-Ok-certificate
returns-in-Ok-certificate g c = λ p n run.
    let w = c.in-Some.w in
    let is = certifies p n c.args.mask c.args.events.now.events c.args.id c.in-Ok.found w c.in-Some.is c.in-Ok.ensures.certificate
    (c.in-Ok.ensures.carried (script_of p n) (scripts_are_lawful p n) run) in
    gave_one p n c.args.mask c.args.events.now.events _ _ _ _ c.args.id w is c.certificate.result c.in-Ok-certificate.is c.certificate.ensures

pub returns : goal.returns
returns g c = λ p n run.
    let w = c.in-Some.w in
    let is = certifies p n c.args.mask c.args.events.now.events c.args.id c.in-Ok.found w c.in-Some.is c.in-Ok.ensures.certificate
    (c.in-Ok.ensures.carried (script_of p n) (scripts_are_lawful p n) run) in
    gave_part p n c.args.mask c.args.events.now.events _ _ _ _ c.args.id w is c.certificate.result c.in-Err.field-0 c.in-Err.is c.certificate.ensures
