use Rattle.c_tree.specs.Play.{script_of}
use Rattle.c_tree.proofs.Histories.{scripts_are_lawful}
use Rattle.event_list.proofs.RunsSound.{runs_sound}
use Rattle.nm_top.proofs.CertifyLaws.{nothing_told, differs_told, certificates_told}
use Rattle.nm_top.proofs.certify.certify_finished.Goals as goal

pub compare-requires : goal.compare-requires
compare-requires g c =
    let s = c.requires.sound in
    runs_sound (script_of s.0 s.1) (scripts_are_lawful s.0 s.1) s.2

pub returns-in_default : goal.returns-in_default
returns-in_default g c = λ p same reached run. nothing_told p c.args.trace.now _ _

pub returns-in-Differs : goal.returns-in-Differs
returns-in-Differs g c = λ p same reached run.
    differs_told p c.args.trace.now c.args.events.now.events same reached _ _ _ _ c.tell.result c.in-Ok.compared c.in-Differs.first c.in-Differs.is c.in-Ok.ensures.compared c.tell.ensures

pub returns : goal.returns
returns g c = λ p same reached run.
    certificates_told p c.args.trace.now c.args.events.now.events same reached _ _ _ _ c.put_certificates.result (c.in-Ok.ensures.same.0 c.in_default-compared.is)
    (c.put_certificates.ensures p c.args.trace.now.n run)
