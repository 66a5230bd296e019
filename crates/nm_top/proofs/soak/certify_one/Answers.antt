use Rattle.c_tree.specs.Play.{script_of}
use Rattle.c_tree.proofs.Histories.{scripts_are_lawful}
use Rattle.event_list.proofs.RunsSound.{runs_sound}
use Rattle.nm_top.proofs.soak.certify_one.Goals as goal

pub witness-requires : goal.witness-requires
witness-requires c =
    let s = c.requires.sound in
    runs_sound (script_of s.0 s.1) (scripts_are_lawful s.0 s.1) s.2
