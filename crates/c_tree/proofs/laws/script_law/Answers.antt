use Rattle.c_tree.proofs.Histories.{able_goes_on, histories_are_played, scripts_are_lawful}
use Rattle.c_tree.proofs.laws.script_law.Goals as goal

pub returns : goal.returns
returns c = record { played = histories_are_played; able = able_goes_on; lawful = scripts_are_lawful }
