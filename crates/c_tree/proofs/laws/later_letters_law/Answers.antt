use Rattle.c_tree.proofs.Plays.{later_letters_change_nothing}
use Rattle.c_tree.proofs.laws.later_letters_law.Goals as goal

pub returns : goal.returns
returns c = later_letters_change_nothing
