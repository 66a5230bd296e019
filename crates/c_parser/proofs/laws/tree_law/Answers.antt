use Rattle.c_parser.proofs.Answered.{same_tree}
use Rattle.c_parser.proofs.laws.tree_law.Goals as goal

pub returns : goal.returns
returns c = same_tree
