-- The law of trees that break no rule.
use Rattle.std.specs.Prelude.{◌≡◌, [], IsTrue}
use Rattle.c_tree.specs.declared.tree.Tree.{Tree}
use Rattle.c_tree.specs.Checks.{is_checked}
use Rattle.c_checker.specs.Units.{Parts, checks}

-- these parts of a program keep every rule that a checked program keeps
abbrev pub IsChecked : Parts → Type 0
IsChecked p = IsTrue (is_checked p.globals p.functions p.texts p.main)

-- Where no rule is broken, what a tree stands for is a checked program.
abbrev pub UnbrokenIsChecked : Type 0
UnbrokenIsChecked = (tree : Tree) → (checks tree).faults ≡ [] → IsChecked (checks tree).value
