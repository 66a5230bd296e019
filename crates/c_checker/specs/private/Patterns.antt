-- The labels of a switch, and a set of their patterns.
use Rattle.std.specs.Prelude.{◌≡◌, ℕ, Bool, List}
use Rattle.std.specs.Ordering.{nat_cmp}
use Rattle.std.specs.BTreeSet.{BTreeSet, contains}
use Rattle.c_tree.specs.declared.program.PLabel.{PLabel}
use Rattle.c_checker.specs.Statements.{has_case, has_default}

-- The set has the patterns of the cases, and this is whether there is a default.
pub record Knows (labels : List PLabel) (patterns : BTreeSet ℕ) (default : Bool) : Type 0 where
  pub cases : (n : ℕ) → contains nat_cmp patterns n ≡ has_case labels n
  pub default_is : default ≡ has_default labels
