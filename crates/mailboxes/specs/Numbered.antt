-- Letters for tests, numbered by their posting.
use Rattle.std.specs.Prelude.{◌≡◌, ℕ, ◌<◌, List, Contains}
use Rattle.nm_base.specs.declared.letter.Letter.{Letter}

-- each letter's number is that of its posting, below next
pub record AreBelow (ls : List Letter) (next : ℕ) : Type 0 where
  pub posted : (w : Letter) → Contains ls w → w.posted < next
  pub number : (w : Letter) → Contains ls w → w.id.number ≡ w.posted
