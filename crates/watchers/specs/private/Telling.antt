-- A telling on its way.
use Rattle.std.specs.Prelude.{◌≡◌, ℕ, List, [], ◌∷◌, ◌++◌, take, drop}
use Rattle.event_list.specs.declared.Event.{Event}
use Rattle.watchers.specs.Watched.{Watched, Told}

-- of the list `old` the first watchers were told, and of these the first i of `now` are left
pub record IsTelling (e : Event) (old now : List Watched) (i dropped : ℕ) : Type 0 where
  pub seen : List Watched
  pub is : old ≡ seen ++ drop i now
  pub told : Told (e ∷ []) seen (take i now) dropped
