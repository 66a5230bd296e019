-- What a mail does, over the list of the waiting letters.
use Rattle.std.specs.Prelude.{◌≡◌, ℕ, ◌+◌, ◌^◌, ◌<◌, ◌≤◌, ◌==◌, ◌&&◌, ◌||◌, nat_lt, Bool, false, not, List, [], ◌∷◌, ◌++◌, filter, Contains, ⊤}
use Rattle.std.specs.List.{list_any}
use Rattle.std.specs.Coded.{×_prop, Unit-prop, le_prop}
use Rattle.nm_base.specs.declared.letter.LetterId.{LetterId}
use Rattle.nm_base.specs.declared.letter.Letter.{Letter}
use Rattle.nm_base.specs.Channels.{has_channel}
use Rattle.nm_base.specs.Message.{same_name}

-- the numbers of posting rise, from low on, and are below 2^32 - 1
abbrev pub Rises : ℕ → List Letter → Type 0
Rises low [] = ⊤
Rises low (l ∷ ls) = (low ≤ l.posted) × ((l.posted + 1 < 2 ^ 32) × Rises (l.posted + 1) ls)

pub Rises-prop : (low : ℕ) (ls : List Letter) → IsProp (Rises low ls)
Rises-prop low [] = Unit-prop
Rises-prop low (l ∷ ls) = ×_prop le_prop (×_prop le_prop (Rises-prop (l.posted + 1) ls))

-- whether two letters have one name
abbrev pub same_letter : Letter → Letter → Bool
same_letter k l = same_name k.id l.id

-- whether two letters are of one sender, to one process on one channel
abbrev pub are_rivals : Letter → Letter → Bool
are_rivals k l = (k.id.sender.no == l.id.sender.no) && ((k.dest.no == l.dest.no) && (k.chan == l.chan))

-- whether k is a rival of l that was posted before it
abbrev pub precedes : Letter → Letter → Bool
precedes k l = nat_lt k.posted l.posted && are_rivals k l

-- whether none of the waiting letters precedes this one
abbrev pub is_first : List Letter → Letter → Bool
is_first ls l = not (list_any (λ k. precedes k l) ls)

-- whether its channel isn't in the mask, or it is first
abbrev pub is_free : ℕ → List Letter → Letter → Bool
is_free mask ls l = not (has_channel mask l.chan) || is_first ls l

-- whether it is for this process, on a channel of the set, and let through
abbrev pub is_wanted : (LetterId → Bool) → ℕ → ℕ → Letter → Bool
is_wanted lets dest set l = (l.dest.no == dest) && (has_channel set l.chan && lets l.id)

-- whether a receive may accept it
abbrev pub is_allowed : ℕ → (LetterId → Bool) → ℕ → ℕ → List Letter → Letter → Bool
is_allowed mask lets dest set ls l = is_wanted lets dest set l && is_free mask ls l

-- the waiting letters that a receive may accept, in the order of posting
abbrev pub allowed : ℕ → (LetterId → Bool) → ℕ → ℕ → List Letter → List Letter
allowed mask lets dest set ls = filter (is_allowed mask lets dest set ls) ls

-- whether the letter has this name
abbrev pub is_named : LetterId → Letter → Bool
is_named id l = same_name l.id id

-- the letter leaves the list, and no letter before it has its name
pub record Leaves (old : List Letter) (l : Letter) (new : List Letter) : Type 0 where
  pub before : List Letter
  pub after : List Letter
  pub was : old ≡ before ++ (l ∷ after)
  pub is : new ≡ before ++ after
  pub first : (k : Letter) → Contains before k → is_named l.id k ≡ false
