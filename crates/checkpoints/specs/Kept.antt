-- Kept worlds, seen as a list: of each what contracts see of a world, its number of events among it.
use Rattle.std.specs.Prelude.{◌≡◌, ℕ, ◌-◌, ◌<◌, ◌≤◌, nat_le, nat_lt, if◌then◌else◌, List, [], ◌∷◌, ◌++◌, length, map, filter, slice_get, All, Option, Some, None}
use Rattle.std.specs.List.{AllPairs}
use Rattle.processes.specs.Standing.{Standing}
use Rattle.world.specs.Worlds.{Parts, StandsForAll}
use Rattle.checkpoints.specs.declared.kept.TheConstants.{MOST_KEPT}

-- v stands for whatever w stands for: it has its processes' origins, waiting letters, mask and number of events
pub record IsCopy {P M O : Type 0} (stands_for : P → Standing) (origin_of : P → O) (w v : Parts P M) : Type 0 where
  pub same : StandsForAll stands_for w v
  pub size : length v.processes ≡ length w.processes
  pub origins : map origin_of v.processes ≡ map origin_of w.processes
  pub letters : v.letters ≡ w.letters
  pub mask : v.mask ≡ w.mask
  pub events : v.events ≡ w.events

-- each has more events than those before it, and there are at most 16
pub record AreKept {P M : Type 0} (kept : List (Parts P M)) : Type 0 where
  pub rises : AllPairs (λ v w. v.events < w.events) kept
  pub few : length kept ≤ MOST_KEPT

-- each has fewer than n events
abbrev pub AreBelow : {P M : Type 0} → ℕ → List (Parts P M) → Type 0
AreBelow n kept = All (λ w. w.events < n) kept

-- those at the places 0, 2, 4, ..
abbrev pub evens : {A : Type 0} → List A → List A
evens [] = []
evens (x ∷ []) = x ∷ []
evens (x ∷ y ∷ xs) = x ∷ evens xs

-- what stays when one more is to be kept: all where there is room, else those at the places 0, 2, .., 14
abbrev pub thinned : {A : Type 0} → List A → List A
thinned kept = if nat_lt (length kept) MOST_KEPT then kept else evens kept

-- one more is kept, last: a copy of w
pub record KeepsCopy {P M O : Type 0} (stands_for : P → Standing) (origin_of : P → O) (w : Parts P M)
    (before after : List (Parts P M)) : Type 0 where
  pub copy : Parts P M
  pub is_copy : IsCopy stands_for origin_of w copy
  pub is : after ≡ thinned before ++ copy ∷ []

-- those with at most k events
abbrev pub up_to : {P M : Type 0} → ℕ → List (Parts P M) → List (Parts P M)
up_to k kept = filter (λ w. nat_le w.events k) kept

abbrev pub last : {A : Type 0} → List A → Option A
last xs = slice_get xs (length xs - 1)

-- a copy where there is one, and none where there is none
abbrev pub IsCopyOf : {P M O : Type 0} → (P → Standing) → (P → O) → Option (Parts P M) → Option (Parts P M) → Type 0
IsCopyOf stands_for origin_of (Some w) (Some v) = IsCopy stands_for origin_of w v
IsCopyOf stands_for origin_of None None = Unit {0}
IsCopyOf stands_for origin_of _ _ = ⊥
