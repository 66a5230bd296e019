-- The rules of a trace.
use Rattle.std.specs.Prelude.{◌≡◌, ℕ, ◌^◌, ◌<◌, ◌≤◌, Bool, false, ◌==◌, ◌&&◌, nat_le, List, [], ◌++◌, length, map, sum, ◌⊎◌}
use Rattle.std.specs.List.{list_any}
use Rattle.nm_base.specs.declared.limits.TheConstants.{MAX_EVENTS, MAX_PROCESSES}
use Rattle.nm_base.specs.Fitting.{EachFits}
use Rattle.nm_base.specs.Message.{same_name}
use Rattle.nm_base.specs.declared.letter.LetterId.{LetterId}
use Rattle.nm_base.specs.declared.letter.AcceptNote.{AcceptNote}
use Rattle.trace_file.specs.Content.{Content}

-- whether x's number isn't above those of its owner's in the list
abbrev pub is_late : {X : Type 0} → (X → ℕ) → (X → ℕ) → List X → X → Bool
is_late owner number xs x = list_any (λ y. (owner x == owner y) && nat_le (number x) (number y)) xs

-- the note's receive isn't above its receiver's earlier ones
abbrev pub is_late_note : List AcceptNote → AcceptNote → Bool
is_late_note = is_late (λ a. a.receiver.no) (λ a. a.receive)

-- the letter's send isn't above its sender's earlier ones
abbrev pub is_late_lost : List LetterId → LetterId → Bool
is_late_lost = is_late (λ id. id.sender.no) (λ id. id.number)

-- whether a note or a lost entry names the letter
abbrev pub is_named : List AcceptNote → List LetterId → LetterId → Bool
is_named notes lost id = list_any (same_name id) (map (λ a. a.id) notes ++ lost)

-- the letter has a spelling, and its sender is one of n processes
pub record IsLetter (n : ℕ) (id : LetterId) : Type 0 where
  pub sender : id.sender.no < n
  pub number : id.number < 2 ^ 32

-- the note keeps the rules behind these
pub record FitsNote (n : ℕ) (notes : List AcceptNote) (a : AcceptNote) : Type 0 where
  pub receiver : a.receiver.no < n
  pub receive : a.receive < 2 ^ 32
  pub letter : IsLetter n a.id
  pub rises : is_late_note notes a ≡ false
  pub fresh : is_named notes [] a.id ≡ false

-- the lost letter keeps the rules behind these
pub record FitsLost (n : ℕ) (notes : List AcceptNote) (lost : List LetterId) (id : LetterId) : Type 0 where
  pub letter : IsLetter n id
  pub rises : is_late_lost lost id ≡ false
  pub fresh : is_named notes lost id ≡ false

-- version 1 has mask 0
abbrev pub IsVersion : ℕ → ℕ → Type 0
IsVersion version mask = ((version ≡ 1) × (mask ≡ 0)) ⊎ ((version ≡ 2) × (mask < 2 ^ 32))

-- the header keeps the rules
pub record IsHeader (t : Content) : Type 0 where
  pub version : IsVersion t.version t.mask
  pub some : 0 < t.n
  pub few : t.n ≤ MAX_PROCESSES
  pub digest : length t.digest ≡ 32

-- no rule is broken before the end
pub record IsFront (t : Content) : Type 0 where
  pub header : IsHeader t
  pub notes : EachFits (FitsNote t.n) t.notes
  pub lost : EachFits (FitsLost t.n t.notes) t.lost

-- a count for each of n processes, within the limit of events
pub record AreCounts (n : ℕ) (counts : List ℕ) : Type 0 where
  pub each : length counts ≡ n
  pub sum : sum counts ≤ MAX_EVENTS

-- t keeps all rules
pub record IsTrace (t : Content) : Type 0 where
  pub front : IsFront t
  pub counts : AreCounts t.n t.counts
