-- A process of a list moves.
use Rattle.std.specs.Prelude.{◌≡◌, ℕ, List, length, Option, Some, slice_get, slice_set}
use Rattle.nm_base.specs.declared.letter.ProcNo.{ProcNo}
use Rattle.nm_base.specs.declared.letter.Stamp.{Stamp}
use Rattle.nm_base.specs.declared.letter.Letter.{Letter}
use Rattle.nm_base.specs.declared.kind.Kind.{Kind}
use Rattle.nm_base.specs.Message.{message_of}
use Rattle.nm_base.specs.Scripts.{letter_made}
use Rattle.processes.specs.Standing.{Standing, Makes, Takes, Stays}

-- the process at a place is another
pub record Replaces {P : Type 0} (name_of : P → ProcNo) (old new : List P) (place : ℕ) : Type 0 where
  pub before : P
  pub after : P
  pub was : slice_get old place ≡ Some before
  pub is : new ≡ slice_set old place after
  pub name : name_of after ≡ name_of before

-- it made an event, and sent the letter if there is one
pub record MadeAt {P : Type 0} (stands_for : P → Standing) (name_of : P → ProcNo) (old new : List P) (place : ℕ)
    (kind : Kind) (letter : Option Letter) : Type 0 where
  pub at : Replaces name_of old new place
  pub makes : Makes (stands_for at.before) (stands_for at.after) kind
  pub sends : letter ≡ letter_made (name_of at.before) kind

-- it accepted the letter
pub record TookAt {P : Type 0} (stands_for : P → Standing) (name_of : P → ProcNo) (old new : List P) (place : ℕ)
    (letter : Letter) : Type 0 where
  pub at : Replaces name_of old new place
  pub takes : Takes (stands_for at.before) (stands_for at.after) (message_of letter)

-- it stands for all that it stood for
pub record StayedAt {P : Type 0} (stands_for : P → Standing) (name_of : P → ProcNo) (old new : List P) (place : ℕ)
    : Type 0 where
  pub at : Replaces name_of old new place
  pub stays : Stays (stands_for at.before) (stands_for at.after)

-- y is a copy of x: it stands for all that x stands for
pub record IsCopy {P O : Type 0} (stands_for : P → Standing) (name_of : P → ProcNo) (origin_of : P → O) (x y : P)
    : Type 0 where
  pub stays : Stays (stands_for x) (stands_for y)
  pub name : name_of y ≡ name_of x
  pub origin : origin_of y ≡ origin_of x

-- copies of the first processes of the list, so many
pub record AreCopies {P O : Type 0} (stands_for : P → Standing) (name_of : P → ProcNo) (origin_of : P → O)
    (old new : List P) (many : ℕ) : Type 0 where
  pub size : length new ≡ many
  pub each : (p : ℕ) (x y : P) → slice_get old p ≡ Some x → slice_get new p ≡ Some y
      → IsCopy stands_for name_of origin_of x y

-- the letter as it is posted
abbrev pub stamped : ℕ → Stamp → Letter → Letter
stamped posted stamp l = record l { posted = posted; stamp = stamp }
