-- What a watcher is, and what a telling makes of a list of watchers.
use Rattle.std.specs.Prelude.{◌≡◌, ℕ, ◌+◌, Bool, false, List, [], ◌∷◌, fold}
use Rattle.event_list.specs.declared.Event.{Event}

-- a kind of watcher: what it notes of an event, after which notes it stops, which bytes it says, whether it is steady
pub record WatcherKind : Type 0 where
  pub noted : List ℕ → Event → List ℕ
  pub stops : List ℕ → Bool
  pub said : List ℕ → List ℕ
  pub steady : Bool

-- a watcher: its kind, which never changes, and its notes
pub record Watched : Type 0 where
  pub kind : WatcherKind
  pub notes : List ℕ

-- the watcher after an event, and after events one by one
abbrev pub told : Watched → Event → Watched
told w e = record { kind = w.kind; notes = w.kind.noted w.notes e }

abbrev pub told_all : Watched → List Event → Watched
told_all w events = fold told w events

-- all were told of the events, in order: so many lacked memory, none of them steady, and are out; the others noted all
pub data Told (events : List Event) : List Watched → List Watched → ℕ → Type 0 where
  nobody : Told events [] [] 0
  noted : {w : Watched} {before after : List Watched} {out : ℕ} → Told events before after out
      → Told events (w ∷ before) (told_all w events ∷ after) out
  lacked : {w : Watched} {before after : List Watched} {out : ℕ} → w.kind.steady ≡ false → Told events before after out
      → Told events (w ∷ before) after (1 + out)
