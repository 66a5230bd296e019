-- Processes whose turns are idle, and marks for them.
use Rattle.std.specs.Prelude.{◌≡◌, ◌≢◌, ℕ, ◌⊎◌, Bool, true, false, List, Some, get_or}
use Rattle.nm_base.specs.declared.kind.Kind.{Kind}
use Rattle.nm_base.specs.declared.letter.ProcNo.{ProcNo}
use Rattle.nm_base.specs.Message.{Message}
use Rattle.nm_base.specs.Scripts.{Script, message_sent}
use Rattle.event_list.specs.declared.Event.{Event}
use Rattle.event_list.specs.Traces.{Trace}
use Rattle.event_list.specs.Turns.{Idle, Turned, Stays, Went, go}

-- whether the process is marked
abbrev pub has_mark : List Bool → ℕ → Bool
has_mark marks p = get_or marks p false

-- the turns of the marked processes are idle
pub record AreAsleep (marks : List Bool) (s : ℕ → Script) (T : Trace) (R : List Event) : Type 0 where
  pub each : (p : ℕ) → has_mark marks p ≡ true
      → (why : Idle) × (go s T.mask (Some T) R (record { proc = p; pick = 0 }) ≡ Stays why)

-- q is p and got this mark, or is another and had one
abbrev pub IsMarked : List Bool → ℕ → Bool → ℕ → Type 0
IsMarked marks p mark q = ((q ≡ p) × (mark ≡ true)) ⊎ ((q ≢ p) × (has_mark marks q ≡ true))

-- q had a mark, and an event of this kind sends it nothing
pub record IsUnmoved (marks : List Bool) (kind : Kind) (q : ℕ) : Type 0 where
  pub marked : has_mark marks q ≡ true
  pub unsent : (me : ProcNo) (m : Message) → message_sent me kind ≡ Some m → m.dest.no ≢ q

-- q had a mark, or is p; where the turn of p made an event, q had one and nothing is sent to it
abbrev pub StaysAsleep : List Bool → ℕ → Turned → ℕ → Type 0
StaysAsleep marks p (Stays why) q = (q ≡ p) ⊎ (has_mark marks q ≡ true)
StaysAsleep marks p (Went e) q = IsUnmoved marks e.kind q
