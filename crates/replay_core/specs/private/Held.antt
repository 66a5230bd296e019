-- What a gate holds while it is made.
use Rattle.std.specs.Prelude.{◌≡◌, ℕ, ◌==◌, ◌&&◌, ◌||◌, List, option_map, find}
use Rattle.std.specs.List.{list_any}
use Rattle.std.specs.Map.{lookup}
use Rattle.nm_base.specs.declared.letter.LetterId.{LetterId}
use Rattle.nm_base.specs.declared.letter.AcceptNote.{AcceptNote}
use Rattle.nm_base.specs.Message.{same_name}
use Rattle.replay_core.specs.Gates.{Gating, same_receive, receive_at}

-- the gate looks up these notes and lost letters
pub record Holds (gate : Gating) (notes : List AcceptNote) (lost : List LetterId) : Type 0 where
  pub noted : (p j : ℕ) → lookup (same_receive (receive_at p j)) gate.noted
      ≡ option_map (λ note. note.id) (find (λ note. (note.receiver.no == p) && (note.receive == j)) notes)
  pub named : (id : LetterId) → list_any (same_name id) gate.named
      ≡ list_any (λ note. same_name note.id id) notes || list_any (λ l. same_name l id) lost
