-- The entries that a reader keeps, and what it looks up beside them.
use Rattle.std.specs.Prelude.{◌≡◌, ℕ, suc, ◌<◌, max, ◌==◌, List, [], ◌∷◌, ◌++◌, length, slice_index, if◌then◌else◌}
use Rattle.std.specs.HashSet.{contains}
use Rattle.nm_base.specs.Message.{same_name}
use Rattle.nm_base.specs.declared.letter.LetterId.{LetterId}
use Rattle.nm_base.specs.declared.letter.AcceptNote.{AcceptNote}
use Rattle.trace_file.specs.declared.entries.Entries.{Entries}
use Rattle.trace_file.specs.declared.header.Header.{Header}
use Rattle.trace_file.specs.declared.item.Item.{Item}
use Rattle.trace_file.specs.declared.item.Item.TheVariants.{Note, Lost, End}
use Rattle.trace_file.specs.Content.{Content}
use Rattle.trace_file.specs.private.Headers.{content_of}
use Rattle.trace_file.specs.private.Places.{with_entries}
use Rattle.trace_file.specs.Rules.{is_named}

-- the least number that the owner's next element may have
abbrev pub least : {X : Type 0} → (X → ℕ) → (X → ℕ) → List X → ℕ → ℕ
least owner number [] p = 0
least owner number (x ∷ xs) p =
    if p == owner x then max (suc (number x)) (least owner number xs p) else least owner number xs p

-- the least receive that a note of the process may have
abbrev pub least_receive : List AcceptNote → ℕ → ℕ
least_receive = least (λ a. a.receiver.no) (λ a. a.receive)

-- the least number that a lost letter of the process may have
abbrev pub least_send : List LetterId → ℕ → ℕ
least_send = least (λ id. id.sender.no) (λ id. id.number)

-- the two tables and the set are those of the lists
pub record IsIndexed (e : Entries) : Type 0 where
  pub receives_len : length e.receives ≡ 32
  pub sends_len : length e.sends ≡ 32
  pub receives : (p : ℕ) → p < 32 → slice_index e.receives p ≡ least_receive e.notes.items p
  pub sends : (p : ℕ) → p < 32 → slice_index e.sends p ≡ least_send e.lost.items p
  pub named : (id : LetterId) → contains same_name e.named id ≡ is_named e.notes.items e.lost.items id

-- the header with these entries
abbrev pub content : Header → Entries → Content
content h e = with_entries (content_of h) e.notes.items e.lost.items

-- new has the item behind the entries of old
abbrev pub Adds : Item → Entries → Entries → Type 0
Adds (Note a) old new = (new.notes.items ≡ old.notes.items ++ a ∷ []) × (new.lost.items ≡ old.lost.items)
Adds (Lost id) old new = (new.notes.items ≡ old.notes.items) × (new.lost.items ≡ old.lost.items ++ id ∷ [])
Adds End old new = (new.notes.items ≡ old.notes.items) × (new.lost.items ≡ old.lost.items)
