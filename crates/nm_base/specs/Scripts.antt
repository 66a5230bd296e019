-- A process's script, the histories of a script, and the laws of scripts.
use Rattle.std.specs.Prelude.{◌≡◌, ◌≢◌, ℕ, ◌<◌, ◌≤◌, Bool, true, false, List, length, Option, Some, None, filter, filter_map, take, replicate, Contains}
use Rattle.nm_base.specs.declared.letter.ProcNo.{ProcNo}
use Rattle.nm_base.specs.declared.letter.LetterId.{LetterId}
use Rattle.nm_base.specs.declared.letter.Letter.{Letter}
use Rattle.nm_base.specs.declared.kind.Kind.{Kind}
use Rattle.nm_base.specs.declared.kind.Kind.TheVariants.{Sent, Accepted, Ended, Faulted}
use Rattle.nm_base.specs.Channels.{has_channel}
use Rattle.nm_base.specs.Fitting.{EachFits}
use Rattle.nm_base.specs.Message.{Message}

-- what a process does next: an event that is no receive, a receive of a letter on a channel of the set, or nothing more
pub data Next : Type 0 where
  Goes : Kind → Next
  Wants : ℕ → Next
  Over : Next

-- what a process does next, after it accepted these letters in so many events
pub record Script : Type 0 where
  pub next : List Message → ℕ → Next

-- the letter that an event of this process sends, if it sends one
abbrev pub message_sent : ProcNo → Kind → Option Message
message_sent me (Sent number dest chan len words) =
    Some record { id = record { sender = me; number = number }; dest = dest; chan = chan; words = take len words }
message_sent me kind = None

-- that letter, before it is posted
abbrev pub letter_made : ProcNo → Kind → Option Letter
letter_made me (Sent number dest chan len words) =
    Some record {
      id = record { sender = me; number = number };
      dest = dest;
      chan = chan;
      len = len;
      words = words;
      posted = 0;
      stamp = record { parts = replicate 32 0 };
    }
letter_made me kind = None

-- an event of a history. An Accepted comes with its letter
pub data Step : Type 0 where
  Made : Kind → Step
  Took : ℕ → Message → Step

-- the event's kind
abbrev pub kind_in : Step → Kind
kind_in (Made kind) = kind
kind_in (Took set m) = Accepted set m.id

-- the letter that it accepts
abbrev pub message_in : Step → Option Message
message_in (Made kind) = None
message_in (Took set m) = Some m

-- the script's next, after this history
abbrev pub next_after : Script → List Step → Next
next_after s h = s.next (filter_map message_in h) (length h)

-- the event is the script's next
abbrev pub StepFits : Script → List Step → Step → Type 0
StepFits s h (Made kind) = next_after s h ≡ Goes kind
StepFits s h (Took set m) = (next_after s h ≡ Wants set) × (has_channel set m.chan ≡ true)

-- each event of the list is the script's next after those before it
abbrev pub IsHistory : Script → List Step → Type 0
IsHistory s h = EachFits (StepFits s) h

-- whether this is a send, whether it is a process's last event
abbrev pub is_send : Kind → Bool
is_send (Sent number dest chan len words) = true
is_send _ = false

abbrev pub is_last : Kind → Bool
is_last (Ended value) = true
is_last (Faulted cause) = true
is_last _ = false

-- the laws of a script
pub record IsLawful (s : Script) : Type 0 where
  -- what it does by itself is no receive
  pub no_receive : (h : List Step) (set : ℕ) (id : LetterId) → IsHistory s h → next_after s h ≢ Goes (Accepted set id)
  -- its sends are numbered from 0 in order
  pub numbered : (h : List Step) (number : ℕ) (dest : ProcNo) (chan len : ℕ) (words : List ℕ) → IsHistory s h
      → next_after s h ≡ Goes (Sent number dest chan len words)
      → number ≡ length (filter (λ step. is_send (kind_in step)) h)
  -- each send has a channel from 0 to 31 and 1 to 8 words
  pub sized : (h : List Step) (number : ℕ) (dest : ProcNo) (chan len : ℕ) (words : List ℕ) → IsHistory s h
      → next_after s h ≡ Goes (Sent number dest chan len words) → (chan < 32) × (0 < len) × (len ≤ 8)
  -- nothing follows Ended or Faulted
  pub ends : (h : List Step) (step : Step) → IsHistory s h → Contains h step → is_last (kind_in step) ≡ true
      → next_after s h ≡ Over
