-- What is kept of each letter that is sent: where it goes, and events that happened before its send.
use Rattle.std.specs.Prelude.{◌≡◌, ℕ, ◌≤◌, ◌==◌, List, Option, None, Some, Contains, if◌then◌else◌}
use Rattle.nm_base.specs.declared.letter.LetterId.{LetterId}
use Rattle.nm_base.specs.declared.letter.Stamp.{Stamp}
use Rattle.nm_base.specs.Message.{Message, same_name}
use Rattle.vector_clocks.specs.Parts.{part}
use Rattle.event_list.specs.declared.Event.{Event}
use Rattle.event_list.specs.Events.{Sends}
use Rattle.event_list.specs.Order.{Before}
use Rattle.cut_witness.specs.declared.posts.Post.{Post}

-- the post of the letter of this name: each event that its past counts happened before the send
pub record IsPost (E : List Event) (id : LetterId) (p : Post) : Type 0 where
  pub send : Event
  pub letter : Message
  pub sends : Sends E send letter
  pub named : letter.id ≡ id
  pub to : letter.dest ≡ p.dest
  pub on : letter.chan ≡ p.chan
  pub past : (x : Event) → Contains E x → x.number ≤ part p.past x.proc.no → Before E x send

-- what is looked up by a name is the post of its letter
pub record ArePosts (E : List Event) (posts : LetterId → Option Post) : Type 0 where
  pub each : (id : LetterId) (p : Post) → posts id ≡ Some p → IsPost E id p

-- each event that a process's clock counts happened before each of the process's events that are left
pub record Knows (E left : List Event) (clock : ℕ → ℕ → ℕ) : Type 0 where
  pub each : (x a : Event) → Contains E x → Contains left a → x.number ≤ clock a.proc.no x.proc.no → Before E x a

-- the name and the post of what is sent, if a letter is
abbrev pub posted : Stamp → Option Message → Option (LetterId × Post)
posted past None = None
posted past (Some m) = Some (m.id, record { dest = m.dest; chan = m.chan; past = past })

-- what is looked up by a name after a post is added, if there is one
abbrev pub added : Option (LetterId × Post) → LetterId → Option Post → Option Post
added None id old = old
added (Some x) id old = if same_name x.0 id then Some x.1 else old

-- the post of the letter that is accepted, if one is
abbrev pub taken_post : (LetterId → Option Post) → Option LetterId → Option Post
taken_post posts None = None
taken_post posts (Some id) = posts id

-- what the letter's past brings to the clock
abbrev pub brought : Option Post → ℕ → ℕ
brought None q = 0
brought (Some p) q = part p.past q

-- a process's own part
abbrev pub own_part : ℕ → ℕ → ℕ → ℕ
own_part p number q = if q == p then number else 0
