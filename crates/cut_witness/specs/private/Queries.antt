-- What is looked for in a list of events.
use Rattle.std.specs.Prelude.{◌≡◌, ℕ, ◌==◌, ◌&&◌, Bool, true, false, nat_lt, List, [], ◌∷◌, ◌++◌, Option, Some, None, Contains}
use Rattle.nm_base.specs.declared.letter.LetterId.{LetterId}
use Rattle.nm_base.specs.declared.letter.ProcNo.{ProcNo}
use Rattle.nm_base.specs.declared.kind.Kind.{Kind}
use Rattle.nm_base.specs.declared.kind.Kind.TheVariants.{Accepted}
use Rattle.nm_base.specs.Channels.{has_channel}
use Rattle.nm_base.specs.Message.{Message, same_name}
use Rattle.event_list.specs.declared.Event.{Event}
use Rattle.event_list.specs.Events.{letter_of, taken_of}
use Rattle.event_list.specs.Clocks.{is_named}
use Rattle.event_list.specs.Turns.{precedes}
use Rattle.cut_witness.specs.declared.query.Query.{Query}
use Rattle.cut_witness.specs.declared.query.Query.TheVariants.{Send, Receive, Predecessor, Naming}

-- whether the name that is accepted, if one is, is this one
abbrev pub is_name : Option LetterId → LetterId → Bool
is_name None id = false
is_name (Some taken) id = same_name taken id

-- whether the letter that is sent, if one is, comes before a letter of this name to this process on this channel
abbrev pub is_before : Option Message → LetterId → ProcNo → ℕ → Bool
is_before None id dest chan = false
is_before (Some l) id dest chan = precedes l (record { id = id; dest = dest; chan = chan; words = [] })

-- whether the number is below a limit, if there is one
abbrev pub is_below : ℕ → Option ℕ → Bool
is_below k None = true
is_below k (Some limit) = nat_lt k limit

-- whether the kind is a receive whose set names the channel
abbrev pub is_naming : Kind → ℕ → Bool
is_naming (Accepted set id) chan = has_channel set chan
is_naming _ chan = false

-- whether the event is what is looked for
abbrev pub meets : Query → Event → Bool
meets (Send id) e = is_named (letter_of e) id
meets (Receive id) e = is_name (taken_of e) id
meets (Predecessor id dest chan) e = is_before (letter_of e) id dest chan
meets (Naming dest chan above below) e =
    (is_naming e.kind chan && (e.proc.no == dest.no)) && (nat_lt above e.number && is_below e.number below)

-- no event of the list passes the test
abbrev pub NonePasses : (Event → Bool) → List Event → Type 0
NonePasses test E = (x : Event) → Contains E x → test x ≡ true → ⊥

-- the last event of the list that passes the test, if one does
abbrev pub IsLastPassing : (Event → Bool) → List Event → Option Event → Type 0
IsLastPassing test E None = NonePasses test E
IsLastPassing test E (Some e) =
    (before : List Event) × (after : List Event) × (E ≡ before ++ (e ∷ after)) × (test e ≡ true) × NonePasses test after
