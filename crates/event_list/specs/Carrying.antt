-- Carrying out the turns of a certificate: each names a process, and the letter that it accepts, if it accepts one.
use Rattle.std.specs.Prelude.{ℕ, List, [], ◌∷◌, ◌++◌, Option, Some, None, option_map, find, fold, map}
use Rattle.nm_base.specs.declared.letter.LetterId.{LetterId}
use Rattle.nm_base.specs.declared.kind.Kind.TheVariants.{Accepted}
use Rattle.nm_base.specs.Message.{same_name}
use Rattle.nm_base.specs.Scripts.{Script, Next, Goes, Wants}
use Rattle.event_list.specs.declared.Event.{Event}
use Rattle.event_list.specs.Events.{count, messages, taken_of}
use Rattle.event_list.specs.Turns.{allowed, next_event}

pub record Move : Type 0 where
  pub proc : ℕ
  pub takes : Option LetterId

-- the event that p makes, by what its script does next: the named letter's receive, or without a name no receive
abbrev pub move_by : ℕ → List Event → ℕ → Option LetterId → Next → Option Event
move_by M E p None (Goes kind) = Some (next_event E p kind)
move_by M E p (Some id) (Wants set) =
    option_map (λ m. next_event E p (Accepted set m.id)) (find (λ m. same_name m.id id) (allowed M None E p set))
move_by M E p _ _ = None

-- the events with that of one more move, if it can be carried out
abbrev pub after_move : (ℕ → Script) → ℕ → Option (List Event) → Move → Option (List Event)
after_move s M None move = None
after_move s M (Some E) move =
    option_map (λ e. E ++ e ∷ [])
    (move_by M E move.proc move.takes ((s move.proc).next (messages E move.proc) (count E move.proc)))

-- what the moves make, if they can all be carried out
abbrev pub carried_out : (ℕ → Script) → ℕ → List Move → Option (List Event)
carried_out s M moves = fold (after_move s M) (Some []) moves

-- the moves of a list's events
abbrev pub move_of : Event → Move
move_of e = record { proc = e.proc.no; takes = taken_of e }

abbrev pub moves_of : List Event → List Move
moves_of E = map move_of E
