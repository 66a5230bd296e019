-- The events that were made last.
use Rattle.std.specs.Prelude.{◌-◌, List, length, drop}
use Rattle.event_list.specs.declared.Event.{Event}
use Rattle.debugger.specs.declared.latest.TheConstants.{MAX_LATEST}

-- the latest sixteen of the events that were made
abbrev pub latest_of : List Event → List Event
latest_of made = drop (length made - MAX_LATEST) made
