-- A watcher of any of the three kinds is the one that it holds.
use Rattle.std.specs.Prelude.{flat_map}
use Rattle.watchers.specs.declared.any_watcher.AnyWatcher.{AnyWatcher}
use Rattle.watchers.specs.declared.any_watcher.AnyWatcher.TheVariants.{Kinds, Faults, Letters}
use Rattle.watchers.specs.Kinds.{kind_count, fault_stop, fault_notes, letter_log, name_notes}
use Rattle.watchers.specs.Watched.{Watched}

abbrev pub any_watched : AnyWatcher → Watched
any_watched (Kinds w) = record { kind = kind_count; notes = w.counts }
any_watched (Faults w) = record { kind = fault_stop; notes = fault_notes w.faults w.at_fault }
any_watched (Letters w) = record { kind = letter_log; notes = flat_map name_notes w.letters.items }
