-- The printed names of the kinds of damage.
use Rattle.std.specs.Prelude.{ℕ, List, codes}
use Rattle.trace_file.specs.declared.fault.DamageKind.{DamageKind}
use Rattle.trace_file.specs.declared.fault.DamageKind.TheVariants.{Short, Magic, Version, Count, Tag, Process, Order, Repeat, Digest, Trailing}

-- each kind by its own name
abbrev pub name_of : DamageKind → List ℕ
name_of Short = codes "Short"
name_of Magic = codes "Magic"
name_of Version = codes "Version"
name_of Count = codes "Count"
name_of Tag = codes "Tag"
name_of Process = codes "Process"
name_of Order = codes "Order"
name_of Repeat = codes "Repeat"
name_of Digest = codes "Digest"
name_of Trailing = codes "Trailing"
