-- What the functions below decode return.
use Rattle.std.specs.Prelude.{◌≡◌, ℕ, List, Result, Ok, Err}
use Rattle.trace_file.specs.declared.fault.BrokenRule.{BrokenRule}
use Rattle.trace_file.specs.Content.{Content}
use Rattle.trace_file.specs.Reading.{Damage}
use Rattle.trace_file.specs.Outcomes.{IsDamage, IsSpelling}

-- What a function returned, seen by view, is what reading gives.
abbrev pub Finds : {X Y : Type 0} → (X → Y) → Result X BrokenRule → Result Y Damage → Type 0
Finds view (Ok x) read = read ≡ Ok (view x)
Finds view (Err d) read = read ≡ Err (d.kind, d.place)

-- the bytes are those of a trace, or have a damage
abbrev pub HasReading : List ℕ → Result Content Damage → Type 0
HasReading bytes (Ok t) = IsSpelling t bytes
HasReading bytes (Err d) = IsDamage bytes d
