-- The parts of timestamps and clocks.
use Rattle.std.specs.Prelude.{ℕ, ◌+◌, ◌==◌, ◌&&◌, max, List, [], slice_index, slice_index_or, if◌then◌else◌}
use Rattle.nm_base.specs.declared.letter.Stamp.{Stamp}

-- part q of a timestamp
abbrev pub part : Stamp → ℕ → ℕ
part s q = slice_index s.parts q

abbrev pub no_stamp : Stamp
no_stamp = record { parts = [] }

-- part q of the clock of process p
abbrev pub part_of : List Stamp → ℕ → ℕ → ℕ
part_of stamps p q = part (slice_index_or stamps p no_stamp) q

-- after a tick of p
abbrev pub ticked_part : (ℕ → ℕ → ℕ) → ℕ → ℕ → ℕ → ℕ
ticked_part clock p r q = if (r == p) && (q == p) then clock r q + 1 else clock r q

-- after p merged a timestamp
abbrev pub merged_part : (ℕ → ℕ → ℕ) → ℕ → (ℕ → ℕ) → ℕ → ℕ → ℕ
merged_part clock p stamp r q = if r == p then max (clock r q) (stamp q) else clock r q
