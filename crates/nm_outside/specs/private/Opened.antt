-- What opening a file answers.
use Rattle.std.specs.Prelude.{Bool, true, false}
use Rattle.nm_outside.specs.declared.fault_count.Opened.{Opened}
use Rattle.nm_outside.specs.declared.fault_count.Opened.TheVariants.{File, Absent, Failed}

-- whether the file isn't there
abbrev pub is_missing : {F : Type 0} → Opened F → Bool
is_missing (File file) = false
is_missing Absent = true
is_missing Failed = false

-- whether the file is there and couldn't be opened
abbrev pub is_unopened : {F : Type 0} → Opened F → Bool
is_unopened (File file) = false
is_unopened Absent = false
is_unopened Failed = true
