-- What bytes stand for: a trace, or the damage of the first rule that is broken in file order.
use Rattle.std.specs.Prelude.{◌≡◌, ℕ, List, ◌++◌, Ok, Err}
use Rattle.trace_file.specs.declared.fault.TraceFault.{TraceFault}
use Rattle.trace_file.specs.declared.fault.TraceFault.TheVariants as faults
use Rattle.trace_file.specs.declared.item.Item.TheVariants.{End}
use Rattle.trace_file.specs.Content.{Content}
use Rattle.trace_file.specs.Bytes.{front, spelling}
use Rattle.trace_file.specs.Rules.{IsFront, IsTrace}
use Rattle.trace_file.specs.Reading.{Damage, header_at, item_at, end_at}

-- Up to the broken item the bytes are the front of a trace that breaks no rule.
pub data IsDamage (bytes : List ℕ) : Damage → Type 0 where
  in_header : {d : Damage} → header_at bytes ≡ Err d → IsDamage bytes d
  in_entry : {d : Damage} (t : Content) (rest : List ℕ) → IsFront t → bytes ≡ front t ++ rest
      → item_at t rest ≡ Err d → IsDamage bytes d
  in_end : {d : Damage} (t : Content) (rest : List ℕ) → IsFront t → bytes ≡ front t ++ rest
      → item_at t rest ≡ Ok End → end_at t.n (front t) rest ≡ Err d → IsDamage bytes d

-- t keeps all rules, and these bytes spell it
pub record IsSpelling (t : Content) (bytes : List ℕ) : Type 0 where
  pub rules : IsTrace t
  pub spelled : bytes ≡ spelling t

-- what a fault tells of the bytes
abbrev pub TellsDamage : List ℕ → TraceFault → Type 0
TellsDamage bytes (faults.Damage kind place) = IsDamage bytes (kind, place)
TellsDamage bytes faults.Memory = Unit {0}
