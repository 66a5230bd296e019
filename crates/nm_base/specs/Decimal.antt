-- Decimal numbers in texts.
use Rattle.std.specs.Prelude.{ℕ, ◌+◌, ◌-◌, ◌*◌, ◌^◌, List, length, Bool, ◌&&◌, nat_le, nat_lt, Option, Some, None, if◌then◌else◌, fold}
use Rattle.std.specs.List.{list_all}

abbrev pub is_digit : ℕ → Bool
is_digit c = nat_le 48 c && nat_le c 57

-- what decimal digits stand for
abbrev pub value_of : List ℕ → ℕ
value_of digits = fold (λ v d. 10 * v + (d - 48)) 0 digits

-- a number has 1 to 10 decimal digits and is at most 4294967295
abbrev pub number_of : List ℕ → Option ℕ
number_of word =
    if nat_le 1 (length word) && nat_le (length word) 10 && list_all is_digit word && nat_lt (value_of word) (2 ^ 32)
    then Some (value_of word) else None
