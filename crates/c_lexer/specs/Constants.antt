-- Numbers and escapes, by their digits.
use Rattle.std.specs.Prelude.{ℕ, ◌+◌, ◌*◌, ◌^◌, not, ◌||◌, ◌&&◌, ◌==◌, nat_eq, nat_lt, if◌then◌else◌, List, [], ◌∷◌, length, take, drop, take_while, find, fold, Option, Some, None, option_map, codes}
use Rattle.std.specs.List.{starts_with}
use Rattle.std.specs.Char.{digit_value, is_digit}
use Rattle.nm_base.specs.declared.operator.Ctype.{Ctype}
use Rattle.nm_base.specs.declared.operator.Ctype.TheVariants.{Int, Unsigned}

-- the longest front of digits to a base
abbrev pub digits_at : ℕ → List ℕ → List ℕ
digits_at base text = take_while (λ b. is_digit b base) text

-- the value of digits to a base, the highest first
abbrev pub value_of : ℕ → List ℕ → ℕ
value_of base digits = fold (λ n d. n * base + digit_value d) 0 digits

-- A value without a suffix is an int where it fits. Else it is unsigned, unless it is decimal.
abbrev pub unsuffixed : ℕ → ℕ → Option (ℕ × Ctype)
unsuffixed base value =
    if nat_lt value (2 ^ 31) then Some (value, Int)
    else if nat_lt value (2 ^ 32) && not (base == 10) then Some (value, Unsigned)
    else None

-- behind the digits there is nothing, or one `u` or `U`
abbrev pub typed : ℕ → ℕ → List ℕ → Option (ℕ × Ctype)
typed base value [] = unsuffixed base value
typed base value (b ∷ []) = if (b == 117 || b == 85) && nat_lt value (2 ^ 32) then Some (value, Unsigned) else None
typed base value (b ∷ c ∷ rest) = None

-- a constant to a base: at least one digit, and a suffix
unfoldable pub constant_of : ℕ → List ℕ → Option (ℕ × Ctype)
constant_of base word =
    let digits = digits_at base word in
    if length digits == 0 then None else typed base (value_of base digits) (drop (length digits) word)

-- The pattern of the constant that a word is, and its type: hexadecimal behind `0x`, octal behind `0`, else decimal.
unfoldable pub number_of : List ℕ → Option (ℕ × Ctype)
number_of word =
    if starts_with nat_eq word (codes "0x") || starts_with nat_eq word (codes "0X") then constant_of 16 (drop 2 word)
    else if starts_with nat_eq word (codes "0") then constant_of 8 word
    else constant_of 10 word

-- the escapes of one letter or mark, and their values: \n \t \v \b \r \f \a \\ \? \' \"
unfoldable pub simple_escapes : List (ℕ × ℕ)
simple_escapes =
    (110, 10) ∷ (116, 9) ∷ (118, 11) ∷ (98, 8) ∷ (114, 13) ∷ (102, 12) ∷ (97, 7) ∷
    (92, 92) ∷ (63, 63) ∷ (39, 39) ∷ (34, 34) ∷ []

abbrev pub simple_escape : ℕ → Option ℕ
simple_escape b = option_map (λ e. e.1) (find (λ e. e.0 == b) simple_escapes)

-- the value of digits, where there are any and it fits a byte
abbrev pub byte_of : ℕ → List ℕ → Option ℕ
byte_of base digits =
    let value = value_of base digits in
    if length digits == 0 || nat_lt 255 value then None else Some value

-- What stands behind a backslash: the value of the escape, and how many bytes it has there.
-- It is `x` and all hexadecimal digits that follow, or one to three octal digits, or a letter or mark of the table.
unfoldable pub escape_at : List ℕ → Option (ℕ × ℕ)
escape_at [] = None
escape_at (b ∷ rest) =
    let hex = digits_at 16 rest in
    let octal = digits_at 8 (take 3 (b ∷ rest)) in
    if b == 120 then option_map (λ v. (v, 1 + length hex)) (byte_of 16 hex)
    else if is_digit b 8 then option_map (λ v. (v, length octal)) (byte_of 8 octal)
    else option_map (λ v. (v, 1)) (simple_escape b)
