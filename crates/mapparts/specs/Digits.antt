-- Numbers as digits write them, without a sign or leading zeros.
use Rattle.std.specs.Prelude.{ℕ, ◌+◌, ◌-◌, ◌*◌, ◌==◌, nat_lt, nat_le, ◌&&◌, List, [], ◌∷◌, Option, Some, None, option_and_then, if◌then◌else◌}

-- the number that a byte stands for as a digit: 0 to 9, and a to f for 10 to 15
abbrev pub digit_value : ℕ → Option ℕ
digit_value c =
    if nat_le 48 c && nat_le c 57 then Some (c - 48)
    else if nat_le 97 c && nat_le c 102 then Some (c - 87)
    else None

-- the number that a byte stands for as a digit of a base
unfoldable pub digit_of : ℕ → ℕ → Option ℕ
digit_of base c = option_and_then (λ d. if nat_lt d base then Some d else None) (digit_value c)

-- the number that digits make behind the digits of n; none where a byte is no digit
unfoldable pub value_after : ℕ → ℕ → List ℕ → Option ℕ
value_after base n [] = Some n
value_after base n (c ∷ cs) = option_and_then (λ d. value_after base (n * base + d) cs) (digit_of base c)

-- the number that a text is: one digit or more, the first of several not 0
unfoldable pub number_in : ℕ → List ℕ → Option ℕ
number_in base [] = None
number_in base (c ∷ []) = value_after base 0 (c ∷ [])
number_in base (c ∷ d ∷ cs) = if c == 48 then None else value_after base 0 (c ∷ d ∷ cs)

-- a number below a limit
abbrev pub below : ℕ → ℕ → Option ℕ
below limit n = if nat_lt n limit then Some n else None
