-- Numbers in decimal digits.
use Rattle.std.specs.Prelude.{ℕ, ◌^◌, ◌==◌, ◌&&◌, Bool, false, cond, if◌then◌else◌, List, [], ◌∷◌, length, nat_le, nat_lt, Option, Some, None}
use Rattle.std.specs.Char.{is_ascii_digit}
use Rattle.std.specs.List.{list_all}
use Rattle.std.specs.Str.Parse.{digits_value}

-- A number is `0`, or a digit from 1 to 9 and any digits.
abbrev pub is_number : List ℕ → Bool
is_number [] = false
is_number (digit ∷ digits) = cond (digit == 48) (length (digit ∷ digits) == 1) (list_all is_ascii_digit (digit ∷ digits))

-- What the digits are worth, without any bound.
abbrev pub worth : List ℕ → ℕ
worth digits = digits_value 10 digits

-- The number that a token is, if it fits 64 bits.
abbrev pub number_of : List ℕ → Option ℕ
number_of token = cond (is_number token && nat_lt (worth token) (2 ^ 64)) (Some (worth token)) None

-- The number that a token is, if it is from one number to another.
abbrev pub between : ℕ → ℕ → Option ℕ → Option ℕ
between low high None = None
between low high (Some x) = if nat_le low x && nat_le x high then Some x else None

abbrev pub number_between : List ℕ → ℕ → ℕ → Option ℕ
number_between token low high = between low high (number_of token)
