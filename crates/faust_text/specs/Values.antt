-- Values and bytes as tokens.
use Rattle.std.specs.Prelude.{◌≡◌, ◌≢◌, ℕ, ◌-◌, ◌*◌, ◌==◌, ◌&&◌, ◌||◌, nat_le, not, Bool, true, cond, List, [], ◌∷◌, ◌++◌, length, codes, Option, Some, None, option_map, Result, Ok, Err, ◌⊎◌}
use Rattle.std.specs.List.{list_all}
use Rattle.std.specs.Result.{result_ok}
use Rattle.hex.specs.Hex.{decode_of, encode_lower}
use Rattle.faust_types.specs.Bytes.{AreBytes}
use Rattle.faust_text.specs.declared.error.ValueError.{ValueError}
use Rattle.faust_text.specs.declared.error.ValueError.TheVariants.{Bad, OutOfMemory}

-- A byte that may stand between quotation marks: 32 to 126, but neither a mark nor a backslash.
abbrev pub is_plain : ℕ → Bool
is_plain b = nat_le 32 b && nat_le b 126 && not (b == 34) && not (b == 92)

-- A hexadecimal digit, in lower case alone.
abbrev pub is_hex : ℕ → Bool
is_hex b = (nat_le 48 b && nat_le b 57) || (nat_le 97 b && nat_le b 102)

-- The bytes that digits spell, two digits a byte, where they are no more than the limit.
unfoldable pub hex_of : ℕ → List ℕ → Option (List ℕ)
hex_of limit digits = cond (list_all is_hex digits && nat_le (length digits) (2 * limit)) (result_ok (decode_of digits)) None

-- What a digit is worth, and 16 for a byte that is none.
abbrev pub digit_worth : ℕ → ℕ
digit_worth b = cond (nat_le 48 b && nat_le b 57) (b - 48) (cond (nat_le 97 b && nat_le b 102) (b - 87) 16)

-- What reading digits without a limit answers: the bytes whose digits they are, or `Bad` where there are none.
abbrev pub Decodes : List ℕ → Result (List ℕ) ValueError → Type 0
Decodes digits (Ok bytes) = (digits ≡ encode_lower bytes) × AreBytes bytes
Decodes digits (Err Bad) = (bytes : List ℕ) → AreBytes bytes → digits ≢ encode_lower bytes
Decodes digits (Err OutOfMemory) = Unit {0}

-- The same behind `0x`.
abbrev pub bytes_of : ℕ → List ℕ → Option (List ℕ)
bytes_of limit [] = None
bytes_of limit (b ∷ []) = None
bytes_of limit (b ∷ c ∷ digits) = cond ((b == 48) && (c == 120)) (hex_of limit digits) None

-- The plain bytes before a closing quotation mark that ends the token.
abbrev pub unquoted : List ℕ → Option (List ℕ)
unquoted [] = None
unquoted (b ∷ bs) =
    cond (b == 34) (cond (length bs == 0) (Some []) None) (cond (is_plain b) (option_map (λ value. b ∷ value) (unquoted bs)) None)

abbrev pub within : ℕ → Option (List ℕ) → Option (List ℕ)
within limit None = None
within limit (Some value) = cond (nat_le (length value) limit) (Some value) None

-- The value of a token: plain bytes between quotation marks, or hexadecimal digits behind `0x`.
unfoldable pub value_of : ℕ → List ℕ → Option (List ℕ)
value_of limit [] = None
value_of limit (b ∷ bs) = cond (b == 34) (within limit (unquoted bs)) (bytes_of limit (b ∷ bs))

-- What reading a token answers: the value due, or `Bad` where there is none.
abbrev pub Reads : Result (List ℕ) ValueError → Option (List ℕ) → Type 0
Reads (Ok value) due = due ≡ Some value
Reads (Err Bad) due = due ≡ None
Reads (Err OutOfMemory) due = Unit {0}

-- The spellings.
abbrev pub quoted_text : List ℕ → List ℕ
quoted_text value = 34 ∷ (value ++ 34 ∷ [])

abbrev pub bytes_text : List ℕ → List ℕ
bytes_text bytes = 48 ∷ 120 ∷ encode_lower bytes

-- How a value is printed: between quotation marks where all its bytes are plain, and else in digits. No value is
-- `none`.
abbrev pub value_text : Option (List ℕ) → List ℕ
value_text None = codes "none"
value_text (Some value) = cond (list_all is_plain value) (quoted_text value) (bytes_text value)

-- A token spells a value.
abbrev pub SpellsValue : List ℕ → List ℕ → Type 0
SpellsValue token value = ((list_all is_plain value ≡ true) × (token ≡ quoted_text value)) ⊎ (token ≡ bytes_text value)
