-- Values and hexadecimal digits.
use Rattle.std.proofs.Common.{◌≡◌, ℕ, ◌+◌, ◌-◌, ◌*◌, ◌/◌, ◌%◌, ◌<◌, ◌≤◌, ◌≢◌, max, zero, suc, Bool, true, false, not, ◌||◌, cond, eqb, leb, ◌&&◌, List, [], ◌∷◌, ◌++◌, length, get_or, Option, Some, None, option_map, Result, Ok, Err, refl, sym, ap, ◌∙◌, inl, inr, ◌↔◌, arith, length-append, append_assoc, add-one, take, drop, drop-cons}
use Rattle.std.proofs.lemmas.Bool.{cond-true, cond-false, cases_Bool, eqb-true, eq-eqb, both_ways, le-leb, leb-true, and_parts, and_from, or_cases, not-true, false_from_ne_true, cases_eq, cases_lt, agree_below_at}
use Rattle.std.proofs.lemmas.Bool.Decides.{nat_tests}
use Rattle.std.proofs.lemmas.Grind.{get_or-set_at}
use Rattle.std.proofs.lemmas.List.{get_or-set_other, nil_from_length}
use Rattle.std.proofs.lemmas.List.Folds.{list_all_at}
use Rattle.std.proofs.Math.ListN.{set}
use Rattle.std.proofs.Math.Seq.{take-suc-set}
use Rattle.std.specs.List.{list_all}
use Rattle.std.specs.Result.{result_ok}
use Rattle.hex.specs.Hex.{decode_of, decode_pairs, encode_with, encode_lower, lower_digits, hex_digit_value, pair_value, ◌>>=◌}
use Rattle.hex.proofs.HexLemmas.{decode_of-ok, decode_of-even, decode_of-encode_lower, length-encode_with}
use Rattle.hex.specs.declared.error.FromHexError.{FromHexError}
use Rattle.faust_types.specs.Bytes.{AreBytes}
use Rattle.faust_text.specs.declared.error.ValueError.{ValueError}
use Rattle.faust_text.specs.declared.error.ValueError.TheVariants.{Bad, OutOfMemory}
use Rattle.faust_text.specs.Values.{Decodes, Reads, is_plain, is_hex, digit_worth, hex_of, bytes_of, bytes_text, quoted_text, value_text, SpellsValue, unquoted, within, value_of}

neither : (t : Bool) → cond {A = Option (List ℕ)} t None None ≡ None
neither true = refl
neither false = refl

-- Bytes before the last one of a token: its value where they are plain and the last is a quotation mark.
unquoted-last : (value : List ℕ) (mark : ℕ)
    → unquoted (value ++ mark ∷ []) ≡ cond (eqb mark 34 && list_all is_plain value) (Some value) None
unquoted-last [] mark =
    elim (eqb mark 34) as (λ t. cond {A = Option (List ℕ)} t (Some []) (cond {A = Option (List ℕ)} (is_plain mark) None None)
    ≡ cond (t && true) (Some []) None) [
      | true ↦ refl
      | false ↦ neither (is_plain mark)
    ]
unquoted-last (b ∷ bs) mark =
    let more = unquoted-last bs mark in
    elim (cases_Bool (eqb b 34)) [
      | inl inner ↦
          let value : b ≡ 34 = eqb-true b 34 inner in
          let some : eqb (length (bs ++ mark ∷ [])) 0 ≡ false = grind (arith, nat_tests, length-append bs (mark ∷ [])) in
          let not_plain : is_plain b ≡ false = ap is_plain value in
          let none : cond (eqb mark 34 && (is_plain b && list_all is_plain bs)) (Some (b ∷ bs)) None ≡ None =
          ap (λ t. cond (eqb mark 34 && (t && list_all is_plain bs)) (Some (b ∷ bs)) None) not_plain
          ∙ elim (eqb mark 34) as (λ t. cond (t && false) (Some (b ∷ bs)) None ≡ None) [ true ↦ refl | false ↦ refl ] in
          cond-true (eqb b 34) _ _ inner ∙ (cond-false (eqb (length (bs ++ mark ∷ [])) 0) _ _ some ∙ sym none)
      | inr other ↦
          cond-false (eqb b 34) _ _ other ∙ (ap (λ o. cond (is_plain b) (option_map (λ v. b ∷ v) o) None) more
          ∙ elim (eqb mark 34) as (λ m. cond (is_plain b) (option_map (λ v. b ∷ v) (cond (m && list_all is_plain bs) (Some bs) None)) None
          ≡ cond (m && (is_plain b && list_all is_plain bs)) (Some (b ∷ bs)) None) [
            | true ↦ elim (is_plain b) as (λ t. cond t (option_map (λ v. b ∷ v) (cond (list_all is_plain bs) (Some bs) None)) None
                ≡ cond (t && list_all is_plain bs) (Some (b ∷ bs)) None) [
                  | true ↦ elim (list_all is_plain bs) as (λ t. option_map (λ v. b ∷ v) (cond t (Some bs) None)
                      ≡ cond t (Some (b ∷ bs)) None) [ true ↦ refl | false ↦ refl ]
                  | false ↦ refl
                ]
            | false ↦ neither (is_plain b)
          ])
    ]

pub within-last : (limit : ℕ) (body value : List ℕ) (mark : ℕ) → body ≡ value ++ mark ∷ []
    → within limit (unquoted body) ≡ cond (eqb mark 34 && list_all is_plain value && leb (length value) limit) (Some value) None
within-last limit body value mark is =
    ap (λ bs. within limit (unquoted bs)) is ∙ (ap (within limit) (unquoted-last value mark)
    ∙ elim (eqb mark 34 && list_all is_plain value) as (λ t. within limit (cond t (Some value) None)
    ≡ cond (t && leb (length value) limit) (Some value) None) [ true ↦ refl | false ↦ refl ])

drop-two : (xs : List ℕ) (i j : ℕ) → j ≡ i + 2 → i + 1 < length xs → drop i xs ≡ get_or xs i 0 ∷ get_or xs (i + 1) 0 ∷ drop j xs
drop-two xs i j two below =
    let first : i < length xs = omega arith in
    let second : suc i < length xs = omega arith in
    let next : suc i ≡ i + 1 = omega arith in
    let last : suc (suc i) ≡ j = omega arith in
    drop-cons xs i 0 first
    ∙ ap (λ ys. get_or xs i 0 ∷ ys) (drop-cons xs (suc i) 0 second
    ∙ (ap (λ k. get_or xs k 0 ∷ drop (suc (suc i)) xs) next ∙ ap (λ k. get_or xs (i + 1) 0 ∷ drop k xs) last))

-- Digits that decode, few enough.
pub hex_of-found : (limit : ℕ) (digits bytes : List ℕ) → list_all is_hex digits ≡ true → length digits / 2 ≤ limit
    → decode_of digits ≡ Ok bytes → hex_of limit digits ≡ Some bytes
unfolding hex_of
hex_of-found limit digits bytes all few found =
    let even = decode_of-ok digits bytes found in
    let fits : leb (length digits) (2 * limit) ≡ true = le-leb _ _ (omega (arith, even.0)) in
    ap (λ t. cond (t && leb (length digits) (2 * limit)) (result_ok (decode_of digits)) None) all
    ∙ (cond-true (leb (length digits) (2 * limit)) _ _ fits ∙ ap result_ok found)

-- Lower-case digits and the bytes that they spell.
is_hex-at : (c : ℕ) → is_hex c ≡ true → (hex_digit_value c ≡ Some (digit_worth c)) × (digit_worth c < 16) × (c < 103)
is_hex-at c is = (grind (arith, nat_tests), grind (arith, nat_tests), grind (arith, nat_tests))

abbrev stands : ℕ → Bool
stands c = not (is_hex c) || eqb (get_or lower_digits (digit_worth c) 0) c

digit-back : (c : ℕ) → is_hex c ≡ true → get_or lower_digits (digit_worth c) 0 ≡ c
digit-back c is =
    let all : stands c ≡ true = agree_below_at stands (λ _. true) 103 c refl (is_hex-at c is).2 in
    elim (or_cases (not (is_hex c)) _ all) [
      | inl not_hex ↦ absurd (both_ways (is_hex c) (not-true (is_hex c) not_hex) is)
      | inr same ↦ eqb-true _ _ same
    ]

tail_ok : (tail : Result (List ℕ) FromHexError) (byte : ℕ) (bytes : List ℕ) → (tail >>= (λ rest. Ok (byte ∷ rest))) ≡ Ok bytes
    → (rest : List ℕ) × (tail ≡ Ok rest) × (byte ∷ rest ≡ bytes)
tail_ok (Ok rest) byte bytes found = (rest, refl, cc)
tail_ok (Err e) byte bytes found = absurd (cc)

decode_pairs-lower : (i : ℕ) (digits bytes : List ℕ) → list_all is_hex digits ≡ true → decode_pairs i digits ≡ Ok bytes
    → digits ≡ encode_lower bytes
unfolding decode_pairs encode_with
decode_pairs-lower i [] bytes all found = let e : [] ≡ bytes = cc in ap encode_lower e
decode_pairs-lower i (a ∷ []) bytes all found = absurd (cc)
decode_pairs-lower i (a ∷ b ∷ rest) bytes all found =
    let parts = and_parts (is_hex a) _ all in
    let more = and_parts (is_hex b) _ parts.1 in
    let high = is_hex-at a parts.0 in
    let low = is_hex-at b more.0 in
    let pair : pair_value a b i ≡ Ok (digit_worth a * 16 + digit_worth b) = rw (high.0, low.0) refl in
    let byte = digit_worth a * 16 + digit_worth b in
    let tail = tail_ok (decode_pairs (i + 2) rest) byte bytes
    (ap (λ r. r >>= (λ x. decode_pairs (i + 2) rest >>= (λ xs. Ok (x ∷ xs)))) (sym pair) ∙ found) in
    let back = decode_pairs-lower (i + 2) rest tail.0 more.1 tail.1 in
    let first : get_or lower_digits (byte / 16) 0 ≡ a = ap (λ n. get_or lower_digits n 0) (omega (arith, high.1, low.1))
    ∙ digit-back a parts.0 in
    let second : get_or lower_digits (byte % 16) 0 ≡ b = ap (λ n. get_or lower_digits n 0) (omega (arith, high.1, low.1))
    ∙ digit-back b more.0 in
    ap (λ xs. a ∷ b ∷ xs) back ∙ (ap (λ x. x ∷ b ∷ encode_lower tail.0) (sym first)
    ∙ (ap (λ x. get_or lower_digits (byte / 16) 0 ∷ x ∷ encode_lower tail.0) (sym second) ∙ ap encode_lower tail.2))

lower_digits-hex : (n : ℕ) → n < 16 → is_hex (get_or lower_digits n 0) ≡ true
lower_digits-hex n small = agree_below_at (λ k. is_hex (get_or lower_digits k 0)) (λ _. true) 16 n refl small

pub encode_lower-hex : (bytes : List ℕ) → AreBytes bytes → list_all is_hex (encode_lower bytes) ≡ true
unfolding encode_with
encode_lower-hex [] fits = refl
encode_lower-hex (b ∷ bs) fits =
    let small : b < 256 = fits 0 in
    and_from _ _ (lower_digits-hex (b / 16) (omega arith))
    (and_from _ _ (lower_digits-hex (b % 16) (omega arith)) (encode_lower-hex bs (λ k. fits (suc k))))

decoded_ok : (r : Result (List ℕ) FromHexError) (bytes : List ℕ) → result_ok r ≡ Some bytes → r ≡ Ok bytes
decoded_ok (Ok x) bytes found = cc
decoded_ok (Err e) bytes found = absurd (cc)

-- Hexadecimal digits are those of the bytes, and there are no others.
pub hex-are : (limit : ℕ) (digits bytes : List ℕ)
    → (hex_of limit digits ≡ Some bytes) ↔ ((digits ≡ encode_lower bytes) × (length bytes ≤ limit) × AreBytes bytes)
unfolding hex_of
hex-are limit digits bytes = (
  λ found. elim (cases_Bool (list_all is_hex digits && leb (length digits) (2 * limit))) [
    | inl fits ↦
        let parts = and_parts _ _ fits in
        let decoded = decoded_ok (decode_of digits) bytes
        (sym (cond-true (list_all is_hex digits && leb (length digits) (2 * limit)) (result_ok (decode_of digits)) None fits)
        ∙ found) in
        let even = decode_of-ok digits bytes decoded in (
          decode_pairs-lower 0 digits bytes parts.0 (sym (decode_of-even digits even.0) ∙ decoded),
          omega (arith, even.2, leb-true _ _ parts.1),
          even.3,
        )
    | inr not_so ↦
        absurd (let e =
        sym (cond-false (list_all is_hex digits && leb (length digits) (2 * limit)) (result_ok (decode_of digits)) None not_so)
        ∙ found in cc)
  ],
  λ is.
      let back : decode_of digits ≡ Ok bytes = ap decode_of is.0 ∙ decode_of-encode_lower bytes is.2 in
      let len = length-encode_with lower_digits bytes in
      let size = ap length is.0 in
      hex_of-found limit digits bytes (ap (list_all is_hex) is.0 ∙ encode_lower-hex bytes is.2) (omega arith) back,
)

pub bytes_are : (limit : ℕ) (token bytes : List ℕ)
    → (bytes_of limit token ≡ Some bytes) ↔ ((token ≡ bytes_text bytes) × (length bytes ≤ limit) × AreBytes bytes)
bytes_are limit [] bytes = (λ found. absurd (cc), λ is. absurd (let e = is.0 in cc))
bytes_are limit (b ∷ []) bytes = (λ found. absurd (cc), λ is. absurd (let e = is.0 in cc))
bytes_are limit (b ∷ c ∷ digits) bytes = (
  λ found. elim (cases_Bool (eqb b 48 && eqb c 120)) [
    | inl marked ↦
        let parts = and_parts _ _ marked in
        let hex = (hex-are limit digits bytes).0 (sym (cond-true (eqb b 48 && eqb c 120) (hex_of limit digits) None marked) ∙ found) in (
          ap (λ x. x ∷ c ∷ digits) (eqb-true b 48 parts.0)
              ∙ (ap (λ x. 48 ∷ x ∷ digits) (eqb-true c 120 parts.1) ∙ ap (λ xs. 48 ∷ 120 ∷ xs) hex.0),
          hex.1,
          hex.2,
        )
    | inr not_so ↦ absurd (let e = sym (cond-false (eqb b 48 && eqb c 120) (hex_of limit digits) None not_so) ∙ found in cc)
  ],
  λ is.
      let first : b ≡ 48 = let e = is.0 in cc in
      let second : c ≡ 120 = let e = is.0 in cc in
      let rest : digits ≡ encode_lower bytes = let e = is.0 in cc in
      cond-true (eqb b 48 && eqb c 120) (hex_of limit digits) None (and_from _ _ (eq-eqb b 48 first) (eq-eqb c 120 second))
      ∙ (hex-are limit digits bytes).1 (rest, is.1, is.2),
)

-- Digits read one by one.
encode_with-append : (table xs ys : List ℕ) → encode_with table (xs ++ ys) ≡ encode_with table xs ++ encode_with table ys
unfolding encode_with
encode_with-append table [] ys = refl
encode_with-append table (x ∷ xs) ys = ap (λ zs. get_or table (x / 16) 0 ∷ get_or table (x % 16) 0 ∷ zs) (encode_with-append table xs ys)

is_some_digit : (decimal letter : Bool) (x y : ℕ) → cond decimal x (cond letter y 16) < 16 → (decimal || letter) ≡ true
is_some_digit true letter x y small = refl
is_some_digit false true x y small = refl
is_some_digit false false x y small = absurd (omega arith)

pub worth-small : (c : ℕ) → digit_worth c < 16 → is_hex c ≡ true
worth-small c small = is_some_digit (leb 48 c && leb c 57) (leb 97 c && leb c 102) (c - 48) (c - 87) small

pub worth-great : (c : ℕ) → 16 ≤ digit_worth c → is_hex c ≡ false
worth-great c great = false_from_ne_true (is_hex c) (λ is. let small = (is_hex-at c is).1 in omega arith)

spelled_byte : (high low : ℕ) → digit_worth high < 16 → digit_worth low < 16
    → encode_lower ((digit_worth high % 16 * 16 + digit_worth low % 16) ∷ []) ≡ high ∷ low ∷ []
unfolding encode_with
spelled_byte high low small_high small_low =
    let byte = digit_worth high % 16 * 16 + digit_worth low % 16 in
    let first : get_or lower_digits (byte / 16) 0 ≡ high = ap (λ n. get_or lower_digits n 0) (omega arith)
    ∙ digit-back high (worth-small high small_high) in
    let second : get_or lower_digits (byte % 16) 0 ≡ low = ap (λ n. get_or lower_digits n 0) (omega arith)
    ∙ digit-back low (worth-small low small_low) in
    ap (λ x. x ∷ get_or lower_digits (byte % 16) 0 ∷ []) first ∙ ap (λ x. high ∷ x ∷ []) second

-- One more byte of two digits.
pub decoded-more : (digits bytes : List ℕ) (i high low : ℕ) → length digits ≡ 2 * length bytes → i < length bytes
    → high ≡ digit_worth (get_or digits (2 * i) 0) → low ≡ digit_worth (get_or digits (2 * i + 1) 0)
    → high < 16 → low < 16
    → encode_lower (take i bytes) ++ drop (2 * i) digits ≡ digits
    → encode_lower (take (i + 1) (set bytes i (high % 16 * 16 + low % 16))) ++ drop (2 * (i + 1)) digits ≡ digits
decoded-more digits bytes i high low sized below high_is low_is small_high small_low so_far =
    let first = get_or digits (2 * i) 0 in
    let second = get_or digits (2 * i + 1) 0 in
    let byte = high % 16 * 16 + low % 16 in
    let more = drop (2 * (i + 1)) digits in
    let front : take (i + 1) (set bytes i byte) ≡ take i bytes ++ byte ∷ [] = rw add-one (take-suc-set bytes i byte below) in
    let two : drop (2 * i) digits ≡ first ∷ second ∷ more = drop-two digits (2 * i) (2 * (i + 1)) (omega arith) (omega arith) in
    let byte_is : byte ∷ [] ≡ (digit_worth first % 16 * 16 + digit_worth second % 16) ∷ [] =
    ap (λ x. (x % 16 * 16 + low % 16) ∷ []) high_is ∙ ap (λ x. (digit_worth first % 16 * 16 + x % 16) ∷ []) low_is in
    let spelled : encode_lower (byte ∷ []) ≡ first ∷ second ∷ [] = ap encode_lower byte_is
    ∙ spelled_byte first second (omega (arith, high_is)) (omega (arith, low_is)) in
    ap (λ xs. encode_lower xs ++ more) front
    ∙ (ap (λ xs. xs ++ more) (encode_with-append lower_digits (take i bytes) (byte ∷ []))
    ∙ (ap (λ xs. (encode_lower (take i bytes) ++ xs) ++ more) spelled
    ∙ (append_assoc (encode_lower (take i bytes)) (first ∷ second ∷ []) more
    ∙ (ap (λ xs. encode_lower (take i bytes) ++ xs) (sym two) ∙ so_far))))

pub bytes_set : (bytes : List ℕ) (i v : ℕ) → i < length bytes → v < 256 → AreBytes bytes → AreBytes (set bytes i v)
bytes_set bytes i v within small are k =
    elim (cases_eq k i) [
      | inl same ↦ let e = get_or-set_at bytes i k v 0 same within in omega (arith, e)
      | inr other ↦ let e = get_or-set_other bytes i k v 0 other in omega (arith, are k, e)
    ]

-- A byte that is no digit stays one.
pub other-more : (digits : List ℕ) (i greatest high low : ℕ) → 2 * i + 1 < length digits
    → high ≡ digit_worth (get_or digits (2 * i) 0) → low ≡ digit_worth (get_or digits (2 * i + 1) 0)
    → (16 ≤ greatest → list_all is_hex digits ≡ false)
    → 16 ≤ max greatest (max high low)
    → list_all is_hex digits ≡ false
other-more digits i greatest high low below high_is low_is before great =
    elim (cases_lt greatest 16) [
      | inl small ↦ elim (cases_lt high 16) [
        | inl small_high ↦ list_all_at is_hex digits (2 * i + 1) 0 below (worth-great (get_or digits (2 * i + 1) 0) (omega (arith, low_is)))
        | inr great_high ↦ list_all_at is_hex digits (2 * i) 0 (omega arith)
            (worth-great (get_or digits (2 * i) 0) (omega (arith, high_is)))
      ]
      | inr more ↦ before more
    ]

pub not_spelled : (digits bytes : List ℕ) → list_all is_hex digits ≡ false → AreBytes bytes → digits ≡ encode_lower bytes → ⊥
not_spelled digits bytes other are same = both_ways (list_all is_hex digits) other (ap (list_all is_hex) same ∙ encode_lower-hex bytes are)

pub odd_digits : (digits bytes : List ℕ) → length digits % 2 ≢ 0 → digits ≡ encode_lower bytes → ⊥
odd_digits digits bytes odd same =
    let sized : length digits ≡ 2 * length bytes = ap length same ∙ length-encode_with lower_digits bytes in
    odd (omega arith)

pub none_from : (o : Option (List ℕ)) → ((x : List ℕ) → o ≡ Some x → ⊥) → o ≡ None
none_from None none = refl
none_from (Some x) none = absurd (none x refl)

pub too_many_digits : (limit : ℕ) (digits : List ℕ) → limit < length digits / 2 → hex_of limit digits ≡ None
too_many_digits limit digits many =
    none_from (hex_of limit digits) (λ x some.
    let is = (hex-are limit digits x).0 some in
    let sized : length digits ≡ 2 * length x = ap length is.0 ∙ length-encode_with lower_digits x in
    omega (arith, is.1))

-- Reading without a limit, few enough digits.
pub reads_decoded : (limit : ℕ) (digits : List ℕ) (r : Result (List ℕ) ValueError) → length digits / 2 ≤ limit
    → Decodes digits r
    → Reads r (hex_of limit digits)
reads_decoded limit digits (Ok bytes) few is =
    let sized : length digits ≡ 2 * length bytes = ap length is.0 ∙ length-encode_with lower_digits bytes in
    (hex-are limit digits bytes).1 (is.0, omega arith, is.1)
reads_decoded limit digits (Err Bad) few none =
    none_from (hex_of limit digits) (λ x some. let is = (hex-are limit digits x).0 some in none x is.2 is.0)
reads_decoded limit digits (Err OutOfMemory) few is = tt

-- Plain bytes between quotation marks.
prefixed : (b : ℕ) (o : Option (List ℕ)) (value : List ℕ) → option_map (λ v. b ∷ v) o ≡ Some value
    → (rest : List ℕ) × (o ≡ Some rest) × (value ≡ b ∷ rest)
prefixed b None value found = absurd (cc)
prefixed b (Some rest) value found = (rest, refl, cc)

unquoted-only : (body value : List ℕ) → unquoted body ≡ Some value → (body ≡ value ++ 34 ∷ []) × (list_all is_plain value ≡ true)
unquoted-only [] value found = absurd (cc)
unquoted-only (b ∷ bs) value found =
    elim (cases_Bool (eqb b 34)) [
      | inl mark ↦
          let at_mark =
          sym (cond-true (eqb b 34) (cond (eqb (length bs) 0) (Some []) None)
          (cond (is_plain b) (option_map (λ v. b ∷ v) (unquoted bs)) None) mark) ∙ found in
          elim (cases_Bool (eqb (length bs) 0)) [
            | inl last ↦
                let none : [] ≡ value = let e = sym (cond-true (eqb (length bs) 0) (Some []) None last) ∙ at_mark in cc in
                let nothing = nil_from_length bs (eqb-true _ _ last) in (
                  ap (λ x. x ∷ bs) (eqb-true b 34 mark) ∙ (ap (λ xs. 34 ∷ xs) nothing ∙ ap (λ v. v ++ 34 ∷ []) none),
                  ap (list_all is_plain) (sym none),
                )
            | inr more ↦ absurd (let e = sym (cond-false (eqb (length bs) 0) (Some []) None more) ∙ at_mark in cc)
          ]
      | inr other ↦
          let behind =
          sym (cond-false (eqb b 34) (cond (eqb (length bs) 0) (Some []) None)
          (cond (is_plain b) (option_map (λ v. b ∷ v) (unquoted bs)) None) other) ∙ found in
          elim (cases_Bool (is_plain b)) [
            | inl plain ↦
                let rest = prefixed b (unquoted bs) value (sym (cond-true (is_plain b) (option_map (λ v. b ∷ v) (unquoted bs)) None plain)
                ∙ behind) in
                let back = unquoted-only bs rest.0 rest.1 in
                (ap (λ xs. b ∷ xs) back.0 ∙ ap (λ v. v ++ 34 ∷ []) (sym rest.2), ap (list_all is_plain) rest.2 ∙ and_from _ _ plain back.1)
            | inr not_plain ↦ absurd (let e = sym (cond-false (is_plain b) (option_map (λ v. b ∷ v) (unquoted bs)) None not_plain)
                ∙ behind in cc)
          ]
    ]

within-only : (limit : ℕ) (o : Option (List ℕ)) (value : List ℕ) → within limit o ≡ Some value → (o ≡ Some value) × (length value ≤ limit)
within-only limit None value found = absurd (cc)
within-only limit (Some x) value found =
    elim (cases_Bool (leb (length x) limit)) [
      | inl fits ↦
          let same : x ≡ value = let e = sym (cond-true (leb (length x) limit) (Some x) None fits) ∙ found in cc in
          (ap Some same, omega (arith, ap length same, leb-true _ _ fits))
      | inr large ↦ absurd (let e = sym (cond-false (leb (length x) limit) (Some x) None large) ∙ found in cc)
    ]

plain-bytes : (value : List ℕ) → list_all is_plain value ≡ true → AreBytes value
plain-bytes [] plain i = omega arith
plain-bytes (b ∷ bs) plain zero = let first = (and_parts (is_plain b) _ plain).0 in grind (arith, nat_tests)
plain-bytes (b ∷ bs) plain (suc i) = plain-bytes bs (and_parts (is_plain b) _ plain).1 i

quoted-again : (limit : ℕ) (value : List ℕ) → list_all is_plain value ≡ true → length value ≤ limit
    → value_of limit (quoted_text value) ≡ Some value
unfolding value_of
quoted-again limit value plain few =
    within-last limit (value ++ 34 ∷ []) value 34 refl
    ∙ cond-true (list_all is_plain value && leb (length value) limit) (Some value) None (and_from _ _ plain (le-leb _ _ few))

hex-again : (limit : ℕ) (value : List ℕ) → AreBytes value → length value ≤ limit → value_of limit (bytes_text value) ≡ Some value
unfolding value_of
hex-again limit value fits few = (bytes_are limit (bytes_text value) value).1 (refl, few, fits)

-- A token is read as the value that it spells, and no other token has a value.
pub values_are : (limit : ℕ) (token value : List ℕ)
    → (value_of limit token ≡ Some value) ↔ (SpellsValue token value × (length value ≤ limit) × AreBytes value)
unfolding value_of
values_are limit [] value = (λ found. absurd (cc), λ is. absurd (elim is.0 [ inl quoted ↦ (let e = quoted.1 in cc) | inr hex ↦ cc ]))
values_are limit (b ∷ bs) value = (
  λ found. elim (cases_Bool (eqb b 34)) [
    | inl mark ↦
        let inner = within-only limit (unquoted bs) value
        (sym (cond-true (eqb b 34) (within limit (unquoted bs)) (bytes_of limit (b ∷ bs)) mark) ∙ found) in
        let text = unquoted-only bs value inner.0 in
        (inl (text.1, ap (λ x. x ∷ bs) (eqb-true b 34 mark) ∙ ap (λ xs. 34 ∷ xs) text.0), inner.1, plain-bytes value text.1)
    | inr other ↦
        let hex = (bytes_are limit (b ∷ bs) value).0
        (sym (cond-false (eqb b 34) (within limit (unquoted bs)) (bytes_of limit (b ∷ bs)) other) ∙ found) in
        (inr hex.0, hex.1, hex.2)
  ],
  λ is. elim is.0 [
    | inl quoted ↦ ap (value_of limit) quoted.1 ∙ quoted-again limit value quoted.0 is.1
    | inr hex ↦ ap (value_of limit) hex ∙ hex-again limit value is.2 is.1
  ],
)

-- A printed value is read again.
pub printed_again : (limit : ℕ) (value : List ℕ) → AreBytes value → length value ≤ limit
    → value_of limit (value_text (Some value)) ≡ Some value
printed_again limit value fits few =
    elim (cases_Bool (list_all is_plain value)) [
      | inl plain ↦ ap (value_of limit) (cond-true (list_all is_plain value) (quoted_text value) (bytes_text value) plain)
          ∙ quoted-again limit value plain few
      | inr other ↦ ap (value_of limit) (cond-false (list_all is_plain value) (quoted_text value) (bytes_text value) other)
          ∙ hex-again limit value fits few
    ]
