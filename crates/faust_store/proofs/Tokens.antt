-- Tokens that are printed: they are read again as they are joined, and their line isn't too long.
use Rattle.std.proofs.Common.{◌≡◌, ◌≢◌, ℕ, ◌^◌, ◌+◌, ◌*◌, ◌<◌, ◌≤◌, suc, Bool, true, false, not, ltb, eqb, ◌&&◌, List, [], ◌∷◌, ◌++◌, length, get_or, Some, None, refl, sym, ap, ◌∙◌, subst, ◌⊎◌, inl, inr, arith, length-append}
use Rattle.std.specs.Fmt.{decimal}
use Rattle.std.specs.List.{list_all}
use Rattle.std.proofs.lemmas.Bool.{and_parts, both_ways, cases_Bool, cond-false, cond-true, false≢true, ne_eqb, not-true}
use Rattle.std.proofs.lemmas.Fmt.{length-decimal-le}
use Rattle.hex.specs.Hex.{encode_lower, lower_digits}
use Rattle.hex.proofs.HexLemmas.{length-encode_with}
use Rattle.faust_types.specs.Bytes.{IsValue}
use Rattle.faust_text.specs.Fields.{value}
use Rattle.faust_text.specs.Lines.{IsWithout}
use Rattle.faust_text.specs.Numbers.{is_number, worth}
use Rattle.faust_text.specs.Spelled.{IsNumberIn, SpellsField}
use Rattle.faust_text.specs.Tokens.{CanBeJoined, IsPlainToken, IsQuotedToken, joined, tokens_of}
use Rattle.faust_text.specs.Values.{bytes_text, is_hex, is_plain, quoted_text, value_text}
use Rattle.faust_text.proofs.FieldLaws.{some_same}
use Rattle.faust_text.proofs.NumberLaws.{digits_at, is_number-decimal, number_of-decimal}
use Rattle.faust_text.proofs.TokenLaws.{joined_are_read}
use Rattle.faust_text.proofs.ValueLaws.{encode_lower-hex, printed_again, values_are}
use Rattle.faust_record.specs.Entries.{AreHandedIn}

-- Bytes without a byte.
without_by_places : (b : ℕ) (xs : List ℕ) → ((i : ℕ) → i < length xs → get_or xs i 0 ≢ b) → IsWithout b xs
without_by_places b [] away = tt
without_by_places b (x ∷ xs) away =
    (ne_eqb x b (away 0 (omega arith)), without_by_places b xs (λ i below. away (suc i) (omega (arith, below))))

without_test : (b : ℕ) (test : ℕ → Bool) (xs : List ℕ) → test b ≡ false → list_all test xs ≡ true → IsWithout b xs
without_test b test [] other all = tt
without_test b test (x ∷ xs) other all =
    let parts = and_parts (test x) _ all in
    (ne_eqb x b (λ same. both_ways (test b) other (ap test (sym same) ∙ parts.0)), without_test b test xs other parts.1)

pub without_append : (b : ℕ) (xs ys : List ℕ) → IsWithout b xs → IsWithout b ys → IsWithout b (xs ++ ys)
without_append b [] ys first rest = rest
without_append b (x ∷ xs) ys first rest = (first.0, without_append b xs ys first.1 rest)

-- A token of a printed line. The last one may be longer, and may stand between quotation marks.
pub record IsMiddle (token : List ℕ) : Type 0 where
  pub plain : IsPlainToken token
  pub one_line : IsWithout 10 token
  pub short : length token ≤ 20

pub record IsLast (token : List ℕ) : Type 0 where
  pub joinable : IsPlainToken token ⊎ IsQuotedToken token
  pub one_line : IsWithout 10 token
  pub short : length token ≤ 32770

abbrev pub AreTokens : List (List ℕ) → Type 0
AreTokens [] = ⊥
AreTokens (token ∷ []) = IsLast token
AreTokens (token ∷ next ∷ tokens) = IsMiddle token × AreTokens (next ∷ tokens)

pub as_last : (token : List ℕ) → IsMiddle token → IsLast token
as_last token is = record { joinable = inl is.plain; one_line = is.one_line; short = omega (arith, is.short) }

joinable : (tokens : List (List ℕ)) → AreTokens tokens → CanBeJoined tokens
joinable [] are = absurd are
joinable (token ∷ []) are = are.joinable
joinable (token ∷ next ∷ tokens) are = (are.0.plain, joinable (next ∷ tokens) are.1)

pub tokens_again : (tokens : List (List ℕ)) → AreTokens tokens → tokens_of (joined tokens) ≡ tokens
tokens_again tokens are = joined_are_read tokens (joinable tokens are)

pub joined_line : (tokens : List (List ℕ)) → AreTokens tokens → IsWithout 10 (joined tokens)
joined_line [] are = absurd are
joined_line (token ∷ []) are = are.one_line
joined_line (token ∷ next ∷ tokens) are =
    without_append 10 token (32 ∷ joined (next ∷ tokens)) are.0.one_line (refl, joined_line (next ∷ tokens) are.1)

pub joined_short : (tokens : List (List ℕ)) → AreTokens tokens → length (joined tokens) ≤ 21 * length tokens + 32770
joined_short [] are = absurd are
joined_short (token ∷ []) are = omega (arith, are.short)
joined_short (token ∷ next ∷ tokens) are =
    let rest = joined (next ∷ tokens) in
    let size : length (token ++ (32 ∷ rest)) ≡ length token + suc (length rest) = length-append token (32 ∷ rest) in
    let more = joined_short (next ∷ tokens) are.1 in
    omega (arith, size, more, are.0.short)

-- Words.
abbrev pub word_test : List ℕ → Bool
word_test [] = false
word_test (b ∷ bs) = not (eqb b 34) && list_all (λ x. not (eqb x 32)) (b ∷ bs)

abbrev pub line_test : List ℕ → Bool
line_test bs = list_all (λ x. not (eqb x 10)) bs

without_by_test : (b : ℕ) (xs : List ℕ) → list_all (λ x. not (eqb x b)) xs ≡ true → IsWithout b xs
without_by_test b [] test = tt
without_by_test b (x ∷ xs) test = let parts = and_parts (not (eqb x b)) _ test in (not-true (eqb x b) parts.0, without_by_test b xs parts.1)

plain_by_test : (token : List ℕ) → word_test token ≡ true → IsPlainToken token
plain_by_test [] test = absurd (false≢true test)
plain_by_test (b ∷ bs) test =
    let parts = and_parts (not (eqb b 34)) _ test in
    (not-true (eqb b 34) parts.0, without_by_test 32 (b ∷ bs) parts.1)

pub middle_word : (token : List ℕ) → word_test token ≡ true → line_test token ≡ true → length token ≤ 20 → IsMiddle token
middle_word token plain line short = record { plain = plain_by_test token plain; one_line = without_by_test 10 token line; short = short }

-- Numbers.
digits_without : (b : ℕ) (token : List ℕ) → b < 48 → is_number token ≡ true → IsWithout b token
digits_without b token below digits =
    without_by_places b token (λ i within same. let at = digits_at token i digits within in omega (arith, at.0, same))

digits_plain : (token : List ℕ) → is_number token ≡ true → IsPlainToken token
digits_plain [] digits = absurd (false≢true digits)
digits_plain (b ∷ bs) digits =
    let first = digits_at (b ∷ bs) 0 digits (omega arith) in
    (ne_eqb b 34 (λ same. omega (arith, first.0, same)), digits_without 32 (b ∷ bs) (omega arith) digits)

pub middle_number : (x : ℕ) → x < 2 ^ 64 → IsMiddle (decimal x)
middle_number x fits =
    let digits = is_number-decimal x fits in
    record {
      plain = digits_plain (decimal x) digits;
      one_line = digits_without 10 (decimal x) (omega arith) digits;
      short = length-decimal-le 20 x (omega arith) (omega arith) fits;
    }

worth-decimal : (x : ℕ) → x < 2 ^ 64 → worth (decimal x) ≡ x
worth-decimal x fits =
    let token = decimal x in
    let test = is_number token && ltb (worth token) (2 ^ 64) in
    elim (cases_Bool test) [
      | inl held ↦ some_same (worth token) x (sym (cond-true test (Some (worth token)) None held) ∙ number_of-decimal x fits)
      | inr failed ↦ absurd (let e = sym (cond-false test (Some (worth token)) None failed) ∙ number_of-decimal x fits in cc)
    ]

pub number_spelled : (low high x : ℕ) → low ≤ x → x ≤ high → x < 2 ^ 64 → IsNumberIn low high x (decimal x)
number_spelled low high x from to fits = record { digits = is_number-decimal x fits; worth_it = worth-decimal x fits; from = from; to = to }

-- Values and bytes.
no_feed_in_hex : is_hex 10 ≡ false
no_feed_in_hex = refl

pub last_bytes : (bytes : List ℕ) → AreHandedIn bytes → IsLast (bytes_text bytes)
last_bytes bytes are =
    let hex = encode_lower-hex bytes are.bytes_each in
    let size = length-encode_with lower_digits bytes in
    record {
      joinable = inl (refl, (refl, (refl, without_test 32 is_hex (encode_lower bytes) refl hex)));
      one_line = (refl, (refl, without_test 10 is_hex (encode_lower bytes) refl hex));
      short = omega (arith, size, are.sized);
    }

quoted_last : (bytes : List ℕ) → IsValue bytes → list_all is_plain bytes ≡ true → IsLast (quoted_text bytes)
quoted_last bytes is plain =
    let size = length-append bytes (34 ∷ []) in
    record {
      joinable = inr (bytes, refl, without_test 34 is_plain bytes refl plain);
      one_line = (refl, without_append 10 bytes (34 ∷ []) (without_test 10 is_plain bytes refl plain) (refl, tt));
      short = omega (arith, size, is.sized);
    }

pub last_value : (bytes : List ℕ) → IsValue bytes → IsLast (value_text (Some bytes))
last_value bytes is =
    let quoted = quoted_text bytes in
    let digits = bytes_text bytes in
    elim (cases_Bool (list_all is_plain bytes)) [
      | inl plain ↦ subst IsLast (sym (cond-true (list_all is_plain bytes) quoted digits plain)) (quoted_last bytes is plain)
      | inr other ↦ subst IsLast (sym (cond-false (list_all is_plain bytes) quoted digits other))
          (last_bytes bytes (record { sized = omega (arith, is.sized); bytes_each = is.bytes_each }))
    ]

pub value_spelled : (bytes : List ℕ) → IsValue bytes → SpellsField value bytes (value_text (Some bytes))
value_spelled bytes is =
    (values_are 4096 (value_text (Some bytes)) bytes).0 (printed_again 4096 bytes is.bytes_each is.sized)
