-- A printed head is a head: its lines are tokens parted by blanks, and spell the config that was printed.
use Rattle.std.proofs.Common.{◌≡◌, ◌≢◌, ℕ, ◌^◌, ◌-◌, ◌<◌, ◌≤◌, zero, suc, Bool, true, false, cond, not, ltb, leb, eqb, ◌&&◌, List, [], ◌∷◌, ◌++◌, length, get_or, Some, None, refl, sym, ap, ◌∙◌, subst, ◌⊎◌, inl, inr, arith}
use Rattle.std.specs.Prelude.{codes}
use Rattle.std.specs.Fmt.{decimal}
use Rattle.std.specs.List.{AllByRecursion, list_all}
use Rattle.std.proofs.lemmas.Bool.{and_parts, both_ways, cases_Bool, cond-false, cond-true, eqb-true, false≢true, le-leb, ne_eqb, not-true}
use Rattle.hex.specs.Hex.{encode_lower, lower_digits}
use Rattle.hex.proofs.HexLemmas.{length-encode_with}
use Rattle.faust_types.specs.declared.config.Config.{Config}
use Rattle.faust_types.specs.Bytes.{AreBytes}
use Rattle.faust_text.specs.declared.head.Title.{Title}
use Rattle.faust_text.specs.declared.head.Title.TheVariants as titles
use Rattle.faust_text.specs.declared.head.HeadForm.{HeadForm}
use Rattle.faust_text.specs.Fields.{key, number, word}
use Rattle.faust_text.specs.Heads.{AreHeadLines, CanBeHead, SpellsWire, format_words, head_lines, head_text, key_form, named_number, title_form, title_line, title_word, wire_lines}
use Rattle.faust_text.specs.Lines.{IsWithout, ended_lines, lines_of}
use Rattle.faust_text.specs.Numbers.{is_number, number_of, worth}
use Rattle.faust_text.specs.Spelled.{IsNumberIn, IsWordAt, SpellsFields}
use Rattle.faust_text.specs.Tokens.{IsPlainToken, joined, tokens_of}
use Rattle.faust_text.specs.Values.{is_hex}
use Rattle.faust_text.proofs.FieldLaws.{some_same}
use Rattle.faust_text.proofs.LineLaws.{lines_of_ended_text}
use Rattle.faust_text.proofs.NumberLaws.{digits_at, is_number-decimal, number_of-decimal}
use Rattle.faust_text.proofs.TokenLaws.{joined_are_read}
use Rattle.faust_text.proofs.ValueLaws.{encode_lower-hex}

-- Bytes without a byte.
without_by_places : (b : ℕ) (xs : List ℕ) → ((i : ℕ) → i < length xs → get_or xs i 0 ≢ b) → IsWithout b xs
without_by_places b [] away = tt
without_by_places b (x ∷ xs) away =
    (ne_eqb x b (away 0 (omega arith)), without_by_places b xs (λ i below. away (suc i) (omega (arith, below))))

without_by_test : (b : ℕ) (xs : List ℕ) → list_all (λ x. not (eqb x b)) xs ≡ true → IsWithout b xs
without_by_test b [] test = tt
without_by_test b (x ∷ xs) test = let parts = and_parts (not (eqb x b)) _ test in (not-true (eqb x b) parts.0, without_by_test b xs parts.1)

without_hex : (b : ℕ) (xs : List ℕ) → is_hex b ≡ false → list_all is_hex xs ≡ true → IsWithout b xs
without_hex b [] other test = tt
without_hex b (x ∷ xs) other test =
    let parts = and_parts (is_hex x) _ test in
    (ne_eqb x b (λ same. both_ways (is_hex b) other (ap is_hex (sym same) ∙ parts.0)), without_hex b xs other parts.1)

without_joined : (b : ℕ) (xs ys : List ℕ) → IsWithout b xs → eqb 32 b ≡ false → IsWithout b ys → IsWithout b (xs ++ (32 ∷ ys))
without_joined b [] ys first other rest = (other, rest)
without_joined b (x ∷ xs) ys first other rest = (first.0, without_joined b xs ys first.1 other rest)

-- Plain tokens: words, numbers and digits.
abbrev plain_test : List ℕ → Bool
plain_test [] = false
plain_test (b ∷ bs) = not (eqb b 34) && list_all (λ x. not (eqb x 32)) (b ∷ bs)

plain_by_test : (token : List ℕ) → plain_test token ≡ true → IsPlainToken token
plain_by_test [] test = absurd (false≢true test)
plain_by_test (b ∷ bs) test =
    let parts = and_parts (not (eqb b 34)) _ test in
    (not-true (eqb b 34) parts.0, without_by_test 32 (b ∷ bs) parts.1)

digits_without : (b : ℕ) (token : List ℕ) → (b < 48) → is_number token ≡ true → IsWithout b token
digits_without b token below digits =
    without_by_places b token (λ i within same. let at = digits_at token i digits within in omega (arith, at.0, same))

digits_plain : (token : List ℕ) → is_number token ≡ true → IsPlainToken token
digits_plain [] digits = absurd (false≢true digits)
digits_plain (b ∷ bs) digits =
    let first = digits_at (b ∷ bs) 0 digits (omega arith) in
    (ne_eqb b 34 (λ same. omega (arith, first.0, same)), digits_without 32 (b ∷ bs) (omega arith) digits)

hex_plain : (token : List ℕ) → 1 ≤ length token → list_all is_hex token ≡ true → IsPlainToken token
hex_plain [] some test = absurd (omega arith)
hex_plain (b ∷ bs) some test =
    let parts = and_parts (is_hex b) _ test in
    (ne_eqb b 34 (λ same. both_ways (is_hex 34) refl (ap is_hex (sym same) ∙ parts.0)), without_hex 32 (b ∷ bs) refl test)

-- A name and a number.
worth-decimal : (x : ℕ) → x < 2 ^ 64 → worth (decimal x) ≡ x
worth-decimal x fits =
    let token = decimal x in
    let test = is_number token && ltb (worth token) (2 ^ 64) in
    elim (cases_Bool test) [
      | inl held ↦ some_same (worth token) x (sym (cond-true test (Some (worth token)) None held) ∙ number_of-decimal x fits)
      | inr failed ↦ absurd (let e = sym (cond-false test (Some (worth token)) None failed) ∙ number_of-decimal x fits in cc)
    ]

named_number_spelled : (name : List ℕ) (low high x : ℕ) → plain_test name ≡ true → low ≤ x → x ≤ high → x < 2 ^ 64
    → SpellsFields (word name ∷ number low high ∷ []) (tt, (x, tt)) (tokens_of (named_number name x))
named_number_spelled name low high x plain from to fits =
    let digits = is_number-decimal x fits in
    let read = joined_are_read (name ∷ decimal x ∷ []) (plain_by_test name plain, inl (digits_plain (decimal x) digits)) in
    let in_range : IsNumberIn low high x (decimal x) = record { digits = digits; worth_it = worth-decimal x fits; from = from; to = to } in
    subst (λ (ts : List (List ℕ)). SpellsFields (word name ∷ number low high ∷ []) (tt, (x, tt)) ts) (sym read) (refl, (in_range, tt))

named_number_line : (name : List ℕ) (x : ℕ) → list_all (λ b. not (eqb b 10)) name ≡ true → x < 2 ^ 64 → IsWithout 10 (named_number name x)
named_number_line name x plain fits =
    without_joined 10 name (decimal x) (without_by_test 10 name plain) refl
    (digits_without 10 (decimal x) (omega arith) (is_number-decimal x fits))

-- The key.
key_line_spelled : (bytes : List ℕ) → AreBytes bytes → 1 ≤ length bytes → length bytes ≤ 128
    → SpellsFields key_form (tt, (bytes, tt)) (tokens_of (joined (codes "key" ∷ encode_lower bytes ∷ [])))
key_line_spelled bytes are some few =
    let sized = length-encode_with lower_digits bytes in
    let plain = hex_plain (encode_lower bytes) (omega (arith, sized)) (encode_lower-hex bytes are) in
    let read = joined_are_read (codes "key" ∷ encode_lower bytes ∷ []) (plain_by_test (codes "key") refl, inl plain) in
    subst (λ (ts : List (List ℕ)). SpellsFields key_form (tt, (bytes, tt)) ts) (sym read) (refl, ((refl, some, few, are), tt))

-- The title.
abbrev format_text : ℕ → List ℕ
format_text format = cond (eqb format 1) (codes "1") (codes "2")

title_word_plain : (title : Title) → plain_test (title_word title) ≡ true
title_word_plain titles.Script = refl
title_word_plain titles.Record = refl

title_word_line : (title : Title) → list_all (λ b. not (eqb b 10)) (title_word title) ≡ true
title_word_line titles.Script = refl
title_word_line titles.Record = refl

second_word : (two : Bool) → two ≡ true → IsWordAt (codes "1" ∷ cond two (codes "2" ∷ []) []) 1 (codes "2")
second_word true is = ((λ same. let e : 50 ≡ 49 = ap (λ xs. get_or xs 0 0) same in omega arith), refl)
second_word false is = absurd (false≢true is)

title_tokens : (form : HeadForm) (format place : ℕ) → plain_test (format_text format) ≡ true
    → IsWordAt (format_words form.formats) place (format_text format)
    → SpellsFields (title_form form) (tt, (place, tt)) (tokens_of (title_line form.title format))
title_tokens form format place plain word_at =
    let read = joined_are_read (title_word form.title ∷ format_text format ∷ [])
    (plain_by_test (title_word form.title) (title_word_plain form.title), inl (plain_by_test (format_text format) plain)) in
    subst (λ (ts : List (List ℕ)). SpellsFields (title_form form) (tt, (place, tt)) ts) (sym read) (refl, (word_at, tt))

-- The lines of the wire.
record Formatted (form : HeadForm) (format wire : ℕ) : Type 0 where
  title_spelled : SpellsFields (title_form form) (tt, (format - 1, tt)) (tokens_of (title_line form.title format))
  title_ended : IsWithout 10 (title_line form.title format)
  wire_spelled : SpellsWire format wire (wire_lines format wire)
  wires_ended : AllByRecursion (IsWithout 10) (wire_lines format wire)

formatted_one : (form : HeadForm) → Formatted form 1 1
formatted_one form = record {
  title_spelled = title_tokens form 1 0 refl refl;
  title_ended = without_joined 10 (title_word form.title) (codes "1")
      (without_by_test 10 (title_word form.title) (title_word_line form.title)) refl (refl, tt);
  wire_spelled = (refl, refl);
  wires_ended = tt;
}

formatted_two : (form : HeadForm) (wire : ℕ) → 2 ≤ form.formats → 1 ≤ wire → wire ≤ 2 → Formatted form 2 wire
formatted_two form wire both from to = record {
  title_spelled = title_tokens form 2 1 refl (second_word (leb 2 form.formats) (le-leb 2 form.formats both));
  title_ended = without_joined 10 (title_word form.title) (codes "2")
      (without_by_test 10 (title_word form.title) (title_word_line form.title)) refl (refl, tt);
  wire_spelled = (refl, named_number_spelled (codes "wire") 1 2 wire refl from to (omega arith));
  wires_ended = (named_number_line (codes "wire") wire refl (omega arith), tt);
}

formatted : (form : HeadForm) (format : ℕ) (config : Config) → CanBeHead form format config → Formatted form format config.wire
formatted form format config can = elim can.format_known [
  | inl one ↦ subst (λ (f : ℕ). Formatted form f config.wire) (sym one.0)
      (subst (λ (w : ℕ). Formatted form 1 w) (sym one.1) (formatted_one form))
  | inr two ↦ subst (λ (f : ℕ). Formatted form f config.wire) (sym two.0)
      (formatted_two form config.wire two.1 can.in_range.wire_known.from_one can.in_range.wire_known.to_two)
]

all_append : (P : List ℕ → Type 0) (xs ys : List (List ℕ)) → AllByRecursion P xs → AllByRecursion P ys → AllByRecursion P (xs ++ ys)
all_append P [] ys first rest = rest
all_append P (x ∷ xs) ys first rest = (first.0, all_append P xs ys first.1 rest)

-- What is printed of a config is a head that spells it.
pub printed_heads_are : (form : HeadForm) (format : ℕ) (config : Config) → CanBeHead form format config
    → AreHeadLines form format config (head_lines form.title format config)
printed_heads_are form format config can =
    let f = formatted form format config can in
    let range = can.in_range in
    record {
      title = title_line form.title format;
      wires = wire_lines format config.wire;
      clients = named_number (codes "clients") config.clients;
      key_line = joined (codes "key" ∷ encode_lower config.key ∷ []);
      delta = named_number (codes "delta") config.delta;
      dummy = named_number (codes "dummy") config.dummy;
      lines_are = refl;
      title_spelled = f.title_spelled;
      wire_spelled = f.wire_spelled;
      clients_spelled = named_number_spelled (codes "clients") 2 form.clients config.clients refl range.clients_count.at_least_two
          can.few_clients (omega (arith, range.clients_count.at_most_32));
      key_spelled = key_line_spelled config.key can.key_bytes range.key_sized.not_empty range.key_sized.sized;
      delta_spelled = named_number_spelled (codes "delta") 1 (2 ^ 40 - 1) config.delta refl range.delta_span.from_one
          (omega (arith, range.delta_span.below)) (omega (arith, range.delta_span.below));
      dummy_spelled = named_number_spelled (codes "dummy") 1 (2 ^ 40 - 1) config.dummy refl range.dummy_span.from_one
          (omega (arith, range.dummy_span.below)) (omega (arith, range.dummy_span.below));
    }

-- None of its lines has a line feed.
printed_heads_are_lines : (form : HeadForm) (format : ℕ) (config : Config) → CanBeHead form format config
    → AllByRecursion (IsWithout 10) (head_lines form.title format config)
printed_heads_are_lines form format config can =
    let f = formatted form format config can in
    let range = can.in_range in
    let key_line = without_joined 10 (codes "key") (encode_lower config.key) (without_by_test 10 (codes "key") refl) refl
    (without_hex 10 (encode_lower config.key) refl (encode_lower-hex config.key can.key_bytes)) in
    let behind : AllByRecursion (IsWithout 10) (named_number (codes "clients") config.clients
    ∷ joined (codes "key" ∷ encode_lower config.key ∷ []) ∷ named_number (codes "delta") config.delta
    ∷ named_number (codes "dummy") config.dummy ∷ []) = (
      named_number_line (codes "clients") config.clients refl (omega (arith, range.clients_count.at_most_32)),
      (
        key_line,
        (
          named_number_line (codes "delta") config.delta refl (omega (arith, range.delta_span.below)),
          (named_number_line (codes "dummy") config.dummy refl (omega (arith, range.dummy_span.below)), tt),
        ),
      ),
    ) in
    (f.title_ended, all_append (IsWithout 10) (wire_lines format config.wire) _ f.wires_ended behind)

pub printed_heads_lines : (form : HeadForm) (format : ℕ) (config : Config) → CanBeHead form format config
    → lines_of (head_text form.title format config) ≡ ended_lines (head_lines form.title format config)
printed_heads_lines form format config can =
    lines_of_ended_text (head_lines form.title format config) (printed_heads_are_lines form format config can)
