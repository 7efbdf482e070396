-- The fields of a line: what a token means in a field, or why it is refused there.
use Rattle.std.specs.Prelude.{◌≡◌, ℕ, ◌==◌, ◌&&◌, ◌||◌, nat_le, Bool, cond, List, [], ◌∷◌, slice_index, codes, suc, Option, Some, None, option_map, Result, Ok, Err}
use Rattle.std.specs.Str.{bytes_eq}
use Rattle.faust_types.specs.declared.operation.Kind.{Kind}
use Rattle.faust_types.specs.declared.operation.Kind.TheVariants as kinds
use Rattle.faust_text.specs.declared.cause.Cause.{Cause}
use Rattle.faust_text.specs.declared.cause.Cause.TheVariants as causes
use Rattle.faust_text.specs.declared.error.LineError.{LineError}
use Rattle.faust_text.specs.declared.error.LineError.TheVariants as errors
use Rattle.faust_text.specs.Numbers.{is_number, worth}
use Rattle.faust_text.specs.Values.{bytes_of, hex_of, value_of}

-- The kinds of field. A word is one fixed text, or one of some; a number has its least and its greatest value, so that one of n
-- clients is a number from 1 to n.
pub data Field : Type 0 where
  word : List ℕ → Field
  one_of : List (List ℕ) → Field
  number : ℕ → ℕ → Field
  any_number : Field
  kind : Field
  value : Field
  bytes : Field
  key : Field

-- What a field gives: one of some words is its place among them, any number is its digits, however many.
abbrev pub Given : Field → Type 0
Given (word text) = Unit {0}
Given (one_of words) = ℕ
Given (number low high) = ℕ
Given any_number = List ℕ
Given kind = Kind
Given value = List ℕ
Given bytes = List ℕ
Given key = List ℕ

-- One step after another: the first refusal ends the reading.
infixl 10 ◌>>=◌
abbrev pub ◌>>=◌ : {A B : Type 0} → Result A Cause → (A → Result B Cause) → Result B Cause
Ok x >>= f = f x
Err cause >>= f = Err cause

-- What an option holds, or a cause where it holds nothing.
abbrev pub or_cause : {A : Type 0} → Option A → Cause → Result A Cause
or_cause None cause = Err cause
or_cause (Some x) cause = Ok x

-- The place of a token among words, counted from 0.
abbrev pub place_of : List (List ℕ) → List ℕ → Option ℕ
place_of [] token = None
place_of (text ∷ texts) token = cond (bytes_eq token text) (Some 0) (option_map (λ place. suc place) (place_of texts token))

-- A token that is a number, in a range.
abbrev pub number_in : ℕ → ℕ → List ℕ → Result ℕ Cause
number_in low high token =
    cond (is_number token) (cond (nat_le low (worth token) && nat_le (worth token) high) (Ok (worth token)) (Err causes.Number))
    (Err causes.Word)

-- A token that begins as a value does: with a quotation mark or with `0x`.
abbrev pub begins_as_value : List ℕ → Bool
begins_as_value token = (slice_index token 0 == 34) || ((slice_index token 0 == 48) && (slice_index token 1 == 120))

-- A key has at least one byte.
abbrev pub some_key : Option (List ℕ) → Result (List ℕ) Cause
some_key None = Err causes.Value
some_key (Some []) = Err causes.Value
some_key (Some (b ∷ bs)) = Ok (b ∷ bs)

-- What a token means in a field, or the cause with which it is refused there.
unfoldable pub field_at : (field : Field) → List ℕ → Result (Given field) Cause
field_at (word text) token = cond (bytes_eq token text) (Ok tt) (Err causes.Word)
field_at (one_of words) token = or_cause (place_of words token) causes.Word
field_at (number low high) token = number_in low high token
field_at any_number token = cond (is_number token) (Ok token) (Err causes.Word)
field_at kind token =
    cond (bytes_eq token (codes "write")) (Ok kinds.Write) (cond (bytes_eq token (codes "read")) (Ok kinds.Read) (Err causes.Word))
field_at value token = cond (begins_as_value token) (or_cause (value_of 4096 token) causes.Value) (Err causes.Word)
field_at bytes token = cond (begins_as_value token) (or_cause (bytes_of 16384 token) causes.Value) (Err causes.Word)
field_at key token = some_key (hex_of 128 token)

-- The next token in a field, and the tokens behind it: a missing token is refused as a word.
abbrev pub next_field : (field : Field) → List (List ℕ) → Result (Given field × List (List ℕ)) Cause
next_field field [] = Err causes.Word
next_field field (token ∷ tokens) = field_at field token >>= λ given. Ok (given, tokens)

-- No further token: one too many is refused as a word.
abbrev pub ended : List (List ℕ) → Result (Unit {0}) Cause
ended [] = Ok tt
ended (token ∷ tokens) = Err causes.Word

-- What the fields of a form give, and what tokens give in them, from left to right.
abbrev pub AllGiven : List Field → Type 0
AllGiven [] = Unit {0}
AllGiven (field ∷ fields) = Given field × AllGiven fields

abbrev pub fields_at : (fields : List Field) → List (List ℕ) → Result (AllGiven fields) Cause
fields_at [] tokens = ended tokens
fields_at (field ∷ fields) tokens = next_field field tokens >>= λ first. fields_at fields first.1 >>= λ rest. Ok (first.0, rest)

-- What a reader answers, seen by view, is what is due; want of memory may come in its place.
abbrev pub Fails : {Y : Type 0} → LineError → Result Y Cause → Type 0
Fails (errors.Refused cause) due = due ≡ Err cause
Fails errors.OutOfMemory due = Unit {0}

abbrev pub Gives : {X Y : Type 0} → (X → Y) → Result X LineError → Result Y Cause → Type 0
Gives view (Ok x) due = due ≡ Ok (view x)
Gives view (Err e) due = Fails e due
