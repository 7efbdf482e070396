-- Which tokens spell a field, and which are refused there: the same as `specs/Fields.antt` in other words.
use Rattle.std.specs.Prelude.{◌≡◌, ◌≢◌, ℕ, ◌<◌, ◌≤◌, zero, suc, true, false, List, [], ◌∷◌, length, codes, ◌⊎◌}
use Rattle.std.specs.List.{AllByRecursion}
use Rattle.hex.specs.Hex.{encode_lower}
use Rattle.faust_types.specs.Bytes.{AreBytes, IsKey, IsValue}
use Rattle.faust_types.specs.declared.operation.Kind.{Kind}
use Rattle.faust_types.specs.declared.operation.Kind.TheVariants as kinds
use Rattle.faust_text.specs.declared.cause.Cause.{Cause}
use Rattle.faust_text.specs.declared.cause.Cause.TheVariants as causes
use Rattle.faust_text.specs.Fields.{Field, Given, AllGiven, begins_as_value, word, one_of, number, any_number, kind, value, bytes, key}
use Rattle.faust_text.specs.Numbers.{is_number, worth}
use Rattle.faust_text.specs.Values.{SpellsValue, bytes_text}

-- A token that is a number in its range.
pub record IsNumberIn (low high x : ℕ) (token : List ℕ) : Type 0 where
  pub digits : is_number token ≡ true
  pub worth_it : worth token ≡ x
  pub from : low ≤ x
  pub to : x ≤ high

abbrev pub kind_text : Kind → List ℕ
kind_text kinds.Write = codes "write"
kind_text kinds.Read = codes "read"

-- The token is the word at a place, and none before it.
abbrev pub IsWordAt : List (List ℕ) → ℕ → List ℕ → Type 0
IsWordAt [] place token = ⊥
IsWordAt (text ∷ texts) zero token = token ≡ text
IsWordAt (text ∷ texts) (suc place) token = (token ≢ text) × IsWordAt texts place token

-- The token spells what the field gives.
abbrev pub SpellsField : (field : Field) → Given field → List ℕ → Type 0
SpellsField (word text) given token = token ≡ text
SpellsField (one_of words) given token = IsWordAt words given token
SpellsField (number low high) given token = IsNumberIn low high given token
SpellsField any_number given token = (is_number token ≡ true) × (given ≡ token)
SpellsField kind given token = token ≡ kind_text given
SpellsField value given token = SpellsValue token given × (length given ≤ 4096) × AreBytes given
SpellsField bytes given token = (token ≡ bytes_text given) × (length given ≤ 16384) × AreBytes given
SpellsField key given token = (token ≡ encode_lower given) × (1 ≤ length given) × (length given ≤ 128) × AreBytes given

-- The tokens spell what the fields give, one each.
abbrev pub SpellsFields : (fields : List Field) → AllGiven fields → List (List ℕ) → Type 0
SpellsFields [] given [] = Unit {0}
SpellsFields [] given (token ∷ tokens) = ⊥
SpellsFields (field ∷ fields) given [] = ⊥
SpellsFields (field ∷ fields) given (token ∷ tokens) = SpellsField field given.0 token × SpellsFields fields given.1 tokens

-- Why a token is refused in a field.
abbrev pub IsFault : Field → List ℕ → Cause → Type 0
IsFault (word text) token cause = (cause ≡ causes.Word) × (token ≢ text)
IsFault (one_of words) token cause = (cause ≡ causes.Word) × AllByRecursion (λ text. token ≢ text) words
IsFault (number low high) token cause =
    ((cause ≡ causes.Word) × (is_number token ≡ false))
    ⊎ ((cause ≡ causes.Number) × (is_number token ≡ true) × ((worth token < low) ⊎ (high < worth token)))
IsFault any_number token cause = (cause ≡ causes.Word) × (is_number token ≡ false)
IsFault kind token cause = (cause ≡ causes.Word) × ((given : Kind) → token ≢ kind_text given)
IsFault value token cause =
    ((cause ≡ causes.Word) × (begins_as_value token ≡ false))
    ⊎ ((cause ≡ causes.Value) × (begins_as_value token ≡ true) × ((given : List ℕ) → ¬ (SpellsField value given token)))
IsFault bytes token cause =
    ((cause ≡ causes.Word) × (begins_as_value token ≡ false))
    ⊎ ((cause ≡ causes.Value) × (begins_as_value token ≡ true) × ((given : List ℕ) → ¬ (SpellsField bytes given token)))
IsFault key token cause = (cause ≡ causes.Value) × ((given : List ℕ) → ¬ (SpellsField key given token))

-- Why tokens are refused in fields: from the left, the first that may not stand there, is missing or is one too many.
abbrev pub IsFirstFault : List Field → List (List ℕ) → Cause → Type 0
IsFirstFault [] [] cause = ⊥
IsFirstFault [] (token ∷ tokens) cause = cause ≡ causes.Word
IsFirstFault (field ∷ fields) [] cause = cause ≡ causes.Word
IsFirstFault (field ∷ fields) (token ∷ tokens) cause =
    IsFault field token cause ⊎ ((given : Given field) × SpellsField field given token × IsFirstFault fields tokens cause)

-- What a field gives is in its range.
abbrev pub IsInRange : (field : Field) → Given field → Type 0
IsInRange (word text) given = Unit {0}
IsInRange (one_of words) given = given < length words
IsInRange (number low high) given = (low ≤ given) × (given ≤ high)
IsInRange any_number given = is_number given ≡ true
IsInRange kind given = Unit {0}
IsInRange value given = IsValue given
IsInRange bytes given = (length given ≤ 16384) × AreBytes given
IsInRange key given = IsKey given × AreBytes given

abbrev pub AreInRange : (fields : List Field) → AllGiven fields → Type 0
AreInRange [] given = Unit {0}
AreInRange (field ∷ fields) given = IsInRange field given.0 × AreInRange fields given.1
