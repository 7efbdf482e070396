-- Fields and the tokens that spell them.
use Rattle.std.proofs.Common.{◌≡◌, ℕ, ◌<◌, ◌≤◌, zero, suc, option_map, Bool, true, false, cond, leb, ◌&&◌, List, [], ◌∷◌, length, Option, Some, None, Result, Ok, Err, refl, sym, ap, ◌∙◌, ◌⊎◌, ◌↔◌, ◌≢◌, inl, inr, arith}
use Rattle.std.specs.Prelude.{codes}
use Rattle.std.specs.List.{AllByRecursion}
use Rattle.std.specs.Result.{result_unwrap_or}
use Rattle.std.specs.Str.{bytes_eq}
use Rattle.std.proofs.lemmas.Bool.{cond-true, cond-false, and_parts, and_from, and_cases, leb-true, leb-false, le-leb, both_ways, false_from_ne_true, false≢true, and_left, and_right, lt-leb}
use Rattle.std.proofs.lemmas.Slice.Eq.{bytes_eq-Decides}
use Rattle.hex.specs.Hex.{encode_lower, decode_pairs}
use Rattle.faust_types.specs.Bytes.{AreBytes}
use Rattle.faust_types.specs.declared.operation.Kind.{Kind}
use Rattle.faust_types.specs.declared.operation.Kind.TheVariants as kinds
use Rattle.faust_text.specs.declared.cause.Cause.{Cause}
use Rattle.faust_text.specs.declared.cause.Cause.TheVariants as causes
use Rattle.faust_text.specs.Fields.{Field, Given, AllGiven, begins_as_value, word, one_of, place_of, number, any_number, kind, value, bytes, key, ◌>>=◌, or_cause, some_key, field_at, fields_at}
use Rattle.faust_text.specs.Numbers.{is_number, worth}
use Rattle.faust_text.specs.Spelled.{IsInRange, AreInRange, IsNumberIn, IsWordAt, kind_text, SpellsField, SpellsFields, IsFault, IsFirstFault}
use Rattle.faust_text.specs.Values.{SpellsValue, bytes_of, bytes_text, hex_of, value_of}
use Rattle.faust_text.proofs.Choices.{chosen}
use Rattle.faust_text.proofs.ValueLaws.{values_are, bytes_are, hex-are, none_from}

-- The steps of reading, taken apart.
pub ok_same : {A : Type 0} (x y : A) → (let left : Result A Cause = Ok x in left ≡ Ok y) → x ≡ y
ok_same {A} x y same = ap (λ (r : Result A Cause). result_unwrap_or r x) same

pub bind_ok : {A B : Type 0} (r : Result A Cause) (f : A → Result B Cause) (y : B) → (r >>= f) ≡ Ok y → (x : A) × (r ≡ Ok x) × (f x ≡ Ok y)
bind_ok (Ok x) f y found = (x, refl, found)
bind_ok (Err cause) f y found = absurd (cc)

pub bind_err : {A B : Type 0} (r : Result A Cause) (f : A → Result B Cause) (cause : Cause) → (r >>= f) ≡ Err cause
    → (r ≡ Err cause) ⊎ ((x : A) × (r ≡ Ok x) × (f x ≡ Err cause))
bind_err (Ok x) f cause found = inr (x, refl, found)
bind_err (Err e) f cause found = inl (cc)

pub some_same : (x y : ℕ) → (let left : Option ℕ = Some x in left ≡ Some y) → x ≡ y
some_same x y same = cc

none_mapped : (o : Option ℕ) → option_map (λ p. suc p) o ≡ None → o ≡ None
none_mapped None none = refl
none_mapped (Some p) none = absurd (cc)

or_cause-ok : (o : Option (List ℕ)) (cause : Cause) (x : List ℕ) → or_cause o cause ≡ Ok x → o ≡ Some x
or_cause-ok None cause x found = absurd (cc)
or_cause-ok (Some y) cause x found = cc

or_cause-err : (o : Option (List ℕ)) (cause due : Cause) → or_cause o cause ≡ Err due → (o ≡ None) × (due ≡ cause)
or_cause-err None cause due found = (refl, cc)
or_cause-err (Some y) cause due found = absurd (cc)

word_spells : (text token : List ℕ) (given : Unit {0}) → (field_at (word text) token ≡ Ok given) ↔ (token ≡ text)
unfolding field_at
word_spells text token given = (
  λ found. elim (chosen (bytes_eq token text) (Ok tt) (Err causes.Word) (Ok given) found) [
    | inl same ↦ (bytes_eq-Decides token text).0 same.0
    | inr other ↦ absurd (let e = other.1 in cc)
  ],
  λ same. cond-true (bytes_eq token text) (Ok tt) (Err causes.Word) ((bytes_eq-Decides token text).1 same),
)

next_place : (o : Option ℕ) (place : ℕ) → option_map (λ p. suc p) o ≡ Some place → (p : ℕ) × (o ≡ Some p) × (suc p ≡ place)
next_place None place found = absurd (cc)
next_place (Some p) place found = (p, refl, cc)

-- The place of a token among words.
place_is : (words : List (List ℕ)) (token : List ℕ) (place : ℕ) → (place_of words token ≡ Some place) ↔ IsWordAt words place token
place_is [] token place = (λ found. absurd (cc), λ is. absurd is)
place_is (text ∷ texts) token zero =
    let later = option_map (λ p. suc p) (place_of texts token) in (
      λ found. elim (chosen (bytes_eq token text) (Some 0) later (Some 0) found) [
        | inl same ↦ (bytes_eq-Decides token text).0 same.0
        | inr other ↦ absurd (let next = next_place (place_of texts token) 0 other.1 in let e = next.2 in omega arith)
      ],
      λ same. cond-true (bytes_eq token text) (Some 0) later ((bytes_eq-Decides token text).1 same),
    )
place_is (text ∷ texts) token (suc place) =
    let later = option_map (λ p. suc p) (place_of texts token) in (
      λ found. elim (chosen (bytes_eq token text) (Some 0) later (Some (suc place)) found) [
        | inl same ↦ absurd (let e : 0 ≡ suc place = some_same 0 (suc place) same.1 in omega arith)
        | inr other ↦
            let next = next_place (place_of texts token) (suc place) other.1 in
            let here : next.0 ≡ place = let e = next.2 in omega arith in (
              λ same. both_ways (bytes_eq token text) other.0 ((bytes_eq-Decides token text).1 same),
              (place_is texts token place).0 (next.1 ∙ ap Some here),
            )
      ],
      λ is.
          cond-false (bytes_eq token text) (Some 0) later
          (false_from_ne_true (bytes_eq token text) (λ same. is.0 ((bytes_eq-Decides token text).0 same)))
          ∙ ap (option_map (λ p. suc p)) ((place_is texts token place).1 is.1),
    )

no_place : (words : List (List ℕ)) (token : List ℕ) → (place_of words token ≡ None) ↔ AllByRecursion (λ text. token ≢ text) words
no_place [] token = (λ found. tt, λ is. refl)
no_place (text ∷ texts) token =
    let later = option_map (λ p. suc p) (place_of texts token) in (
      λ found. elim (chosen (bytes_eq token text) (Some 0) later None found) [
        | inl same ↦ absurd (let e = same.1 in cc)
        | inr other ↦ (
          λ same. both_ways (bytes_eq token text) other.0 ((bytes_eq-Decides token text).1 same),
          (no_place texts token).0 (none_mapped (place_of texts token) other.1),
        )
      ],
      λ is.
          cond-false (bytes_eq token text) (Some 0) later
          (false_from_ne_true (bytes_eq token text) (λ same. is.0 ((bytes_eq-Decides token text).0 same)))
          ∙ ap (option_map (λ p. suc p)) ((no_place texts token).1 is.1),
    )

place_ok : (o : Option ℕ) (place : ℕ) → or_cause o causes.Word ≡ Ok place → o ≡ Some place
place_ok None place found = absurd (cc)
place_ok (Some p) place found = cc

place_err : (o : Option ℕ) (cause : Cause) → or_cause o causes.Word ≡ Err cause → (o ≡ None) × (cause ≡ causes.Word)
place_err None cause found = (refl, cc)
place_err (Some p) cause found = absurd (cc)

one_of_spells : (words : List (List ℕ)) (token : List ℕ) (place : ℕ) → (field_at (one_of words) token ≡ Ok place)
    ↔ IsWordAt words place token
unfolding field_at
one_of_spells words token place = (
  λ found. (place_is words token place).0 (place_ok (place_of words token) place found),
  λ is. ap (λ o. or_cause o causes.Word) ((place_is words token place).1 is),
)

number_spells : (low high : ℕ) (token : List ℕ) (x : ℕ) → (field_at (number low high) token ≡ Ok x) ↔ IsNumberIn low high x token
unfolding field_at
number_spells low high token x = (
  λ found. elim (chosen (is_number token) (cond (leb low (worth token) && leb (worth token) high) (Ok (worth token)) (Err causes.Number))
      (Err causes.Word) (Ok x) found) [
        | inl digits ↦ elim (chosen (leb low (worth token) && leb (worth token) high) (Ok (worth token)) (Err causes.Number) (Ok x) digits.1) [
          | inl fits ↦
              let parts = and_parts _ _ fits.0 in
              let same : worth token ≡ x = ok_same (worth token) x fits.1 in
              let from : low ≤ worth token = leb-true _ _ parts.0 in
              let to : worth token ≤ high = leb-true _ _ parts.1 in
              record { digits = digits.0; worth_it = same; from = omega arith; to = omega arith }
          | inr other ↦ absurd (let e = other.1 in cc)
        ]
        | inr other ↦ absurd (let e = other.1 in cc)
      ],
  λ is.
      let from : low ≤ worth token = omega (arith, is.worth_it, is.from) in
      let to : worth token ≤ high = omega (arith, is.worth_it, is.to) in
      cond-true (is_number token) (cond (leb low (worth token) && leb (worth token) high) (Ok (worth token)) (Err causes.Number))
      (Err causes.Word) is.digits
      ∙ (cond-true (leb low (worth token) && leb (worth token) high) (Ok (worth token)) (Err causes.Number)
      (and_from _ _ (le-leb _ _ from) (le-leb _ _ to)) ∙ ap Ok is.worth_it),
)

any_number_spells : (token given : List ℕ) → (field_at any_number token ≡ Ok given) ↔ ((is_number token ≡ true) × (given ≡ token))
unfolding field_at
any_number_spells token given = (
  λ found. elim (chosen (is_number token) (Ok token) (Err causes.Word) (Ok given) found) [
    | inl digits ↦ (digits.0, sym (ok_same token given digits.1))
    | inr other ↦ absurd (let e = other.1 in cc)
  ],
  λ is. cond-true (is_number token) (Ok token) (Err causes.Word) is.0 ∙ ap Ok (sym is.1),
)

kind_again : (given : Kind) → field_at kind (kind_text given) ≡ Ok given
unfolding field_at
kind_again kinds.Write = refl
kind_again kinds.Read = refl

kind_spells : (token : List ℕ) (given : Kind) → (field_at kind token ≡ Ok given) ↔ (token ≡ kind_text given)
unfolding field_at
kind_spells token given = (
  λ found. elim (chosen (bytes_eq token (codes "write")) (Ok kinds.Write)
      (cond (bytes_eq token (codes "read")) (Ok kinds.Read) (Err causes.Word)) (Ok given) found) [
        | inl write ↦ (bytes_eq-Decides token (codes "write")).0 write.0 ∙ ap kind_text (ok_same kinds.Write given write.1)
        | inr more ↦ elim (chosen (bytes_eq token (codes "read")) (Ok kinds.Read) (Err causes.Word) (Ok given) more.1) [
          | inl read ↦ (bytes_eq-Decides token (codes "read")).0 read.0 ∙ ap kind_text (ok_same kinds.Read given read.1)
          | inr other ↦ absurd (let e = other.1 in cc)
        ]
      ],
  λ same. ap (field_at kind) same ∙ kind_again given,
)

value_spells : (token given : List ℕ) → (field_at value token ≡ Ok given)
    ↔ (SpellsValue token given × (length given ≤ 4096) × AreBytes given)
unfolding field_at
value_spells token given = (
  λ found. elim (chosen (begins_as_value token) (or_cause (value_of 4096 token) causes.Value) (Err causes.Word) (Ok given) found) [
    | inl begins ↦ (values_are 4096 token given).0 (or_cause-ok (value_of 4096 token) causes.Value given begins.1)
    | inr other ↦ absurd (let e = other.1 in cc)
  ],
  λ is.
      let begins : begins_as_value token ≡ true =
      elim is.0 [ inl quoted ↦ ap begins_as_value quoted.1 | inr hex ↦ ap begins_as_value hex ] in
      cond-true (begins_as_value token) (or_cause (value_of 4096 token) causes.Value) (Err causes.Word) begins
      ∙ ap (λ o. or_cause o causes.Value) ((values_are 4096 token given).1 is),
)

bytes_spells : (token given : List ℕ) → (field_at bytes token ≡ Ok given)
    ↔ ((token ≡ bytes_text given) × (length given ≤ 16384) × AreBytes given)
unfolding field_at
bytes_spells token given = (
  λ found. elim (chosen (begins_as_value token) (or_cause (bytes_of 16384 token) causes.Value) (Err causes.Word) (Ok given) found) [
    | inl begins ↦ (bytes_are 16384 token given).0 (or_cause-ok (bytes_of 16384 token) causes.Value given begins.1)
    | inr other ↦ absurd (let e = other.1 in cc)
  ],
  λ is.
      let begins : begins_as_value token ≡ true = ap begins_as_value is.0 in
      cond-true (begins_as_value token) (or_cause (bytes_of 16384 token) causes.Value) (Err causes.Word) begins
      ∙ ap (λ o. or_cause o causes.Value) ((bytes_are 16384 token given).1 is),
)

some_key-ok : (o : Option (List ℕ)) (x : List ℕ) → some_key o ≡ Ok x → (o ≡ Some x) × (1 ≤ length x)
some_key-ok None x found = absurd (cc)
some_key-ok (Some []) x found = absurd (cc)
some_key-ok (Some (b ∷ bs)) x found = let same : b ∷ bs ≡ x = cc in (ap Some same, omega (arith, ap length same))

some_key-again : (x : List ℕ) → 1 ≤ length x → some_key (Some x) ≡ Ok x
some_key-again [] some = absurd (omega arith)
some_key-again (b ∷ bs) some = refl

key_spells : (token given : List ℕ) → (field_at key token ≡ Ok given)
    ↔ ((token ≡ encode_lower given) × (1 ≤ length given) × (length given ≤ 128) × AreBytes given)
unfolding field_at
key_spells token given = (
  λ found.
      let some = some_key-ok (hex_of 128 token) given found in
      let hex = (hex-are 128 token given).0 some.0 in
      (hex.0, some.1, hex.1, hex.2),
  λ is. ap some_key ((hex-are 128 token given).1 (is.0, is.2, is.3)) ∙ some_key-again given is.1,
)

-- A token gives in a field what it spells, and nothing else.
pub field_spells : (field : Field) (token : List ℕ) (given : Given field)
    → (field_at field token ≡ Ok given) ↔ SpellsField field given token
field_spells (word text) token given = word_spells text token given
field_spells (one_of words) token given = one_of_spells words token given
field_spells (number low high) token given = number_spells low high token given
field_spells any_number token given = any_number_spells token given
field_spells kind token given = kind_spells token given
field_spells value token given = value_spells token given
field_spells bytes token given = bytes_spells token given
field_spells key token given = key_spells token given

first_then : {A B : Type 0} (r : Result A Cause) (tokens : List (List ℕ)) (f : A × List (List ℕ) → Result B Cause)
    → ((r >>= (λ given. Ok (given, tokens))) >>= f) ≡ (r >>= (λ given. f (given, tokens)))
first_then (Ok x) tokens f = refl
first_then (Err cause) tokens f = refl

-- Tokens give in fields what they spell, and nothing else.
pub fields_spell : (fields : List Field) (tokens : List (List ℕ)) (given : AllGiven fields)
    → (fields_at fields tokens ≡ Ok given) ↔ SpellsFields fields given tokens
fields_spell [] [] given = (λ found. tt, λ is. refl)
fields_spell [] (token ∷ tokens) given = (λ found. absurd (cc), λ is. absurd is)
fields_spell (field ∷ fields) [] given = (λ found. absurd (cc), λ is. absurd is)
fields_spell (field ∷ fields) (token ∷ tokens) given =
    let flat = first_then (field_at field token) tokens (λ first. fields_at fields first.1 >>= (λ rest. Ok (first.0, rest))) in (
      λ found.
          let first = bind_ok (field_at field token) (λ x. fields_at fields tokens >>= (λ rest. Ok (x, rest))) given (sym flat ∙ found) in
          let rest = bind_ok (fields_at fields tokens) (λ xs. Ok (first.0, xs)) given first.2 in
          let same : (first.0, rest.0) ≡ given = ok_same (first.0, rest.0) given rest.2 in (
            (field_spells field token given.0).0 (first.1 ∙ ap (λ g. Ok g.0) same),
            (fields_spell fields tokens given.1).0 (rest.1 ∙ ap (λ g. Ok g.1) same),
          ),
      λ is.
          flat
          ∙ (ap (λ r. r >>= (λ x. fields_at fields tokens >>= (λ rest. Ok (x, rest)))) ((field_spells field token given.0).1 is.0)
          ∙ ap (λ r. r >>= (λ rest. Ok (given.0, rest))) ((fields_spell fields tokens given.1).1 is.1)),
    )

-- Why a token is refused in a field, and no other cause.
word_faults : (text token : List ℕ) (cause : Cause) → (field_at (word text) token ≡ Err cause) ↔ ((cause ≡ causes.Word) × (token ≢ text))
unfolding field_at
word_faults text token cause = (
  λ found. elim (chosen (bytes_eq token text) (Ok tt) (Err causes.Word) (Err cause) found) [
    | inl same ↦ absurd (let e = same.1 in cc)
    | inr other ↦ (let e = other.1 in cc, λ same. both_ways (bytes_eq token text) other.0 ((bytes_eq-Decides token text).1 same))
  ],
  λ is. cond-false (bytes_eq token text) (Ok tt) (Err causes.Word)
      (false_from_ne_true (bytes_eq token text) (λ same. is.1 ((bytes_eq-Decides token text).0 same))) ∙ ap Err (sym is.0),
)

one_of_faults : (words : List (List ℕ)) (token : List ℕ) (cause : Cause) → (field_at (one_of words) token ≡ Err cause)
    ↔ ((cause ≡ causes.Word) × AllByRecursion (λ text. token ≢ text) words)
unfolding field_at
one_of_faults words token cause = (
  λ found. let none = place_err (place_of words token) cause found in (none.1, (no_place words token).0 none.0),
  λ is. ap (λ o. or_cause o causes.Word) ((no_place words token).1 is.1) ∙ ap Err (sym is.0),
)

number_faults : (low high : ℕ) (token : List ℕ) (cause : Cause) → (field_at (number low high) token ≡ Err cause)
    ↔ IsFault (number low high) token cause
unfolding field_at
number_faults low high token cause = (
  λ found. elim (chosen (is_number token) (cond (leb low (worth token) && leb (worth token) high) (Ok (worth token)) (Err causes.Number))
      (Err causes.Word) (Err cause) found) [
        | inl digits ↦ elim (chosen (leb low (worth token) && leb (worth token) high) (Ok (worth token)) (Err causes.Number)
            (Err cause) digits.1) [
              | inl fits ↦ absurd (let e = fits.1 in cc)
              | inr out ↦ inr (
                let e = out.1 in cc,
                digits.0,
                elim (and_cases _ _ out.0) [ inl below ↦ inl (leb-false _ _ below) | inr above ↦ inr (leb-false _ _ above) ],
              )
            ]
        | inr other ↦ inl (let e = other.1 in cc, other.0)
      ],
  λ is. elim is [
    | inl no_number ↦ cond-false (is_number token)
        (cond (leb low (worth token) && leb (worth token) high) (Ok (worth token)) (Err causes.Number)) (Err causes.Word) no_number.1
        ∙ ap Err (sym no_number.0)
    | inr out ↦
        let range : (leb low (worth token) && leb (worth token) high) ≡ false =
        elim out.2 [ inl below ↦ and_left _ _ (lt-leb _ _ below) | inr above ↦ and_right _ _ (lt-leb _ _ above) ] in
        cond-true (is_number token) (cond (leb low (worth token) && leb (worth token) high) (Ok (worth token)) (Err causes.Number))
        (Err causes.Word) out.1
        ∙ (cond-false (leb low (worth token) && leb (worth token) high) (Ok (worth token)) (Err causes.Number) range ∙ ap Err (sym out.0))
  ],
)

any_number_faults : (token : List ℕ) (cause : Cause)
    → (field_at any_number token ≡ Err cause) ↔ ((cause ≡ causes.Word) × (is_number token ≡ false))
unfolding field_at
any_number_faults token cause = (
  λ found. elim (chosen (is_number token) (Ok token) (Err causes.Word) (Err cause) found) [
    | inl digits ↦ absurd (let e = digits.1 in cc)
    | inr other ↦ (let e = other.1 in cc, other.0)
  ],
  λ is. cond-false (is_number token) (Ok token) (Err causes.Word) is.1 ∙ ap Err (sym is.0),
)

neither_kind : (token : List ℕ) (given : Kind) → bytes_eq token (codes "write") ≡ false → bytes_eq token (codes "read") ≡ false
    → token ≡ kind_text given → ⊥
neither_kind token kinds.Write write read same = both_ways _ write ((bytes_eq-Decides token (codes "write")).1 same)
neither_kind token kinds.Read write read same = both_ways _ read ((bytes_eq-Decides token (codes "read")).1 same)

kind_faults : (token : List ℕ) (cause : Cause) → (field_at kind token ≡ Err cause) ↔ IsFault kind token cause
unfolding field_at
kind_faults token cause = (
  λ found. elim (chosen (bytes_eq token (codes "write")) (Ok kinds.Write)
      (cond (bytes_eq token (codes "read")) (Ok kinds.Read) (Err causes.Word)) (Err cause) found) [
        | inl write ↦ absurd (let e = write.1 in cc)
        | inr more ↦ elim (chosen (bytes_eq token (codes "read")) (Ok kinds.Read) (Err causes.Word) (Err cause) more.1) [
          | inl read ↦ absurd (let e = read.1 in cc)
          | inr other ↦ (let e = other.1 in cc, λ given same. neither_kind token given more.0 other.0 same)
        ]
      ],
  λ is.
      let write : bytes_eq token (codes "write") ≡ false =
      false_from_ne_true _ (λ same. is.1 kinds.Write ((bytes_eq-Decides token (codes "write")).0 same)) in
      let read : bytes_eq token (codes "read") ≡ false =
      false_from_ne_true _ (λ same. is.1 kinds.Read ((bytes_eq-Decides token (codes "read")).0 same)) in
      cond-false (bytes_eq token (codes "write")) (Ok kinds.Write)
      (cond (bytes_eq token (codes "read")) (Ok kinds.Read) (Err causes.Word)) write
      ∙ (cond-false (bytes_eq token (codes "read")) (Ok kinds.Read) (Err causes.Word) read ∙ ap Err (sym is.0)),
)

none_spelled : (o : Option (List ℕ)) → o ≡ None → (x : List ℕ) → o ≡ Some x → ⊥
none_spelled o none x some = let e = sym none ∙ some in absurd (cc)

-- A field that begins as a value does and holds what an option does.
value_like : (begins : Bool) (o : Option (List ℕ)) (cause : Cause) → (cond begins (or_cause o causes.Value) (Err causes.Word) ≡ Err cause)
    ↔ (((cause ≡ causes.Word) × (begins ≡ false)) ⊎ ((cause ≡ causes.Value) × (begins ≡ true) × (o ≡ None)))
value_like true o cause = (
  λ found. let none = or_cause-err o causes.Value cause found in inr (none.1, refl, none.0),
  λ is. elim is [
    | inl other ↦ absurd (false≢true (sym other.1))
    | inr none ↦ ap (λ x. or_cause x causes.Value) none.2
        ∙ ap Err (sym none.0)
  ],
)
value_like false o cause = (
  λ found. inl (cc, refl),
  λ is. elim is [ inl no_value ↦ ap Err (sym no_value.0) | inr none ↦ absurd (false≢true none.1) ],
)

value_faults : (token : List ℕ) (cause : Cause) → (field_at value token ≡ Err cause) ↔ IsFault value token cause
unfolding field_at
value_faults token cause =
    let law = value_like (begins_as_value token) (value_of 4096 token) cause in (
      λ found. elim (law.0 found) [
        | inl other ↦ inl other
        | inr none ↦ inr (none.0, none.1, λ given is. none_spelled _ none.2 given ((values_are 4096 token given).1 is))
      ],
      λ is. law.1 (elim is [
        | inl other ↦ inl other
        | inr none ↦ inr (none.0, none.1, none_from _ (λ given some. none.2 given ((values_are 4096 token given).0 some)))
      ]),
    )

bytes_faults : (token : List ℕ) (cause : Cause) → (field_at bytes token ≡ Err cause) ↔ IsFault bytes token cause
unfolding field_at
bytes_faults token cause =
    let law = value_like (begins_as_value token) (bytes_of 16384 token) cause in (
      λ found. elim (law.0 found) [
        | inl other ↦ inl other
        | inr none ↦ inr (none.0, none.1, λ given is. none_spelled _ none.2 given ((bytes_are 16384 token given).1 is))
      ],
      λ is. law.1 (elim is [
        | inl other ↦ inl other
        | inr none ↦ inr (none.0, none.1, none_from _ (λ given some. none.2 given ((bytes_are 16384 token given).0 some)))
      ]),
    )

some_key-err : (o : Option (List ℕ)) (cause : Cause) → some_key o ≡ Err cause
    → (cause ≡ causes.Value) × ((x : List ℕ) → o ≡ Some x → 1 ≤ length x → ⊥)
some_key-err None cause found = (cc, λ x some more. absurd (cc))
some_key-err (Some []) cause found = (cc, λ x some more. let none : [] ≡ x = cc in let e = ap length none in absurd (omega arith))
some_key-err (Some (b ∷ bs)) cause found = absurd (cc)

some_key-none : (o : Option (List ℕ)) → ((x : List ℕ) → o ≡ Some x → 1 ≤ length x → ⊥) → some_key o ≡ Err causes.Value
some_key-none None none = refl
some_key-none (Some []) none = refl
some_key-none (Some (b ∷ bs)) none = absurd (none (b ∷ bs) refl (omega arith))

key_faults : (token : List ℕ) (cause : Cause) → (field_at key token ≡ Err cause) ↔ IsFault key token cause
unfolding field_at
key_faults token cause = (
  λ found.
      let none = some_key-err (hex_of 128 token) cause found in
      (none.0, λ given is. none.1 given ((hex-are 128 token given).1 (is.0, is.2, is.3)) is.1),
  λ is. some_key-none (hex_of 128 token) (λ x some more. let hex = (hex-are 128 token x).0 some in is.1 x (hex.0, more, hex.1, hex.2))
      ∙ ap Err (sym is.0),
)

pub field_faults : (field : Field) (token : List ℕ) (cause : Cause) → (field_at field token ≡ Err cause) ↔ IsFault field token cause
field_faults (word text) token cause = word_faults text token cause
field_faults (one_of words) token cause = one_of_faults words token cause
field_faults (number low high) token cause = number_faults low high token cause
field_faults any_number token cause = any_number_faults token cause
field_faults kind token cause = kind_faults token cause
field_faults value token cause = value_faults token cause
field_faults bytes token cause = bytes_faults token cause
field_faults key token cause = key_faults token cause

rest_err : {A B : Type 0} (r : Result B Cause) (x : A) (cause : Cause)
    → (let f : B → Result (A × B) Cause = λ rest. Ok (x, rest) in (r >>= f) ≡ Err cause) → r ≡ Err cause
rest_err (Ok rest) x cause found = absurd (cc)
rest_err (Err e) x cause found = cc

abbrev with_first : (field : Field) (fields : List Field) → Given field → AllGiven fields → Result (AllGiven (field ∷ fields)) Cause
with_first field fields x rest = Ok (x, rest)

abbrev after_first : (field : Field) (fields : List Field) → List (List ℕ) → Given field → Result (AllGiven (field ∷ fields)) Cause
after_first field fields tokens x = fields_at fields tokens >>= with_first field fields x

-- Why tokens are refused in fields, and no other cause.
pub fields_fault : (fields : List Field) (tokens : List (List ℕ)) (cause : Cause)
    → (fields_at fields tokens ≡ Err cause) ↔ IsFirstFault fields tokens cause
fields_fault [] [] cause = (λ found. absurd (cc), λ is. absurd is)
fields_fault [] (token ∷ tokens) cause = (λ found. cc, λ is. ap Err (sym is))
fields_fault (field ∷ fields) [] cause = (λ found. cc, λ is. ap Err (sym is))
fields_fault (field ∷ fields) (token ∷ tokens) cause =
    let flat = first_then (field_at field token) tokens (λ first. fields_at fields first.1 >>= (λ rest. Ok (first.0, rest))) in (
      λ found. elim (bind_err (field_at field token) (λ x. fields_at fields tokens >>= (λ rest. Ok (x, rest))) cause (sym flat ∙ found)) [
        | inl here ↦ inl ((field_faults field token cause).0 here)
        | inr behind ↦ inr (
          behind.0,
          (field_spells field token behind.0).0 behind.1,
          (fields_fault fields tokens cause).0 (rest_err (fields_at fields tokens) behind.0 cause behind.2),
        )
      ],
      λ is.
          let behind_first : (field_at field token >>= after_first field fields tokens) ≡ Err cause = elim is [
            | inl here ↦ ap (λ r. r >>= after_first field fields tokens) ((field_faults field token cause).1 here)
            | inr behind ↦
                ap (λ r. r >>= after_first field fields tokens) ((field_spells field token behind.0).1 behind.1)
                ∙ ap (λ r. r >>= with_first field fields behind.0) ((fields_fault fields tokens cause).1 behind.2)
          ] in
          flat ∙ behind_first,
    )

-- What a field gives is in its range.
word_place-below : (words : List (List ℕ)) (place : ℕ) (token : List ℕ) → IsWordAt words place token → place < length words
word_place-below [] place token is = absurd is
word_place-below (text ∷ texts) zero token is = omega arith
word_place-below (text ∷ texts) (suc place) token is = let more = word_place-below texts place token is.1 in omega (arith, more)

field_in_range : (field : Field) (given : Given field) (token : List ℕ) → SpellsField field given token → IsInRange field given
field_in_range (word text) given token is = tt
field_in_range (one_of words) given token is = word_place-below words given token is
field_in_range (number low high) given token is = (is.from, is.to)
field_in_range any_number given token is = ap is_number is.1 ∙ is.0
field_in_range kind given token is = tt
field_in_range value given token is = record { sized = is.1; bytes_each = is.2 }
field_in_range bytes given token is = (is.1, is.2)
field_in_range key given token is = (record { not_empty = is.1; sized = is.2 }, is.3)

pub fields_in_range : (fields : List Field) (given : AllGiven fields) (tokens : List (List ℕ)) → SpellsFields fields given tokens
    → AreInRange fields given
fields_in_range [] given tokens is = tt
fields_in_range (field ∷ fields) given [] is = absurd is
fields_in_range (field ∷ fields) given (token ∷ tokens) is =
    (field_in_range field given.0 token is.0, fields_in_range fields given.1 tokens is.1)

-- The shortest key.
pub key_00 : field_at key (codes "00") ≡ Ok (0 ∷ [])
unfolding field_at hex_of decode_pairs
key_00 = refl
