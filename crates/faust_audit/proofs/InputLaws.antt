-- The table of inputs with one more input.
use Rattle.std.proofs.Common.{◌≡◌, ℕ, Bool, true, false, not, nat_eq, cond, List, [], ◌∷◌, ◌++◌, Option, Some, None, is_some, refl, sym, ap, ◌∙◌}
use Rattle.std.proofs.lemmas.Bool.{false_from_ne_true, false≢true, true≢false}
use Rattle.std.specs.HashMap as hashed
use Rattle.std.specs.Cmp.Lexicographic.{other_text, pointwise, same_text}
use Rattle.std.specs.Str.{bytes_eq}
use Rattle.faust_hash.proofs.Lists.{is_same_tells}
use Rattle.faust_hash.specs.Chain.{input_digest}
use Rattle.faust_hash.specs.Tag.{is_same}
use Rattle.faust_premises.specs.Premises.{Collision, collision_or, first_collision_behind, first_partner}
use Rattle.faust_audit.specs.Tables.{HoldsInputs, collision_in, first_of_digest}
use Rattle.faust_audit.specs.declared.input_table.Colliding.{Colliding}
use Rattle.faust_audit.specs.declared.input_table.InputTable.{InputTable}
use Rattle.faust_audit.proofs.TableLaws.{collision-one, collision-stays, first-again, first-new, partner-none, partner-other, partner-same}

some-none : {X : Type 0} (o : Option X) (x : X) → o ≡ Some x → o ≡ None → ⊥
some-none o x some none = cc

abbrev collision_of : Colliding → Collision
collision_of found = record { first = found.first; second = found.second }

-- after a collision
pub inputs-stay : (table : InputTable) (all : List (List ℕ)) (input : List ℕ) (found : Colliding) → table.found ≡ Some found
    → HoldsInputs table all → HoldsInputs table (all ++ input ∷ [])
inputs-stay table all input found is holds =
    let there : first_collision_behind [] all ≡ Some (collision_of found) = sym holds.found_is ∙ ap collision_in is in
    record {
      found_is = ap collision_in is ∙ sym (collision-stays [] all (input ∷ []) (collision_of found) there);
      firsts_are = λ none. absurd (some-none table.found found is none);
    }

-- no collision so far
none-so-far : (table : InputTable) (all : List (List ℕ)) → table.found ≡ None → HoldsInputs table all
    → first_collision_behind [] all ≡ None
none-so-far table all none holds = sym holds.found_is ∙ ap collision_in none

-- a digest that is new
pub inputs-new : (table now : InputTable) (all : List (List ℕ)) (input : List ℕ) → table.found ≡ None → now.found ≡ None
    → hashed.get bytes_eq table.firsts (input_digest input) ≡ None
    → ((q : List ℕ) → hashed.get bytes_eq now.firsts q
    ≡ cond (bytes_eq (input_digest input) q) (Some input) (hashed.get bytes_eq table.firsts q))
    → HoldsInputs table all → HoldsInputs now (all ++ input ∷ [])
inputs-new table now all input none still absent updated holds =
    let nothing : first_of_digest all (input_digest input) ≡ None = sym (holds.firsts_are none (input_digest input)) ∙ absent in
    let no_partner : first_partner all input ≡ None = partner-none all input nothing in
    record {
      found_is = ap collision_in still
          ∙ sym (collision-one [] all input (none-so-far table all none holds)
          ∙ ap (λ (here : Option (List ℕ)). collision_or here input None) no_partner);
      firsts_are = λ again digest.
          updated digest
          ∙ ap (λ (o : Option (List ℕ)). cond (is_same (input_digest input) digest) (Some input) o) (holds.firsts_are none digest)
          ∙ sym (first-new all input digest nothing);
    }

-- an input that was there
pub inputs-again : (table : InputTable) (all : List (List ℕ)) (input : List ℕ) → table.found ≡ None
    → hashed.get bytes_eq table.firsts (input_digest input) ≡ Some input → HoldsInputs table all
    → HoldsInputs table (all ++ input ∷ [])
inputs-again table all input none there holds =
    let first : first_of_digest all (input_digest input) ≡ Some input = sym (holds.firsts_are none (input_digest input)) ∙ there in
    let so_far = none-so-far table all none holds in
    let no_partner : first_partner all input ≡ None = partner-same all input so_far first in
    record {
      found_is = ap collision_in none
          ∙ sym (collision-one [] all input so_far ∙ ap (λ (here : Option (List ℕ)). collision_or here input None) no_partner);
      firsts_are = λ again digest. holds.firsts_are none digest ∙ sym (first-again all input digest input first);
    }

-- an input that collides with an earlier one
pub inputs-collide : (table now : InputTable) (all : List (List ℕ)) (input f : List ℕ) → table.found ≡ None
    → hashed.get bytes_eq table.firsts (input_digest input) ≡ Some f → (f ≡ input → ⊥)
    → now.found ≡ Some (record { first = f; second = input }) → HoldsInputs table all → HoldsInputs now (all ++ input ∷ [])
inputs-collide table now all input f none there differ found holds =
    let first : first_of_digest all (input_digest input) ≡ Some f = sym (holds.firsts_are none (input_digest input)) ∙ there in
    let other : is_same f input ≡ false = false_from_ne_true (is_same f input) (λ same. differ ((is_same_tells f input).0 same)) in
    let partner : first_partner all input ≡ Some f = partner-other all input f first other in
    record {
      found_is = ap collision_in found
          ∙ sym (collision-one [] all input (none-so-far table all none holds)
          ∙ ap (λ (here : Option (List ℕ)). collision_or here input None) partner);
      firsts_are = λ again. absurd (some-none now.found (record { first = f; second = input }) found again);
    }

-- the same, of what the code has in the places of the input and its digest
is-none : {X : Type 0} (o : Option X) → is_some o ≡ false → o ≡ None
is-none None is = refl
is-none (Some x) is = absurd (true≢false is)

pub stay : (table : InputTable) (all : List (List ℕ)) (input : List ℕ) → is_some table.found ≡ true → HoldsInputs table all
    → HoldsInputs table (all ++ input ∷ [])
stay table all input found holds = by table.found refl
  where
    by : (o : Option Colliding) → table.found ≡ o → HoldsInputs table (all ++ input ∷ [])
    by None none = absurd (false≢true (ap is_some (sym none) ∙ found))
    by (Some collision) is = inputs-stay table all input collision is holds

pub new-as : (table now : InputTable) (all : List (List ℕ)) (input digest key value : List ℕ) → digest ≡ input_digest input
    → key ≡ input_digest input → value ≡ input → is_some table.found ≡ false → now.found ≡ table.found
    → hashed.get bytes_eq table.firsts digest ≡ None
    → ((q : List ℕ) → hashed.get bytes_eq now.firsts q
    ≡ cond (bytes_eq key q) (Some value) (hashed.get bytes_eq table.firsts q))
    → HoldsInputs table all → HoldsInputs now (all ++ input ∷ [])
new-as table now all input digest key value digest_is key_is value_is none still absent updated holds =
    let no_found = is-none table.found none in
    inputs-new table now all input no_found (still ∙ no_found) (ap (hashed.get bytes_eq table.firsts) (sym digest_is) ∙ absent)
    (λ q. updated q
    ∙ ap (λ (k : List ℕ). cond (bytes_eq k q) (Some value) (hashed.get bytes_eq table.firsts q)) key_is
    ∙ ap (λ (v : List ℕ). cond (bytes_eq (input_digest input) q) (Some v)
    (hashed.get bytes_eq table.firsts q)) value_is)
    holds

pub again-as : (table : InputTable) (all : List (List ℕ)) (input digest first : List ℕ) → digest ≡ input_digest input
    → is_some table.found ≡ false → hashed.get bytes_eq table.firsts digest ≡ Some first → first ≡ input
    → HoldsInputs table all → HoldsInputs table (all ++ input ∷ [])
again-as table all input digest first digest_is none there same holds =
    inputs-again table all input (is-none table.found none)
    (ap (hashed.get bytes_eq table.firsts) (sym digest_is) ∙ there ∙ ap (λ (l : List ℕ). Some l) same) holds

pub collide-as : (table now : InputTable) (all : List (List ℕ)) (input digest first second : List ℕ) → digest ≡ input_digest input
    → is_some table.found ≡ false → hashed.get bytes_eq table.firsts digest ≡ Some first → (first ≡ input → ⊥)
    → second ≡ input → now.found ≡ Some (record { first = first; second = second }) → HoldsInputs table all
    → HoldsInputs now (all ++ input ∷ [])
collide-as table now all input digest first second digest_is none there differ second_is found holds =
    inputs-collide table now all input first (is-none table.found none)
    (ap (hashed.get bytes_eq table.firsts) (sym digest_is) ∙ there) differ
    (found ∙ ap (λ (l : List ℕ). Some (record { first = first; second = l })) second_is) holds

-- what a comparison of two byte lists tells
not-true : (b : Bool) → true ≡ not b → false ≡ b
not-true true h = absurd (true≢false h)
not-true false h = refl

not-false : (b : Bool) → false ≡ not b → true ≡ b
not-false true h = refl
not-false false h = absurd (false≢true h)

pub unlike : (x y : List ℕ) → true ≡ not (pointwise nat_eq x y) → x ≡ y → ⊥
unlike x y differ = other_text x y (not-true (pointwise nat_eq x y) differ)

pub alike : (x y : List ℕ) → false ≡ not (pointwise nat_eq x y) → x ≡ y
alike x y same = same_text x y (not-false (pointwise nat_eq x y) same)
