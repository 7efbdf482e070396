-- Small facts on options, tests and what is found by a name.
use Rattle.std.proofs.Common.{◌≡◌, ◌==◌, ◌&&◌, ℕ, Bool, true, false, cond, List, ◌∷◌, Option, Some, None, unwrap_or, refl, sym, ap, ◌∙◌}
use Rattle.std.proofs.lemmas.Bool.{eq-eqb, ne_eqb, eqb-true, and_right}
use Rattle.faust_forks.specs.Books.{Begun, Done, find, find_begun, is_named, or_else}

pub or_else-none : {X : Type 0} (o : Option X) → or_else o None ≡ o
or_else-none None = refl
or_else-none (Some x) = refl

-- the first one, where there is a second one only if the test holds
pub or_else-not : {X : Type 0} (o : Option X) (test : Bool) (x : X) → test ≡ false → or_else o (cond test (Some x) None) ≡ o
or_else-not {X} o test x fails = ap (λ (b : Bool). or_else o (cond b (Some x) None)) fails ∙ or_else-none o

pub unwrapped : {X : Type 0} (o : Option X) (x d : X) → o ≡ Some x → o ≡ Some (unwrap_or o d)
unwrapped None x d is = absurd (cc)
unwrapped (Some y) x d is = refl

-- two tests that hold together are one
pub same-test : (a b : Bool) → (a ≡ true → b ≡ true) → (b ≡ true → a ≡ true) → a ≡ b
same-test true true h i = refl
same-test true false h i = sym (h refl)
same-test false true h i = i refl
same-test false false h i = refl

pub eqb-sym : (a b : ℕ) → (a == b) ≡ (b == a)
eqb-sym a b = same-test (a == b) (b == a) (λ h. eq-eqb b a (sym (eqb-true a b h))) (λ h. eq-eqb a b (sym (eqb-true b a h)))

-- a name of another client
pub other-named : (client number k t : ℕ) → (client ≡ k → ⊥) → is_named client number k t ≡ false
other-named client number k t other = ap (λ (b : Bool). b && (number == t)) (ne_eqb client k other)

pub begun-other : (started : List Begun) (added : Begun) (k t : ℕ) → (added.client ≡ k → ⊥)
    → find_begun (added ∷ started) k t ≡ find_begun started k t
begun-other started added k t other =
    or_else-not (find_begun started k t) (is_named added.client added.number k t) added
    (other-named added.client added.number k t other)

pub done-other : (book : List Done) (added : Done) (k t : ℕ) → (added.client ≡ k → ⊥) → find (added ∷ book) k t ≡ find book k t
done-other book added k t other =
    or_else-not (find book k t) (is_named added.client added.number k t) added
    (other-named added.client added.number k t other)

-- another number
pub other-number : (client number k t : ℕ) → (number ≡ t → ⊥) → is_named client number k t ≡ false
other-number client number k t other = and_right (client == k) (number == t) (ne_eqb number t other)

pub begun-later : (started : List Begun) (added : Begun) (k t : ℕ) → find_begun started k t ≡ None → (added.number ≡ t → ⊥)
    → find_begun (added ∷ started) k t ≡ None
begun-later started added k t none other =
    or_else-not (find_begun started k t) (is_named added.client added.number k t) added
    (other-number added.client added.number k t other)
    ∙ none
