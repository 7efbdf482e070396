-- What is found of operations that began and completed, and that it stays found.
use Rattle.std.proofs.Common.{◌≡◌, ℕ, ◌==◌, ◌⊎◌, Bool, true, false, cond, List, [], ◌∷◌, Option, None, Some, refl, sym, ap, ◌∙◌, inl, inr}
use Rattle.std.proofs.lemmas.Bool.{and_parts, and_from, cond-true, cond-false, eqb-true, eq-eqb, false_from_ne_true}
use Rattle.faust_forks.specs.Books.{Begun, Done, or_else, is_named, find_begun, find, Began, Completed, AreBegunIn, AreDoneIn}

none-some : {X : Type 0} (x : X) → None ≡ Some x → ⊥
none-some x h = cc

pub some-same : {X : Type 0} (x y : X) → Some x ≡ Some y → x ≡ y
some-same x y h = cc

-- two findings of one operation are one
pub found-once : {X : Type 0} (found : Option X) (x y : X) → found ≡ Some x → found ≡ Some y → x ≡ y
found-once found x y h i = some-same x y (sym h ∙ i)

pub found-none : {X : Type 0} (found : Option X) (x : X) → found ≡ None → found ≡ Some x → ⊥
found-none found x h i = none-some x (sym h ∙ i)

-- The second is found where there is no first.
pub record IsSecond {X : Type 0} (first second : Option X) (x : X) : Type 0 where
  pub no_first : first ≡ None
  pub is_second : second ≡ Some x

or_else-cases : {X : Type 0} (first second : Option X) (x : X) → or_else first second ≡ Some x
    → (first ≡ Some x) ⊎ IsSecond first second x
or_else-cases None second x h = inr (record { no_first = refl; is_second = h })
or_else-cases (Some y) second x h = inl h

record IsTaken {X : Type 0} (test : Bool) (x y : X) : Type 0 where
  holds : test ≡ true
  same : x ≡ y

cond-some : {X : Type 0} (test : Bool) (x y : X) → cond test (Some x) None ≡ Some y → IsTaken test x y
cond-some true x y h = record { holds = refl; same = some-same x y h }
cond-some false x y h = absurd (none-some y h)

-- What is found has the client and the number that it was looked up by.
pub record IsNamed (client number k t : ℕ) : Type 0 where
  pub is_client : client ≡ k
  pub is_number : number ≡ t

named-parts : (client number k t : ℕ) → is_named client number k t ≡ true → IsNamed client number k t
named-parts client number k t h =
    let both = and_parts (client == k) (number == t) h in
    record { is_client = eqb-true client k both.0; is_number = eqb-true number t both.1 }

named-from : (client number k t : ℕ) → client ≡ k → number ≡ t → is_named client number k t ≡ true
named-from client number k t h i = and_from (client == k) (number == t) (eq-eqb client k h) (eq-eqb number t i)

-- one more that began
pub begun-cases : (started : List Begun) (added : Begun) (k t : ℕ) (begun : Begun) → find_begun (added ∷ started) k t ≡ Some begun
    → (find_begun started k t ≡ Some begun) ⊎ (added ≡ begun)
begun-cases started added k t begun h =
    elim (or_else-cases (find_begun started k t) (cond (is_named added.client added.number k t) (Some added) None) begun h) [
      | inl old ↦ inl old
      | inr second ↦ inr (cond-some (is_named added.client added.number k t) added begun second.is_second).same
    ]

pub begun-more : (started : List Begun) (added : Begun) → AreBegunIn started (added ∷ started)
begun-more started added k t begun h =
    ap (λ (found : Option Begun). or_else found (cond (is_named added.client added.number k t) (Some added) None)) h

pub begun-first : (started : List Begun) (added : Begun) (k t : ℕ) → find_begun started k t ≡ None → added.client ≡ k → added.number ≡ t
    → find_begun (added ∷ started) k t ≡ Some added
begun-first started added k t none client number =
    ap (λ (found : Option Begun). or_else found (cond (is_named added.client added.number k t) (Some added) None)) none
    ∙ cond-true _ _ _ (named-from added.client added.number k t client number)

pub begun-named : (started : List Begun) (k t : ℕ) (begun : Begun) → find_begun started k t ≡ Some begun
    → IsNamed begun.client begun.number k t
begun-named [] k t begun h = absurd (none-some begun h)
begun-named (added ∷ started) k t begun h =
    elim (or_else-cases (find_begun started k t) (cond (is_named added.client added.number k t) (Some added) None) begun h) [
      | inl old ↦ begun-named started k t begun old
      | inr second ↦
          let taken = cond-some (is_named added.client added.number k t) added begun second.is_second in
          let named = named-parts added.client added.number k t taken.holds in
          record {
            is_client = ap (λ (x : Begun). x.client) (sym taken.same) ∙ named.is_client;
            is_number = ap (λ (x : Begun). x.number) (sym taken.same) ∙ named.is_number;
          }
    ]

-- one more that completed
pub done-cases : (book : List Done) (added : Done) (k t : ℕ) (done : Done) → find (added ∷ book) k t ≡ Some done
    → (find book k t ≡ Some done) ⊎ (added ≡ done)
done-cases book added k t done h =
    elim (or_else-cases (find book k t) (cond (is_named added.client added.number k t) (Some added) None) done h) [
      | inl old ↦ inl old
      | inr second ↦ inr (cond-some (is_named added.client added.number k t) added done second.is_second).same
    ]

pub done-more : (book : List Done) (added : Done) → AreDoneIn book (added ∷ book)
done-more book added k t done h =
    ap (λ (found : Option Done). or_else found (cond (is_named added.client added.number k t) (Some added) None)) h

pub done-first : (book : List Done) (added : Done) (k t : ℕ) → find book k t ≡ None → added.client ≡ k → added.number ≡ t
    → find (added ∷ book) k t ≡ Some added
done-first book added k t none client number =
    ap (λ (found : Option Done). or_else found (cond (is_named added.client added.number k t) (Some added) None)) none
    ∙ cond-true _ _ _ (named-from added.client added.number k t client number)

-- another one isn't found by the names of the one that is added
pub done-none : (book : List Done) (added : Done) (k t : ℕ) → find book k t ≡ None
    → (added.client ≡ k → added.number ≡ t → ⊥) → find (added ∷ book) k t ≡ None
done-none book added k t none other =
    let unnamed : is_named added.client added.number k t ≡ false = false_from_ne_true _ (λ holds.
    let named = named-parts added.client added.number k t holds in
    other named.is_client named.is_number) in
    ap (λ (found : Option Done). or_else found (cond (is_named added.client added.number k t) (Some added) None)) none
    ∙ cond-false _ _ _ unnamed

pub done-named : (book : List Done) (k t : ℕ) (done : Done) → find book k t ≡ Some done → IsNamed done.client done.number k t
done-named [] k t done h = absurd (none-some done h)
done-named (added ∷ book) k t done h =
    elim (or_else-cases (find book k t) (cond (is_named added.client added.number k t) (Some added) None) done h) [
      | inl old ↦ done-named book k t done old
      | inr second ↦
          let taken = cond-some (is_named added.client added.number k t) added done second.is_second in
          let named = named-parts added.client added.number k t taken.holds in
          record {
            is_client = ap (λ (x : Done). x.client) (sym taken.same) ∙ named.is_client;
            is_number = ap (λ (x : Done). x.number) (sym taken.same) ∙ named.is_number;
          }
    ]

-- what is found stays found, and may be said to be less
pub Began-more : (started more : List Begun) (k t : ℕ) (P : Begun → Type 0) → AreBegunIn started more → Began started k t P
    → Began more k t P
Began-more started more k t P grows h = record { begun = h.begun; found = grows k t h.begun h.found; fits_it = h.fits_it }

pub Began-less : (started : List Begun) (k t : ℕ) (P Q : Begun → Type 0) → ((begun : Begun) → P begun → Q begun) → Began started k t P
    → Began started k t Q
Began-less started k t P Q less h = record { begun = h.begun; found = h.found; fits_it = less h.begun h.fits_it }

pub Completed-more : (book more : List Done) (k t : ℕ) (P : Done → Type 0) → AreDoneIn book more → Completed book k t P
    → Completed more k t P
Completed-more book more k t P grows h = record { done = h.done; found = grows k t h.done h.found; fits_it = h.fits_it }

pub Completed-less : (book : List Done) (k t : ℕ) (P Q : Done → Type 0) → ((done : Done) → P done → Q done) → Completed book k t P
    → Completed book k t Q
Completed-less book k t P Q less h = record { done = h.done; found = h.found; fits_it = less h.done h.fits_it }
