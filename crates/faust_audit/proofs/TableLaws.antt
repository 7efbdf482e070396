-- One more body in the set, and one more input in the table.
use Rattle.std.proofs.Common.{◌≡◌, ◌&&◌, ◌||◌, ℕ, Bool, true, false, not, cond, List, [], ◌∷◌, ◌++◌, Option, Some, None, refl, sym, ap, ◌∙◌, inl, inr, append_assoc}
use Rattle.std.proofs.lemmas.List.{append-nil}
use Rattle.std.proofs.lemmas.List.Sorted.{list_any-IsPermutation}
use Rattle.std.specs.Bool.{MatchBool}
use Rattle.std.specs.List.{list_any}
use Rattle.std.specs.List.Sorted.{IsPermutation}
use Rattle.std.proofs.lemmas.Bool.{cases_Bool, cond-true, cond-false, false≢true, true≢false}
use Rattle.faust_hash.proofs.Lists.{is_same_tells}
use Rattle.faust_hash.specs.Chain.{input_digest}
use Rattle.faust_hash.specs.Tag.{is_same}
use Rattle.faust_lists.specs.Names.{Has}
use Rattle.faust_lists.specs.Walks.{IsFree}
use Rattle.faust_premises.specs.Premises.{Collision, collision_or, first_collision_behind, first_partner, is_among, is_colliding}
use Rattle.faust_premises.proofs.Collisions.{free-behind}
use Rattle.faust_audit.specs.Tables.{first_of_digest}

-- ---- bodies

or-false : (b : Bool) → b || false ≡ b
or-false true = refl
or-false false = refl

or-later : (x r k : Bool) → x || (r || k) ≡ (x || r) || k
or-later true r k = refl
or-later false r k = refl

or-first : (a b c : Bool) → a ≡ c → a || b ≡ b || c
or-first true true true is = refl
or-first true false true is = refl
or-first false true false is = refl
or-first false false false is = refl
or-first true b false is = absurd (true≢false is)
or-first false b true is = absurd (false≢true is)

or-there : (b c : Bool) → (c ≡ true → b ≡ true) → b ≡ b || c
or-there true c there = refl
or-there false false there = refl
or-there false true there = absurd (false≢true (there refl))

is-there : (b : Bool) → false ≡ not b → b ≡ true
is-there true is = refl
is-there false is = absurd (false≢true is)

same-swap : (x y : List ℕ) → is_same x y ≡ is_same y x
same-swap x y = elim (cases_Bool (is_same x y)) as (λ _. is_same x y ≡ is_same y x) [
  | inl is_so ↦ is_so ∙ sym ((is_same_tells y x).1 (sym ((is_same_tells x y).0 is_so)))
  | inr is_not ↦ elim (cases_Bool (is_same y x)) as (λ _. is_same x y ≡ is_same y x) [
    | inl other ↦ absurd (true≢false (sym ((is_same_tells x y).1 (sym ((is_same_tells y x).0 other))) ∙ is_not))
    | inr neither ↦ is_not ∙ sym neither
  ]
]

module _ {K : Type 0} (items : K → List ℕ) where
  -- whether a key has these bytes
  abbrev pub any_at : List ℕ → List K → Bool
  any_at q ks = list_any (λ k. is_same q (items k)) ks

  -- the keys behind an insertion: the key may have been there
  pub one-key-more : (q : List ℕ) (old new : List K) (key : K) (added : Bool) → added ≡ not (any_at (items key) old)
      → MatchBool added (IsPermutation (key ∷ old) new) (new ≡ old) → any_at q new ≡ any_at q old || is_same (items key) q
  one-key-more q old new key true is puts =
      sym (list_any-IsPermutation (λ k. is_same q (items k)) (key ∷ old) new puts)
      ∙ or-first (is_same q (items key)) (any_at q old) (is_same (items key) q) (same-swap q (items key))
  one-key-more q old new key false is puts =
      ap (any_at q) puts
      ∙ or-there (any_at q old) (is_same (items key) q)
      (λ same. ap (λ (l : List ℕ). any_at l old) (sym ((is_same_tells (items key) q).0 same)) ∙ is-there (any_at (items key) old) is)

pub among-one-more : (made : List (List ℕ)) (body q : List ℕ) → is_among (made ++ body ∷ []) q ≡ is_among made q || is_same body q
among-one-more [] body q = or-false (is_same body q)
among-one-more (x ∷ made) body q =
    ap (λ (b : Bool). is_same x q || b) (among-one-more made body q) ∙ or-later (is_same x q) (is_among made q) (is_same body q)

-- ---- inputs

-- a collision that was found stays the first
or-stays : (here : Option (List ℕ)) (x : List ℕ) (later more : Option Collision) (found : Collision)
    → (later ≡ Some found → more ≡ Some found) → collision_or here x later ≡ Some found → collision_or here x more ≡ Some found
or-stays None x later more found stays is = stays is
or-stays (Some first) x later more found stays is = is

pub collision-stays : (before xs ys : List (List ℕ)) (found : Collision) → first_collision_behind before xs ≡ Some found
    → first_collision_behind before (xs ++ ys) ≡ Some found
collision-stays before [] ys found is = absurd (cc)
collision-stays before (x ∷ xs) ys found is =
    or-stays (first_partner before x) x (first_collision_behind (before ++ x ∷ []) xs)
    (first_collision_behind (before ++ x ∷ []) (xs ++ ys)) found (collision-stays (before ++ x ∷ []) xs ys found) is

-- where none was found, it is that of one more input
or-one : (here : Option (List ℕ)) (x : List ℕ) (later more due : Option Collision) → (later ≡ None → more ≡ due)
    → collision_or here x later ≡ None → collision_or here x more ≡ due
or-one None x later more due is none = is none
or-one (Some first) x later more due is none = absurd (cc)

pub collision-one : (before xs : List (List ℕ)) (input : List ℕ) → first_collision_behind before xs ≡ None
    → first_collision_behind before (xs ++ input ∷ []) ≡ collision_or (first_partner (before ++ xs) input) input None
collision-one before [] input none =
    ap (λ (l : List (List ℕ)). collision_or (first_partner l input) input None) (sym (append-nil before))
collision-one before (x ∷ xs) input none =
    or-one (first_partner before x) x (first_collision_behind (before ++ x ∷ []) xs)
    (first_collision_behind (before ++ x ∷ []) (xs ++ input ∷ [])) (collision_or (first_partner (before ++ x ∷ xs) input) input None)
    (λ later. collision-one (before ++ x ∷ []) xs input later
    ∙ ap (λ (l : List (List ℕ)). collision_or (first_partner l input) input None) (append_assoc before (x ∷ []) xs)) none

-- what the first input of a digest is
first-is : (all : List (List ℕ)) (digest f : List ℕ) → first_of_digest all digest ≡ Some f → Has all f × (input_digest f ≡ digest)
first-is [] digest f is = absurd (cc)
first-is (y ∷ all) digest f is = elim (cases_Bool (is_same (input_digest y) digest)) as (λ _. Has (y ∷ all) f × (input_digest f ≡ digest)) [
  | inl is_so ↦
      let here : Some y ≡ Some f = sym (cond-true _ (Some y) (first_of_digest all digest) is_so) ∙ is in
      let y_is : y ≡ f = cc in
      (inl (sym y_is), ap input_digest (sym y_is) ∙ (is_same_tells (input_digest y) digest).0 is_so)
  | inr is_not ↦
      let later = first-is all digest f (sym (cond-false _ (Some y) (first_of_digest all digest) is_not) ∙ is) in
      (inr later.0, later.1)
]

-- an input whose digest no other one has; one whose digest another one has; and one that was there
none-here : (b other : Bool) (y : List ℕ) (later more : Option (List ℕ)) → (later ≡ None → more ≡ None)
    → cond b (Some y) later ≡ None → cond (b && other) (Some y) more ≡ None
none-here true other y later more is none = absurd (cc)
none-here false other y later more is none = is none

pub partner-none : (all : List (List ℕ)) (input : List ℕ) → first_of_digest all (input_digest input) ≡ None
    → first_partner all input ≡ None
partner-none [] input none = refl
partner-none (y ∷ all) input none =
    none-here (is_same (input_digest y) (input_digest input)) (not (is_same y input)) y (first_of_digest all (input_digest input))
    (first_partner all input) (partner-none all input) none

other-here : (b : Bool) (y f input : List ℕ) (later more : Option (List ℕ)) → is_same f input ≡ false
    → (later ≡ Some f → more ≡ Some f) → cond b (Some y) later ≡ Some f → cond (b && not (is_same y input)) (Some y) more ≡ Some f
other-here true y f input later more other is here =
    let y_is : y ≡ f = cc in
    let differs : is_same y input ≡ false = ap (λ (z : List ℕ). is_same z input) y_is ∙ other in
    cond-true (not (is_same y input)) (Some y) more (ap not differs) ∙ here
other-here false y f input later more other is here = is here

pub partner-other : (all : List (List ℕ)) (input f : List ℕ) → first_of_digest all (input_digest input) ≡ Some f → is_same f input ≡ false
    → first_partner all input ≡ Some f
partner-other [] input f is other = absurd (cc)
partner-other (y ∷ all) input f is other =
    other-here (is_same (input_digest y) (input_digest input)) y f input (first_of_digest all (input_digest input))
    (first_partner all input) other (λ later. partner-other all input f later other) is

partner-equal : (all : List (List ℕ)) (input : List ℕ) → ((y : List ℕ) → Has all y → input_digest y ≡ input_digest input → y ≡ input)
    → first_partner all input ≡ None
partner-equal [] input free = refl
partner-equal (y ∷ all) input free =
    elim (cases_Bool (is_same (input_digest y) (input_digest input))) as (λ _. first_partner (y ∷ all) input ≡ None) [
      | inl is_so ↦
          let same : is_same y input ≡ true = (is_same_tells y input).1 (free y (inl refl)
          ((is_same_tells (input_digest y) (input_digest input)).0 is_so)) in
          cond-false (is_colliding y input) (Some y) (first_partner all input)
          (ap (λ (b : Bool). is_same (input_digest y) (input_digest input) && not b) same ∙ ap (λ (b : Bool). b && false) is_so)
          ∙ partner-equal all input (λ z has. free z (inr has))
      | inr is_not ↦
          cond-false (is_colliding y input) (Some y) (first_partner all input)
          (ap (λ (b : Bool). b && not (is_same y input)) is_not)
          ∙ partner-equal all input (λ z has. free z (inr has))
    ]

free-first : (all : List (List ℕ)) → first_collision_behind [] all ≡ None → IsFree all
free-first all none = free-behind [] all (λ x y in_x in_y digests. absurd in_x) none

pub partner-same : (all : List (List ℕ)) (input : List ℕ) → first_collision_behind [] all ≡ None
    → first_of_digest all (input_digest input) ≡ Some input → first_partner all input ≡ None
partner-same all input none is =
    let has = (first-is all (input_digest input) input is).0 in
    partner-equal all input (λ y in_y digests. free-first all none y input in_y has digests)

-- the first input of each digest with one more input
abbrev pub first_or : Option (List ℕ) → Bool → List ℕ → Option (List ℕ)
first_or None same input = cond same (Some input) None
first_or (Some f) same input = Some f

more-here : (b same : Bool) (y input : List ℕ) (later more : Option (List ℕ)) → more ≡ first_or later same input
    → cond b (Some y) more ≡ first_or (cond b (Some y) later) same input
more-here true same y input later more is = refl
more-here false same y input later more is = is

pub first-one-more : (all : List (List ℕ)) (input digest : List ℕ)
    → first_of_digest (all ++ input ∷ []) digest ≡ first_or (first_of_digest all digest) (is_same (input_digest input) digest) input
first-one-more [] input digest = refl
first-one-more (y ∷ all) input digest =
    more-here (is_same (input_digest y) digest) (is_same (input_digest input) digest) y input (first_of_digest all digest)
    (first_of_digest (all ++ input ∷ []) digest) (first-one-more all input digest)

-- a digest that is there already
pub first-again : (all : List (List ℕ)) (input digest f : List ℕ) → first_of_digest all (input_digest input) ≡ Some f
    → first_of_digest (all ++ input ∷ []) digest ≡ first_of_digest all digest
first-again all input digest f is =
    first-one-more all input digest ∙ by (first_of_digest all digest) refl
  where
    by : (o : Option (List ℕ)) → first_of_digest all digest ≡ o → first_or o (is_same (input_digest input) digest) input ≡ o
    by (Some g) at = refl
    by None at =
        elim (cases_Bool (is_same (input_digest input) digest)) as (λ _. first_or None
        (is_same (input_digest input) digest) input ≡ None) [
          | inl is_so ↦
              let same = (is_same_tells (input_digest input) digest).0 is_so in
              let both : Some f ≡ None = sym is ∙ ap (first_of_digest all) same ∙ at in
              absurd (cc)
          | inr is_not ↦ cond-false _ (Some input) None is_not
        ]

-- a digest that is new
pub first-new : (all : List (List ℕ)) (input digest : List ℕ) → first_of_digest all (input_digest input) ≡ None
    → first_of_digest (all ++ input ∷ []) digest ≡ cond (is_same (input_digest input) digest) (Some input) (first_of_digest all digest)
first-new all input digest none =
    first-one-more all input digest ∙ by (first_of_digest all digest) refl
  where
    by : (o : Option (List ℕ)) → first_of_digest all digest ≡ o
        → first_or o (is_same (input_digest input) digest) input ≡ cond (is_same (input_digest input) digest) (Some input) o
    by None at = refl
    by (Some g) at = elim (cases_Bool (is_same (input_digest input) digest))
        as (λ _. Some g ≡ cond (is_same (input_digest input) digest) (Some input) (Some g)) [
          | inl is_so ↦
              let same = (is_same_tells (input_digest input) digest).0 is_so in
              let both : Some g ≡ None = sym at ∙ ap (first_of_digest all) (sym same) ∙ none in
              absurd (cc)
          | inr is_not ↦ sym (cond-false _ (Some input) (Some g) is_not)
        ]
