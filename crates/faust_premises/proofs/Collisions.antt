-- Where no inputs collide, no two of them have one digest.
use Rattle.std.proofs.Common.{◌≡◌, ◌⊎◌, ◌&&◌, ℕ, Bool, true, false, not, cond, List, [], ◌∷◌, ◌++◌, Option, None, Some, refl, sym, ap, ◌∙◌, subst, inl, inr, append_assoc}
use Rattle.std.proofs.lemmas.Bool.{false≢true}
use Rattle.std.proofs.lemmas.List.{append-nil}
use Rattle.faust_types.specs.declared.config.Config.{Config}
use Rattle.faust_hash.proofs.Lists.{is_same_tells}
use Rattle.faust_hash.specs.Chain.{input_digest}
use Rattle.faust_hash.specs.Tag.{is_same}
use Rattle.faust_record.specs.declared.entry.Entry.{Entry}
use Rattle.faust_lists.specs.Names.{Has}
use Rattle.faust_lists.specs.Walks.{IsFree}
use Rattle.faust_premises.specs.Premises.{Collision, collision_or, first_collision, first_collision_behind, first_partner, hashed_behind, hashed_in_run, hashed_inputs, is_colliding}

-- entries one after the other hash what the first ones hash and then what the others hash
pub hashed_behind-append : (config : Config) (before xs ys : List Entry)
    → hashed_behind config before (xs ++ ys) ≡ hashed_behind config before xs ++ hashed_behind config (before ++ xs) ys
hashed_behind-append config before [] ys =
    ap (λ (l : List Entry). hashed_behind config l ys) (sym (append-nil before))
hashed_behind-append config before (x ∷ xs) ys =
    ap (λ (l : List (List ℕ)). hashed_inputs config before x ++ l) (hashed_behind-append config (before ++ x ∷ []) xs ys)
    ∙ sym (append_assoc (hashed_inputs config before x) (hashed_behind config (before ++ x ∷ []) xs)
    (hashed_behind config ((before ++ x ∷ []) ++ xs) ys))
    ∙ ap (λ (l : List Entry). (hashed_inputs config before x ++ hashed_behind config (before ++ x ∷ []) xs) ++ hashed_behind config l ys)
    (append_assoc before (x ∷ []) xs)

pub hashed_in_run-one : (config : Config) (before : List Entry) (entry : Entry)
    → hashed_in_run config (before ++ entry ∷ []) ≡ hashed_in_run config before ++ hashed_inputs config before entry
hashed_in_run-one config before entry =
    hashed_behind-append config [] before (entry ∷ [])
    ∙ ap (λ (l : List (List ℕ)). hashed_in_run config before ++ l) (append-nil (hashed_inputs config before entry))

-- an item of a list with one more at its end
pub has-one-more : {X : Type 0} (xs : List X) (x a : X) → Has (xs ++ x ∷ []) a → Has xs a ⊎ (a ≡ x)
has-one-more [] x a (inl same) = inr same
has-one-more [] x a (inr has) = absurd has
has-one-more (y ∷ xs) x a (inl same) = inl (inl same)
has-one-more (y ∷ xs) x a (inr has) = elim (has-one-more xs x a has) as (λ _. Has (y ∷ xs) a ⊎ (a ≡ x)) [
  | inl before ↦ inl (inr before)
  | inr last ↦ inr last
]

-- an input that has no partner
no-partner-here : (same_digest same : Bool) (first : List ℕ) (later : Option (List ℕ)) → cond (same_digest && not same) (Some first) later
    ≡ None
    → (same_digest ≡ true → same ≡ true) × (later ≡ None)
no-partner-here true true first later none = (λ digests. refl, none)
no-partner-here true false first later none = absurd (cc)
no-partner-here false same first later none = (λ digests. absurd (false≢true digests), none)

pub no-partner : (before : List (List ℕ)) (second x : List ℕ) → first_partner before second ≡ None → Has before x
    → input_digest x ≡ input_digest second → x ≡ second
no-partner [] second x none has digests = absurd has
no-partner (y ∷ before) second x none (inl same) digests =
    let kept = no-partner-here (is_same (input_digest y) (input_digest second)) (is_same y second) y (first_partner before second) none in
    let digests_y : input_digest y ≡ input_digest second = ap input_digest (sym same) ∙ digests in
    same ∙ (is_same_tells y second).0 (kept.0 ((is_same_tells (input_digest y) (input_digest second)).1 digests_y))
no-partner (y ∷ before) second x none (inr has) digests =
    let kept = no-partner-here (is_same (input_digest y) (input_digest second)) (is_same y second) y (first_partner before second) none in
    no-partner before second x kept.1 has digests

pub neither-collides : (here : Option (List ℕ)) (second : List ℕ) (later : Option Collision) → collision_or here second later ≡ None
    → (here ≡ None) × (later ≡ None)
neither-collides None second later none = (refl, none)
neither-collides (Some first) second later none = absurd (cc)

-- one more input that has no partner
free-one-more : (before : List (List ℕ)) (input : List ℕ) → IsFree before → first_partner before input ≡ None
    → IsFree (before ++ input ∷ [])
free-one-more before input free none = λ x y in_x in_y digests.
    elim (has-one-more before input x in_x) as (λ _. x ≡ y) [
      | inl x_before ↦ elim (has-one-more before input y in_y) as (λ _. x ≡ y) [
        | inl y_before ↦ free x y x_before y_before digests
        | inr y_last ↦ no-partner before input x none x_before (digests ∙ ap input_digest y_last) ∙ sym y_last
      ]
      | inr x_last ↦ elim (has-one-more before input y in_y) as (λ _. x ≡ y) [
        | inl y_before ↦ x_last ∙ sym (no-partner before input y none y_before (sym digests ∙ ap input_digest x_last))
        | inr y_last ↦ x_last ∙ sym y_last
      ]
    ]

pub free-behind : (before rest : List (List ℕ)) → IsFree before → first_collision_behind before rest ≡ None → IsFree (before ++ rest)
free-behind before [] free none = subst IsFree (sym (append-nil before)) free
free-behind before (input ∷ rest) free none =
    let parts = neither-collides (first_partner before input) input (first_collision_behind (before ++ input ∷ []) rest) none in
    subst IsFree (append_assoc before (input ∷ []) rest)
    (free-behind (before ++ input ∷ []) rest (free-one-more before input free parts.0) parts.1)

free-nothing : IsFree []
free-nothing = λ x y in_x in_y digests. absurd in_x

pub no-collision-free : (config : Config) (entries : List Entry) → first_collision config entries ≡ None
    → IsFree (hashed_in_run config entries)
no-collision-free config entries none = free-behind [] (hashed_in_run config entries) free-nothing none

-- no collision among inputs, in a front of them
pub collision-front : (before xs ys : List (List ℕ)) → first_collision_behind before (xs ++ ys) ≡ None
    → first_collision_behind before xs ≡ None
collision-front before [] ys none = refl
collision-front before (x ∷ xs) ys none =
    let parts = neither-collides (first_partner before x) x (first_collision_behind (before ++ x ∷ []) (xs ++ ys)) none in
    ap (λ (here : Option (List ℕ)). collision_or here x (first_collision_behind (before ++ x ∷ []) xs)) parts.0
    ∙ collision-front (before ++ x ∷ []) xs ys parts.1
