-- Where no tag is forged, each right tag of an entry is of a body that was made before.
use Rattle.std.proofs.Common.{◌≡◌, ◌&&◌, ℕ, Bool, true, false, not, cond, List, [], ◌∷◌, ◌++◌, Option, None, Some, refl, sym, ap, ◌∙◌, subst, inl, inr, append_assoc}
use Rattle.std.proofs.lemmas.Bool.{or_cases, or_left, or_right, false≢true}
use Rattle.std.proofs.lemmas.List.{append-nil}
use Rattle.faust_types.specs.declared.config.Config.{Config}
use Rattle.faust_hash.proofs.Lists.{is_same_tells}
use Rattle.faust_hash.specs.Tag.{is_same}
use Rattle.faust_tags.specs.Bodies.{tag_of}
use Rattle.faust_record.specs.Made.{made_behind, made_bodies}
use Rattle.faust_record.specs.declared.entry.Entry.{Entry}
use Rattle.faust_lists.specs.Names.{Has}
use Rattle.faust_forks.specs.Pairs.{Pair}
use Rattle.faust_premises.specs.Premises.{Forgery, checked_pairs, first_forged_behind, forged_among, forgery_or, is_among, is_forged, is_right}

-- a body is among others exactly where they have it
pub among-has : (made : List (List ℕ)) (body : List ℕ) → is_among made body ≡ true → Has made body
among-has [] body among = absurd (false≢true among)
among-has (x ∷ made) body among = elim (or_cases (is_same x body) (is_among made body) among) as (λ _. Has (x ∷ made) body) [
  | inl same ↦ inl (sym ((is_same_tells x body).0 same))
  | inr later ↦ inr (among-has made body later)
]

pub has-among : (made : List (List ℕ)) (body : List ℕ) → Has made body → is_among made body ≡ true
has-among [] body has = absurd has
has-among (x ∷ made) body (inl same) =
    or_left (is_same x body) (is_among made body) ((is_same_tells x body).1 (sym same))
has-among (x ∷ made) body (inr has) = or_right (is_same x body) (is_among made body) (has-among made body has)

-- entries one after the other make what the first ones make and then what the others make
pub made_behind-append : (config : Config) (before xs ys : List Entry)
    → made_behind config before (xs ++ ys) ≡ made_behind config before xs ++ made_behind config (before ++ xs) ys
made_behind-append config before [] ys =
    ap (λ (l : List Entry). made_behind config l ys) (sym (append-nil before))
made_behind-append config before (x ∷ xs) ys =
    ap (λ (l : List (List ℕ)). made_bodies config before x ++ l) (made_behind-append config (before ++ x ∷ []) xs ys)
    ∙ sym (append_assoc (made_bodies config before x) (made_behind config (before ++ x ∷ []) xs)
    (made_behind config ((before ++ x ∷ []) ++ xs) ys))
    ∙ ap (λ (l : List Entry). (made_bodies config before x ++ made_behind config (before ++ x ∷ []) xs) ++ made_behind config l ys)
    (append_assoc before (x ∷ []) xs)

pub made_behind-one : (config : Config) (before : List Entry) (entry : Entry)
    → made_behind config [] (before ++ entry ∷ []) ≡ made_behind config [] before ++ made_bodies config before entry
made_behind-one config before entry =
    made_behind-append config [] before (entry ∷ [])
    ∙ ap (λ (l : List (List ℕ)). made_behind config [] before ++ l) (append-nil (made_bodies config before entry))

-- a pair that is no forgery
kept-pair : (right among : Bool) (body : List ℕ) (later : Option (List ℕ)) → cond (right && not among) (Some body) later ≡ None
    → (right ≡ true → among ≡ true) × (later ≡ None)
kept-pair true true body later none = (λ right. refl, none)
kept-pair true false body later none = absurd (cc)
kept-pair false among body later none = (λ right. absurd (false≢true right), none)

pub none-forged : (key : List ℕ) (made : List (List ℕ)) (pairs : List Pair) (pair : Pair) → forged_among key made pairs ≡ None
    → Has pairs pair → pair.tag ≡ tag_of key pair.body → Has made pair.body
none-forged key made [] pair none has right = absurd has
none-forged key made (x ∷ pairs) pair none (inl same) right =
    let kept = kept-pair (is_right key x) (is_among made x.body) x.body (forged_among key made pairs) none in
    let x_right : x.tag ≡ tag_of key x.body =
    ap (λ (z : Pair). z.tag) (sym same) ∙ right ∙ ap (λ (z : Pair). tag_of key z.body) same in
    subst (λ (z : Pair). Has made z.body) (sym same)
    (among-has made x.body (kept.0 ((is_same_tells x.tag (tag_of key x.body)).1 x_right)))
none-forged key made (x ∷ pairs) pair none (inr has) right =
    let kept = kept-pair (is_right key x) (is_among made x.body) x.body (forged_among key made pairs) none in
    none-forged key made pairs pair kept.1 has right

-- an entry that has no forgery, with none behind it
pub neither-forged : (number : ℕ) (here : Option (List ℕ)) (later : Option Forgery) → forgery_or number here later ≡ None
    → (here ≡ None) × (later ≡ None)
neither-forged number None later none = (refl, none)
neither-forged number (Some body) later none = absurd (cc)

-- no forgery among entries, in a front of them and in what is behind it
pub forged-front : (config : Config) (before xs ys : List Entry) → first_forged_behind config before (xs ++ ys) ≡ None
    → first_forged_behind config before xs ≡ None
forged-front config before [] ys none = refl
forged-front config before (x ∷ xs) ys none =
    let parts = neither-forged x.number (forged_among config.key (made_behind config [] before) (checked_pairs config x))
    (first_forged_behind config (before ++ x ∷ []) (xs ++ ys)) none in
    ap (λ (here : Option (List ℕ)). forgery_or x.number here (first_forged_behind config (before ++ x ∷ []) xs)) parts.0
    ∙ forged-front config (before ++ x ∷ []) xs ys parts.1

pub forged-back : (config : Config) (before xs ys : List Entry) → first_forged_behind config before (xs ++ ys) ≡ None
    → first_forged_behind config (before ++ xs) ys ≡ None
forged-back config before [] ys none = ap (λ (l : List Entry). first_forged_behind config l ys) (append-nil before) ∙ none
forged-back config before (x ∷ xs) ys none =
    let parts = neither-forged x.number (forged_among config.key (made_behind config [] before) (checked_pairs config x))
    (first_forged_behind config (before ++ x ∷ []) (xs ++ ys)) none in
    ap (λ (l : List Entry). first_forged_behind config l ys) (sym (append_assoc before (x ∷ []) xs))
    ∙ forged-back config (before ++ x ∷ []) xs ys parts.1

-- each entry
pub right-pairs-made : (config : Config) (front rest : List Entry) (entry : Entry) (pair : Pair)
    → first_forged_behind config [] (front ++ entry ∷ rest) ≡ None → Has (checked_pairs config entry) pair
    → pair.tag ≡ tag_of config.key pair.body → Has (made_behind config [] front) pair.body
right-pairs-made config front rest entry pair none has right =
    let parts = neither-forged entry.number (forged_among config.key (made_behind config [] front) (checked_pairs config entry))
    (first_forged_behind config (front ++ entry ∷ []) rest) (forged-back config [] front (entry ∷ rest) none) in
    none-forged config.key (made_behind config [] front) (checked_pairs config entry) pair parts.0 has right
