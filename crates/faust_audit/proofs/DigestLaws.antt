-- A book of digests with one more input, and what is found in it.
use Rattle.std.proofs.Common.{◌≡◌, ℕ, List, [], ◌∷◌, Option, Some, None, IfSome, refl, sym, ap, ◌∙◌, inl, inr}
use Rattle.std.proofs.lemmas.Bool.{cases_Bool, cond-true, cond-false}
use Rattle.std.proofs.lemmas.Map.Text.{is_eq-slice_cmp}
use Rattle.std.proofs.lemmas.Map.Lookups.{exact_bytes}
use Rattle.std.specs.BTreeMap.{insert_entry, is_at}
use Rattle.std.specs.Cmp.Lexicographic.{slice_cmp}
use Rattle.std.specs.Global.{Vec}
use Rattle.std.specs.Map.{lookup}
use Rattle.std.specs.Ordering.{match_ordering, nat_cmp}
use Rattle.std.specs.declared.cmp.Ordering.{Ordering}
use Rattle.std.specs.declared.cmp.Ordering.TheVariants.{Less, Equal, Greater}
use Rattle.faust_hash.proofs.Lists.{is_same_tells}
use Rattle.faust_hash.specs.Chain.{input_digest}
use Rattle.faust_audit.specs.Digests.{AreDigests}

abbrev by_bytes : Vec ℕ → Vec ℕ → Ordering
by_bytes x y = slice_cmp nat_cmp x.items y.items

pub are-digests-insert : (es : List (Vec ℕ × List ℕ)) (key : Vec ℕ) (digest : List ℕ) → AreDigests es
    → digest ≡ input_digest key.items → AreDigests (insert_entry by_bytes es key digest)
are-digests-insert [] key digest are is = (is, tt)
are-digests-insert (e ∷ es) key digest are is = by (by_bytes key e.0) refl (are-digests-insert es key digest are.1 is)
  where
    by : (r : Ordering) → by_bytes key e.0 ≡ r → AreDigests (insert_entry by_bytes es key digest)
        → AreDigests (match_ordering r ((key, digest) ∷ e ∷ es) ((e.0, digest) ∷ es) (e ∷ insert_entry by_bytes es key digest))
    by Less at more = (is, are)
    by Equal at more = (is ∙ ap input_digest (exact_bytes key.items e.0.items at), are.1)
    by Greater at more = (are.0, more)

pub digest-found : (es : List (Vec ℕ × List ℕ)) (input found : List ℕ) → AreDigests es
    → lookup (is_at (λ (k : Vec ℕ). slice_cmp nat_cmp input k.items)) es ≡ Some found → found ≡ input_digest input
digest-found [] input found are is = absurd (cc)
digest-found (e ∷ es) input found are is =
    elim (cases_Bool (is_at (λ (k : Vec ℕ). slice_cmp nat_cmp input k.items) e.0)) as (λ _. found ≡ input_digest input) [
      | inl here ↦
          let same : input ≡ e.0.items = (is_same_tells input e.0.items).0 (sym (is_eq-slice_cmp input e.0.items) ∙ here) in
          let value : Some e.1 ≡ Some found = sym (cond-true _ (Some e.1) _ here) ∙ is in
          let value_is : e.1 ≡ found = cc in
          sym value_is ∙ are.0 ∙ ap input_digest (sym same)
      | inr other ↦ digest-found es input found are.1 (sym (cond-false _ (Some e.1) _ other) ∙ is)
    ]

pub known-right : (es : List (Vec ℕ × List ℕ)) (input query : List ℕ) (known : Option (List ℕ)) → AreDigests es → query ≡ input
    → known ≡ lookup (is_at (λ (k : Vec ℕ). slice_cmp nat_cmp query k.items)) es → IfSome known (λ digest. digest ≡ input_digest input)
known-right es input query None are same is = tt
known-right es input query (Some found) are same is = digest-found es query found are (sym is) ∙ ap input_digest same
