-- What stands in registers, and what reads answer.
use Rattle.std.proofs.Common.{◌≡◌, ℕ, ◌≤◌, zero, suc, List, ◌∷◌, Option, None, Some, IfSome, refl, sym, ap, ◌∙◌, subst, inl, inr, arith}
use Rattle.std.proofs.lemmas.Bool.{cases_lt}
use Rattle.faust_types.specs.declared.operation.Kind.{Kind}
use Rattle.faust_types.specs.declared.operation.Kind.TheVariants.{Write, Read}
use Rattle.faust_hash.specs.Chain.{value_digest_of, value_input}
use Rattle.faust_hash.proofs.Inputs.{value_digest_of_input, value_input_value}
use Rattle.faust_ustor.specs.Checks.{digest_of}
use Rattle.faust_lists.specs.Names.{Has}
use Rattle.faust_lists.specs.Walks.{IsFree}
use Rattle.faust_forks.specs.Books.{Begun, AreBegunIn, find_begun}
use Rattle.faust_forks.specs.Answers.{AreBegunTo, IsWritten, written, written_after, written_by}
use Rattle.faust_forks.proofs.Found.{Began-more, begun-first, begun-more}

pub begun_to-less : (started : List Begun) (k s t : ℕ) → s ≤ t → AreBegunTo started k t → AreBegunTo started k s
begun_to-less started k s t le h = λ i one within. h i one (omega (arith, within, le))

pub begun_to-more : (started more : List Begun) (k t : ℕ) → AreBegunIn started more → AreBegunTo started k t → AreBegunTo more k t
begun_to-more started more k t grows h = λ i one within. Began-more started more k i (λ begun. Unit {0}) grows (h i one within)

-- what was written by operations that began stays
pub written-more : (started more : List Begun) (k t : ℕ) → AreBegunIn started more → AreBegunTo started k t
    → written more k t ≡ written started k t
written-more started more k zero grows h = refl
written-more started more k (suc t) grows h =
    let began = h (suc t) (omega arith) (omega arith) in
    let before = written-more started more k t grows (begun_to-less started k t (suc t) (omega arith) h) in
    ap (λ (found : Option Begun). written_after found (written more k t)) (grows k (suc t) began.begun began.found)
    ∙ ap (λ (value : Option (List ℕ)). written_after (Some began.begun) value) before
    ∙ ap (λ (found : Option Begun). written_after found (written started k t)) (sym began.found)

pub IsWritten-more : (started more : List Begun) (k t : ℕ) (digest : Option (List ℕ)) → AreBegunIn started more
    → IsWritten started k t digest → IsWritten more k t digest
IsWritten-more started more k t digest grows h = record {
  begun_to = begun_to-more started more k t grows h.begun_to;
  is_digest = h.is_digest ∙ ap digest_of (sym (written-more started more k t grows h.begun_to));
}

-- one operation more of its client
begun_to-next : (started : List Begun) (added : Begun) (before : ℕ) → added.number ≡ suc before
    → find_begun started added.client added.number ≡ None → AreBegunTo started added.client before
    → AreBegunTo (added ∷ started) added.client (suc before)
begun_to-next started added before numbered none h = λ s one le.
    elim (cases_lt before s) [
      | inl beyond ↦
          let last : added.number ≡ s = omega (arith, beyond, le, numbered) in
          let none_here = subst (λ (z : ℕ). find_begun started added.client z ≡ None) last none in
          record { begun = added; found = begun-first started added added.client s none_here refl last; fits_it = tt }
      | inr within ↦ Began-more started (added ∷ started) added.client s (λ begun. Unit {0}) (begun-more started added) (h s one within)
    ]

pub IsWritten-next : (started : List Begun) (added : Begun) (before : ℕ) (digest : Option (List ℕ)) → added.number ≡ suc before
    → find_begun started added.client added.number ≡ None → AreBegunTo started added.client before
    → digest ≡ digest_of (written_by added.kind added.value (written started added.client before))
    → IsWritten (added ∷ started) added.client added.number digest
IsWritten-next started added before digest numbered none h is_digest =
    let k = added.client in
    let more : List Begun = added ∷ started in
    let none_here = subst (λ (z : ℕ). find_begun started k z ≡ None) numbered none in
    let found : find_begun more k (suc before) ≡ Some added = begun-first started added k (suc before) none_here refl numbered in
    let value : written more k (suc before) ≡ written_by added.kind added.value (written started k before) =
    ap (λ (z : Option Begun). written_after z (written more k before)) found
    ∙ ap (λ (z : Option (List ℕ)). written_by added.kind added.value z)
    (written-more started more k before (begun-more started added) h) in
    let whole : IsWritten more k (suc before) digest =
    record { begun_to = begun_to-next started added before numbered none h; is_digest = is_digest ∙ ap digest_of (sym value) } in
    subst (λ (z : ℕ). IsWritten more k z digest) (sym numbered) whole

-- what was written was hashed
written-hashed_by : (hashed : List (List ℕ)) (kind : Kind) (value before : Option (List ℕ))
    → IfSome value (λ v. Has hashed (value_input v)) → IfSome before (λ v. Has hashed (value_input v))
    → IfSome (written_by kind value before) (λ v. Has hashed (value_input v))
written-hashed_by hashed Write value before h i = h
written-hashed_by hashed Read value before h i = i

written-hashed_after : (hashed : List (List ℕ)) (found : Option Begun) (before : Option (List ℕ))
    → IfSome found (λ begun. IfSome begun.value (λ v. Has hashed (value_input v))) → IfSome before (λ v. Has hashed (value_input v))
    → IfSome (written_after found before) (λ v. Has hashed (value_input v))
written-hashed_after hashed None before h i = i
written-hashed_after hashed (Some begun) before h i = written-hashed_by hashed begun.kind begun.value before h i

if-found : (found : Option Begun) (P : Begun → Type 0) → ((begun : Begun) → found ≡ Some begun → P begun) → IfSome found P
if-found None P each = tt
if-found (Some begun) P each = each begun refl

pub written-hashed : (started : List Begun) (hashed : List (List ℕ)) (k t : ℕ)
    → ((j s : ℕ) (begun : Begun) → find_begun started j s ≡ Some begun → IfSome begun.value (λ v. Has hashed (value_input v)))
    → IfSome (written started k t) (λ v. Has hashed (value_input v))
written-hashed started hashed k zero each = tt
written-hashed started hashed k (suc t) each =
    written-hashed_after hashed (find_begun started k (suc t)) (written started k t)
    (if-found (find_begun started k (suc t)) (λ begun. IfSome begun.value (λ v. Has hashed (value_input v))) (each k (suc t)))
    (written-hashed started hashed k t each)

-- two hashed values of one digest are one
pub value-same : (hashed : List (List ℕ)) (a b : Option (List ℕ)) → IsFree hashed → IfSome a (λ v. Has hashed (value_input v))
    → IfSome b (λ v. Has hashed (value_input v)) → digest_of a ≡ digest_of b → a ≡ b
value-same hashed None None free h i same = refl
value-same hashed None (Some b) free h i same = absurd cc
value-same hashed (Some a) None free h i same = absurd cc
value-same hashed (Some a) (Some b) free h i same =
    let digests : value_digest_of a ≡ value_digest_of b = cc in
    let inputs : value_input a ≡ value_input b =
    free (value_input a) (value_input b) h i (sym (value_digest_of_input a) ∙ digests ∙ value_digest_of_input b) in
    ap Some (value_input_value a b inputs)
