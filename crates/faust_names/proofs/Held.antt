-- What registers hold after what stays of a fork: what was written last in the whole fork.
use Rattle.std.proofs.Common.{◌≡◌, ◌==◌, ℕ, ◌<◌, suc, Bool, true, false, cond, List, [], ◌∷◌}
use Rattle.std.proofs.Common.{◌++◌, Option, None, Some, refl, sym, ap, ◌∙◌, subst, inl, inr, arith}
use Rattle.std.proofs.lemmas.Bool.{cases_Bool, cases_eq, cond-true, cond-false, eq-eqb, ne_eqb}
use Rattle.faust_types.specs.declared.operation.Kind.{Kind}
use Rattle.faust_types.specs.declared.operation.Kind.TheVariants.{Write, Read}
use Rattle.faust_types.specs.declared.operation.OpName.{OpName}
use Rattle.faust_lists.specs.Lists.{count, AreClients}
use Rattle.faust_lists.specs.Names.{name_of}
use Rattle.faust_lists.proofs.Counts.{count-other, count-own}
use Rattle.faust_lists.proofs.Tails.{tail-refl}
use Rattle.faust_forks.specs.Books.{Begun, Done, Began, find_begun}
use Rattle.faust_forks.specs.Answers.{written, written_after, written_by}
use Rattle.faust_forks.specs.Forks.{AreBegun}
use Rattle.faust_forks.proofs.Settled.{begun-tail}
use Rattle.faust_names.specs.Histories.{History}
use Rattle.faust_names.specs.Views.{held_after, held_by, last_written}
use Rattle.faust_names.specs.ForkViews.{history_of, is_kept, listed}
use Rattle.faust_names.proofs.Listed.{listed-dropped, listed-kept}
use Rattle.faust_names.proofs.Kept.{dropped-read}

-- one operation more
pub held_after-snoc : (h : History) (r : ℕ) (l : List OpName) (a : OpName) (value : Option (List ℕ))
    → held_after h r (l ++ a ∷ []) value ≡ held_by r (h.began a) (held_after h r l value)
held_after-snoc h r [] a value = refl
held_after-snoc h r (x ∷ l) a value = held_after-snoc h r l a (held_by r (h.began x) value)

cond-same : (test : Bool) (value : Option (List ℕ)) → cond test value value ≡ value
cond-same true value = refl
cond-same false value = refl

by-read : (kind : Kind) (register r : ℕ) (new value : Option (List ℕ)) → kind ≡ Read
    → cond (register == r) (written_by kind new value) value ≡ value
by-read Write register r new value reads = absurd cc
by-read Read register r new value reads = cond-same (register == r) value

by-own : (kind : Kind) (register r k : ℕ) (new value : Option (List ℕ)) → (kind ≡ Write → register ≡ k) → k ≡ r
    → cond (register == r) (written_by kind new value) value ≡ written_by kind new value
by-own Write register r k new value own e = cond-true _ _ _ (eq-eqb register r (own refl ∙ e))
by-own Read register r k new value own e = cond-same (register == r) value

by-other : (kind : Kind) (register r k : ℕ) (new value : Option (List ℕ)) → (kind ≡ Write → register ≡ k) → (k ≡ r → ⊥)
    → cond (register == r) (written_by kind new value) value ≡ value
by-other Write register r k new value own ne = cond-false _ _ _ (ne_eqb register r (λ e. ne (sym (own refl) ∙ e)))
by-other Read register r k new value own ne = cond-same (register == r) value

-- one operation more of the register's client, or of another one
pub written-own : (started : List Begun) (r k : ℕ) (w : List ℕ) (begun : Begun) → k ≡ r
    → find_begun started k (suc (count k w)) ≡ Some begun
    → written started r (count r (k ∷ w)) ≡ written_by begun.kind begun.value (written started r (count r w))
written-own started r k w begun e found =
    let here : find_begun started r (suc (count r w)) ≡ Some begun =
    subst (λ (z : ℕ). find_begun started z (suc (count z w)) ≡ Some begun) e found in
    ap (λ (t : ℕ). written started r t) (count-own r k w e)
    ∙ ap (λ (z : Option Begun). written_after z (written started r (count r w))) here

pub written-other : (started : List Begun) (r k : ℕ) (w : List ℕ) → (k ≡ r → ⊥)
    → written started r (count r (k ∷ w)) ≡ written started r (count r w)
written-other started r k w ne = ap (λ (t : ℕ). written started r t) (count-other r k w ne)

-- a read writes nothing
pub written-read : (kind : Kind) (new value : Option (List ℕ)) → kind ≡ Read → written_by kind new value ≡ value
written-read Write new value reads = absurd cc
written-read Read new value reads = refl

pub held-listed : (n : ℕ) (started : List Begun) (book : List Done) (entry r : ℕ) (w : List ℕ) → AreClients n w
    → AreBegun n started entry w
    → ((k t : ℕ) (begun : Begun) → find_begun started k t ≡ Some begun → begun.kind ≡ Write → begun.register ≡ k)
    → last_written (history_of started book) r (listed (is_kept started book) w) ≡ written started r (count r w)
held-listed n started book entry r [] clients begun own = refl
held-listed n started book entry r (k ∷ w) clients begun own =
    let h = history_of started book in
    let keep = is_kept started book in
    let one : count k (k ∷ w) ≡ suc (count k w) = count-own k k w refl in
    let began : Began started k (suc (count k w)) (λ begun. begun.entry < entry) =
    begun k (suc (count k w)) clients.0 (omega arith) (omega (arith, one)) in
    let added = began.begun in
    let before : Option (List ℕ) = written started r (count r w) in
    let writes : added.kind ≡ Write → added.register ≡ k = own k (suc (count k w)) added began.found in
    let old : last_written h r (listed keep w) ≡ before =
    held-listed n started book entry r w clients.1 (begun-tail n started entry w (k ∷ w) begun (inr (tail-refl w))) own in
    let after : last_written h r (listed keep (k ∷ w)) ≡ held_by r (Some added) before =
    elim (cases_Bool (keep (k ∷ w))) [
      | inl holds ↦
          ap (λ (l : List OpName). last_written h r l) (listed-kept keep k w holds)
          ∙ held_after-snoc h r (listed keep w) (name_of k w) None
          ∙ ap (λ (z : Option Begun). held_by r z (last_written h r (listed keep w))) began.found
          ∙ ap (λ (z : Option (List ℕ)). held_by r (Some added) z) old
      | inr fails ↦
          ap (λ (l : List OpName). last_written h r l) (listed-dropped keep k w fails)
          ∙ old
          ∙ sym (by-read added.kind added.register r added.value before (dropped-read started book k w added fails began.found))
    ] in
    elim (cases_eq k r) [
      | inl e ↦
          after ∙ by-own added.kind added.register r k added.value before writes e
          ∙ sym (written-own started r k w added e began.found)
      | inr ne ↦ after ∙ by-other added.kind added.register r k added.value before writes ne ∙ sym (written-other started r k w ne)
    ]
