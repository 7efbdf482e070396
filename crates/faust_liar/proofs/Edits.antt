-- What the code of an edit makes is what the table says.
use Rattle.std.proofs.Common.{◌≡◌, ℕ, ◌+◌, ◌^◌, ◌<◌, Option, Some, List, [], ◌∷◌, ◌++◌, length, replicate, take, nat_lt, true, sym, ap, ◌∙◌, slice_index_or, arith, add-one}
use Rattle.std.proofs.lemmas.Bool.{cond-true, lt-ltb}
use Rattle.std.proofs.Math.Seq.{take-suc}
use Rattle.faust_types.specs.Messages.{tuples_by}
use Rattle.faust_types.specs.declared.operation.Kind.{Kind}
use Rattle.faust_types.specs.declared.message.Tuple.{Tuple}
use Rattle.faust_types.specs.declared.message.Reply.{Reply}
use Rattle.faust_tags.specs.Bodies.{submit_body, tag_of}
use Rattle.faust_server.proofs.Tuples.{tuples_by-push_own, tuples_by-push_other}
use Rattle.faust_liar.specs.Edits.{added, add_forged, next_number, submitted_tag, tuple_by, with_pending}

-- one more tuple of a list is counted
tuples-at : (k : ℕ) (xs : List Tuple) (i : ℕ) (d : Tuple) → i < length xs
    → tuples_by k (take (i + 1) xs) ≡ tuples_by k (take i xs ++ slice_index_or xs i d ∷ [])
tuples-at k xs i d within = ap (λ (j : ℕ). tuples_by k (take j xs)) (add-one i) ∙ ap (tuples_by k) (take-suc xs i d within)

pub tuples-own : (k : ℕ) (xs : List Tuple) (i : ℕ) (d : Tuple) → i < length xs → (slice_index_or xs i d).client ≡ k
    → tuples_by k (take (i + 1) xs) ≡ tuples_by k (take i xs) + 1
tuples-own k xs i d within own =
    omega (arith, tuples-at k xs i d within, tuples_by-push_own k (take i xs) (slice_index_or xs i d) own)

pub tuples-other : (k : ℕ) (xs : List Tuple) (i : ℕ) (d : Tuple) → i < length xs → ((slice_index_or xs i d).client ≡ k → ⊥)
    → tuples_by k (take (i + 1) xs) ≡ tuples_by k (take i xs)
tuples-other k xs i d within other =
    tuples-at k xs i d within ∙ tuples_by-push_other k (take i xs) (slice_index_or xs i d) other

-- a tuple that is added
pub add-made : (k : ℕ) (kind : Kind) (j : ℕ) (reply out : Reply) (tag : List ℕ) (pending : List Tuple) → tag ≡ replicate 32 0
    → added (tuple_by k kind j tag) reply.pending ≡ Some pending → out ≡ record reply { pending = pending }
    → with_pending reply (added (tuple_by k kind j (replicate 32 0)) reply.pending) ≡ Some out
add-made k kind j reply out tag pending zero is made =
    ap (λ (z : List ℕ). with_pending reply (added (tuple_by k kind j z) reply.pending)) (sym zero)
    ∙ ap (λ (z : Option (List Tuple)). with_pending reply z) is
    ∙ ap (λ (z : Reply). Some z) (sym made)

pub add-forged : (key : List ℕ) (k : ℕ) (kind : Kind) (j : ℕ) (reply out : Reply) (number : ℕ) (tag : List ℕ) (pending : List Tuple)
    → number ≡ next_number k reply → number < 2 ^ 40 → tag ≡ tag_of key (submit_body k kind j number)
    → added (tuple_by k kind j tag) reply.pending ≡ Some pending → out ≡ record reply { pending = pending }
    → add_forged key k kind j reply ≡ Some out
unfolding submitted_tag
add-forged key k kind j reply out number tag pending counted below right is made =
    let due : nat_lt (next_number k reply) (2 ^ 40) ≡ true = lt-ltb _ _ (omega (arith, counted, below)) in
    cond-true _ _ _ due
    ∙ ap (λ (t : ℕ). with_pending reply (added (tuple_by k kind j (tag_of key (submit_body k kind j t))) reply.pending)) (sym counted)
    ∙ ap (λ (z : List ℕ). with_pending reply (added (tuple_by k kind j z) reply.pending)) (sym right)
    ∙ ap (λ (z : Option (List Tuple)). with_pending reply z) is
    ∙ ap (λ (z : Reply). Some z) (sym made)
