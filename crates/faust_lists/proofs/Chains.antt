-- Where no two hashed inputs have one digest, a chain digest tells its history.
use Rattle.std.proofs.Common.{◌≡◌, ℕ, List, [], ◌∷◌, Option, None, Some, IfSome, length, refl, sym, ap, ◌∙◌, subst, inl, inr}
use Rattle.faust_types.specs.declared.message.Tuple.{Tuple}
use Rattle.faust_hash.specs.Chain.{chain_input, chain_of, input_digest, link}
use Rattle.faust_hash.proofs.Inputs.{chain_input_before, chain_input_client, link_of_input}
use Rattle.faust_hash.proofs.Sizes.{link_length}
use Rattle.faust_ustor.specs.declared.walk.Walk.{Walk}
use Rattle.faust_ustor.specs.Checks.{advanced}
use Rattle.faust_ustor.specs.Hashed.{chain_inputs}
use Rattle.faust_ustor.specs.Passed.{clients_after}
use Rattle.faust_lists.specs.Lists.{IsTail}
use Rattle.faust_lists.specs.Names.{Has}
use Rattle.faust_lists.specs.Walks.{AreHashed, IsFree}

pub chain_of-sized : (w : List ℕ) → IfSome (chain_of w) (λ digest. length digest ≡ 32)
chain_of-sized [] = tt
chain_of-sized (k ∷ w) = link_length (chain_of w) k

none-some : (d : List ℕ) → None ≡ Some d → ⊥
none-some d h = cc

some-same : (d e : List ℕ) → Some d ≡ Some e → d ≡ e
some-same d e h = cc

pub chain_of-same : (hashed : List (List ℕ)) (u w : List ℕ) → IsFree hashed → AreHashed hashed u → AreHashed hashed w
    → chain_of u ≡ chain_of w → u ≡ w
chain_of-same hashed [] [] free h i same = refl
chain_of-same hashed [] (y ∷ w) free h i same = absurd (none-some _ same)
chain_of-same hashed (x ∷ u) [] free h i same = absurd (none-some _ (sym same))
chain_of-same hashed (x ∷ u) (y ∷ w) free h i same =
    let links : link (chain_of u) x ≡ link (chain_of w) y = some-same _ _ same in
    let digests : input_digest (chain_input (chain_of u) x) ≡ input_digest (chain_input (chain_of w) y) =
    sym (link_of_input (chain_of u) x) ∙ links ∙ link_of_input (chain_of w) y in
    let inputs : chain_input (chain_of u) x ≡ chain_input (chain_of w) y = free _ _ h.0 i.0 digests in
    let before : chain_of u ≡ chain_of w = chain_input_before (chain_of u) (chain_of w) x y (chain_of-sized u)
    (chain_of-sized w) inputs in
    let last : x ≡ y = chain_input_client (chain_of u) (chain_of w) x y (chain_of-sized u) (chain_of-sized w) inputs in
    let rest : u ≡ w = chain_of-same hashed u w free h.1 i.1 before in
    ap (λ (z : ℕ). z ∷ u) last ∙ ap (λ (z : List ℕ). y ∷ z) rest

-- what was hashed stays hashed
pub AreHashed-more : (hashed more : List (List ℕ)) (w : List ℕ) → ((x : List ℕ) → Has hashed x → Has more x) → AreHashed hashed w
    → AreHashed more w
AreHashed-more hashed more [] grows h = tt
AreHashed-more hashed more (k ∷ w) grows h = (grows _ h.0, AreHashed-more hashed more w grows h.1)

pub IsFree-less : (hashed more : List (List ℕ)) → ((x : List ℕ) → Has hashed x → Has more x) → IsFree more → IsFree hashed
IsFree-less hashed more grows free = λ x y in_x in_y same. free x y (grows x in_x) (grows y in_y) same

pub AreHashed-tail : (hashed : List (List ℕ)) (u w : List ℕ) → AreHashed hashed w → IsTail u w → AreHashed hashed u
AreHashed-tail hashed u [] h front = subst (λ (z : List ℕ). AreHashed hashed z) (sym front) tt
AreHashed-tail hashed u (k ∷ w) h (inl same) = subst (λ (z : List ℕ). AreHashed hashed z) (sym same) h
AreHashed-tail hashed u (k ∷ w) h (inr front) = AreHashed-tail hashed u w h.1 front

-- a walk hashes the chains of its tuples
pub AreHashed-after : (hashed : List (List ℕ)) (walk : Walk) (w : List ℕ) (tuples : List Tuple) → walk.digest ≡ chain_of w
    → AreHashed hashed w
    → ((x : List ℕ) → Has (chain_inputs walk tuples) x → Has hashed x) → AreHashed hashed (clients_after w tuples)
AreHashed-after hashed walk w [] digest h each = h
AreHashed-after hashed walk w (tuple ∷ rest) digest h each =
    let first : Has hashed (chain_input (chain_of w) tuple.client) =
    subst (λ (d : Option (List ℕ)). Has hashed (chain_input d tuple.client)) digest (each _ (inl refl)) in
    AreHashed-after hashed (advanced walk tuple.client) (tuple.client ∷ w) rest
    (ap (λ (d : Option (List ℕ)). Some (link d tuple.client)) digest)
    (first, h)
    (λ x has. each x (inr has))
