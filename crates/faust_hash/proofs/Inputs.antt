-- What a digest is the digest of, and what a hashed input tells of what it was made of.
use Rattle.std.proofs.Common.{◌≡◌, ℕ, List, [], ◌∷◌, ◌++◌, length, get_or, Option, None, Some, arith, ap, refl, ◌∙◌, sym}
use Rattle.std.proofs.lemmas.List.{append_cancel_left, length-append}
use Rattle.std.specs.Prelude.{IfSome}
use Rattle.faust_hash.specs.Chain.{chain_input, input_digest, link, value_digest_of, value_input}

-- the digests of the protocol are those of their hashed inputs
pub link_of_input : (before : Option (List ℕ)) (k : ℕ) → link before k ≡ input_digest (chain_input before k)
unfolding link input_digest
link_of_input before k = refl

pub value_digest_of_input : (value : List ℕ) → value_digest_of value ≡ input_digest (value_input value)
unfolding value_digest_of input_digest
value_digest_of_input value = refl

-- a hashed input without the byte that says which it is
rest : List ℕ → List ℕ
rest [] = []
rest (_ ∷ bytes) = bytes

first_of_chain : (before : Option (List ℕ)) (k : ℕ) → get_or (chain_input before k) 0 0 ≡ 0x10
first_of_chain None k = refl
first_of_chain (Some digest) k = refl

pub inputs_differ : (before : Option (List ℕ)) (k : ℕ) (value : List ℕ) → chain_input before k ≡ value_input value → ⊥
inputs_differ before k value h =
    let first : get_or (chain_input before k) 0 0 ≡ 0x11 = ap (λ (l : List ℕ). get_or l 0 0) h in
    omega (arith, first_of_chain before k)

pub value_input_value : (value other : List ℕ) → value_input value ≡ value_input other → value ≡ other
unfolding rest
value_input_value value other h = ap rest h

-- a short input is no long one
short_long : (k l : ℕ) (digest : List ℕ) → length digest ≡ 32 → chain_input None k ≡ chain_input (Some digest) l → ⊥
short_long k l digest full h = omega (arith, ap length h, length-append digest (l ∷ []))

-- two lists that agree agree in fronts of one length
fronts : (s t u v : List ℕ) → length s ≡ length u → s ++ t ≡ u ++ v → s ≡ u
unfolding rest
fronts [] t [] v _ h = refl
fronts [] t (y ∷ u) v n h = absurd (omega arith)
fronts (x ∷ s) t [] v n h = absurd (omega arith)
fronts (x ∷ s) t (y ∷ u) v n h =
    let same_length : length s ≡ length u = omega arith in
    let heads : x ≡ y = ap (λ (l : List ℕ). get_or l 0 0) h in
    let tails : s ≡ u = fronts s t u v same_length (ap rest h) in
    cc

pub chain_input_before : (d e : Option (List ℕ)) (k l : ℕ) →
    IfSome d (λ bytes. length bytes ≡ 32) → IfSome e (λ bytes. length bytes ≡ 32) →
    chain_input d k ≡ chain_input e l → d ≡ e
unfolding rest
chain_input_before None None k l _ _ h = refl
chain_input_before None (Some e) k l _ full h = absurd (short_long k l e full h)
chain_input_before (Some d) None k l full _ h = absurd (short_long l k d full (sym h))
chain_input_before (Some d) (Some e) k l full_d full_e h =
    ap Some (fronts d (k ∷ []) e (l ∷ []) (full_d ∙ sym full_e) (ap rest h))

pub chain_input_client : (d e : Option (List ℕ)) (k l : ℕ) →
    IfSome d (λ bytes. length bytes ≡ 32) → IfSome e (λ bytes. length bytes ≡ 32) →
    chain_input d k ≡ chain_input e l → k ≡ l
unfolding rest
chain_input_client None None k l _ _ h = ap (λ (bytes : List ℕ). get_or bytes 1 0) h
chain_input_client None (Some e) k l _ full h = absurd (short_long k l e full h)
chain_input_client (Some d) None k l full _ h = absurd (short_long l k d full (sym h))
chain_input_client (Some d) (Some e) k l full_d full_e h =
    let whole : d ++ (k ∷ []) ≡ e ++ (l ∷ []) = ap rest h in
    let equal : d ≡ e = fronts d (k ∷ []) e (l ∷ []) (full_d ∙ sym full_e) whole in
    let along = ap (λ (s : List ℕ). s ++ (k ∷ [])) equal in
    let tails = append_cancel_left e (k ∷ []) (l ∷ []) (sym along ∙ whole) in
    ap (λ (bytes : List ℕ). get_or bytes 0 0) tails
