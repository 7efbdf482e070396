-- Lists of bytes compared place by place.
use Rattle.std.proofs.Common.{◌≡◌, ◌↔◌, ◌+◌, ◌<◌, ◌≤◌, ℕ, List, length, take, get_or, bit_or, bit_xor, arith, ap, sym, ◌∙◌}
use Rattle.std.proofs.lemmas.List.{get_or-take, take-take, take_more}
use Rattle.std.proofs.lemmas.Nat.{and_le_l, and_le_r, le_or_l, le_or_r}
use Rattle.std.specs.Int.Bits.{or_zero_l, xor_add_and, xor_self}

-- bytes whose exclusive or is 0 are equal
xor_tells : (x y : ℕ) → bit_xor x y ≡ 0 → x ≡ y
xor_tells x y h = omega (arith, xor_add_and x y, and_le_l x y, and_le_r x y)

-- fronts that agree in one place more agree there, and agree before it
front_tells : (a b : List ℕ) (i : ℕ) → take (i + 1) a ≡ take (i + 1) b → get_or a i 0 ≡ get_or b i 0
front_tells a b i h =
    let below : i < i + 1 = omega arith in
    sym (get_or-take (i + 1) a i 0 below) ∙ ap (λ (l : List ℕ). get_or l i 0) h ∙ get_or-take (i + 1) b i 0 below

shorter_front : (a b : List ℕ) (i : ℕ) → take (i + 1) a ≡ take (i + 1) b → take i a ≡ take i b
shorter_front a b i h =
    let within : i ≤ i + 1 = omega arith in
    sym (take-take i (i + 1) a within) ∙ ap (λ (l : List ℕ). take i l) h ∙ take-take i (i + 1) b within

-- bits are 0 both of the places before and of this one exactly where they are 0 together
or_tells : (bits d : ℕ) → bit_or bits d ≡ 0 → (bits ≡ 0) × (d ≡ 0)
or_tells bits d h = (omega (arith, le_or_l bits d), omega (arith, le_or_r bits d))

or_of_none : (bits d : ℕ) → bits ≡ 0 → d ≡ 0 → bit_or bits d ≡ 0
or_of_none bits d none_before none_here =
    ap (λ (n : ℕ). bit_or n d) none_before ∙ or_zero_l d ∙ none_here

longer_front : (a b : List ℕ) (i : ℕ) → i < length a → i < length b →
    take i a ≡ take i b → get_or a i 0 ≡ get_or b i 0 → take (i + 1) a ≡ take (i + 1) b
longer_front a b i in_a in_b fronts here = cc (take_more a i 0 in_a, take_more b i 0 in_b)

-- one more place: the bits seen are 0 exactly where the fronts agree
pub one_more_place : (a b : List ℕ) (i bits : ℕ) → i < length a → i < length b →
    ((bits ≡ 0) ↔ (take i a ≡ take i b)) →
    (bit_or bits (bit_xor (get_or a i 0) (get_or b i 0)) ≡ 0) ↔ (take (i + 1) a ≡ take (i + 1) b)
one_more_place a b i bits in_a in_b before =
    let x = get_or a i 0 in
    let y = get_or b i 0 in
    let none_here : x ≡ y → bit_xor x y ≡ 0 = λ here. ap (λ (n : ℕ). bit_xor n y) here ∙ xor_self y in (
      λ h. longer_front a b i in_a in_b (before.0 (or_tells _ _ h).0) (xor_tells x y (or_tells _ _ h).1),
      λ h. or_of_none _ _ (before.1 (shorter_front a b i h)) (none_here (front_tells a b i h)),
    )
