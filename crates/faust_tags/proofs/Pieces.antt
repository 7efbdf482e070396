-- The pieces that bodies are made of: each tells its value, whatever follows it.
use Rattle.std.proofs.Common.{◌≡◌, ℕ, ◌^◌, ◌<◌, List, [], ◌∷◌, ◌++◌, length, drop, get_or, flat_map, suc, Option, None, Some, IfSome, arith, ap, refl, sym, ◌∙◌}
use Rattle.std.proofs.lemmas.List.{append_assoc}
use Rattle.std.proofs.lemmas.Nat.{from_be_bytes-to_be_bytes_8}
use Rattle.std.specs.Int.{from_be_bytes, w64}
use Rattle.faust_types.specs.Ranges.{IsDigest}
use Rattle.faust_types.specs.Spelling.{be64, kind_byte, optional}
use Rattle.faust_types.specs.declared.operation.Kind.{Kind}
use Rattle.faust_types.specs.declared.operation.Kind.TheVariants.{Write, Read}

-- fronts of one length agree, and so does what follows them
pub same_pieces : (s t u v : List ℕ) → length s ≡ length u → s ++ t ≡ u ++ v → (s ≡ u) × (t ≡ v)
same_pieces [] t [] v n h = (refl, h)
same_pieces [] t (y ∷ u) v n h = absurd (omega arith)
same_pieces (x ∷ s) t [] v n h = absurd (omega arith)
same_pieces (x ∷ s) t (y ∷ u) v n h =
    let heads : x ≡ y = ap (λ (l : List ℕ). get_or l 0 0) h in
    let tails : (s ≡ u) × (t ≡ v) = same_pieces s t u v (omega arith) (ap (λ (l : List ℕ). drop 1 l) h) in
    let fronts : s ≡ u = tails.0 in
    (cc, tails.1)

pub kind_byte_tells : (kind other : Kind) → kind_byte kind ≡ kind_byte other → kind ≡ other
kind_byte_tells Write Write h = refl
kind_byte_tells Write Read h = absurd (omega arith)
kind_byte_tells Read Write h = absurd (omega arith)
kind_byte_tells Read Read h = refl

pub be64_length : (t : ℕ) → length (be64 t) ≡ 8
unfolding be64
be64_length t = refl

pub be64_tells : (t u : ℕ) → t < 2 ^ 64 → u < 2 ^ 64 → be64 t ≡ be64 u → t ≡ u
unfolding be64
be64_tells t u t_below u_below h =
    sym (from_be_bytes-to_be_bytes_8 t t_below)
    ∙ ap (λ (l : List ℕ). from_be_bytes w64 l) h
    ∙ from_be_bytes-to_be_bytes_8 u u_below

-- an optional digest that ends the body tells itself
pub optional_tells : (d e : Option (List ℕ)) → optional d ≡ optional e → d ≡ e
optional_tells None None h = refl
optional_tells None (Some e) h = cc
optional_tells (Some d) None h = cc
optional_tells (Some d) (Some e) h = ap (λ (l : List ℕ). Some (drop 1 l)) h

-- and so does one of 32 bytes in the middle
pub optional_before : (d e : Option (List ℕ)) (s t : List ℕ) → IfSome d IsDigest → IfSome e IsDigest →
    optional d ++ s ≡ optional e ++ t → (d ≡ e) × (s ≡ t)
optional_before None None s t _ _ h = (refl, ap (λ (l : List ℕ). drop 1 l) h)
optional_before None (Some e) s t _ _ h = cc
optional_before (Some d) None s t _ _ h = cc
optional_before (Some d) (Some e) s t d_sized e_sized h =
    let both : (d ≡ e) × (s ≡ t) = same_pieces d s e t (d_sized.sized ∙ sym e_sized.sized) (ap (λ (l : List ℕ). drop 1 l) h) in
    (ap (λ (l : List ℕ). Some l) both.0, both.1)

-- lists of numbers, and of optional digests, of one length
pub numbers_before : (xs ys s t : List ℕ) → length xs ≡ length ys →
    ((i : ℕ) → i < length xs → get_or xs i 0 < 2 ^ 64) → ((i : ℕ) → i < length ys → get_or ys i 0 < 2 ^ 64) →
    flat_map be64 xs ++ s ≡ flat_map be64 ys ++ t → (xs ≡ ys) × (s ≡ t)
numbers_before [] [] s t n _ _ h = (refl, h)
numbers_before [] (y ∷ ys) s t n _ _ h = absurd (omega arith)
numbers_before (x ∷ xs) [] s t n _ _ h = absurd (omega arith)
numbers_before (x ∷ xs) (y ∷ ys) s t n x_below y_below h =
    let xs_rest = flat_map be64 xs ++ s in
    let ys_rest = flat_map be64 ys ++ t in
    let grouped : be64 x ++ xs_rest ≡ be64 y ++ ys_rest =
    sym (append_assoc (be64 x) (flat_map be64 xs) s) ∙ h ∙ append_assoc (be64 y) (flat_map be64 ys) t in
    let first = same_pieces (be64 x) xs_rest (be64 y) ys_rest (be64_length x ∙ sym (be64_length y)) grouped in
    let heads : x ≡ y = be64_tells x y (x_below 0 (omega arith)) (y_below 0 (omega arith)) first.0 in
    let rest : (xs ≡ ys) × (s ≡ t) =
    numbers_before xs ys s t (omega arith)
    (λ i lt. x_below (suc i) (omega (arith, lt))) (λ i lt. y_below (suc i) (omega (arith, lt))) first.1 in
    let tails : xs ≡ ys = rest.0 in
    (cc, rest.1)

pub optionals_before : (ds es : List (Option (List ℕ))) (s t : List ℕ) → length ds ≡ length es →
    ((i : ℕ) → i < length ds → IfSome (get_or ds i None) IsDigest) →
    ((i : ℕ) → i < length es → IfSome (get_or es i None) IsDigest) →
    flat_map optional ds ++ s ≡ flat_map optional es ++ t → (ds ≡ es) × (s ≡ t)
optionals_before [] [] s t n _ _ h = (refl, h)
optionals_before [] (e ∷ es) s t n _ _ h = absurd (omega arith)
optionals_before (d ∷ ds) [] s t n _ _ h = absurd (omega arith)
optionals_before (d ∷ ds) (e ∷ es) s t n d_sized e_sized h =
    let ds_rest = flat_map optional ds ++ s in
    let es_rest = flat_map optional es ++ t in
    let grouped : optional d ++ ds_rest ≡ optional e ++ es_rest =
    sym (append_assoc (optional d) (flat_map optional ds) s) ∙ h ∙ append_assoc (optional e) (flat_map optional es) t in
    let first = optional_before d e ds_rest es_rest (d_sized 0 (omega arith)) (e_sized 0 (omega arith)) grouped in
    let heads : d ≡ e = first.0 in
    let rest : (ds ≡ es) × (s ≡ t) =
    optionals_before ds es s t (omega arith)
    (λ i lt. d_sized (suc i) (omega (arith, lt))) (λ i lt. e_sized (suc i) (omega (arith, lt))) first.1 in
    let tails : ds ≡ es = rest.0 in
    (cc, rest.1)
