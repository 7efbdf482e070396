-- The bytes of a version tell the version, whatever follows them.
use Rattle.std.proofs.Common.{◌≡◌, ℕ, ◌+◌, ◌-◌, ◌^◌, ◌<◌, List, [], ◌++◌, length, get_or, flat_map, Option, None, IfSome, arith, ap, sym, subst, ◌∙◌}
use Rattle.std.proofs.lemmas.List.{append_assoc}
use Rattle.faust_types.proofs.Entries.{sized-at}
use Rattle.faust_types.specs.Clients.{IsClient}
use Rattle.faust_types.specs.Ranges.{IsDigest, IsVersionFor}
use Rattle.faust_types.specs.Spelling.{be64, optional, version_bytes}
use Rattle.faust_types.specs.Versions.{Vector, clients_of}
use Rattle.faust_tags.proofs.Pieces.{numbers_before, optionals_before}

-- the vector of these timestamps and digests
abbrev vector : List ℕ → List (Option (List ℕ)) → Vector
vector times marks = record { timestamps = times; digests = marks }

-- place i, from 0, is that of client i + 1
pub timestamps_below : (n : ℕ) (v : Vector) → IsVersionFor n v → (i : ℕ) → i < length v.timestamps →
    get_or v.timestamps i 0 < 2 ^ 64
timestamps_below n v range i lt =
    let back : (i + 1) - 1 ≡ i = omega arith in
    let client : IsClient (clients_of v) (i + 1) = record { from_one = omega arith; to_n = omega arith } in
    let Below : ℕ → Type 0 = λ x. get_or v.timestamps x 0 < 2 ^ 40 in
    let below : Below i = subst Below back (range.kept.below (i + 1) client) in
    omega arith

pub digests_sized : (n : ℕ) (v : Vector) → IsVersionFor n v → (i : ℕ) → i < length v.digests → IfSome (get_or v.digests i None) IsDigest
digests_sized n v range i lt =
    let back : (i + 1) - 1 ≡ i = omega arith in
    let client : IsClient n (i + 1) = record { from_one = omega arith; to_n = omega (arith, range.count, range.kept.paired) } in
    subst (λ (x : ℕ). IfSome (get_or v.digests x None) IsDigest) back (sized-at n v range (i + 1) client)

pub version_bytes_before : (n : ℕ) (v w : Vector) (s t : List ℕ) → IsVersionFor n v → IsVersionFor n w →
    version_bytes v ++ s ≡ version_bytes w ++ t → (v ≡ w) × (s ≡ t)
unfolding version_bytes
version_bytes_before n v w s t v_range w_range h =
    let v_times = flat_map be64 v.timestamps in
    let w_times = flat_map be64 w.timestamps in
    let v_marks = flat_map optional v.digests in
    let w_marks = flat_map optional w.digests in
    let grouped : v_times ++ (v_marks ++ s) ≡ w_times ++ (w_marks ++ t) =
    sym (append_assoc v_times v_marks s) ∙ h ∙ append_assoc w_times w_marks t in
    let counts : length v.timestamps ≡ length w.timestamps = v_range.count ∙ sym w_range.count in
    let times = numbers_before v.timestamps w.timestamps (v_marks ++ s) (w_marks ++ t) counts
    (timestamps_below n v v_range) (timestamps_below n w w_range) grouped in
    let paired : length v.digests ≡ length w.digests = v_range.kept.paired ∙ counts ∙ sym w_range.kept.paired in
    let marks = optionals_before v.digests w.digests s t paired (digests_sized n v v_range) (digests_sized n w w_range) times.1 in
    let of_times = ap (λ (ts : List ℕ). vector ts v.digests) times.0 in
    let of_marks = ap (λ (ds : List (Option (List ℕ))). vector w.timestamps ds) marks.0 in
    (of_times ∙ of_marks, marks.1)

pub version_bytes_tells : (n : ℕ) (v w : Vector) → IsVersionFor n v → IsVersionFor n w → version_bytes v ≡ version_bytes w → v ≡ w
version_bytes_tells n v w v_range w_range h =
    (version_bytes_before n v w [] [] v_range w_range (ap (λ (l : List ℕ). l ++ []) h)).0
