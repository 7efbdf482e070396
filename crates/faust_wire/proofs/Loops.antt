-- One step of the loops that read entries and items, and their ends.
use Rattle.std.proofs.Common.{◌≡◌, ℕ, suc, ◌+◌, ◌-◌, ◌*◌, ◌<◌, ◌≤◌, List, [], ◌∷◌, ◌++◌, Option, Some, None, refl, sym, ◌∙◌, arith}
use Rattle.std.proofs.lemmas.List.{length-set}
use Rattle.faust_types.specs.Versions.{Vector, clients_of, initial}
use Rattle.faust_wire.specs.declared.error.WireError.{WireError}
use Rattle.faust_wire.specs.declared.error.WireError.TheVariants as errors
use Rattle.faust_wire.specs.Reading.{Fails, next_bytes, next_timestamp, next_digest, next_entries, next_version, next_items, entered}

pub clients_of-entered : (v : Vector) (k t : ℕ) (d : Option (List ℕ)) → clients_of (entered v k t d) ≡ clients_of v
clients_of-entered v k t None = refl
clients_of-entered v k t (Some d) = length-set v.timestamps (k - 1) t

pub entries_begin : (n : ℕ) (bytes ts ds : List ℕ) → next_bytes (8 * n) bytes ≡ Some (ts, ds)
    → next_entries n 0 (initial n) ts ds ≡ next_version n bytes
unfolding next_version
entries_begin n bytes ts ds e = rw e refl

pub entries_go_on : (n i : ℕ) (v : Vector) (ts ds : List ℕ) (t : ℕ) (ts' : List ℕ) (d : Option (List ℕ)) (ds' : List ℕ)
    (total : Option (Vector × List ℕ))
    → i < n
    → next_timestamp ts ≡ Some (t, ts') → next_digest t ds ≡ Some (d, ds') → next_entries (n - i) i v ts ds ≡ total
    → next_entries (n - (i + 1)) (i + 1) (entered v (i + 1) t d) ts' ds' ≡ total
unfolding next_entries
entries_go_on n i v ts ds t ts' d ds' total lt t-is d-is so_far =
    let k : n - i ≡ suc (n - (i + 1)) = omega arith in
    let one : next_entries (n - i) i v ts ds ≡ next_entries (n - (i + 1)) (i + 1) (entered v (i + 1) t d) ts' ds' =
    rw (k, t-is, d-is) refl in
    sym one ∙ so_far

pub entries_stop_at_timestamp : (e : WireError) (n i : ℕ) (v : Vector) (ts ds : List ℕ) (total : Option (Vector × List ℕ)) → i < n
    → Fails e (next_timestamp ts) → next_entries (n - i) i v ts ds ≡ total → Fails e total
unfolding next_entries
entries_stop_at_timestamp errors.OutOfMemory n i v ts ds total lt t-is so_far = tt
entries_stop_at_timestamp errors.Malformed n i v ts ds total lt t-is so_far =
    let k : n - i ≡ suc (n - (i + 1)) = omega arith in
    let one : next_entries (n - i) i v ts ds ≡ None = rw (k, t-is) refl in
    sym so_far ∙ one

pub entries_stop_at_digest : (e : WireError) (n i : ℕ) (v : Vector) (ts ds : List ℕ) (t : ℕ) (ts' : List ℕ)
    (total : Option (Vector × List ℕ))
    → i < n → next_timestamp ts ≡ Some (t, ts') → Fails e (next_digest t ds) → next_entries (n - i) i v ts ds ≡ total
    → Fails e total
unfolding next_entries
entries_stop_at_digest errors.OutOfMemory n i v ts ds t ts' total lt t-is d-is so_far = tt
entries_stop_at_digest errors.Malformed n i v ts ds t ts' total lt t-is d-is so_far =
    let k : n - i ≡ suc (n - (i + 1)) = omega arith in
    let one : next_entries (n - i) i v ts ds ≡ None = rw (k, t-is, d-is) refl in
    sym so_far ∙ one

pub entries_end : (n i : ℕ) (v : Vector) (ts ds : List ℕ) (total : Option (Vector × List ℕ)) → n ≤ i
    → next_entries (n - i) i v ts ds ≡ total → total ≡ Some (v, ds)
unfolding next_entries
entries_end n i v ts ds total le so_far =
    let k : n - i ≡ 0 = omega arith in
    let one : next_entries (n - i) i v ts ds ≡ Some (v, ds) = rw k refl in
    sym so_far ∙ one

pub items_go_on : {X : Type 0} (next : List ℕ → Option (X × List ℕ)) (count i : ℕ) (items : List X) (bytes : List ℕ) (x : X)
    (rest : List ℕ) (total : Option (List X × List ℕ))
    → i < count
    → next bytes ≡ Some (x, rest) → next_items next (count - i) items bytes ≡ total
    → next_items next (count - (i + 1)) (items ++ x ∷ []) rest ≡ total
unfolding next_items
items_go_on next count i items bytes x rest total lt x-is so_far =
    let k : count - i ≡ suc (count - (i + 1)) = omega arith in
    let one : next_items next (count - i) items bytes ≡ next_items next (count - (i + 1)) (items ++ x ∷ []) rest = rw (k, x-is) refl in
    sym one ∙ so_far

pub items_stop : {X : Type 0} (e : WireError) (next : List ℕ → Option (X × List ℕ)) (count i : ℕ) (items : List X)
    (bytes : List ℕ) (total : Option (List X × List ℕ))
    → i < count
    → Fails e (next bytes) → next_items next (count - i) items bytes ≡ total → Fails e total
unfolding next_items
items_stop errors.OutOfMemory next count i items bytes total lt x-is so_far = tt
items_stop errors.Malformed next count i items bytes total lt x-is so_far =
    let k : count - i ≡ suc (count - (i + 1)) = omega arith in
    let one : next_items next (count - i) items bytes ≡ None = rw (k, x-is) refl in
    sym so_far ∙ one

pub items_end : {X : Type 0} (next : List ℕ → Option (X × List ℕ)) (count i : ℕ) (items : List X) (bytes : List ℕ)
    (total : Option (List X × List ℕ))
    → count ≤ i
    → next_items next (count - i) items bytes ≡ total → total ≡ Some (items, bytes)
unfolding next_items
items_end next count i items bytes total le so_far =
    let k : count - i ≡ 0 = omega arith in
    let one : next_items next (count - i) items bytes ≡ Some (items, bytes) = rw k refl in
    sym so_far ∙ one
