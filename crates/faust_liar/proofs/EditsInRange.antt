-- What an edit makes of a reply in range is in range, so that it has a spelling.
use Rattle.std.proofs.Common.{◌≡◌, ℕ, ◌+◌, ◌-◌, ◌^◌, ◌<◌, ◌≤◌, ◌==◌, Bool, true, false, if◌then◌else◌, Option, Some, None, IsNone, IfSome, List, [], ◌∷◌, ◌++◌, length, take, drop, suc, replicate, option_map, slice_index, slice_index_or, slice_set, nat_lt, bit_xor, refl, sym, ap, ◌∙◌, subst, inl, inr, arith, length-append}
use Rattle.std.proofs.lemmas.Bool.{cases_Bool, cases_eq, true≢false, eq-eqb, ltb-true, false_from_ne_true}
use Rattle.std.proofs.lemmas.List.{length-set, set-get_or, get_or-set_other}
use Rattle.std.proofs.lemmas.Grind.{get_or-set_at}
use Rattle.std.proofs.lemmas.List.Edits.{length-remove, length-swap}
use Rattle.std.proofs.lemmas.List.Elements.{All-from_recursion, recursion_from_All, All-append, All-take, All-drop}
use Rattle.std.proofs.lemmas.Nat.{xor_lt}
use Rattle.std.proofs.lemmas.Option.{slice_get_within, get_or_from_slice_get}
use Rattle.std.specs.List.{AllByRecursion, remove, swap}
use Rattle.faust_hash.specs.Chain.{value_digest_of}
use Rattle.faust_types.proofs.Entries.{in_range-with_entry, not_initial-with_entry, sized-at, some_not_none}
use Rattle.faust_types.proofs.Messages.{IsDigest-replicate}
use Rattle.faust_types.proofs.Order.{zeros-true}
use Rattle.faust_types.specs.Clients.{IsClient}
use Rattle.faust_types.specs.Ranges.{IsDigest, IsValue, IsVersionFor, IsKnownBy, IsTupleFor, IsMem, IsReadPartFor, IsReplyFor, IsOperationNumber}
use Rattle.faust_types.specs.Versions.{Vector, clients_of, timestamp_at, digest_at, is_initial, with_entry}
use Rattle.faust_types.specs.declared.operation.Kind.{Kind}
use Rattle.faust_types.specs.declared.message.Known.{Known}
use Rattle.faust_types.specs.declared.message.Tuple.{Tuple}
use Rattle.faust_types.specs.declared.message.Mem.{Mem}
use Rattle.faust_types.specs.declared.message.ReadPart.{ReadPart}
use Rattle.faust_types.specs.declared.message.Reply.{Reply}
use Rattle.faust_tags.specs.Bodies.{commit_body, data_body, submit_body, tag_of}
use Rattle.faust_tags.proofs.Sizes.{digest-tag}
use Rattle.faust_server.proofs.Kept.{All-slice_set}
use Rattle.faust_server.proofs.Tuples.{All-push}
use Rattle.faust_script.specs.InRange.{IsEditFor}
use Rattle.faust_script.specs.declared.edit.Edit.{Edit}
use Rattle.faust_script.specs.declared.edit.Edit.TheVariants as edits
use Rattle.faust_liar.specs.Edits.{flipped, made_by, retimed, redigested, redigested_to, retagged, added, tuple_at, dropped, swapped, tag_flipped, proof_of, proof_flipped, proof_removed, mem_at, mem_with, mem_retagged, version_changed, mem_changed, mem_changed_in, without_read, tuple_by, edited_reply, signed_anew, stored_anew, submitted_tag, version_signed, part_signed, part_stored, read_signed, read_stored, next_number, add_forged, forged_reply, lied_reply}

-- ---- options

map-range : {A B : Type 0} (P : A → Type 0) (Q : B → Type 0) (f : A → B) → ((a : A) → P a → Q (f a)) → (o : Option A) → IfSome o P
    → IfSome (option_map f o) Q
map-range P Q f go None h = tt
map-range P Q f go (Some a) h = go a h

weaker : {A : Type 0} (P Q : A → Type 0) → ((a : A) → P a → Q a) → (o : Option A) → IfSome o P → IfSome o Q
weaker P Q go None h = tt
weaker P Q go (Some a) h = go a h

unless-range : {A : Type 0} (P : A → Type 0) (b : Bool) (a : A) → (b ≡ false → P a) → IfSome (if b then None else Some a) P
unless-range P true a h = tt
unless-range P false a h = h refl

where-range : {A : Type 0} (P : A → Type 0) (b : Bool) (a : A) → (b ≡ true → P a) → IfSome (if b then Some a else None) P
where-range P true a h = h refl
where-range P false a h = tt

-- ---- tags and versions

pub flipped-sized : (bytes : List ℕ) → IsDigest bytes → IsDigest (flipped bytes)
flipped-sized bytes h = record {
  sized = length-set bytes 31 _ ∙ h.sized;
  bytes_each = λ i. elim (cases_eq i 31) [
    | inl e ↦
        let turned : bit_xor (slice_index bytes 31) 1 < 2 ^ 8 = xor_lt 8 (slice_index bytes 31) 1 (h.bytes_each 31) (omega arith) in
        let same : slice_index (flipped bytes) i ≡ bit_xor (slice_index bytes 31) 1 = get_or-set_at bytes 31 i
        (bit_xor (slice_index bytes 31) 1) 0 e (omega (arith, h.sized)) in
        omega (arith, same, turned)
    | inr other ↦
        let same : slice_index (flipped bytes) i ≡ slice_index bytes i = get_or-set_other bytes 31 i
        (bit_xor (slice_index bytes 31) 1) 0 (λ q. other q) in
        omega (arith, same, h.bytes_each i)
  ];
}

-- a version that isn't initial, signed
record IsSignedBy (n m : ℕ) (known : Known) : Type 0 where
  known_by : IsKnownBy n m known
  not_initial : is_initial known.version ≡ false

not-initial : (v : Vector) (k : ℕ) → IsClient (clients_of v) k → (timestamp_at v k ≡ 0 → ⊥) → is_initial v ≡ false
unfolding is_initial
not-initial v k client some = false_from_ne_true _ (λ zero_all. some (zeros-true v (clients_of v) zero_all k client))

signed-from : (n m : ℕ) (known : Known) → IsVersionFor n known.version → is_initial known.version ≡ false → IsDigest known.tag
    → known.maker ≡ m → IsSignedBy n m known
signed-from n m known version made tag maker = record {
  known_by = record {
    version_in_range = version;
    tag_sized = tag;
    unsigned = λ is. absurd (true≢false (sym is ∙ made));
    signed = λ _. maker;
  };
  not_initial = made;
}

here : (n : ℕ) (v : Vector) (k : ℕ) → IsVersionFor n v → IsClient n k → IsClient (clients_of v) k
here n v k h client = record { from_one = client.from_one; to_n = omega (arith, client.to_n, h.count) }

abbrev version_of : List ℕ → List (Option (List ℕ)) → Vector
version_of ts ds = record { timestamps = ts; digests = ds }

-- the version with an entry set
entry-range : (n m k t : ℕ) (d : List ℕ) (known : Known) (version : Vector) → IsKnownBy n m known → IsClient n k
    → (timestamp_at known.version k ≡ 0 → ⊥) → IsOperationNumber t → IsDigest d → version ≡ with_entry known.version k t d
    → IsSignedBy n m (record known { version = version })
entry-range n m k t d known version h client some number sized is =
    let at : IsClient (clients_of known.version) k = here n known.version k h.version_in_range client in
    signed-from n m (record known { version = version })
    (subst (λ (v : Vector). IsVersionFor n v) (sym is)
    (in_range-with_entry n known.version k t d h.version_in_range client number.from_one number.below sized))
    (subst (λ (v : Vector). is_initial v ≡ false) (sym is) (not_initial-with_entry known.version k t d at number.from_one))
    h.tag_sized
    (h.signed (not-initial known.version k at some))

digest-there : (n m k : ℕ) (known : Known) → IsKnownBy n m known → IsClient n k → (timestamp_at known.version k ≡ 0 → ⊥)
    → (o : Option (List ℕ)) → digest_at known.version k ≡ o → (d : List ℕ) × (digest_at known.version k ≡ Some d) × IsDigest d
digest-there n m k known h client some None is =
    absurd (some ((h.version_in_range.kept.absent k (here n known.version k h.version_in_range client)).0
    (subst (λ (o : Option (List ℕ)). IsNone o) (sym is) refl)))
digest-there n m k known h client some (Some d) is =
    (d, is, subst (λ (o : Option (List ℕ)). IfSome o IsDigest) is (sized-at n known.version h.version_in_range k client))

retimed-range : (n m k t : ℕ) (known : Known) → IsKnownBy n m known → IsClient n k → IsOperationNumber t
    → IfSome (retimed k t known) (IsSignedBy n m)
retimed-range n m k t known h client number =
    unless-range (IsSignedBy n m) (timestamp_at known.version k == 0)
    (record known { version = record (known.version) { timestamps = slice_set known.version.timestamps (k - 1) t } })
    (λ other.
    let some : timestamp_at known.version k ≡ 0 → ⊥ = λ zero. true≢false (sym (eq-eqb _ _ zero) ∙ other) in
    let found = digest-there n m k known h client some (digest_at known.version k) refl in
    let kept : slice_set known.version.digests (k - 1) (Some found.0) ≡ known.version.digests = ap
    (λ (o : Option (List ℕ)). slice_set known.version.digests (k - 1) o) (sym found.1)
    ∙ set-get_or known.version.digests (k - 1) None in
    entry-range n m k t found.0 known _ h client some number found.2
    (ap (λ (ds : List (Option (List ℕ))). version_of (slice_set known.version.timestamps (k - 1) t) ds) (sym kept)))

redigested-by : (n m k : ℕ) (known : Known) → IsKnownBy n m known → IsClient n k → (o : Option (List ℕ))
    → digest_at known.version k ≡ o → IfSome (redigested_to k known o) (IsSignedBy n m)
redigested-by n m k known h client None is = tt
redigested-by n m k known h client (Some d) is =
    let at : IsClient (clients_of known.version) k = here n known.version k h.version_in_range client in
    let t : ℕ = timestamp_at known.version k in
    let some : timestamp_at known.version k ≡ 0 → ⊥ = λ zero. some_not_none (digest_at known.version k) d is
    ((h.version_in_range.kept.absent k at).1 zero) in
    let kept : slice_set known.version.timestamps (k - 1) (timestamp_at known.version k) ≡ known.version.timestamps = set-get_or
    known.version.timestamps (k - 1) 0 in
    let sized : IsDigest d = subst (λ (o : Option (List ℕ)). IfSome o IsDigest) is (sized-at n known.version h.version_in_range k client) in
    entry-range n m k (timestamp_at known.version k) (flipped d) known _ h client some
    (record { from_one = omega (arith, some); below = h.version_in_range.kept.below k at }) (flipped-sized d sized)
    (ap (λ (ts : List ℕ). version_of ts (slice_set known.version.digests (k - 1) (Some (flipped d)))) (sym kept))

redigested-range : (n m k : ℕ) (known : Known) → IsKnownBy n m known → IsClient n k → IfSome (redigested k known) (IsSignedBy n m)
redigested-range n m k known h client = redigested-by n m k known h client (digest_at known.version k) refl

retagged-range : (n m : ℕ) (known : Known) → IsKnownBy n m known → IfSome (retagged known) (IsSignedBy n m)
retagged-range n m known h = unless-range (IsSignedBy n m) (is_initial known.version) (record known { tag = flipped known.tag })
    (λ made. signed-from n m (record known { tag = flipped known.tag }) h.version_in_range made (flipped-sized known.tag h.tag_sized)
    (h.signed made))

made_by-range : (n m k : ℕ) (known : Known) → IsKnownBy n m known → IsKnownBy n k (made_by k known)
made_by-range n m k known h = elim (cases_Bool (is_initial known.version)) [
  | inl initial ↦ subst (λ (b : Bool). IsKnownBy n k (if b then known else record known { maker = k })) (sym initial) (
      record {
        version_in_range = h.version_in_range;
        tag_sized = h.tag_sized;
        unsigned = h.unsigned;
        signed = λ made. absurd (true≢false (sym initial ∙ made));
      }
      )
  | inr made ↦ subst (λ (b : Bool). IsKnownBy n k (if b then known else record known { maker = k })) (sym made)
      (signed-from n k (record known { maker = k }) h.version_in_range made h.tag_sized refl).known_by
]

-- ---- parts of a reply

reply-c : (n k : ℕ) (reply : Reply) (known : Known) → IsReplyFor n reply → IsClient n k → IsKnownBy n k known
    → IsReplyFor n (record reply { c = k; version = known })
reply-c n k reply known h client own = record {
  client_in_range = client;
  version_known = own;
  few_pending = h.few_pending;
  pending_in_range = h.pending_in_range;
  proofs_counted = h.proofs_counted;
  proofs_sized = h.proofs_sized;
  read_in_range = h.read_in_range;
}

reply-version : (n : ℕ) (reply : Reply) (known : Known) → IsReplyFor n reply → IsKnownBy n reply.c known
    → IsReplyFor n (record reply { version = known })
reply-version n reply known h own = reply-c n reply.c reply known h h.client_in_range own

record ArePendingFor (n : ℕ) (pending : List Tuple) : Type 0 where
  few : length pending ≤ 31
  each : AllByRecursion (IsTupleFor n) pending

reply-pending : (n : ℕ) (reply : Reply) (pending : List Tuple) → IsReplyFor n reply → ArePendingFor n pending
    → IsReplyFor n (record reply { pending = pending })
reply-pending n reply pending h own = record {
  client_in_range = h.client_in_range;
  version_known = h.version_known;
  few_pending = own.few;
  pending_in_range = own.each;
  proofs_counted = h.proofs_counted;
  proofs_sized = h.proofs_sized;
  read_in_range = h.read_in_range;
}

abbrev IsProof : Option (List ℕ) → Type 0
IsProof proof = IfSome proof IsDigest

record AreProofsFor (n : ℕ) (proofs : List (Option (List ℕ))) : Type 0 where
  counted : length proofs ≡ n
  each : AllByRecursion IsProof proofs

reply-proofs : (n : ℕ) (reply : Reply) (proofs : List (Option (List ℕ))) → IsReplyFor n reply → AreProofsFor n proofs
    → IsReplyFor n (record reply { proofs = proofs })
reply-proofs n reply proofs h own = record {
  client_in_range = h.client_in_range;
  version_known = h.version_known;
  few_pending = h.few_pending;
  pending_in_range = h.pending_in_range;
  proofs_counted = own.counted;
  proofs_sized = own.each;
  read_in_range = h.read_in_range;
}

reply-read : (n : ℕ) (reply : Reply) (read : Option ReadPart) → IsReplyFor n reply → IfSome read (IsReadPartFor n)
    → IsReplyFor n (record reply { read = read })
reply-read n reply read h own = record {
  client_in_range = h.client_in_range;
  version_known = h.version_known;
  few_pending = h.few_pending;
  pending_in_range = h.pending_in_range;
  proofs_counted = h.proofs_counted;
  proofs_sized = h.proofs_sized;
  read_in_range = own;
}

-- ---- tuples and proofs

added-range : (n : ℕ) (tuple : Tuple) (pending : List Tuple) → AllByRecursion (IsTupleFor n) pending → IsTupleFor n tuple
    → IfSome (added tuple pending) (ArePendingFor n)
added-range n tuple pending all own = where-range (ArePendingFor n) (nat_lt (length pending) 31) (pending ++ tuple ∷ [])
    (λ few. record {
      few = omega (arith, ltb-true _ _ few, length-append pending (tuple ∷ []));
      each = All-push (IsTupleFor n) pending tuple all own;
    })

tuple-found : (n q : ℕ) (pending : List Tuple) → AllByRecursion (IsTupleFor n) pending
    → IfSome (tuple_at q pending) (λ (tuple : Tuple). IsTupleFor n tuple × (q - 1 < length pending))
tuple-found n q pending all = go (tuple_at q pending) refl
  where
    go : (o : Option Tuple) → tuple_at q pending ≡ o → IfSome o (λ (tuple : Tuple). IsTupleFor n tuple × (q - 1 < length pending))
    go None is = tt
    go (Some tuple) is =
        let within = slice_get_within pending (q - 1) tuple is in (
          subst (IsTupleFor n) (get_or_from_slice_get pending (q - 1) tuple tuple is)
              (All-from_recursion (IsTupleFor n) pending all (q - 1) tuple within),
          within,
        )

All-remove : {A : Type 0} (P : A → Type 0) (xs : List A) (i : ℕ) → AllByRecursion P xs → AllByRecursion P (remove xs i)
All-remove P xs i all =
    let every = All-from_recursion P xs all in
    recursion_from_All P (remove xs i) (All-append P (take i xs) (drop (suc i) xs) (All-take P i xs every) (All-drop P (suc i) xs every))

All-swap : {A : Type 0} (P : A → Type 0) (xs : List A) (i j : ℕ) → AllByRecursion P xs → i < length xs → j < length xs
    → AllByRecursion P (swap xs i j)
All-swap P [] i j all at to = tt
All-swap P (d ∷ ys) i j all at to =
    let every = All-from_recursion P (d ∷ ys) all in
    All-slice_set P (slice_set (d ∷ ys) i (slice_index_or (d ∷ ys) j d)) j (slice_index_or (d ∷ ys) i d)
    (All-slice_set P (d ∷ ys) i (slice_index_or (d ∷ ys) j d) all (every j d to)) (every i d at)

dropped-range : (n q : ℕ) (pending : List Tuple) → length pending ≤ 31 → AllByRecursion (IsTupleFor n) pending
    → IfSome (dropped q pending) (ArePendingFor n)
dropped-range n q pending few all = map-range _ (ArePendingFor n) (λ (tuple : Tuple). remove pending (q - 1))
    (λ tuple found. record {
      few = omega (arith, few, length-remove pending (q - 1) found.1);
      each = All-remove (IsTupleFor n) pending (q - 1) all;
    }) (tuple_at q pending) (tuple-found n q pending all)

swapped-range : (n q : ℕ) (pending : List Tuple) → length pending ≤ 31 → AllByRecursion (IsTupleFor n) pending
    → IfSome (swapped q pending) (ArePendingFor n)
swapped-range n q pending few all = map-range _ (ArePendingFor n) (λ (tuple : Tuple). swap pending (q - 1) q)
    (λ tuple found. record {
      few = omega (arith, few, length-swap pending (q - 1) q);
      each = All-swap (IsTupleFor n) pending (q - 1) q all (omega (arith, found.1)) (omega (arith, found.1));
    }) (tuple_at (q + 1) pending) (tuple-found n (q + 1) pending all)

tag_flipped-range : (n q : ℕ) (pending : List Tuple) → length pending ≤ 31 → AllByRecursion (IsTupleFor n) pending
    → IfSome (tag_flipped q pending) (ArePendingFor n)
tag_flipped-range n q pending few all = map-range _ (ArePendingFor n)
    (λ (tuple : Tuple). slice_set pending (q - 1) (record tuple { tag = flipped tuple.tag }))
    (λ tuple found. record {
      few = omega (arith, few, length-set pending (q - 1) (record tuple { tag = flipped tuple.tag }));
      each = All-slice_set (IsTupleFor n) pending (q - 1) (record tuple { tag = flipped tuple.tag }) all (
          record {
            client_in_range = found.0.client_in_range;
            register_in_range = found.0.register_in_range;
            tag_sized = flipped-sized tuple.tag found.0.tag_sized;
          }
          );
    }) (tuple_at q pending) (tuple-found n q pending all)

proof-found : (n k : ℕ) (proofs : List (Option (List ℕ))) → AreProofsFor n proofs → IsClient n k → IfSome (proof_of k proofs) IsDigest
proof-found n k proofs h client = All-from_recursion IsProof proofs h.each (k - 1) None
    (omega (arith, h.counted, client.from_one, client.to_n))

proof_flipped-range : (n k : ℕ) (proofs : List (Option (List ℕ))) → AreProofsFor n proofs → IsClient n k
    → IfSome (proof_flipped k proofs) (AreProofsFor n)
proof_flipped-range n k proofs h client = map-range IsDigest (AreProofsFor n)
    (λ (proof : List ℕ). slice_set proofs (k - 1) (Some (flipped proof)))
    (λ proof sized. record {
      counted = length-set proofs (k - 1) (Some (flipped proof)) ∙ h.counted;
      each = All-slice_set IsProof proofs (k - 1) (Some (flipped proof)) h.each (flipped-sized proof sized);
    }) (proof_of k proofs) (proof-found n k proofs h client)

proof_removed-range : (n k : ℕ) (proofs : List (Option (List ℕ))) → AreProofsFor n proofs → IsClient n k
    → IfSome (proof_removed k proofs) (AreProofsFor n)
proof_removed-range n k proofs h client = map-range IsDigest (AreProofsFor n)
    (λ (proof : List ℕ). slice_set proofs (k - 1) None)
    (λ proof sized. record {
      counted = length-set proofs (k - 1) None ∙ h.counted;
      each = All-slice_set IsProof proofs (k - 1) None h.each tt;
    }) (proof_of k proofs) (proof-found n k proofs h client)

-- ---- the read part

record IsSignedPartFor (n : ℕ) (part : ReadPart) : Type 0 where
  part_in_range : IsReadPartFor n part
  not_initial : is_initial part.version.version ≡ false

part-version : (n : ℕ) (part : ReadPart) (known : Known) → IsReadPartFor n part → IsKnownBy n part.register known
    → IsReadPartFor n (record part { version = known })
part-version n part known h own = record {
  register_in_range = h.register_in_range;
  version_known = own;
  mem_in_range = h.mem_in_range;
}

part-mem : (n : ℕ) (part : ReadPart) (mem : Option Mem) → IsReadPartFor n part → IfSome mem IsMem
    → IsReadPartFor n (record part { mem = mem })
part-mem n part mem h own = record {
  register_in_range = h.register_in_range;
  version_known = h.version_known;
  mem_in_range = own;
}

version_changed-range : (n : ℕ) (change : Known → Option Known)
    → ((j : ℕ) (known : Known) → IsKnownBy n j known → IfSome (change known) (IsSignedBy n j)) → (read : Option ReadPart)
    → IfSome read (IsReadPartFor n) → IfSome (version_changed change read) (IsSignedPartFor n)
version_changed-range n change go None h = tt
version_changed-range n change go (Some part) h =
    map-range (IsSignedBy n part.register) (IsSignedPartFor n) (λ (known : Known). record part { version = known })
    (λ known signed. record {
      part_in_range = part-version n part known h signed.known_by;
      not_initial = signed.not_initial;
    }) (change part.version) (go part.register part.version h.version_known)

mem_changed-by : (n : ℕ) (change : Mem → Mem) → ((mem : Mem) → IsMem mem → IsMem (change mem)) → (part : ReadPart)
    → IsReadPartFor n part → (mem : Option Mem) → IfSome mem IsMem → IfSome (mem_changed_in change part mem) (IsReadPartFor n)
mem_changed-by n change go part h None own = tt
mem_changed-by n change go part h (Some mem) own = part-mem n part (Some (change mem)) h (go mem own)

mem_changed-range : (n : ℕ) (change : Mem → Mem) → ((mem : Mem) → IsMem mem → IsMem (change mem)) → (read : Option ReadPart)
    → IfSome read (IsReadPartFor n) → IfSome (mem_changed change read) (IsReadPartFor n)
mem_changed-range n change go None h = tt
mem_changed-range n change go (Some part) h = mem_changed-by n change go part h part.mem h.mem_in_range

mem_at-range : (t : ℕ) → IsOperationNumber t → (mem : Mem) → IsMem mem → IsMem (mem_at t mem)
mem_at-range t number mem h = record { number = number; value_in_range = h.value_in_range; tag_sized = h.tag_sized }

mem_with-range : (value : List ℕ) → IsValue value → (mem : Mem) → IsMem mem → IsMem (mem_with value mem)
mem_with-range value fits mem h = record { number = h.number; value_in_range = fits; tag_sized = h.tag_sized }

mem_retagged-range : (mem : Mem) → IsMem mem → IsMem (mem_retagged mem)
mem_retagged-range mem h =
    record { number = h.number; value_in_range = h.value_in_range; tag_sized = flipped-sized mem.tag h.tag_sized }

without_read-range : (n : ℕ) (reply : Reply) → IsReplyFor n reply → (read : Option ReadPart)
    → IfSome (without_read reply read) (IsReplyFor n)
without_read-range n reply h None = tt
without_read-range n reply h (Some part) = reply-read n reply None h tt

-- ---- the table

module _ (n : ℕ) (reply : Reply) (h : IsReplyFor n reply) where
  record IsSignedReply (edited : Reply) : Type 0 where
    reply_in_range : IsReplyFor n edited
    not_initial : is_initial edited.version.version ≡ false

  record IsSignedRead (edited : Reply) : Type 0 where
    reply_in_range : IsReplyFor n edited
    read_signed_by : IfSome edited.read (IsSignedPartFor n)

  proofs_range : AreProofsFor n reply.proofs
  proofs_range = record { counted = h.proofs_counted; each = h.proofs_sized }

  by-version : (known : Option Known) → IfSome known (IsSignedBy n reply.c)
      → IfSome (option_map (λ (known : Known). record reply { version = known }) known) IsSignedReply
  by-version known own = map-range (IsSignedBy n reply.c) IsSignedReply (λ (known : Known). record reply { version = known })
      (λ known signed. record {
        reply_in_range = reply-version n reply known h signed.known_by;
        not_initial = signed.not_initial;
      }) known own

  by-pending : (pending : Option (List Tuple)) → IfSome pending (ArePendingFor n)
      → IfSome (option_map (λ (pending : List Tuple). record reply { pending = pending }) pending) (IsReplyFor n)
  by-pending pending own = map-range (ArePendingFor n) (IsReplyFor n) (λ (pending : List Tuple). record reply { pending = pending })
      (λ pending fits. reply-pending n reply pending h fits) pending own

  by-proofs : (proofs : Option (List (Option (List ℕ)))) → IfSome proofs (AreProofsFor n)
      → IfSome (option_map (λ (proofs : List (Option (List ℕ))). record reply { proofs = proofs }) proofs) (IsReplyFor n)
  by-proofs proofs own = map-range (AreProofsFor n) (IsReplyFor n) (λ (proofs : List (Option (List ℕ))). record reply { proofs = proofs })
      (λ proofs fits. reply-proofs n reply proofs h fits) proofs own

  by-signed : (part : Option ReadPart) → IfSome part (IsSignedPartFor n)
      → IfSome (option_map (λ (part : ReadPart). record reply { read = Some part }) part) IsSignedRead
  by-signed part own = map-range (IsSignedPartFor n) IsSignedRead (λ (part : ReadPart). record reply { read = Some part })
      (λ part signed. record { reply_in_range = reply-read n reply (Some part) h signed.part_in_range; read_signed_by = signed }) part own

  by-read : (part : Option ReadPart) → IfSome part (IsReadPartFor n)
      → IfSome (option_map (λ (part : ReadPart). record reply { read = Some part }) part) (IsReplyFor n)
  by-read part own = map-range (IsReadPartFor n) (IsReplyFor n) (λ (part : ReadPart). record reply { read = Some part })
      (λ part fits. reply-read n reply (Some part) h fits) part own

  signed-reply : (edited : Reply) → IsSignedReply edited → IsReplyFor n edited
  signed-reply edited own = own.reply_in_range

  signed-read : (edited : Reply) → IsSignedRead edited → IsReplyFor n edited
  signed-read edited own = own.reply_in_range

  v-range : (k t : ℕ) → IsClient n k → IsOperationNumber t → IfSome (edited_reply (edits.V k t) reply) IsSignedReply
  v-range k t client number = by-version (retimed k t reply.version)
      (retimed-range n reply.c k t reply.version h.version_known client number)

  m-range : (k : ℕ) → IsClient n k → IfSome (edited_reply (edits.M k) reply) IsSignedReply
  m-range k client = by-version (redigested k reply.version) (redigested-range n reply.c k reply.version h.version_known client)

  jv-range : (k t : ℕ) → IsClient n k → IsOperationNumber t → IfSome (edited_reply (edits.Jv k t) reply) IsSignedRead
  jv-range k t client number = by-signed (version_changed (retimed k t) reply.read)
      (version_changed-range n (retimed k t) (λ j known own. retimed-range n j k t known own client number) reply.read h.read_in_range)

  pub edited-range : (edit : Edit) → IsEditFor n edit → IfSome (edited_reply edit reply) (IsReplyFor n)
  edited-range (edits.C k) fits = reply-c n k reply (made_by k reply.version) h fits
      (made_by-range n reply.c k reply.version h.version_known)
  edited-range (edits.V k t) fits = weaker IsSignedReply (IsReplyFor n) signed-reply _ (v-range k t fits.0 fits.1)
  edited-range (edits.M k) fits = weaker IsSignedReply (IsReplyFor n) signed-reply _ (m-range k fits)
  edited-range edits.Ctag fits = weaker IsSignedReply (IsReplyFor n) signed-reply _
      (by-version (retagged reply.version) (retagged-range n reply.c reply.version h.version_known))
  edited-range (edits.Add k kind j) fits = by-pending _ (added-range n (tuple_by k kind j (replicate 32 0)) reply.pending h.pending_in_range
      (record { client_in_range = fits.0; register_in_range = fits.1; tag_sized = IsDigest-replicate 0 (omega arith) }))
  edited-range (edits.DropTuple q) fits = by-pending _ (dropped-range n q reply.pending h.few_pending h.pending_in_range)
  edited-range (edits.Swap q) fits = by-pending _ (swapped-range n q reply.pending h.few_pending h.pending_in_range)
  edited-range (edits.Ltag q) fits = by-pending _ (tag_flipped-range n q reply.pending h.few_pending h.pending_in_range)
  edited-range (edits.Proof k) fits = by-proofs _ (proof_flipped-range n k reply.proofs proofs_range fits)
  edited-range (edits.Noproof k) fits = by-proofs _ (proof_removed-range n k reply.proofs proofs_range fits)
  edited-range (edits.Jv k t) fits = weaker IsSignedRead (IsReplyFor n) signed-read _ (jv-range k t fits.0 fits.1)
  edited-range edits.Jtag fits = weaker IsSignedRead (IsReplyFor n) signed-read _ (by-signed (version_changed retagged reply.read)
      (version_changed-range n retagged (λ j known own. retagged-range n j known own) reply.read h.read_in_range))
  edited-range (edits.T t) fits = by-read _ (mem_changed-range n (mem_at t) (mem_at-range t fits) reply.read h.read_in_range)
  edited-range (edits.Value value) fits =
      by-read _ (mem_changed-range n (mem_with value) (mem_with-range value fits) reply.read h.read_in_range)
  edited-range edits.Dtag fits = by-read _ (mem_changed-range n mem_retagged mem_retagged-range reply.read h.read_in_range)
  edited-range edits.Unread fits = without_read-range n reply h reply.read

-- ---- the tags made anew

signed_anew-range : (n m : ℕ) (key : List ℕ) (known : Known) → IsKnownBy n m known → is_initial known.version ≡ false
    → IsKnownBy n m (signed_anew key m known)
unfolding signed_anew
signed_anew-range n m key known h made =
    (signed-from n m (record known { tag = tag_of key (commit_body m known.version) }) h.version_in_range made
    (digest-tag key (commit_body m known.version)) (h.signed made)).known_by

stored_anew-range : (j : ℕ) (key : List ℕ) (mem : Mem) → IsMem mem → IsMem (stored_anew key j mem)
unfolding stored_anew
stored_anew-range j key mem h = record {
  number = h.number;
  value_in_range = h.value_in_range;
  tag_sized = digest-tag key (data_body j mem.t (option_map value_digest_of mem.value));
}

part_signed-range : (n : ℕ) (key : List ℕ) (part : ReadPart) → IsSignedPartFor n part → IsReadPartFor n (part_signed key part)
part_signed-range n key part h = part-version n part (signed_anew key part.register part.version) h.part_in_range
    (signed_anew-range n part.register key part.version h.part_in_range.version_known h.not_initial)

part_stored-range : (n : ℕ) (key : List ℕ) (part : ReadPart) → IsReadPartFor n part → IsReadPartFor n (part_stored key part)
part_stored-range n key part h = part-mem n part (option_map (stored_anew key part.register) part.mem) h
    (map-range IsMem IsMem (stored_anew key part.register) (stored_anew-range part.register key) part.mem h.mem_in_range)

submitted_tag-sized : (key : List ℕ) (k : ℕ) (kind : Kind) (j t : ℕ) → IsDigest (submitted_tag key k kind j t)
unfolding submitted_tag
submitted_tag-sized key k kind j t = digest-tag key (submit_body k kind j t)

module _ (n : ℕ) (key : List ℕ) (reply : Reply) (h : IsReplyFor n reply) where
  by-commit-tag : (edited : Option Reply) → IfSome edited (IsSignedReply n reply h)
      → IfSome (option_map (version_signed key) edited) (IsReplyFor n)
  by-commit-tag edited own = map-range (IsSignedReply n reply h) (IsReplyFor n) (version_signed key)
      (λ r signed. reply-version n r (signed_anew key r.c r.version) signed.reply_in_range
      (signed_anew-range n r.c key r.version signed.reply_in_range.version_known signed.not_initial)) edited own

  by-read-tag : (edited : Option Reply) → IfSome edited (IsSignedRead n reply h)
      → IfSome (option_map (read_signed key) edited) (IsReplyFor n)
  by-read-tag edited own = map-range (IsSignedRead n reply h) (IsReplyFor n) (read_signed key)
      (λ r signed. reply-read n r (option_map (part_signed key) r.read) signed.reply_in_range
      (map-range (IsSignedPartFor n) (IsReadPartFor n) (part_signed key) (part_signed-range n key) r.read signed.read_signed_by)) edited own

  by-data-tag : (edited : Option Reply) → IfSome edited (IsReplyFor n) → IfSome (option_map (read_stored key) edited) (IsReplyFor n)
  by-data-tag edited own = map-range (IsReplyFor n) (IsReplyFor n) (read_stored key)
      (λ r fits. reply-read n r (option_map (part_stored key) r.read) fits
      (map-range (IsReadPartFor n) (IsReadPartFor n) (part_stored key) (part_stored-range n key) r.read fits.read_in_range)) edited own

  add_forged-range : (k : ℕ) (kind : Kind) (j : ℕ) → IsClient n k → IsClient n j → IfSome (add_forged key k kind j reply) (IsReplyFor n)
  add_forged-range k kind j client register = elim (nat_lt (next_number k reply) (2 ^ 40)) as (λ b. IfSome
      (if b then option_map (λ (pending : List Tuple). record reply { pending = pending })
      (added (tuple_by k kind j (submitted_tag key k kind j (next_number k reply))) reply.pending) else None) (IsReplyFor n)) [
        | true ↦ by-pending n reply h _ (added-range n (tuple_by k kind j (submitted_tag key k kind j (next_number k reply))) reply.pending
            h.pending_in_range
            (record { client_in_range = client; register_in_range = register; tag_sized = submitted_tag-sized key k kind j _ }))
        | false ↦ tt
      ]

  pub forged-range : (edit : Edit) → IsEditFor n edit → IfSome (forged_reply key edit reply) (IsReplyFor n)
  forged-range (edits.C k) fits = tt
  forged-range (edits.V k t) fits = by-commit-tag _ (v-range n reply h k t fits.0 fits.1)
  forged-range (edits.M k) fits = by-commit-tag _ (m-range n reply h k fits)
  forged-range edits.Ctag fits = tt
  forged-range (edits.Add k kind j) fits = add_forged-range k kind j fits.0 fits.1
  forged-range (edits.DropTuple q) fits = tt
  forged-range (edits.Swap q) fits = tt
  forged-range (edits.Ltag q) fits = tt
  forged-range (edits.Proof k) fits = tt
  forged-range (edits.Noproof k) fits = tt
  forged-range (edits.Jv k t) fits = by-read-tag _ (jv-range n reply h k t fits.0 fits.1)
  forged-range edits.Jtag fits = tt
  forged-range (edits.T t) fits = by-data-tag _ (edited-range n reply h (edits.T t) fits)
  forged-range (edits.Value value) fits = by-data-tag _ (edited-range n reply h (edits.Value value) fits)
  forged-range edits.Dtag fits = tt
  forged-range edits.Unread fits = tt

-- with a key or without one
pub lie-range : (n : ℕ) (key : Option (List ℕ)) (edit : Edit) (reply made : Reply) → IsReplyFor n reply → IsEditFor n edit
    → lied_reply key edit reply ≡ Some made → IsReplyFor n made
lie-range n None edit reply made h fits is =
    subst (λ (o : Option Reply). IfSome o (IsReplyFor n)) is (edited-range n reply h edit fits)
lie-range n (Some key) edit reply made h fits is =
    subst (λ (o : Option Reply). IfSome o (IsReplyFor n)) is (forged-range n key reply h edit fits)
