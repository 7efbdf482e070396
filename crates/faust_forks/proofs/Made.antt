-- A body that was made tells what it was made of, and a right tag among checked pairs tells that its body was made.
use Rattle.std.proofs.Common.{◌≡◌, ◌↔◌, ℕ, ◌+◌, ◌^◌, ◌<◌, Bool, true, false, cond, nat_lt, map, List, [], ◌∷◌, ◌++◌, Option, None, Some, refl, sym, ap, ◌∙◌, subst, inl, inr, arith}
use Rattle.std.proofs.lemmas.Bool.{and_parts, or_cases, cond-true, true≢false}
use Rattle.faust_types.specs.Versions.{Vector, digest_at, is_initial, timestamp_at}
use Rattle.faust_types.specs.Ranges.{IsOperationNumber, IsPeerMessageFor, IsVersionFor}
use Rattle.faust_types.specs.declared.operation.Kind.{Kind}
use Rattle.faust_types.specs.declared.message.Known.{Known}
use Rattle.faust_types.specs.declared.message.Mem.{Mem}
use Rattle.faust_types.specs.declared.message.PeerMessage.{PeerMessage}
use Rattle.faust_types.specs.declared.message.Tuple.{Tuple}
use Rattle.faust_hash.proofs.Lists.{is_same_tells}
use Rattle.faust_hash.specs.Tag.{is_same}
use Rattle.faust_tags.specs.Bodies.{commit_body, data_body, peer_body, proof_body, submit_body, tag_of}
use Rattle.faust_tags.proofs.Fields.{submit_maker, submit_kind, submit_register, submit_number, data_maker, data_number, data_value, commit_maker, commit_version, proof_maker, proof_digest, peer_from, peer_to, peer_content}
use Rattle.faust_tags.proofs.FirstBytes.{submit_no_data, submit_no_commit, submit_no_proof, submit_no_peer, data_no_commit, data_no_proof, data_no_peer, commit_no_proof, commit_no_peer, proof_no_peer}
use Rattle.faust_ustor.specs.declared.walk.Walk.{Walk}
use Rattle.faust_ustor.specs.Checks.{advanced, digest_of, is_digest_proven, is_known_right, is_mem_right, is_next_submitted, proof_at}
use Rattle.faust_ustor.specs.Passed.{AreTuplesPassed}
use Rattle.faust_lists.specs.Names.{Has}
use Rattle.faust_forks.specs.Sources.{Source, of_submit, of_data, of_commit, of_proof, of_peer, body_of, IsMade, IsSent, IsSourceFor, AreSources}
use Rattle.faust_forks.specs.Pairs.{Pair, known_pairs, proof_pairs, submit_pair, mem_pairs, tuple_pairs, peer_pair, AreMade}
use Rattle.faust_forks.proofs.Members.{has-left, has-right}

pub source-in_range : (n : ℕ) (made : List Source) (source : Source) → AreSources n made → Has made source → IsSourceFor n source
source-in_range n [] source all has = absurd has
source-in_range n (x ∷ made) source all (inl same) = subst (λ (z : Source). IsSourceFor n z) (sym same) all.0
source-in_range n (x ∷ made) source all (inr has) = source-in_range n made source all.1 has

pub IsMade-more : (made more : List Source) (body : List ℕ) → ((source : Source) → Has made source → Has more source) → IsMade made body
    → IsMade more body
IsMade-more made more body grows h = record { source = h.source; in_made = grows h.source h.in_made; spelled = h.spelled }

-- the bodies that were made are those of the sources
pub body-has : (made : List Source) (source : Source) → Has made source → Has (map body_of made) (body_of source)
body-has [] source has = absurd has
body-has (x ∷ made) source (inl same) = inl (ap body_of same)
body-has (x ∷ made) source (inr has) = inr (body-has made source has)

pub has-body : (made : List Source) (body : List ℕ) → Has (map body_of made) body → IsMade made body
has-body [] body has = absurd has
has-body (x ∷ made) body (inl same) = record { source = x; in_made = inl refl; spelled = sym same }
has-body (x ∷ made) body (inr has) = IsMade-more made (x ∷ made) body (λ source h. inr h) (has-body made body has)

pub IsMade-exactly : (made : List Source) (body : List ℕ) → IsMade made body ↔ Has (map body_of made) body
IsMade-exactly made body = (
  λ h. subst (λ (z : List ℕ). Has (map body_of made) z) h.spelled (body-has made h.source h.in_made),
  λ has. has-body made body has,
)

-- a number in range is below what eight bytes hold
below_64 : (t : ℕ) → IsOperationNumber t → t < 2 ^ 64
below_64 t number = omega (arith, number.below)

-- of a submit body
submit-from : (n : ℕ) (made : List Source) (k : ℕ) (kind : Kind) (register t : ℕ) (source : Source) → IsSourceFor n source
    → Has made source → IsOperationNumber t → body_of source ≡ submit_body k kind register t → Has made (of_submit k kind register t)
submit-from n made k kind register t (of_submit j other r u) range has number e =
    subst (λ (z : Source). Has made z)
    (ap (λ (x : ℕ). of_submit x other r u) (submit_maker j k other kind r register u t e)
    ∙ ap (λ (x : Kind). of_submit k x r u) (submit_kind j k other kind r register u t e)
    ∙ ap (λ (x : ℕ). of_submit k kind x u) (submit_register j k other kind r register u t e)
    ∙ ap (λ (x : ℕ). of_submit k kind register x) (submit_number j k other kind r register u t (below_64 u range) (below_64 t number) e))
    has
submit-from n made k kind register t (of_data j u value) range has number e =
    absurd (submit_no_data k j kind register t u value (sym e))
submit-from n made k kind register t (of_commit j v) range has number e = absurd (submit_no_commit k j kind register t v (sym e))
submit-from n made k kind register t (of_proof j digest) range has number e = absurd (submit_no_proof k j kind register t digest (sym e))
submit-from n made k kind register t (of_peer message) range has number e = absurd (submit_no_peer k kind register t message (sym e))

pub made-submit : (n : ℕ) (made : List Source) (k : ℕ) (kind : Kind) (register t : ℕ) → AreSources n made → IsOperationNumber t
    → IsMade made (submit_body k kind register t) → Has made (of_submit k kind register t)
made-submit n made k kind register t all number h =
    submit-from n made k kind register t h.source (source-in_range n made h.source all h.in_made) h.in_made number h.spelled

-- of a data body
data-from : (n : ℕ) (made : List Source) (k t : ℕ) (value : Option (List ℕ)) (source : Source) → IsSourceFor n source → Has made source
    → IsOperationNumber t → body_of source ≡ data_body k t value → Has made (of_data k t value)
data-from n made k t value (of_submit j kind r u) range has number e = absurd (submit_no_data j k kind r u t value e)
data-from n made k t value (of_data j u other) range has number e =
    subst (λ (z : Source). Has made z)
    (ap (λ (x : ℕ). of_data x u other) (data_maker j k u t other value e)
    ∙ ap (λ (x : ℕ). of_data k x other) (data_number j k u t other value (below_64 u range) (below_64 t number) e)
    ∙ ap (λ (x : Option (List ℕ)). of_data k t x) (data_value j k u t other value e))
    has
data-from n made k t value (of_commit j v) range has number e = absurd (data_no_commit k j t value v (sym e))
data-from n made k t value (of_proof j digest) range has number e = absurd (data_no_proof k j t value digest (sym e))
data-from n made k t value (of_peer message) range has number e = absurd (data_no_peer k t value message (sym e))

pub made-data : (n : ℕ) (made : List Source) (k t : ℕ) (value : Option (List ℕ)) → AreSources n made → IsOperationNumber t
    → IsMade made (data_body k t value) → Has made (of_data k t value)
made-data n made k t value all number h =
    data-from n made k t value h.source (source-in_range n made h.source all h.in_made) h.in_made number h.spelled

-- of a commit body
commit-from : (n : ℕ) (made : List Source) (k : ℕ) (v : Vector) (source : Source) → IsSourceFor n source → Has made source
    → IsVersionFor n v → body_of source ≡ commit_body k v → Has made (of_commit k v)
commit-from n made k v (of_submit j kind r u) range has in_range e = absurd (submit_no_commit j k kind r u v e)
commit-from n made k v (of_data j u value) range has in_range e = absurd (data_no_commit j k u value v e)
commit-from n made k v (of_commit j w) range has in_range e =
    subst (λ (z : Source). Has made z)
    (ap (λ (x : ℕ). of_commit x w) (commit_maker j k w v e)
    ∙ ap (λ (x : Vector). of_commit k x) (commit_version n n j k w v range in_range e))
    has
commit-from n made k v (of_proof j digest) range has in_range e = absurd (commit_no_proof k j v digest (sym e))
commit-from n made k v (of_peer message) range has in_range e = absurd (commit_no_peer k v message (sym e))

pub made-commit : (n : ℕ) (made : List Source) (k : ℕ) (v : Vector) → AreSources n made → IsVersionFor n v
    → IsMade made (commit_body k v) → Has made (of_commit k v)
made-commit n made k v all in_range h =
    commit-from n made k v h.source (source-in_range n made h.source all h.in_made) h.in_made in_range h.spelled

-- of a proof body
proof-from : (made : List Source) (k : ℕ) (digest : List ℕ) (source : Source) → Has made source
    → body_of source ≡ proof_body k digest → Has made (of_proof k digest)
proof-from made k digest (of_submit j kind r u) has e = absurd (submit_no_proof j k kind r u digest e)
proof-from made k digest (of_data j u value) has e = absurd (data_no_proof j k u value digest e)
proof-from made k digest (of_commit j v) has e = absurd (commit_no_proof j k v digest e)
proof-from made k digest (of_proof j other) has e =
    subst (λ (z : Source). Has made z)
    (ap (λ (x : ℕ). of_proof x other) (proof_maker j k other digest e)
    ∙ ap (λ (x : List ℕ). of_proof k x) (proof_digest j k other digest e))
    has
proof-from made k digest (of_peer message) has e = absurd (proof_no_peer k digest message (sym e))

pub made-proof : (made : List Source) (k : ℕ) (digest : List ℕ) → IsMade made (proof_body k digest) → Has made (of_proof k digest)
made-proof made k digest h = proof-from made k digest h.source h.in_made h.spelled

-- of the body of a message between clients
peer-from : (n : ℕ) (made : List Source) (message : PeerMessage) (source : Source) → IsSourceFor n source → Has made source
    → IsPeerMessageFor n message → body_of source ≡ peer_body message → IsSent made message
peer-from n made message (of_submit j kind r u) range has in_range e = absurd (submit_no_peer j kind r u message e)
peer-from n made message (of_data j u value) range has in_range e = absurd (data_no_peer j u value message e)
peer-from n made message (of_commit j v) range has in_range e = absurd (commit_no_peer j v message e)
peer-from n made message (of_proof j digest) range has in_range e = absurd (proof_no_peer j digest message e)
peer-from n made message (of_peer other) range has in_range e = record {
  sent = other;
  in_made = has;
  same_from = peer_from other message e;
  same_to = peer_to other message e;
  same_peer = peer_content n other message range in_range e;
}

pub made-peer : (n : ℕ) (made : List Source) (message : PeerMessage) → AreSources n made → IsPeerMessageFor n message
    → IsMade made (peer_body message) → IsSent made message
made-peer n made message all in_range h =
    peer-from n made message h.source (source-in_range n made h.source all h.in_made) h.in_made in_range h.spelled

-- pairs that stand one behind the other
pub AreMade-left : (key : List ℕ) (made : List Source) (xs ys : List Pair) → AreMade key made (xs ++ ys) → AreMade key made xs
AreMade-left key made xs ys h = λ pair has right. h pair (has-left xs ys pair has) right

pub AreMade-right : (key : List ℕ) (made : List Source) (xs ys : List Pair) → AreMade key made (xs ++ ys) → AreMade key made ys
AreMade-right key made xs ys h = λ pair has right. h pair (has-right xs ys pair has) right

-- the tag of a version that isn't initial
pub known-made : (key : List ℕ) (made : List Source) (k : ℕ) (known : Known) → AreMade key made (known_pairs k known)
    → is_known_right key k known ≡ true → is_initial known.version ≡ false → IsMade made (commit_body k known.version)
known-made key made k known h right fresh =
    let pair : Pair = record { body = commit_body k known.version; tag = known.tag } in
    let has : Has (known_pairs k known) pair =
    subst (λ (z : Bool). Has (cond z [] (pair ∷ [])) pair) (sym fresh) (inl refl) in
    elim (or_cases (is_initial known.version) (is_same known.tag (tag_of key (commit_body k known.version))) right) [
      | inl is ↦ absurd (true≢false (sym is ∙ fresh))
      | inr same ↦ h pair has ((is_same_tells known.tag (tag_of key (commit_body k known.version))).0 same)
    ]

-- the proof of a digest that is there
pub proof-made : (key : List ℕ) (made : List Source) (k : ℕ) (held proof : Option (List ℕ)) (digest : List ℕ)
    → AreMade key made (proof_pairs k held proof) → is_digest_proven key k held proof ≡ true → held ≡ Some digest
    → IsMade made (proof_body k digest)
proof-made key made k None proof digest h right e = absurd cc
proof-made key made k (Some other) None digest h right e = absurd cc
proof-made key made k (Some other) (Some tag) digest h right e =
    let same : other ≡ digest = cc in
    let pair : Pair = record { body = proof_body k other; tag = tag } in
    subst (λ (z : List ℕ). IsMade made (proof_body k z)) same
    (h pair (inl refl) ((is_same_tells tag (tag_of key (proof_body k other))).0 right))

-- the pairs of the first tuple, and of those behind it
pub digest-pairs : (key : List ℕ) (made : List Source) (proofs : List (Option (List ℕ))) (behind : List Pair) (walk : Walk) (tuple : Tuple)
    (rest : List Tuple) → AreMade key made (tuple_pairs proofs behind walk (tuple ∷ rest))
    → AreMade key made (proof_pairs tuple.client (digest_at walk.version tuple.client) (proof_at proofs tuple.client))
digest-pairs key made proofs behind walk tuple rest h = λ pair has right. h pair (has-left _ _ pair has) right

-- The test of check 8, taken apart.
pub record IsNextOf (key : List ℕ) (walk : Walk) (tuple : Tuple) : Type 0 where
  pub room : nat_lt (timestamp_at walk.version tuple.client + 1) (2 ^ 40) ≡ true
  pub signed : tuple.tag ≡ tag_of key (submit_pair walk tuple).body

pub next-parts : (key : List ℕ) (walk : Walk) (tuple : Tuple) → is_next_submitted key walk.version tuple ≡ true → IsNextOf key walk tuple
next-parts key walk tuple h =
    let right = tag_of key (submit_pair walk tuple).body in
    let both = and_parts (nat_lt (timestamp_at walk.version tuple.client + 1) (2 ^ 40)) (is_same tuple.tag right) h in
    record { room = both.0; signed = (is_same_tells tuple.tag right).0 both.1 }

pub rest-pairs : (key : List ℕ) (made : List Source) (proofs : List (Option (List ℕ))) (behind : List Pair) (walk : Walk) (tuple : Tuple)
    (rest : List Tuple) → AreMade key made (tuple_pairs proofs behind walk (tuple ∷ rest))
    → is_next_submitted key walk.version tuple ≡ true
    → AreMade key made (submit_pair walk tuple ∷ tuple_pairs proofs behind (advanced walk tuple.client) rest)
rest-pairs key made proofs behind walk tuple rest h submitted =
    let next : List Pair = submit_pair walk tuple ∷ tuple_pairs proofs behind (advanced walk tuple.client) rest in
    let test : Bool = nat_lt (timestamp_at walk.version tuple.client + 1) (2 ^ 40) in
    let first : List Pair = proof_pairs tuple.client (digest_at walk.version tuple.client) (proof_at proofs tuple.client) in
    let along : cond test next [] ≡ next = cond-true test next [] (next-parts key walk tuple submitted).room in
    λ pair has right. h pair (has-right first (cond test next []) pair (subst (λ (z : List Pair). Has z pair) (sym along) has)) right

-- the tag of a tuple
pub submit-made : (key : List ℕ) (made : List Source) (walk : Walk) (tuple : Tuple) (behind : List Pair)
    → AreMade key made (submit_pair walk tuple ∷ behind) → is_next_submitted key walk.version tuple ≡ true
    → IsMade made (submit_body tuple.client tuple.kind tuple.register (timestamp_at walk.version tuple.client + 1))
submit-made key made walk tuple behind h submitted =
    h (submit_pair walk tuple) (inl refl) (next-parts key walk tuple submitted).signed

-- what comes behind the tuples
pub behind-pairs : (key : List ℕ) (made : List Source) (me : ℕ) (proofs : List (Option (List ℕ))) (behind : List Pair) (walk : Walk)
    (tuples : List Tuple) → AreTuplesPassed key me proofs walk tuples → AreMade key made (tuple_pairs proofs behind walk tuples)
    → AreMade key made behind
behind-pairs key made me proofs behind walk [] passed h = h
behind-pairs key made me proofs behind walk (tuple ∷ rest) passed h =
    let more = rest-pairs key made proofs behind walk tuple rest h passed.0.submitted in
    behind-pairs key made me proofs behind (advanced walk tuple.client) rest passed.1 (λ pair has right. more pair (inr has) right)

-- the tag of what is in memory
pub mem-made : (key : List ℕ) (made : List Source) (j : ℕ) (mem : Mem) → AreMade key made (mem_pairs j (Some mem))
    → is_mem_right key j (Some mem) ≡ true → IsMade made (data_body j mem.t (digest_of mem.value))
mem-made key made j mem h right =
    let pair : Pair = record { body = data_body j mem.t (digest_of mem.value); tag = mem.tag } in
    h pair (inl refl) ((is_same_tells mem.tag (tag_of key (data_body j mem.t (digest_of mem.value)))).0 right)

-- the tag of a message between clients
pub peer-made : (key : List ℕ) (made : List Source) (message : PeerMessage) → AreMade key made (peer_pair message ∷ [])
    → is_same message.tag (tag_of key (peer_body message)) ≡ true → IsMade made (peer_body message)
peer-made key made message h right =
    h (peer_pair message) (inl refl) ((is_same_tells message.tag (tag_of key (peer_body message))).0 right)
