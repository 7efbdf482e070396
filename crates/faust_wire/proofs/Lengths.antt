-- How long spellings are at most.
use Rattle.std.proofs.Common.{◌≡◌, ℕ, ◌+◌, ◌*◌, ◌≤◌, List, [], ◌∷◌, ◌++◌, length, Option, Some, None, arith}
use Rattle.std.specs.Prelude.{IfSome, ◌==◌, flat_map}
use Rattle.std.specs.List.{AllByRecursion, AllZip}
use Rattle.std.proofs.lemmas.Bool.{cond_both}
use Rattle.std.proofs.lemmas.List.{length-append}
use Rattle.faust_types.specs.Clients.{IsClientCount}
use Rattle.faust_types.specs.Versions.{Vector, is_initial}
use Rattle.faust_types.specs.Ranges.{IsDigest, IsValue, IsVersionFor, IsKnownBy, IsAnnouncedFor, IsTupleFor, IsMem, IsReadPartFor, IsReplyFor, IsValueOf, IsSubmitFor, IsCommitFor, IsPeerFor, IsPeerMessageFor, IsMessageFor}
use Rattle.faust_types.specs.Spelling.{be64, optional, version_bytes, announced, peer_content, peer_front}
use Rattle.faust_types.specs.declared.operation.Kind.{Kind}
use Rattle.faust_types.specs.declared.operation.Kind.TheVariants.{Write, Read}
use Rattle.faust_types.specs.declared.message.Known.{Known}
use Rattle.faust_types.specs.declared.message.Tuple.{Tuple}
use Rattle.faust_types.specs.declared.message.Mem.{Mem}
use Rattle.faust_types.specs.declared.message.ReadPart.{ReadPart}
use Rattle.faust_types.specs.declared.message.Submit.{Submit}
use Rattle.faust_types.specs.declared.message.Reply.{Reply}
use Rattle.faust_types.specs.declared.message.Commit.{Commit}
use Rattle.faust_types.specs.declared.message.Peer.{Peer}
use Rattle.faust_types.specs.declared.message.Peer.TheVariants as peers
use Rattle.faust_types.specs.declared.message.PeerMessage.{PeerMessage}
use Rattle.faust_types.specs.declared.message.Message.{Message}
use Rattle.faust_types.specs.declared.message.Message.TheVariants as messages
use Rattle.faust_wire.specs.Grammar.{signed_bytes, value_bytes, optional_value_bytes, memory_bytes, tuple_bytes, read_part_bytes, written_bytes, commit_content, optional_commit_bytes, riding_bytes, submit_bytes, reply_bytes, commit_bytes, peer_bytes, spelling}
use Rattle.faust_wire.proofs.SmallParts.{length-be64}
use Rattle.faust_wire.proofs.Entries.{IsEntry, version_entries, length-timestamps}

-- pieces of at most m bytes each
length-flat_map-le : {X : Type 0} (f : X → List ℕ) (Fits : X → Type 0) (m : ℕ) → ((x : X) → Fits x → length (f x) ≤ m)
    → (xs : List X) → AllByRecursion Fits xs → length (flat_map f xs) ≤ m * length xs
length-flat_map-le f Fits m each [] fit = omega arith
length-flat_map-le f Fits m each (x ∷ xs) fit =
    omega (arith, each x fit.0, length-flat_map-le f Fits m each xs fit.1, length-append (f x) (flat_map f xs))

pub length-optional : (o : Option (List ℕ)) → IfSome o IsDigest → length (optional o) ≤ 33
length-optional None fits = omega arith
length-optional (Some digest) fits = omega (arith, fits.sized)

length-digests : (ts : List ℕ) (ds : List (Option (List ℕ))) → AllZip IsEntry ts ds
    → length (flat_map optional ds) ≤ 33 * length ts
length-digests [] [] entries = omega arith
length-digests [] (d ∷ ds) entries = absurd entries
length-digests (t ∷ ts) [] entries = absurd entries
length-digests (t ∷ ts) (d ∷ ds) entries =
    omega (
      arith,
      length-optional d entries.0.sized,
      length-digests ts ds entries.1,
      length-append (optional d) (flat_map optional ds),
    )

pub length-version : (n : ℕ) (v : Vector) → IsVersionFor n v → length (version_bytes v) ≤ 41 * n
unfolding version_bytes
length-version n v fits =
    omega (
      arith,
      length-append (flat_map be64 v.timestamps) (flat_map optional v.digests),
      length-timestamps v.timestamps,
      length-digests v.timestamps v.digests (version_entries n v fits),
      fits.count,
    )

pub length-signed : (n maker : ℕ) (known : Known) → IsKnownBy n maker known → length (signed_bytes known) ≤ 33 + 41 * n
unfolding signed_bytes
length-signed n maker known fits =
    cond_both (is_initial known.version) (0 ∷ []) (1 ∷ (version_bytes known.version ++ known.tag)) (λ text. length text ≤ 33 + 41 * n)
    (λ h. omega arith)
    (λ h. omega (
      arith,
      length-append (version_bytes known.version) known.tag,
      length-version n known.version fits.version_in_range,
      fits.tag_sized.sized,
    ))

length-announced : (n : ℕ) (known : Known) → IsAnnouncedFor n known → length (announced known) ≤ 33 + 41 * n
unfolding announced
length-announced n known fits =
    cond_both (is_initial known.version) (0 ∷ []) (known.maker ∷ (version_bytes known.version ++ known.tag))
    (λ text. length text ≤ 33 + 41 * n)
    (λ h. omega arith)
    (λ h. omega (
      arith,
      length-append (version_bytes known.version) known.tag,
      length-version n known.version fits.known_by.version_in_range,
      fits.known_by.tag_sized.sized,
    ))

pub length-value : (bytes : List ℕ) → length (value_bytes bytes) ≡ 2 + length bytes
unfolding value_bytes
length-value bytes = omega arith

pub length-optional_value-le : (o : Option (List ℕ)) → IfSome o IsValue → length (optional_value_bytes o) ≤ 4099
length-optional_value-le None fits = omega arith
length-optional_value-le (Some bytes) fits = omega (arith, length-value bytes, fits.sized)

pub length-written : (o : Option (List ℕ)) → length (written_bytes o) ≤ length (optional_value_bytes o)
length-written None = omega arith
length-written (Some bytes) = omega arith

pub length-written-le : (o : Option (List ℕ)) → IfSome o IsValue → length (written_bytes o) ≤ 4098
length-written-le None fits = omega arith
length-written-le (Some bytes) fits = omega (arith, length-value bytes, fits.sized)

pub length-mem : (mem : Mem) → IsMem mem → length (memory_bytes (Some mem)) ≡ 41 + length (optional_value_bytes mem.value)
length-mem mem fits =
    omega (
      arith,
      length-append (be64 mem.t ++ optional_value_bytes mem.value) mem.tag,
      length-append (be64 mem.t) (optional_value_bytes mem.value),
      length-be64 mem.t,
      fits.tag_sized.sized,
    )

pub length-memory-le : (o : Option Mem) → IfSome o IsMem → length (memory_bytes o) ≤ 4140
length-memory-le None fits = omega arith
length-memory-le (Some mem) fits = omega (arith, length-mem mem fits, length-optional_value-le mem.value fits.value_in_range)

pub length-part : (n : ℕ) (part : ReadPart) → IsReadPartFor n part
    → length (read_part_bytes (Some part)) ≤ 35 + 41 * n + length (memory_bytes part.mem)
length-part n part fits =
    omega (
      arith,
      length-append (signed_bytes part.version) (memory_bytes part.mem),
      length-signed n part.register part.version fits.version_known,
    )

pub length-read_part-le : (n : ℕ) (o : Option ReadPart) → IfSome o (IsReadPartFor n) → length (read_part_bytes o) ≤ 4175 + 41 * n
length-read_part-le n None fits = omega arith
length-read_part-le n (Some part) fits = omega (arith, length-part n part fits, length-memory-le part.mem fits.mem_in_range)

length-tuple : (n : ℕ) (t : Tuple) → IsTupleFor n t → length (tuple_bytes t) ≤ 35
length-tuple n t fits = omega (arith, fits.tag_sized.sized)

-- ---- messages

pub length-reply : (wire n : ℕ) (m : Reply) → IsReplyFor n m
    → length (reply_bytes wire m) ≤ 37 + 74 * n + 35 * length m.pending + length (read_part_bytes m.read)
unfolding reply_bytes
length-reply wire n m fits =
    let front = signed_bytes m.version ++ length m.pending ∷ flat_map tuple_bytes m.pending in
    omega (
      arith,
      length-append (front ++ flat_map optional m.proofs) (read_part_bytes m.read),
      length-append front (flat_map optional m.proofs),
      length-append (signed_bytes m.version) (length m.pending ∷ flat_map tuple_bytes m.pending),
      length-signed n m.c m.version fits.version_known,
      length-flat_map-le tuple_bytes (IsTupleFor n) 35 (length-tuple n) m.pending fits.pending_in_range,
      length-flat_map-le optional (λ o. IfSome o IsDigest) 33 length-optional m.proofs fits.proofs_sized,
      fits.proofs_counted,
    )

pub length-commit_content : (n : ℕ) (m : Commit) → IsCommitFor n m → length (commit_content m) ≤ 64 + 41 * n
length-commit_content n m fits =
    omega (
      arith,
      length-append (version_bytes m.version ++ m.commit_tag) m.proof_tag,
      length-append (version_bytes m.version) m.commit_tag,
      length-version n m.version fits.version_in_range,
      fits.commit_tag_sized.sized,
      fits.proof_tag_sized.sized,
    )

length-optional_commit : (n : ℕ) (o : Option Commit) → IfSome o (IsCommitFor n) → length (optional_commit_bytes o) ≤ 65 + 41 * n
length-optional_commit n None fits = omega arith
length-optional_commit n (Some m) fits = omega (arith, length-commit_content n m fits)

pub length-riding : (wire n : ℕ) (o : Option Commit) → IfSome o (IsCommitFor n) → length (riding_bytes wire o) ≤ 65 + 41 * n
length-riding wire n o fits =
    cond_both (wire == 1) [] (optional_commit_bytes o) (λ text. length text ≤ 65 + 41 * n)
    (λ h. omega arith)
    (λ h. length-optional_commit n o fits)

pub length-submit : (wire n : ℕ) (m : Submit) → IsSubmitFor n m
    → length (submit_bytes wire m) ≤ 76 + length (written_bytes m.value) + length (riding_bytes wire m.commit)
unfolding submit_bytes
length-submit wire n m fits =
    let tags = be64 m.t ++ m.submit_tag ++ m.data_tag in
    omega (
      arith,
      length-append (tags ++ written_bytes m.value) (riding_bytes wire m.commit),
      length-append tags (written_bytes m.value),
      length-append (be64 m.t ++ m.submit_tag) m.data_tag,
      length-append (be64 m.t) m.submit_tag,
      length-be64 m.t,
      fits.submit_tag_sized.sized,
      fits.data_tag_sized.sized,
    )

pub length-commit : (wire n : ℕ) (m : Commit) → IsCommitFor n m → length (commit_bytes wire m) ≤ 66 + 41 * n
unfolding commit_bytes
length-commit wire n m fits = omega (arith, length-commit_content n m fits)

pub length-content-le : (n : ℕ) (content : Peer) → IsPeerFor n content → length (peer_content content) ≤ 33 + 41 * n
length-content-le n peers.Probe fits = omega arith
length-content-le n (peers.Version known) fits = length-announced n known fits
length-content-le n (peers.Failure check) fits = omega arith

pub length-peer : (wire n : ℕ) (m : PeerMessage) → IsPeerMessageFor n m
    → length (peer_bytes wire m) ≡ 36 + length (peer_content m.peer)
unfolding peer_bytes peer_front
length-peer wire n m fits = omega (arith, length-append (peer_content m.peer) m.tag, fits.tag_sized.sized)

pub some_value : (kind : Kind) (value : Option (List ℕ)) → IsValueOf kind value → IfSome value IsValue
some_value Write (Some bytes) fits = fits
some_value Write None fits = tt
some_value Read None fits = tt
some_value Read (Some bytes) fits = absurd cc

-- the largest reply of 32 clients has 31 tuples, all proofs and a value of 4,096 bytes
pub reply_at_most : (wire n : ℕ) (m : Reply) → IsClientCount n → IsReplyFor n m → length (reply_bytes wire m) ≤ 8977
reply_at_most wire n m count fits =
    omega (
      arith,
      length-reply wire n m fits,
      length-read_part-le n m.read fits.read_in_range,
      fits.few_pending,
      count.at_most_32,
    )

-- the largest SUBMIT has a value of 4,096 bytes, and a COMMIT of 32 clients rides on it
pub submit_at_most : (wire n : ℕ) (m : Submit) → IsClientCount n → IsSubmitFor n m → length (submit_bytes wire m) ≤ 5551
submit_at_most wire n m count fits =
    let value = some_value m.kind m.value fits.value_in_range in
    omega (
      arith,
      length-submit wire n m fits,
      length-written-le m.value value,
      length-riding wire n m.commit fits.commit_in_range,
      count.at_most_32,
    )

-- and so no message is longer than the largest reply
pub spelling_at_most : (wire n : ℕ) (m : Message) → IsClientCount n → IsMessageFor n m → length (spelling wire m) ≤ 8977
spelling_at_most wire n (messages.Submit m) count fits = omega (arith, submit_at_most wire n m count fits)
spelling_at_most wire n (messages.Reply m) count fits = reply_at_most wire n m count fits
spelling_at_most wire n (messages.Commit m) count fits = omega (arith, length-commit wire n m fits, count.at_most_32)
spelling_at_most wire n (messages.Peer m) count fits =
    omega (arith, length-peer wire n m fits, length-content-le n m.peer fits.peer_in_range, count.at_most_32)
spelling_at_most wire n (messages.Hello client) count fits = omega arith
