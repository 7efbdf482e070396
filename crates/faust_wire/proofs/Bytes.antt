-- Each item of a spelling is a byte.
use Rattle.std.proofs.Common.{ℕ, zero, suc, ◌^◌, ◌<◌, ◌/◌, List, [], ◌∷◌, ◌++◌, length, Option, Some, None, arith}
use Rattle.std.specs.Prelude.{IfSome, flat_map, ◌==◌}
use Rattle.std.specs.List.{AllByRecursion}
use Rattle.std.specs.Int.{to_be_bytes, bytes_high_first, byte_at, w16}
use Rattle.std.proofs.Math.Nat.{mod-lt}
use Rattle.std.proofs.lemmas.Bool.{cond_both}
use Rattle.faust_types.specs.Clients.{IsClientCount, IsClient}
use Rattle.faust_types.specs.Versions.{Vector, is_initial}
use Rattle.faust_types.specs.Ranges.{AreBytes, IsWire, IsDigest, IsValue, IsVersionFor, IsKnownBy, IsAnnouncedFor, IsTupleFor, IsMem, IsReadPartFor, IsReplyFor, IsSubmitFor, IsCommitFor, IsPeerFor, IsPeerMessageFor, IsMessageFor}
use Rattle.faust_types.specs.Spelling.{be64, optional, version_bytes, kind_byte, announced, peer_byte, peer_content, peer_front}
use Rattle.faust_types.specs.declared.operation.Kind.{Kind}
use Rattle.faust_types.specs.declared.operation.Kind.TheVariants.{Write, Read}
use Rattle.faust_types.specs.declared.message.Known.{Known}
use Rattle.faust_types.specs.declared.message.Tuple.{Tuple}
use Rattle.faust_types.specs.declared.message.Mem.{Mem}
use Rattle.faust_types.specs.declared.message.ReadPart.{ReadPart}
use Rattle.faust_types.specs.declared.message.Submit.{Submit}
use Rattle.faust_types.specs.declared.message.Reply.{Reply}
use Rattle.faust_types.specs.declared.message.Commit.{Commit}
use Rattle.faust_types.specs.declared.message.Peer.{Peer}
use Rattle.faust_types.specs.declared.message.Peer.TheVariants as peers
use Rattle.faust_types.specs.declared.message.PeerMessage.{PeerMessage}
use Rattle.faust_types.specs.declared.message.Message.{Message}
use Rattle.faust_types.specs.declared.message.Message.TheVariants as messages
use Rattle.faust_wire.specs.Grammar.{signed_bytes, value_bytes, optional_value_bytes, memory_bytes, tuple_bytes, read_part_bytes, written_bytes, commit_content, optional_commit_bytes, riding_bytes, submit_bytes, reply_bytes, commit_bytes, peer_bytes, spelling}
use Rattle.faust_wire.proofs.Entries.{version_digests}
use Rattle.faust_wire.proofs.Lengths.{some_value}

-- ---- lists of bytes; whoever puts bytes together cites these

pub AreBytes-nil : AreBytes []
AreBytes-nil i = omega arith

pub AreBytes-cons : (b : ℕ) (bytes : List ℕ) → b < 256 → AreBytes bytes → AreBytes (b ∷ bytes)
AreBytes-cons b bytes below rest zero = below
AreBytes-cons b bytes below rest (suc i) = rest i

pub AreBytes-append : (a b : List ℕ) → AreBytes a → AreBytes b → AreBytes (a ++ b)
AreBytes-append [] b a-bytes b-bytes = b-bytes
AreBytes-append (x ∷ a) b a-bytes b-bytes =
    AreBytes-cons x (a ++ b) (a-bytes 0) (AreBytes-append a b (λ i. a-bytes (suc i)) b-bytes)

pub AreBytes-flat_map : {X : Type 0} (f : X → List ℕ) (Fits : X → Type 0) → ((x : X) → Fits x → AreBytes (f x)) → (xs : List X)
    → AllByRecursion Fits xs → AreBytes (flat_map f xs)
AreBytes-flat_map f Fits each [] fit = AreBytes-nil
AreBytes-flat_map f Fits each (x ∷ xs) fit =
    AreBytes-append (f x) (flat_map f xs) (each x fit.0) (AreBytes-flat_map f Fits each xs fit.1)

-- ---- pieces

byte_at-below : (k n : ℕ) → byte_at k n < 256
byte_at-below zero n = mod-lt n (omega arith)
byte_at-below (suc k) n = mod-lt (n / 256 ^ suc k) (omega arith)

AreBytes-high_first : (k n : ℕ) → AreBytes (bytes_high_first k n)
AreBytes-high_first zero n = AreBytes-nil
AreBytes-high_first (suc k) n = AreBytes-cons (byte_at k n) (bytes_high_first k n) (byte_at-below k n) (AreBytes-high_first k n)

AreBytes-be64 : (t : ℕ) → AreBytes (be64 t)
unfolding be64
AreBytes-be64 t = AreBytes-high_first 8 t

AreBytes-numbers : (ts : List ℕ) → AreBytes (flat_map be64 ts)
AreBytes-numbers [] = AreBytes-nil
AreBytes-numbers (t ∷ ts) = AreBytes-append (be64 t) (flat_map be64 ts) (AreBytes-be64 t) (AreBytes-numbers ts)

kind_byte-below : (kind : Kind) → kind_byte kind < 256
kind_byte-below Write = omega arith
kind_byte-below Read = omega arith

AreBytes-optional : (o : Option (List ℕ)) → IfSome o IsDigest → AreBytes (optional o)
AreBytes-optional None fits = AreBytes-cons 0 [] (omega arith) AreBytes-nil
AreBytes-optional (Some bytes) fits = AreBytes-cons 1 bytes (omega arith) fits.bytes_each

AreBytes-version : (n : ℕ) (v : Vector) → IsVersionFor n v → AreBytes (version_bytes v)
unfolding version_bytes
AreBytes-version n v fits =
    AreBytes-append (flat_map be64 v.timestamps) (flat_map optional v.digests) (AreBytes-numbers v.timestamps)
    (AreBytes-flat_map optional (λ o. IfSome o IsDigest) AreBytes-optional v.digests (version_digests n v fits))

-- a version's bytes and a tag
AreBytes-tagged : (n : ℕ) (v : Vector) (tag : List ℕ) → IsVersionFor n v → IsDigest tag → AreBytes (version_bytes v ++ tag)
AreBytes-tagged n v tag fits tag-fits = AreBytes-append (version_bytes v) tag (AreBytes-version n v fits) tag-fits.bytes_each

AreBytes-signed : (n maker : ℕ) (known : Known) → IsKnownBy n maker known → AreBytes (signed_bytes known)
unfolding signed_bytes
AreBytes-signed n maker known fits =
    let text = version_bytes known.version ++ known.tag in
    cond_both (is_initial known.version) (0 ∷ []) (1 ∷ text) AreBytes
    (λ h. AreBytes-cons 0 [] (omega arith) AreBytes-nil)
    (λ h. AreBytes-cons 1 text (omega arith) (AreBytes-tagged n known.version known.tag fits.version_in_range fits.tag_sized))

AreBytes-value : (bytes : List ℕ) → IsValue bytes → AreBytes (value_bytes bytes)
unfolding value_bytes
AreBytes-value bytes fits = AreBytes-append (to_be_bytes w16 (length bytes)) bytes (AreBytes-high_first 2 (length bytes)) fits.bytes_each

AreBytes-optional_value : (o : Option (List ℕ)) → IfSome o IsValue → AreBytes (optional_value_bytes o)
AreBytes-optional_value None fits = AreBytes-cons 0 [] (omega arith) AreBytes-nil
AreBytes-optional_value (Some bytes) fits = AreBytes-cons 1 (value_bytes bytes) (omega arith) (AreBytes-value bytes fits)

AreBytes-written : (o : Option (List ℕ)) → IfSome o IsValue → AreBytes (written_bytes o)
AreBytes-written None fits = AreBytes-nil
AreBytes-written (Some bytes) fits = AreBytes-value bytes fits

AreBytes-memory : (o : Option Mem) → IfSome o IsMem → AreBytes (memory_bytes o)
AreBytes-memory None fits = AreBytes-cons 0 [] (omega arith) AreBytes-nil
AreBytes-memory (Some mem) fits =
    let front = be64 mem.t ++ optional_value_bytes mem.value in
    AreBytes-cons 1 (front ++ mem.tag) (omega arith) (AreBytes-append front mem.tag
    (AreBytes-append (be64 mem.t) (optional_value_bytes mem.value) (AreBytes-be64 mem.t)
    (AreBytes-optional_value mem.value fits.value_in_range))
    fits.tag_sized.bytes_each)

-- a client's number is a byte
client-below : (n k : ℕ) → IsClientCount n → IsClient n k → k < 256
client-below n k count c = omega (arith, count.at_most_32, c.to_n)

AreBytes-tuple : (n : ℕ) → IsClientCount n → (t : Tuple) → IsTupleFor n t → AreBytes (tuple_bytes t)
AreBytes-tuple n count t fits =
    AreBytes-cons t.client (kind_byte t.kind ∷ t.register ∷ t.tag) (client-below n t.client count fits.client_in_range)
    (AreBytes-cons (kind_byte t.kind) (t.register ∷ t.tag) (kind_byte-below t.kind)
    (AreBytes-cons t.register t.tag (client-below n t.register count fits.register_in_range) fits.tag_sized.bytes_each))

AreBytes-read_part : (n : ℕ) → IsClientCount n → (o : Option ReadPart) → IfSome o (IsReadPartFor n) → AreBytes (read_part_bytes o)
AreBytes-read_part n count None fits = AreBytes-cons 0 [] (omega arith) AreBytes-nil
AreBytes-read_part n count (Some part) fits =
    let text = signed_bytes part.version ++ memory_bytes part.mem in
    AreBytes-cons 1 (part.register ∷ text) (omega arith)
    (AreBytes-cons part.register text (client-below n part.register count fits.register_in_range)
    (AreBytes-append (signed_bytes part.version) (memory_bytes part.mem)
    (AreBytes-signed n part.register part.version fits.version_known)
    (AreBytes-memory part.mem fits.mem_in_range)))

AreBytes-commit : (n : ℕ) (m : Commit) → IsCommitFor n m → AreBytes (commit_content m)
AreBytes-commit n m fits =
    AreBytes-append (version_bytes m.version ++ m.commit_tag) m.proof_tag
    (AreBytes-tagged n m.version m.commit_tag fits.version_in_range fits.commit_tag_sized)
    fits.proof_tag_sized.bytes_each

AreBytes-optional_commit : (n : ℕ) (o : Option Commit) → IfSome o (IsCommitFor n) → AreBytes (optional_commit_bytes o)
AreBytes-optional_commit n None fits = AreBytes-cons 0 [] (omega arith) AreBytes-nil
AreBytes-optional_commit n (Some m) fits = AreBytes-cons 1 (commit_content m) (omega arith) (AreBytes-commit n m fits)

AreBytes-riding : (wire n : ℕ) (o : Option Commit) → IfSome o (IsCommitFor n) → AreBytes (riding_bytes wire o)
AreBytes-riding wire n o fits =
    cond_both (wire == 1) [] (optional_commit_bytes o) AreBytes (λ h. AreBytes-nil) (λ h. AreBytes-optional_commit n o fits)

-- ---- messages

-- the bytes of the wire's version and of the kind, and what follows
headed : (wire kind : ℕ) (text : List ℕ) → IsWire wire → kind < 256 → AreBytes text → AreBytes (wire ∷ kind ∷ text)
headed wire kind text w below text-bytes =
    AreBytes-cons wire (kind ∷ text) (omega (arith, w.to_two)) (AreBytes-cons kind text below text-bytes)

AreBytes-submit : (wire n : ℕ) → IsWire wire → IsClientCount n → (m : Submit) → IsSubmitFor n m → AreBytes (submit_bytes wire m)
unfolding submit_bytes
AreBytes-submit wire n w count m fits =
    let tags = be64 m.t ++ m.submit_tag ++ m.data_tag in
    let text = tags ++ written_bytes m.value ++ riding_bytes wire m.commit in
    headed wire 1 (kind_byte m.kind ∷ m.register ∷ text) w (omega arith)
    (AreBytes-cons (kind_byte m.kind) (m.register ∷ text) (kind_byte-below m.kind)
    (AreBytes-cons m.register text (client-below n m.register count fits.register_in_range)
    (AreBytes-append (tags ++ written_bytes m.value) (riding_bytes wire m.commit)
    (AreBytes-append tags (written_bytes m.value)
    (AreBytes-append (be64 m.t ++ m.submit_tag) m.data_tag
    (AreBytes-append (be64 m.t) m.submit_tag (AreBytes-be64 m.t) fits.submit_tag_sized.bytes_each)
    fits.data_tag_sized.bytes_each)
    (AreBytes-written m.value (some_value m.kind m.value fits.value_in_range)))
    (AreBytes-riding wire n m.commit fits.commit_in_range))))

AreBytes-reply : (wire n : ℕ) → IsWire wire → IsClientCount n → (m : Reply) → IsReplyFor n m → AreBytes (reply_bytes wire m)
unfolding reply_bytes
AreBytes-reply wire n w count m fits =
    let pending = length m.pending ∷ flat_map tuple_bytes m.pending in
    let front = signed_bytes m.version ++ pending in
    let proofs = flat_map optional m.proofs in
    headed wire 2 (m.c ∷ (front ++ proofs ++ read_part_bytes m.read)) w (omega arith)
    (AreBytes-cons m.c (front ++ proofs ++ read_part_bytes m.read) (client-below n m.c count fits.client_in_range)
    (AreBytes-append (front ++ proofs) (read_part_bytes m.read)
    (AreBytes-append front proofs
    (AreBytes-append (signed_bytes m.version) pending
    (AreBytes-signed n m.c m.version fits.version_known)
    (AreBytes-cons (length m.pending) (flat_map tuple_bytes m.pending) (omega (arith, fits.few_pending))
    (AreBytes-flat_map tuple_bytes (IsTupleFor n) (AreBytes-tuple n count) m.pending fits.pending_in_range)))
    (AreBytes-flat_map optional (λ o. IfSome o IsDigest) AreBytes-optional m.proofs fits.proofs_sized))
    (AreBytes-read_part n count m.read fits.read_in_range)))

AreBytes-commit_message : (wire n : ℕ) → IsWire wire → (m : Commit) → IsCommitFor n m → AreBytes (commit_bytes wire m)
unfolding commit_bytes
AreBytes-commit_message wire n w m fits = headed wire 3 (commit_content m) w (omega arith) (AreBytes-commit n m fits)

AreBytes-announced : (n : ℕ) → IsClientCount n → (known : Known) → IsAnnouncedFor n known → AreBytes (announced known)
unfolding announced
AreBytes-announced n count known fits =
    let text = version_bytes known.version ++ known.tag in
    cond_both (is_initial known.version) (0 ∷ []) (known.maker ∷ text) AreBytes
    (λ h. AreBytes-cons 0 [] (omega arith) AreBytes-nil)
    (λ h. AreBytes-cons known.maker text (client-below n known.maker count (fits.maker_in_range h))
    (AreBytes-tagged n known.version known.tag fits.known_by.version_in_range fits.known_by.tag_sized))

AreBytes-content : (n : ℕ) → IsClientCount n → (content : Peer) → IsPeerFor n content → AreBytes (peer_content content)
AreBytes-content n count peers.Probe fits = AreBytes-nil
AreBytes-content n count (peers.Version known) fits = AreBytes-announced n count known fits
AreBytes-content n count (peers.Failure check) fits = AreBytes-cons check [] (omega (arith, fits.to_15)) AreBytes-nil

peer_byte-below : (content : Peer) → peer_byte content < 256
peer_byte-below peers.Probe = omega arith
peer_byte-below (peers.Version known) = omega arith
peer_byte-below (peers.Failure check) = omega arith

AreBytes-peer : (wire n : ℕ) → IsWire wire → IsClientCount n → (m : PeerMessage) → IsPeerMessageFor n m → AreBytes (peer_bytes wire m)
unfolding peer_bytes peer_front
AreBytes-peer wire n w count m fits =
    let text = peer_content m.peer ++ m.tag in
    headed wire (peer_byte m.peer) (m.from ∷ m.to ∷ text) w (peer_byte-below m.peer)
    (AreBytes-cons m.from (m.to ∷ text) (client-below n m.from count fits.from_in_range)
    (AreBytes-cons m.to text (client-below n m.to count fits.to_in_range)
    (AreBytes-append (peer_content m.peer) m.tag (AreBytes-content n count m.peer fits.peer_in_range) fits.tag_sized.bytes_each)))

-- reading back a spelling asks that it is bytes
pub AreBytes-spelling : (wire n : ℕ) (m : Message) → IsWire wire → IsClientCount n → IsMessageFor n m → AreBytes (spelling wire m)
AreBytes-spelling wire n (messages.Submit m) w count fits = AreBytes-submit wire n w count m fits
AreBytes-spelling wire n (messages.Reply m) w count fits = AreBytes-reply wire n w count m fits
AreBytes-spelling wire n (messages.Commit m) w count fits = AreBytes-commit_message wire n w m fits
AreBytes-spelling wire n (messages.Peer m) w count fits = AreBytes-peer wire n w count m fits
AreBytes-spelling wire n (messages.Hello client) w count fits =
    headed wire 7 (client ∷ []) w (omega arith) (AreBytes-cons client [] (client-below n client count fits) AreBytes-nil)
