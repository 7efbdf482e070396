-- Reading from left to right, in the steps of the code: this file helps proofs. What `decode` promises is in the
-- words of the grammar; it cites `IsReadAs` and, for those who compute with bytes, `Gives` and `message_of`.
--
-- Each `next_` answers the piece that stands at the front of the bytes with the bytes after it, or none where no
-- such piece stands there. The last two, `message_of` and `version_of`, read all of the bytes; `laws` says that
-- they read exactly what the grammar spells.
use Rattle.std.specs.Prelude.{◌≡◌, ℕ, zero, suc, ◌+◌, ◌*◌, ◌^◌, Bool, true, false, ◌||◌, List, [], ◌∷◌, ◌++◌, length, take, drop, Option, Some, None, is_none, Result, Ok, Err, nat_lt, ◌==◌, if◌then◌else◌}
use Rattle.std.specs.Int.{from_be_bytes, w16, w64}
use Rattle.faust_types.specs.Versions.{Vector, initial, is_initial, with_entry}
use Rattle.faust_types.specs.Messages.{unmade}
use Rattle.faust_types.specs.declared.operation.Kind.{Kind}
use Rattle.faust_types.specs.declared.operation.Kind.TheVariants.{Write, Read}
use Rattle.faust_types.specs.declared.message.Known.{Known}
use Rattle.faust_types.specs.declared.message.Tuple.{Tuple}
use Rattle.faust_types.specs.declared.message.Mem.{Mem}
use Rattle.faust_types.specs.declared.message.ReadPart.{ReadPart}
use Rattle.faust_types.specs.declared.message.Submit.{Submit}
use Rattle.faust_types.specs.declared.message.Reply.{Reply}
use Rattle.faust_types.specs.declared.message.Commit.{Commit}
use Rattle.faust_types.specs.declared.message.Peer.{Peer}
use Rattle.faust_types.specs.declared.message.Peer.TheVariants as peers
use Rattle.faust_types.specs.declared.message.PeerMessage.{PeerMessage}
use Rattle.faust_types.specs.declared.message.Message.{Message}
use Rattle.faust_types.specs.declared.message.Message.TheVariants as messages
use Rattle.faust_wire.specs.declared.error.WireError.{WireError}
use Rattle.faust_wire.specs.declared.error.WireError.TheVariants as errors

infixl 10 ◌>>=◌
abbrev pub ◌>>=◌ : {A B : Type 0} → Option A → (A → Option B) → Option B
(Some x) >>= f = f x
None >>= f = None

-- A call's answer, seen by view, is what reading gives, unless memory ran out.
abbrev pub Fails : {Y : Type 0} → WireError → Option Y → Type 0
Fails errors.Malformed read = read ≡ None
Fails errors.OutOfMemory read = Unit {0}

abbrev pub Gives : {X Y : Type 0} → (X → Y) → Result X WireError → Option Y → Type 0
Gives view (Ok x) read = read ≡ Some (view x)
Gives view (Err e) read = Fails e read

-- A call's answer is x, unless memory ran out.
abbrev pub IsReadAs : {X : Type 0} → Result X WireError → X → Type 0
IsReadAs (Ok y) x = y ≡ x
IsReadAs (Err errors.Malformed) x = ⊥
IsReadAs (Err errors.OutOfMemory) x = Unit {0}

abbrev pub next_byte : List ℕ → Option (ℕ × List ℕ)
next_byte [] = None
next_byte (b ∷ rest) = Some (b, rest)

-- So many bytes.
unfoldable pub next_bytes : ℕ → List ℕ → Option (List ℕ × List ℕ)
next_bytes len bytes = if nat_lt (length bytes) len then None else Some (take len bytes, drop len bytes)

-- A flag, 0 or 1.
unfoldable pub next_flag : List ℕ → Option (Bool × List ℕ)
next_flag [] = None
next_flag (zero ∷ rest) = Some (false, rest)
next_flag (suc zero ∷ rest) = Some (true, rest)
next_flag (suc (suc b) ∷ rest) = None

-- Behind a flag a piece or none.
abbrev pub optionally : {X : Type 0} → (List ℕ → Option (X × List ℕ)) → List ℕ → Option (Option X × List ℕ)
optionally next bytes = do
  flag ← next_flag bytes
  if flag.0 then (next flag.1 >>= λ x. Some (Some x.0, x.1)) else Some (None, flag.1)

-- So many pieces, after those that were read.
unfoldable pub next_items : {X : Type 0} → (List ℕ → Option (X × List ℕ)) → ℕ → List X → List ℕ
    → Option (List X × List ℕ)
next_items next zero items bytes = Some (items, bytes)
next_items next (suc left) items bytes = do
  item ← next bytes
  next_items next left (items ++ item.0 ∷ []) item.1

-- A number from 1 to the greatest one, as that of a client or of a check, in one byte.
unfoldable pub next_up_to : ℕ → List ℕ → Option (ℕ × List ℕ)
next_up_to most bytes = do
  k ← next_byte bytes
  if (k.0 == 0) || nat_lt most k.0 then None else Some k

unfoldable pub next_kind : List ℕ → Option (Kind × List ℕ)
next_kind bytes = do
  kind ← next_byte bytes
  if kind.0 == 1 then Some (Write, kind.1) else if kind.0 == 2 then Some (Read, kind.1) else None

unfoldable pub next_timestamp : List ℕ → Option (ℕ × List ℕ)
next_timestamp bytes = do
  t ← next_bytes 8 bytes
  if nat_lt (from_be_bytes w64 t.0) (2 ^ 40) then Some (from_be_bytes w64 t.0, t.1) else None

-- The number of an operation: a timestamp from 1 on.
unfoldable pub next_number : List ℕ → Option (ℕ × List ℕ)
next_number bytes = do
  t ← next_timestamp bytes
  if t.0 == 0 then None else Some t

abbrev pub next_tag : List ℕ → Option (List ℕ × List ℕ)
next_tag bytes = next_bytes 32 bytes

unfoldable pub next_optional : List ℕ → Option (Option (List ℕ) × List ℕ)
next_optional bytes = optionally next_tag bytes

-- The digest beside a timestamp: none exactly where that is 0.
unfoldable pub next_digest : ℕ → List ℕ → Option (Option (List ℕ) × List ℕ)
next_digest t bytes = do
  digest ← next_optional bytes
  if is_none digest.0 then (if t == 0 then Some digest else None) else (if t == 0 then None else Some digest)

-- The version with a timestamp and its digest in the place of client k.
abbrev pub entered : Vector → ℕ → ℕ → Option (List ℕ) → Vector
entered v k t None = v
entered v k t (Some d) = with_entry v k t d

-- The entries of the clients after client k, of which the timestamps stand apart from the digests.
unfoldable pub next_entries : ℕ → ℕ → Vector → List ℕ → List ℕ → Option (Vector × List ℕ)
next_entries zero k v timestamps digests = Some (v, digests)
next_entries (suc left) k v timestamps digests = do
  t ← next_timestamp timestamps
  digest ← next_digest t.0 digests
  next_entries left (k + 1) (entered v (k + 1) t.0 digest.0) t.1 digest.1

unfoldable pub next_version : ℕ → List ℕ → Option (Vector × List ℕ)
next_version n bytes = do
  timestamps ← next_bytes (8 * n) bytes
  next_entries n 0 (initial n) timestamps.0 timestamps.1

-- A version that isn't initial, and its maker's tag.
unfoldable pub next_known : ℕ → ℕ → List ℕ → Option (Known × List ℕ)
next_known n maker bytes = do
  version ← next_version n bytes
  tag ← next_tag version.1
  if is_initial version.0 then None else Some (record { maker = maker; version = version.0; tag = tag.0 }, tag.1)

unfoldable pub next_signed : ℕ → ℕ → List ℕ → Option (Known × List ℕ)
next_signed n maker bytes = do
  flag ← next_flag bytes
  if flag.0 then next_known n maker flag.1 else Some (unmade n, flag.1)

unfoldable pub next_value : List ℕ → Option (List ℕ × List ℕ)
next_value bytes = do
  len ← next_bytes 2 bytes
  if nat_lt 4096 (from_be_bytes w16 len.0) then None else next_bytes (from_be_bytes w16 len.0) len.1

unfoldable pub next_mem : List ℕ → Option (Mem × List ℕ)
next_mem bytes = do
  t ← next_number bytes
  value ← optionally next_value t.1
  tag ← next_tag value.1
  Some (record { t = t.0; value = value.0; tag = tag.0 }, tag.1)

unfoldable pub next_tuple : ℕ → List ℕ → Option (Tuple × List ℕ)
next_tuple n bytes = do
  client ← next_up_to n bytes
  kind ← next_kind client.1
  register ← next_up_to n kind.1
  tag ← next_tag register.1
  Some (record { client = client.0; kind = kind.0; register = register.0; tag = tag.0 }, tag.1)

unfoldable pub next_pending : ℕ → List ℕ → Option (List Tuple × List ℕ)
next_pending n bytes = do
  count ← next_byte bytes
  if nat_lt 31 count.0 then None else next_items (next_tuple n) count.0 [] count.1

unfoldable pub next_read_part : ℕ → List ℕ → Option (ReadPart × List ℕ)
next_read_part n bytes = do
  register ← next_up_to n bytes
  version ← next_signed n register.0 register.1
  mem ← optionally next_mem version.1
  Some (record { register = register.0; version = version.0; mem = mem.0 }, mem.1)

-- The value of a write; for a read nothing.
abbrev pub next_written : Kind → List ℕ → Option (Option (List ℕ) × List ℕ)
next_written Write bytes = next_value bytes >>= λ x. Some (Some x.0, x.1)
next_written Read bytes = Some (None, bytes)

unfoldable pub next_commit : ℕ → List ℕ → Option (Commit × List ℕ)
next_commit n bytes = do
  version ← next_version n bytes
  commit_tag ← next_tag version.1
  proof_tag ← next_tag commit_tag.1
  if is_initial version.0
      then None
      else Some (record { version = version.0; commit_tag = commit_tag.0; proof_tag = proof_tag.0 }, proof_tag.1)

-- The COMMIT that rides on a SUBMIT, or none; under wire 1 there is no place for it.
abbrev pub next_riding : ℕ → ℕ → List ℕ → Option (Option Commit × List ℕ)
next_riding wire n bytes = if wire == 1 then Some (None, bytes) else optionally (next_commit n) bytes

unfoldable pub next_submit : ℕ → ℕ → List ℕ → Option (Submit × List ℕ)
next_submit wire n bytes = do
  kind ← next_kind bytes
  register ← next_up_to n kind.1
  t ← next_number register.1
  submit_tag ← next_tag t.1
  data_tag ← next_tag submit_tag.1
  value ← next_written kind.0 data_tag.1
  riding ← next_riding wire n value.1
  Some (
    record {
      kind = kind.0;
      register = register.0;
      t = t.0;
      value = value.0;
      submit_tag = submit_tag.0;
      data_tag = data_tag.0;
      commit = riding.0;
    },
    riding.1,
  )

unfoldable pub next_reply : ℕ → List ℕ → Option (Reply × List ℕ)
next_reply n bytes = do
  c ← next_up_to n bytes
  version ← next_signed n c.0 c.1
  pending ← next_pending n version.1
  proofs ← next_items next_optional n [] pending.1
  read ← optionally (next_read_part n) proofs.1
  Some (record { c = c.0; version = version.0; pending = pending.0; proofs = proofs.0; read = read.0 }, read.1)

-- The version in a VERSION: 0, or its maker and what it made.
unfoldable pub next_announced : ℕ → List ℕ → Option (Known × List ℕ)
next_announced n bytes = do
  maker ← next_byte bytes
  if maker.0 == 0 then Some (unmade n, maker.1) else if nat_lt n maker.0 then None else next_known n maker.0 maker.1

-- What a peer message of this kind carries.
unfoldable pub next_content : ℕ → ℕ → List ℕ → Option (Peer × List ℕ)
next_content n kind bytes =
    if kind == 4 then Some (peers.Probe, bytes)
    else if kind == 5 then (next_announced n bytes >>= λ x. Some (peers.Version x.0, x.1))
    else if kind == 6 then (next_up_to 15 bytes >>= λ x. Some (peers.Failure x.0, x.1))
    else None

unfoldable pub next_peer : ℕ → ℕ → List ℕ → Option (PeerMessage × List ℕ)
next_peer n kind bytes = do
  from ← next_up_to n bytes
  to ← next_up_to n from.1
  content ← next_content n kind to.1
  tag ← next_tag content.1
  if from.0 == to.0 then None else Some (record { from = from.0; to = to.0; peer = content.0; tag = tag.0 }, tag.1)

-- A message behind the byte that tells its kind.
unfoldable pub next_of_kind : ℕ → ℕ → ℕ → List ℕ → Option (Message × List ℕ)
next_of_kind wire n kind bytes =
    if kind == 1 then (next_submit wire n bytes >>= λ x. Some (messages.Submit x.0, x.1))
    else if kind == 2 then (next_reply n bytes >>= λ x. Some (messages.Reply x.0, x.1))
    else if kind == 3 then (next_commit n bytes >>= λ x. Some (messages.Commit x.0, x.1))
    else if kind == 7 then (next_up_to n bytes >>= λ x. Some (messages.Hello x.0, x.1))
    else (next_peer n kind bytes >>= λ x. Some (messages.Peer x.0, x.1))

unfoldable pub next_message : ℕ → ℕ → List ℕ → Option (Message × List ℕ)
next_message wire n bytes = do
  first ← next_byte bytes
  kind ← next_byte first.1
  if first.0 == wire then next_of_kind wire n kind.0 kind.1 else None

-- A piece behind which nothing stands.
abbrev pub whole : {X : Type 0} → Option (X × List ℕ) → Option X
whole None = None
whole (Some x) = if length x.1 == 0 then Some x.0 else None

-- The message that the bytes spell under this wire for n clients, or none.
unfoldable pub message_of : ℕ → ℕ → List ℕ → Option Message
message_of wire n bytes = whole (next_message wire n bytes)

-- The version of n clients whose version bytes these are, or none.
unfoldable pub version_of : ℕ → List ℕ → Option Vector
version_of n bytes = whole (next_version n bytes)
