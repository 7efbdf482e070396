-- The table of edits, in its order: what each edit makes of a reply, and None where it can't be made; then the same
-- of a forged edit. The promise on `Liar::edited` rests on this file.
use Rattle.std.specs.Prelude.{◌≡◌, ℕ, ◌+◌, ◌-◌, ◌^◌, ◌==◌, if◌then◌else◌, List, [], ◌∷◌, ◌++◌, length, replicate, Option, Some, None, IsNone, IsSome, Result, Ok, Err, option_map, slice_get, slice_index, slice_index_or, slice_set, nat_lt, bit_xor}
use Rattle.std.specs.List.{remove, swap}
use Rattle.faust_hash.specs.Chain.{value_digest_of}
use Rattle.faust_types.specs.Messages.{tuples_by}
use Rattle.faust_types.specs.Versions.{digest_at, is_initial, timestamp_at}
use Rattle.faust_types.specs.declared.operation.Kind.{Kind}
use Rattle.faust_types.specs.declared.message.Known.{Known}
use Rattle.faust_types.specs.declared.message.Tuple.{Tuple}
use Rattle.faust_types.specs.declared.message.Mem.{Mem}
use Rattle.faust_types.specs.declared.message.ReadPart.{ReadPart}
use Rattle.faust_types.specs.declared.message.Reply.{Reply}
use Rattle.faust_tags.specs.Bodies.{commit_body, data_body, submit_body, tag_of}
use Rattle.faust_script.specs.declared.edit.Edit.{Edit}
use Rattle.faust_script.specs.declared.edit.Edit.TheVariants as edits
use Rattle.faust_liar.specs.declared.error.LiarError.{LiarError}
use Rattle.faust_liar.specs.declared.error.LiarError.TheVariants as errors

-- 32 bytes with the lowest bit of the last one turned.
abbrev pub flipped : List ℕ → List ℕ
flipped bytes = slice_set bytes 31 (bit_xor (slice_index bytes 31) 1)

-- The version is client k's: its maker is k, unless it is initial.
abbrev pub made_by : ℕ → Known → Known
made_by k known = if is_initial known.version then known else record known { maker = k }

-- V[k] becomes t, where it isn't 0 (in the initial version each is).
abbrev pub retimed : ℕ → ℕ → Known → Option Known
retimed k t known =
    if timestamp_at known.version k == 0
    then None
    else Some (record known { version = record (known.version) { timestamps = slice_set known.version.timestamps (k - 1) t } })

-- A bit of M[k] turns, where it isn't absent.
abbrev pub redigested_to : ℕ → Known → Option (List ℕ) → Option Known
redigested_to k known None = None
redigested_to k known (Some digest) =
    Some (record known { version = record (known.version) { digests = slice_set known.version.digests (k - 1) (Some (flipped digest)) } })

abbrev pub redigested : ℕ → Known → Option Known
redigested k known = redigested_to k known (digest_at known.version k)

-- A bit of the commit tag turns, where the version isn't initial.
abbrev pub retagged : Known → Option Known
retagged known = if is_initial known.version then None else Some (record known { tag = flipped known.tag })

-- One more tuple, where there are fewer than 31.
abbrev pub added : Tuple → List Tuple → Option (List Tuple)
added tuple pending = if nat_lt (length pending) 31 then Some (pending ++ tuple ∷ []) else None

-- Tuple q, counted from 1.
abbrev pub tuple_at : ℕ → List Tuple → Option Tuple
tuple_at q pending = slice_get pending (q - 1)

-- Tuple q is taken out.
abbrev pub dropped : ℕ → List Tuple → Option (List Tuple)
dropped q pending = option_map (λ (tuple : Tuple). remove pending (q - 1)) (tuple_at q pending)

-- Tuples q and q + 1 change places.
abbrev pub swapped : ℕ → List Tuple → Option (List Tuple)
swapped q pending = option_map (λ (next : Tuple). swap pending (q - 1) q) (tuple_at (q + 1) pending)

-- A bit of tuple q's tag turns.
abbrev pub tag_flipped : ℕ → List Tuple → Option (List Tuple)
tag_flipped q pending =
    option_map (λ (tuple : Tuple). slice_set pending (q - 1) (record tuple { tag = flipped tuple.tag })) (tuple_at q pending)

-- P[k].
abbrev pub proof_of : ℕ → List (Option (List ℕ)) → Option (List ℕ)
proof_of k proofs = slice_index_or proofs (k - 1) None

-- A bit of P[k] turns; P[k] becomes absent.
abbrev pub proof_flipped : ℕ → List (Option (List ℕ)) → Option (List (Option (List ℕ)))
proof_flipped k proofs = option_map (λ (proof : List ℕ). slice_set proofs (k - 1) (Some (flipped proof))) (proof_of k proofs)

abbrev pub proof_removed : ℕ → List (Option (List ℕ)) → Option (List (Option (List ℕ)))
proof_removed k proofs = option_map (λ (proof : List ℕ). slice_set proofs (k - 1) None) (proof_of k proofs)

-- The timestamp of the memory becomes t; its value becomes this one; a bit of its data tag turns.
abbrev pub mem_at : ℕ → Mem → Mem
mem_at t mem = record mem { t = t }

abbrev pub mem_with : List ℕ → Mem → Mem
mem_with value mem = record mem { value = Some value }

abbrev pub mem_retagged : Mem → Mem
mem_retagged mem = record mem { tag = flipped mem.tag }

-- The reply with another version of c, other tuples or other proofs, where there are such.
abbrev pub with_version : Reply → Option Known → Option Reply
with_version reply known = option_map (λ (known : Known). record reply { version = known }) known

abbrev pub with_pending : Reply → Option (List Tuple) → Option Reply
with_pending reply pending = option_map (λ (pending : List Tuple). record reply { pending = pending }) pending

abbrev pub with_proofs : Reply → Option (List (Option (List ℕ))) → Option Reply
with_proofs reply proofs = option_map (λ (proofs : List (Option (List ℕ))). record reply { proofs = proofs }) proofs

-- The read part with another version of j; none where there is no read part, or no such version.
abbrev pub version_changed_in : ReadPart → Option Known → Option ReadPart
version_changed_in part known = option_map (λ (known : Known). record part { version = known }) known

abbrev pub version_changed : (Known → Option Known) → Option ReadPart → Option ReadPart
version_changed change None = None
version_changed change (Some part) = version_changed_in part (change part.version)

-- The read part with another memory; none where there is no read part, or its memory is nothing.
abbrev pub mem_changed_in : (Mem → Mem) → ReadPart → Option Mem → Option ReadPart
mem_changed_in change part None = None
mem_changed_in change part (Some mem) = Some (record part { mem = Some (change mem) })

abbrev pub mem_changed : (Mem → Mem) → Option ReadPart → Option ReadPart
mem_changed change None = None
mem_changed change (Some part) = mem_changed_in change part part.mem

abbrev pub with_read : Reply → Option ReadPart → Option Reply
with_read reply part = option_map (λ (part : ReadPart). record reply { read = Some part }) part

-- The read part is taken out.
abbrev pub without_read : Reply → Option ReadPart → Option Reply
without_read reply None = None
without_read reply (Some part) = Some (record reply { read = None })

-- A tuple of client k with this tag.
abbrev pub tuple_by : ℕ → Kind → ℕ → List ℕ → Tuple
tuple_by k kind j tag = record { client = k; kind = kind; register = j; tag = tag }

-- The table: what an edit makes of a reply, and none where it can't be made.
abbrev pub edited_reply : Edit → Reply → Option Reply
edited_reply (edits.C k) reply = Some (record reply { c = k; version = made_by k reply.version })
edited_reply (edits.V k t) reply = with_version reply (retimed k t reply.version)
edited_reply (edits.M k) reply = with_version reply (redigested k reply.version)
edited_reply edits.Ctag reply = with_version reply (retagged reply.version)
edited_reply (edits.Add k kind j) reply = with_pending reply (added (tuple_by k kind j (replicate 32 0)) reply.pending)
edited_reply (edits.DropTuple q) reply = with_pending reply (dropped q reply.pending)
edited_reply (edits.Swap q) reply = with_pending reply (swapped q reply.pending)
edited_reply (edits.Ltag q) reply = with_pending reply (tag_flipped q reply.pending)
edited_reply (edits.Proof k) reply = with_proofs reply (proof_flipped k reply.proofs)
edited_reply (edits.Noproof k) reply = with_proofs reply (proof_removed k reply.proofs)
edited_reply (edits.Jv k t) reply = with_read reply (version_changed (retimed k t) reply.read)
edited_reply edits.Jtag reply = with_read reply (version_changed retagged reply.read)
edited_reply (edits.T t) reply = with_read reply (mem_changed (mem_at t) reply.read)
edited_reply (edits.Value value) reply = with_read reply (mem_changed (mem_with value) reply.read)
edited_reply edits.Dtag reply = with_read reply (mem_changed mem_retagged reply.read)
edited_reply edits.Unread reply = without_read reply reply.read

-- A version with the commit tag of its maker made anew under the key.
unfoldable pub signed_anew : List ℕ → ℕ → Known → Known
signed_anew key maker known = record known { tag = tag_of key (commit_body maker known.version) }

-- A memory of register j with its data tag made anew.
unfoldable pub stored_anew : List ℕ → ℕ → Mem → Mem
stored_anew key j mem = record mem { tag = tag_of key (data_body j mem.t (option_map value_digest_of mem.value)) }

-- The number of client k's next operation behind the tuples: V[k] of the version of c, and one for each tuple of k
-- and for this one.
abbrev pub next_number : ℕ → Reply → ℕ
next_number k reply = timestamp_at reply.version.version k + tuples_by k reply.pending + 1

-- The submit tag of that operation.
unfoldable pub submitted_tag : List ℕ → ℕ → Kind → ℕ → ℕ → List ℕ
submitted_tag key k kind j t = tag_of key (submit_body k kind j t)

-- The reply with the commit tag of c made anew, that of j, and the data tag of j.
abbrev pub version_signed : List ℕ → Reply → Reply
version_signed key reply = record reply { version = signed_anew key reply.c reply.version }

abbrev pub part_signed : List ℕ → ReadPart → ReadPart
part_signed key part = record part { version = signed_anew key part.register part.version }

abbrev pub part_stored : List ℕ → ReadPart → ReadPart
part_stored key part = record part { mem = option_map (stored_anew key part.register) part.mem }

abbrev pub read_signed : List ℕ → Reply → Reply
read_signed key reply = record reply { read = option_map (part_signed key) reply.read }

abbrev pub read_stored : List ℕ → Reply → Reply
read_stored key reply = record reply { read = option_map (part_stored key) reply.read }

-- The tuple with its right tag, where the number of its operation is a timestamp.
abbrev pub add_forged : List ℕ → ℕ → Kind → ℕ → Reply → Option Reply
add_forged key k kind j reply =
    if nat_lt (next_number k reply) (2 ^ 40)
    then with_pending reply (added (tuple_by k kind j (submitted_tag key k kind j (next_number k reply))) reply.pending)
    else None

-- The table's last column: what a forged edit makes of a reply, with the tag over the edited part made anew, and none
-- where it can't be made or may not be forged.
abbrev pub forged_reply : List ℕ → Edit → Reply → Option Reply
forged_reply key (edits.C k) reply = None
forged_reply key (edits.V k t) reply = option_map (version_signed key) (edited_reply (edits.V k t) reply)
forged_reply key (edits.M k) reply = option_map (version_signed key) (edited_reply (edits.M k) reply)
forged_reply key edits.Ctag reply = None
forged_reply key (edits.Add k kind j) reply = add_forged key k kind j reply
forged_reply key (edits.DropTuple q) reply = None
forged_reply key (edits.Swap q) reply = None
forged_reply key (edits.Ltag q) reply = None
forged_reply key (edits.Proof k) reply = None
forged_reply key (edits.Noproof k) reply = None
forged_reply key (edits.Jv k t) reply = option_map (read_signed key) (edited_reply (edits.Jv k t) reply)
forged_reply key edits.Jtag reply = None
forged_reply key (edits.T t) reply = option_map (read_stored key) (edited_reply (edits.T t) reply)
forged_reply key (edits.Value value) reply = option_map (read_stored key) (edited_reply (edits.Value value) reply)
forged_reply key edits.Dtag reply = None
forged_reply key edits.Unread reply = None

-- With a key the edit is forged, without one it isn't.
abbrev pub lied_reply : Option (List ℕ) → Edit → Reply → Option Reply
lied_reply None edit reply = edited_reply edit reply
lied_reply (Some key) edit reply = forged_reply key edit reply

-- An answer is what is due: the edited part or reply, or Field exactly where none is. Want of memory comes only where
-- one is.
abbrev pub RefusesEdit : {X : Type 0} → LiarError → Option X → Type 0
RefusesEdit errors.Nothing due = ⊥
RefusesEdit errors.NoBranch due = ⊥
RefusesEdit errors.Field due = IsNone due
RefusesEdit errors.OutOfMemory due = IsSome due

abbrev pub Makes : {X : Type 0} → Result X LiarError → Option X → Type 0
Makes (Ok x) due = due ≡ Some x
Makes (Err e) due = RefusesEdit e due
