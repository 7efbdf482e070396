-- The checks 3 to 12 that a client makes of the reply to its operation, in their order: the conditions, one a
-- check, then the walk over the pending tuples, and at the end `judged`. The promise of `judge` rests on them.
use Rattle.std.specs.Prelude.{◌≡◌, ℕ, ◌+◌, ◌-◌, ◌^◌, ◌==◌, ◌&&◌, ◌||◌, Bool, true, false, not, if◌then◌else◌, List, [], ◌∷◌, Option, Some, None, Result, Ok, Err, nat_lt, slice_index_or}
use Rattle.faust_types.specs.Versions.{Vector, timestamp_at, digest_at, stepped, is_at_most, is_initial}
use Rattle.faust_types.specs.Messages.{value_of}
use Rattle.faust_types.specs.declared.operation.Kind.{Kind}
use Rattle.faust_types.specs.declared.operation.Kind.TheVariants.{Write, Read}
use Rattle.faust_types.specs.declared.operation.Operation.{Operation}
use Rattle.faust_types.specs.declared.operation.Notice.{Notice}
use Rattle.faust_types.specs.declared.message.Known.{Known}
use Rattle.faust_types.specs.declared.message.Tuple.{Tuple}
use Rattle.faust_types.specs.declared.message.Mem.{Mem}
use Rattle.faust_types.specs.declared.message.ReadPart.{ReadPart}
use Rattle.faust_types.specs.declared.message.Reply.{Reply}
use Rattle.faust_hash.specs.Chain.{link, value_digest_of}
use Rattle.faust_hash.specs.Tag.{is_same}
use Rattle.faust_tags.specs.Bodies.{commit_body, data_body, proof_body, submit_body, tag_of}
use Rattle.faust_ustor.specs.declared.judgement.Judged.{Judged}
use Rattle.faust_ustor.specs.declared.refusal.JudgeError.{JudgeError}
use Rattle.faust_ustor.specs.declared.refusal.JudgeError.TheVariants as refusals
use Rattle.faust_ustor.specs.declared.walk.Walk.{Walk}

-- Check 3: there is a read part exactly where the operation is a read, and it is of its register.
abbrev pub is_part_for : Kind → ℕ → Option ReadPart → Bool
is_part_for Write register None = true
is_part_for Write register (Some part) = false
is_part_for Read register None = false
is_part_for Read register (Some part) = part.register == register

-- Check 4 of client c, and check 9 of client j: the version is initial, or the client's commit tag is right.
abbrev pub is_known_right : List ℕ → ℕ → Known → Bool
is_known_right key k known = is_initial known.version || is_same known.tag (tag_of key (commit_body k known.version))

-- Check 5: the own version is at most that of c, which counts the same own operations.
abbrev pub is_own_kept : ℕ → Vector → Vector → Bool
is_own_kept me own version = is_at_most own version && (timestamp_at own me == timestamp_at version me)

-- Check 6: the tuple is by another client.
abbrev pub is_of_another : ℕ → Tuple → Bool
is_of_another me tuple = not (tuple.client == me)

-- The proof tag of client k, if there is one.
abbrev pub proof_at : List (Option (List ℕ)) → ℕ → Option (List ℕ)
proof_at proofs k = slice_index_or proofs (k - 1) None

-- The tag is there, and is the right proof tag of client k over the digest.
abbrev pub is_proof_of : List ℕ → ℕ → List ℕ → Option (List ℕ) → Bool
is_proof_of key k digest None = false
is_proof_of key k digest (Some proof) = is_same proof (tag_of key (proof_body k digest))

-- The digest of client k is absent, or its proof tag over it is right.
abbrev pub is_digest_proven : List ℕ → ℕ → Option (List ℕ) → Option (List ℕ) → Bool
is_digest_proven key k None proof = true
is_digest_proven key k (Some digest) proof = is_proof_of key k digest proof

-- Check 7: the digest held for the tuple's client is absent, or the client's proof tag over it is right.
abbrev pub is_proven : List ℕ → List (Option (List ℕ)) → Vector → ℕ → Bool
is_proven key proofs version k = is_digest_proven key k (digest_at version k) (proof_at proofs k)

-- Check 8: the client has a next operation, and the tuple is it by the client's submit tag.
abbrev pub is_next_submitted : List ℕ → Vector → Tuple → Bool
is_next_submitted key version tuple =
    nat_lt (timestamp_at version tuple.client + 1) (2 ^ 40)
    && is_same tuple.tag (tag_of key (submit_body tuple.client tuple.kind tuple.register (timestamp_at version tuple.client + 1)))

-- The digest of a value, if there is one.
abbrev pub digest_of : Option (List ℕ) → Option (List ℕ)
digest_of None = None
digest_of (Some value) = Some (value_digest_of value)

-- Check 10: nothing is in memory, or its client's data tag is right over its timestamp and its value.
abbrev pub is_mem_right : List ℕ → ℕ → Option Mem → Bool
is_mem_right key j None = true
is_mem_right key j (Some mem) = is_same mem.tag (tag_of key (data_body j mem.t (digest_of mem.value)))

-- The timestamp of the memory: 0 where it is nothing.
abbrev pub time_of : Option Mem → ℕ
time_of None = 0
time_of (Some mem) = mem.t

-- Check 11: the memory is as of the last operation of j that the next version counts.
abbrev pub is_latest : Vector → ℕ → Option Mem → Bool
is_latest next j mem = time_of mem == timestamp_at next j

-- Check 12: the version of j is at most that of c, and counts of j the operations up to the one in memory or
-- up to the one before.
abbrev pub is_recent : Vector → ℕ → Vector → ℕ → Bool
is_recent version j version_of_j t =
    is_at_most version_of_j version && ((timestamp_at version_of_j j == t) || (timestamp_at version_of_j j + 1 == t))

-- A broken condition: the number of its check, and the place that it names.
abbrev pub broken : ℕ → ℕ → Option Notice
broken check place = Some (record { check = check; place = place })

-- A result, unless a condition before it is broken.
abbrev pub unless : {X : Type 0} → Option Notice → Result X Notice → Result X Notice
unless None due = due
unless (Some notice) due = Err notice

-- The first of the checks 3, 4 and 5 that is broken, if any.
unfoldable pub broken_base : List ℕ → ℕ → Vector → Operation → Reply → Option Notice
broken_base key me own op reply =
    if not (is_part_for op.kind op.register reply.read) then broken 3 0
    else if not (is_known_right key reply.c reply.version) then broken 4 0
    else if not (is_own_kept me own reply.version.version) then broken 5 0
    else None

-- The first of the checks 6, 7 and 8 that tuple q breaks, if any, where the walk came so far.
unfoldable pub broken_tuple : List ℕ → ℕ → List (Option (List ℕ)) → ℕ → Walk → Tuple → Option Notice
broken_tuple key me proofs q walk tuple =
    if not (is_of_another me tuple) then broken 6 q
    else if not (is_proven key proofs walk.version tuple.client) then broken 7 q
    else if not (is_next_submitted key walk.version tuple) then broken 8 q
    else None

-- The walk begins with the version of c and the digest of all that it stands for.
abbrev pub begun : Reply → Walk
begun reply = record { version = reply.version.version; digest = digest_at reply.version.version reply.c }

-- One more operation of client k: the digest is that of the chain with k behind it, and becomes the digest of k.
abbrev pub advanced : Walk → ℕ → Walk
advanced walk k = record { version = stepped walk.version k (link walk.digest k); digest = Some (link walk.digest k) }

-- The walk over tuple q and those behind it: where it ends, or the first broken condition.
abbrev pub walked : List ℕ → ℕ → List (Option (List ℕ)) → ℕ → Walk → List Tuple → Result Walk Notice
walked key me proofs q walk [] = Ok walk
walked key me proofs q walk (tuple ∷ rest) =
    unless (broken_tuple key me proofs q walk tuple) (walked key me proofs (q + 1) (advanced walk tuple.client) rest)

-- The first of the checks 9 to 12 that the read part breaks, if any.
unfoldable pub broken_part : List ℕ → Vector → Vector → ReadPart → Option Notice
broken_part key version next part =
    if not (is_known_right key part.register part.version) then broken 9 0
    else if not (is_mem_right key part.register part.mem) then broken 10 0
    else if not (is_latest next part.register part.mem) then broken 11 0
    else if not (is_recent version part.register part.version.version (time_of part.mem)) then broken 12 0
    else None

-- What a write tells, and what a read tells whose part breaks no check: the value, and the version of j.
abbrev pub answered : List ℕ → Vector → Vector → Option ReadPart → Result Judged Notice
answered key version next None = Ok (record { next = next; value = None; asof = 0; heard = None })
answered key version next (Some part) = unless (broken_part key version next part)
    (Ok (record { next = next; value = value_of part.mem; asof = time_of part.mem; heard = Some part.version }))

-- After the tuples comes the own operation, which makes the next version.
abbrev pub completed : List ℕ → ℕ → Reply → Result Walk Notice → Result Judged Notice
completed key me reply (Ok walk) = answered key reply.version.version (advanced walk me).version reply.read
completed key me reply (Err notice) = Err notice

-- The first broken condition of checks 3 to 12, or what the reply tells.
unfoldable pub judged : List ℕ → ℕ → Vector → Operation → Reply → Result Judged Notice
judged key me own op reply =
    unless (broken_base key me own op reply) (completed key me reply (walked key me reply.proofs 1 (begun reply) reply.pending))

-- An answer is the one due. Only want of memory is free.
abbrev pub Gives : {X : Type 0} → Result X JudgeError → Result X Notice → Type 0
Gives (Ok x) due = due ≡ Ok x
Gives (Err (refusals.Check check place)) due = due ≡ Err (record { check = check; place = place })
Gives (Err refusals.OutOfMemory) due = Unit {0}

-- The same of an answer that says only whether a condition is broken.
abbrev pub Passes : {X : Type 0} → Result X JudgeError → Option Notice → Type 0
Passes (Ok x) due = due ≡ None
Passes (Err (refusals.Check check place)) due = due ≡ broken check place
Passes (Err refusals.OutOfMemory) due = Unit {0}
