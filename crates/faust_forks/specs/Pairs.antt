-- The bodies and tags that a reply, or a message between clients, has to answer for: its checked pairs. The premise
-- that no tag is forged rests on this file.
use Rattle.std.specs.Prelude.{◌≡◌, ℕ, ◌+◌, ◌^◌, cond, nat_lt, List, [], ◌∷◌, ◌++◌, Option, None, Some}
use Rattle.faust_types.specs.Versions.{digest_at, is_initial, timestamp_at}
use Rattle.faust_types.specs.declared.message.Known.{Known}
use Rattle.faust_types.specs.declared.message.Tuple.{Tuple}
use Rattle.faust_types.specs.declared.message.Mem.{Mem}
use Rattle.faust_types.specs.declared.message.ReadPart.{ReadPart}
use Rattle.faust_types.specs.declared.message.Reply.{Reply}
use Rattle.faust_types.specs.declared.message.PeerMessage.{PeerMessage}
use Rattle.faust_tags.specs.Bodies.{commit_body, data_body, peer_body, proof_body, submit_body, tag_of}
use Rattle.faust_ustor.specs.declared.walk.Walk.{Walk}
use Rattle.faust_ustor.specs.Checks.{advanced, begun, digest_of, proof_at}
use Rattle.faust_lists.specs.Names.{Has}
use Rattle.faust_forks.specs.Sources.{IsMade, Source}

-- A body and the tag that comes for it.
pub record Pair : Type 0 where
  pub body : List ℕ
  pub tag : List ℕ

-- Of a version that client k made: none where it is initial.
abbrev pub known_pairs : ℕ → Known → List Pair
known_pairs k known =
    cond (is_initial known.version) [] (record { body = commit_body k known.version; tag = known.tag } ∷ [])

-- Of a digest of client k and the proof of it, where both are there.
abbrev pub proof_pairs : ℕ → Option (List ℕ) → Option (List ℕ) → List Pair
proof_pairs k None proof = []
proof_pairs k (Some digest) None = []
proof_pairs k (Some digest) (Some proof) = record { body = proof_body k digest; tag = proof } ∷ []

-- Of a tuple, at the walk that came to it.
abbrev pub submit_pair : Walk → Tuple → Pair
submit_pair walk tuple = record {
  body = submit_body tuple.client tuple.kind tuple.register (timestamp_at walk.version tuple.client + 1);
  tag = tuple.tag;
}

-- Of what is in the memory of client j.
abbrev pub mem_pairs : ℕ → Option Mem → List Pair
mem_pairs j None = []
mem_pairs j (Some mem) = record { body = data_body j mem.t (digest_of mem.value); tag = mem.tag } ∷ []

abbrev pub read_pairs : Option ReadPart → List Pair
read_pairs None = []
read_pairs (Some part) = known_pairs part.register part.version ++ mem_pairs part.register part.mem

-- Of tuples, from a walk on, and of what comes behind them. Where a client has no next operation, they end with the
-- pair of its digest.
abbrev pub tuple_pairs : List (Option (List ℕ)) → List Pair → Walk → List Tuple → List Pair
tuple_pairs proofs behind walk [] = behind
tuple_pairs proofs behind walk (tuple ∷ rest) =
    proof_pairs tuple.client (digest_at walk.version tuple.client) (proof_at proofs tuple.client)
    ++ cond (nat_lt (timestamp_at walk.version tuple.client + 1) (2 ^ 40))
    (submit_pair walk tuple ∷ tuple_pairs proofs behind (advanced walk tuple.client) rest)
    []

-- The checked pairs of a reply, in the order of checks 4, 7 and 8 tuple by tuple, 9 and 10.
abbrev pub checked : Reply → List Pair
checked reply =
    known_pairs reply.c reply.version ++ tuple_pairs reply.proofs (read_pairs reply.read) (begun reply) reply.pending

-- The checked pair of a message between clients.
abbrev pub peer_pair : PeerMessage → Pair
peer_pair message = record { body = peer_body message; tag = message.tag }

-- No tag among the pairs is forged: where it is right, the body was made.
abbrev pub AreMade : List ℕ → List Source → List Pair → Type 0
AreMade key made pairs = (pair : Pair) → Has pairs pair → pair.tag ≡ tag_of key pair.body → IsMade made pair.body
