-- Tags and digests are 32 bytes in the words of messages, which crates above cite.
use Rattle.std.proofs.Common.{◌<◌, ℕ, List, length, Option, inl, inr, arith}
use Rattle.std.specs.List.{All}
use Rattle.std.proofs.lemmas.Bool.{cases_lt}
use Rattle.std.proofs.lemmas.List.{get_or_past}
use Rattle.faust_hash.proofs.Sizes.{input_bytes, input_length, link_bytes, link_length, tag_bytes, tag_length, value_bytes, value_length}
use Rattle.faust_hash.specs.Chain.{input_digest, link, value_digest_of}
use Rattle.faust_types.specs.Bytes.{AreBytes, IsDigest}
use Rattle.faust_tags.specs.Bodies.{tag_of}

-- what holds of each element holds of each place, since there is a 0 past the end
pub bytes-all : (bytes : List ℕ) → All (λ byte. byte < 256) bytes → AreBytes bytes
bytes-all bytes each i = elim (cases_lt i (length bytes)) [
  | inl lt ↦ each i 0 lt
  | inr ge ↦ omega (arith, get_or_past bytes i 0 ge)
]

pub digest-tag : (key body : List ℕ) → IsDigest (tag_of key body)
digest-tag key body = record { sized = tag_length key body; bytes_each = bytes-all (tag_of key body) (tag_bytes key body) }

pub digest-input : (input : List ℕ) → IsDigest (input_digest input)
digest-input input = record {
  sized = input_length input;
  bytes_each = bytes-all (input_digest input) (input_bytes input);
}

pub digest-link : (before : Option (List ℕ)) (k : ℕ) → IsDigest (link before k)
digest-link before k = record {
  sized = link_length before k;
  bytes_each = bytes-all (link before k) (link_bytes before k);
}

pub digest-value : (value : List ℕ) → IsDigest (value_digest_of value)
digest-value value = record {
  sized = value_length value;
  bytes_each = bytes-all (value_digest_of value) (value_bytes value);
}
