-- Each digest is a list of 32 bytes.
use Rattle.std.proofs.Common.{◌≡◌, ◌<◌, ℕ, zero, suc, List, length, Option, arith}
use Rattle.std.specs.List.{All}
use Rattle.std.specs.Prelude.{slice_index}
use Rattle.std.specs.Int.{byte_at, bytes_high_first, to_be_bytes, w32}
use Rattle.std.proofs.lemmas.List.Elements.{All-append, All-cons, All-nil}
use Rattle.sha2.specs.Sha256.{digest_bytes, final_hash, initial_hash_256, sha256}
use Rattle.sha2.proofs.Facts256.{length-sha256}
use Rattle.faust_hash.specs.Chain.{input_digest, link, value_digest_of}
use Rattle.faust_hash.specs.Hmac.{hmac_of}

abbrev IsByte : ℕ → Type 0
IsByte n = n < 256

byte_at-lt : (i n : ℕ) → byte_at i n < 256
byte_at-lt zero n = omega arith
byte_at-lt (suc i) n = omega arith

bytes_high_first-bytes : (k n : ℕ) → All (λ byte. byte < 256) (bytes_high_first k n)
bytes_high_first-bytes zero n = All-nil IsByte
bytes_high_first-bytes (suc k) n =
    All-cons IsByte (byte_at k n) (bytes_high_first k n) (byte_at-lt k n) (bytes_high_first-bytes k n)

digest_bytes-bytes : (h : List ℕ) (n : ℕ) → All (λ byte. byte < 256) (digest_bytes h n)
unfolding digest_bytes
digest_bytes-bytes h zero = All-nil IsByte
digest_bytes-bytes h (suc n) =
    let word = slice_index h n in
    All-append IsByte (digest_bytes h n) (to_be_bytes w32 word) (digest_bytes-bytes h n) (bytes_high_first-bytes 4 word)

-- each element of a digest of SHA-256 is a byte
pub sha256-bytes : (m : List ℕ) → All (λ byte. byte < 256) (sha256 m)
unfolding sha256
sha256-bytes m = digest_bytes-bytes (final_hash initial_hash_256 m) 8

pub tag_length : (key body : List ℕ) → length (hmac_of key body) ≡ 32
unfolding hmac_of
tag_length key body = length-sha256 _

pub tag_bytes : (key body : List ℕ) → All (λ byte. byte < 256) (hmac_of key body)
unfolding hmac_of
tag_bytes key body = sha256-bytes _

pub input_length : (input : List ℕ) → length (input_digest input) ≡ 32
unfolding input_digest
input_length input = length-sha256 _

pub input_bytes : (input : List ℕ) → All (λ byte. byte < 256) (input_digest input)
unfolding input_digest
input_bytes input = sha256-bytes _

pub link_length : (before : Option (List ℕ)) (k : ℕ) → length (link before k) ≡ 32
unfolding link
link_length before k = length-sha256 _

pub link_bytes : (before : Option (List ℕ)) (k : ℕ) → All (λ byte. byte < 256) (link before k)
unfolding link
link_bytes before k = sha256-bytes _

pub value_length : (value : List ℕ) → length (value_digest_of value) ≡ 32
unfolding value_digest_of
value_length value = length-sha256 _

pub value_bytes : (value : List ℕ) → All (λ byte. byte < 256) (value_digest_of value)
unfolding value_digest_of
value_bytes value = sha256-bytes _
