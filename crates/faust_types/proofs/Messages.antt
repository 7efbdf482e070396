-- The initial version that nobody made is in range, and it is the only one; and what memory in range has.
use Rattle.std.proofs.Common.{◌≡◌, ℕ, ◌<◌, true, Option, Some, None, List, IfSome, replicate, refl, sym, ap, ◌∙◌, inl, inr, arith}
use Rattle.std.proofs.lemmas.Bool.{cases_lt, true≢false}
use Rattle.std.proofs.lemmas.List.{get_or-replicate, get_or_past, length-replicate}
use Rattle.faust_types.specs.Clients.{IsClientCount}
use Rattle.faust_types.specs.Versions.{Vector, initial, is_initial}
use Rattle.faust_types.specs.Ranges.{AreBytes, IsDigest, IsValue, IsKnownBy, IsMem}
use Rattle.faust_types.specs.Messages.{unmade, value_of}
use Rattle.faust_types.specs.declared.message.Known.{Known}
use Rattle.faust_types.specs.declared.message.Mem.{Mem}
use Rattle.faust_types.proofs.Order.{is_initial-means}
use Rattle.faust_types.proofs.Entries.{in_range-initial}

pub AreBytes-replicate : (k b : ℕ) → b < 256 → AreBytes (replicate k b)
AreBytes-replicate k b below i = elim (cases_lt i k) [
  | inl lt ↦ omega (arith, get_or-replicate k i b 0 lt)
  | inr ge ↦ omega (arith, get_or_past (replicate k b) i 0 (omega (arith, length-replicate k b)))
]

pub IsDigest-replicate : (b : ℕ) → b < 256 → IsDigest (replicate 32 b)
IsDigest-replicate b below = record { sized = refl; bytes_each = AreBytes-replicate 32 b below }

pub is_initial-initial : (n : ℕ) → IsClientCount n → is_initial (initial n) ≡ true
is_initial-initial n count = (is_initial-means (initial n) (in_range-initial n count).kept).1 (ap initial (sym (length-replicate n 0)))

-- whoever was to make it
pub IsKnownBy-unmade : (n maker : ℕ) → IsClientCount n → IsKnownBy n maker (unmade n)
IsKnownBy-unmade n maker count = record {
  version_in_range = in_range-initial n count;
  tag_sized = IsDigest-replicate 0 (omega arith);
  unsigned = λ is. (refl, refl);
  signed = λ is_not. absurd (true≢false (sym (is_initial-initial n count) ∙ is_not));
}

abbrev known_of : ℕ → Vector → List ℕ → Known
known_of maker version tag = record { maker = maker; version = version; tag = tag }

-- no other is initial
pub unmade-only : (n maker : ℕ) (known : Known) → IsKnownBy n maker known → is_initial known.version ≡ true → known ≡ unmade n
unmade-only n maker known fits h =
    let nobody = fits.unsigned h in
    let version : known.version ≡ initial n = (is_initial-means known.version fits.version_in_range.kept).0 h ∙ ap initial fits.version_in_range.count in
    ap (λ (m : ℕ). known_of m known.version known.tag) nobody.0 ∙ ap (λ (v : Vector). known_of 0 v known.tag) version ∙ ap (known_of 0 (initial n)) nobody.1

pub value_of-in_range : (mem : Option Mem) → IfSome mem IsMem → IfSome (value_of mem) IsValue
value_of-in_range None h = tt
value_of-in_range (Some mem) h = h.value_in_range
