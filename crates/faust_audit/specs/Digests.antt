-- What a book of digests holds. It helps proofs.
use Rattle.std.specs.Prelude.{◌≡◌, ℕ, List, [], ◌∷◌}
use Rattle.std.specs.Global.{Vec}
use Rattle.faust_hash.specs.Chain.{input_digest}

-- Each digest is that of the input beside it.
abbrev pub AreDigests : List (Vec ℕ × List ℕ) → Type 0
AreDigests [] = Unit {0}
AreDigests (entry ∷ rest) = (entry.1 ≡ input_digest entry.0.items) × AreDigests rest
