use Rattle.std.proofs.Common.{ℕ, ◌<◌, None, IfSome, get_or}
use Rattle.faust_types.specs.Ranges.{IsDigest}
use Rattle.faust_ustor.proofs.tests.in_range.are_proofs.Given as goal

abbrev pub invariant-loop-proof : goal.invariant-loop-proof
invariant-loop-proof l = (i : ℕ) → i < l.proof-index → IfSome (get_or l.proofs i None) IsDigest
