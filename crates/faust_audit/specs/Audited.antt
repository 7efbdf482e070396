-- What the calls of this crate answer, in the words of the premises. Their promises rest on it.
use Rattle.std.specs.Prelude.{ℕ, List}
use Rattle.faust_forks.specs.Pairs as forks
use Rattle.faust_premises.specs.Premises.{Verdict, clean, collision, forged, is_right}
use Rattle.faust_audit.specs.declared.answers.Premises.{Premises}
use Rattle.faust_audit.specs.declared.answers.Premises.TheVariants as premises
use Rattle.faust_audit.specs.declared.answers.Pair.{Pair}

abbrev pub verdict_in : Premises → Verdict
verdict_in premises.Clean = clean
verdict_in (premises.Forged entry body) = forged entry body
verdict_in (premises.Collision first second) = collision first second

-- A checked pair as it is answered: its body, and whether its tag is right under the key.
abbrev pub pair_told : List ℕ → forks.Pair → Pair
pair_told key pair = record { body = pair.body; right = is_right key pair }
