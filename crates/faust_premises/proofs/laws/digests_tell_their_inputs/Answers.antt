use Rattle.faust_premises.proofs.Collisions.{no-collision-free}
use Rattle.faust_premises.proofs.laws.digests_tell_their_inputs.Goals as goal

pub returns : goal.returns
returns c = λ config entries is_clean. no-collision-free config entries is_clean.no_collision
