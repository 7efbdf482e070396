use Rattle.faust_sampled.proofs.Playing.{plays-through}
use Rattle.faust_sampled.proofs.laws.generated_scripts_play_through.Goals as goal

pub returns : goal.returns
returns c = λ seed n ops size. plays-through seed n ops size
