use Rattle.faust_forks.proofs.Operations.{fork-named}
use Rattle.faust_forks.proofs.laws.fork_counts_on_from_the_version.Goals as goal

pub returns : goal.returns
returns c = fork-named
