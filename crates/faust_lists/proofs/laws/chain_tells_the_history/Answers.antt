use Rattle.faust_lists.proofs.Chains.{chain_of-same}
use Rattle.faust_lists.proofs.laws.chain_tells_the_history.Goals as goal

pub returns : goal.returns
returns c = chain_of-same
