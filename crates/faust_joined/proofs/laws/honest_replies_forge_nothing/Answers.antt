use Rattle.std.proofs.Common.{[]}
use Rattle.faust_joined.proofs.Clearing.{none-forged-at-all, without-made}
use Rattle.faust_joined.proofs.laws.honest_replies_forge_nothing.Goals as goal

pub returns-clause-among_peers : goal.returns-clause-among_peers
returns-clause-among_peers c = λ config entries run made none. none-forged-at-all config entries run made none

pub returns-clause-without_peers : goal.returns-clause-without_peers
returns-clause-without_peers c = λ config entries run alone none.
    none-forged-at-all config entries run (without-made config [] entries alone) none
