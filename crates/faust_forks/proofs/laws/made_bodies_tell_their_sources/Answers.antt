use Rattle.faust_forks.proofs.Made.{made-submit, made-data, made-commit, made-proof, made-peer}
use Rattle.faust_forks.proofs.laws.made_bodies_tell_their_sources.Goals as goal

pub returns-clause-submit : goal.returns-clause-submit
returns-clause-submit c = made-submit

pub returns-clause-data_part : goal.returns-clause-data_part
returns-clause-data_part c = made-data

pub returns-clause-commit : goal.returns-clause-commit
returns-clause-commit c = made-commit

pub returns-clause-proof : goal.returns-clause-proof
returns-clause-proof c = made-proof

pub returns-clause-peer : goal.returns-clause-peer
returns-clause-peer c = made-peer
