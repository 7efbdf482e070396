use Rattle.faust_runs.proofs.Claims.{run-completed, run-gapless, run-once, run-operations}
use Rattle.faust_runs.proofs.laws.fork_views_tell_operations.Goals as goal

pub returns-clause-operations : goal.returns-clause-operations
returns-clause-operations c = run-operations

pub returns-clause-once : goal.returns-clause-once
returns-clause-once c = run-once

pub returns-clause-gapless : goal.returns-clause-gapless
returns-clause-gapless c = run-gapless

pub returns-clause-completed : goal.returns-clause-completed
returns-clause-completed c = run-completed
