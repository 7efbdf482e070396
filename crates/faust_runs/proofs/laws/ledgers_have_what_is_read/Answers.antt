use Rattle.faust_runs.proofs.Claims.{run-fork_view, run-history, run-view}
use Rattle.faust_runs.proofs.laws.ledgers_have_what_is_read.Goals as goal

pub returns-clause-history : goal.returns-clause-history
returns-clause-history c = run-history

pub returns-clause-fork_view : goal.returns-clause-fork_view
returns-clause-fork_view c = run-fork_view

pub returns-clause-view : goal.returns-clause-view
returns-clause-view c = run-view
