use Rattle.std.proofs.Common.{true}
use Rattle.faust_forks.specs.Books.{find}
use Rattle.faust_forks.specs.Pasts.{fork_of}
use Rattle.faust_names.proofs.Telling.{fork_view-completed, fork_view-gapless, fork_view-operations}
use Rattle.faust_names.proofs.Viewed.{listed-distinct}
use Rattle.faust_names.proofs.laws.fork_views_tell_operations.Goals as goal

pub returns-clause-operations : goal.returns-clause-operations
returns-clause-operations c = fork_view-operations

pub returns-clause-once : goal.returns-clause-once
returns-clause-once c = λ book a. listed-distinct (λ front. true) (fork_of (find book a.client a.t))

pub returns-clause-gapless : goal.returns-clause-gapless
returns-clause-gapless c = fork_view-gapless

pub returns-clause-completed : goal.returns-clause-completed
returns-clause-completed c = fork_view-completed
