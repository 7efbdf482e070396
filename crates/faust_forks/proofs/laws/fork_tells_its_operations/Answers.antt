use Rattle.std.proofs.Common.{true}
use Rattle.faust_lists.proofs.Sifted.{distinct-sift}
use Rattle.faust_forks.proofs.Operations.{named-began, named-completed}
use Rattle.faust_forks.proofs.Ordered.{found-of}
use Rattle.faust_forks.proofs.laws.fork_tells_its_operations.Goals as goal

pub returns-clause-began : goal.returns-clause-began
returns-clause-began c = λ n past k t done a sound found has.
    named-began n past done.entry done.fork a (sound k t done found).fork has

pub returns-clause-once : goal.returns-clause-once
returns-clause-once c = λ fork. distinct-sift (λ front. true) fork

pub returns-clause-version : goal.returns-clause-version
returns-clause-version c = λ n past k t done sound found. (sound k t done found).version

pub returns-clause-counted : goal.returns-clause-counted
returns-clause-counted c = λ n past k t done sound found. (found-of n past k t done sound found).counted

pub returns-clause-completed : goal.returns-clause-completed
returns-clause-completed c = λ n past k t done a b sound found in_a in_b same later.
    named-completed n past done.entry done.fork a b (sound k t done found).fork in_a in_b same later
