use Rattle.std.proofs.Common.{◌≡◌, ◌+◌, ◌≤◌, length}
use Rattle.faust_cluster.proofs.running.jobs_of.Given as goal

abbrev pub invariant-loop-before : goal.invariant-loop-before
invariant-loop-before g l = record {
  links_left : length l.links + l.before ≡ l.n;
  clocks_left : 8 ≤ length l.clocks + l.before;
}
