use Rattle.std.proofs.Common.{◌≡◌, ◌+◌, length}
use Rattle.faust_cluster.specs.Casting.{IsSplitting}
use Rattle.faust_cluster.proofs.stage.nodes_of.Given as goal

abbrev pub invariant-loop-before : goal.invariant-loop-before
invariant-loop-before g l = record {
  as_many : length l.nodes.items ≡ l.before;
  splitting : IsSplitting l.root (l.before + 1);
}
