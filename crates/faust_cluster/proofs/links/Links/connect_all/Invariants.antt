use Rattle.std.proofs.Common.{◌≡◌, length}
use Rattle.faust_cluster.proofs.links.Links.connect_all.Given as goal

abbrev pub invariant-loop-before : goal.invariant-loop-before
invariant-loop-before g l = record {
  count : g.N.Net.faults l.net ≡ g.N.Net.faults l.fn.net;
  as_many : length l.links.items ≡ l.before;
}
