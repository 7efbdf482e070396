use Rattle.std.proofs.Common.{◌≡◌, ◌+◌, length}
use Rattle.std.specs.Vec.Iter.{into_iter_len}
use Rattle.faust_cluster.specs.Casting.{IsJoining}
use Rattle.faust_cluster.proofs.stage.journals_of.Given as goal

abbrev pub invariant-loop-node : goal.invariant-loop-node
invariant-loop-node g l = record {
  can_next : (goal.iterator-loop-node g).can_next l.node-iterator;
  finite : (goal.iterator-loop-node g).is_finite l.node-iterator;
  as_many : length l.journals + into_iter_len l.node-iterator ≡ length l.fn.nodes.items;
  joining : IsJoining g.T.Session.config l.root (into_iter_len l.node-iterator + 1) l.journals;
}
