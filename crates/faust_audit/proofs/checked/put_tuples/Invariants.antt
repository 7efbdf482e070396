use Rattle.std.proofs.Common.{◌≡◌, ◌++◌, List, drop}
use Rattle.faust_types.specs.Versions.{clients_of}
use Rattle.faust_ustor.specs.Checks.{begun}
use Rattle.faust_forks.specs.Pairs.{Pair, tuple_pairs}
use Rattle.faust_audit.proofs.checked.put_tuples.Given as goal

abbrev pub invariant-loop-tuple : goal.invariant-loop-tuple
invariant-loop-tuple l = record {
  items : l.tuple-items ≡ l.reply.pending;
  sized : clients_of l.walk.version ≡ clients_of l.reply.version.version;
  rest : (behind : List Pair) → l.out ++ tuple_pairs l.reply.proofs behind l.walk (drop l.tuple-index l.reply.pending)
      ≡ l.fn.out ++ tuple_pairs l.reply.proofs behind (begun l.reply) l.reply.pending;
}
