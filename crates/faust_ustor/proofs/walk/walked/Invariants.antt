use Rattle.std.proofs.Common.{◌≡◌, ◌+◌, drop}
use Rattle.faust_types.specs.Versions.{clients_of, timestamp_at}
use Rattle.faust_ustor.specs.Checks.{begun, walked}
use Rattle.faust_ustor.specs.InRange.{IsWalkFor}
use Rattle.faust_ustor.proofs.walk.walked.Given as goal

abbrev pub invariant-loop-before : goal.invariant-loop-before
invariant-loop-before l = record {
  items : l.tuple-items ≡ l.reply.pending;
  walk_for : IsWalkFor (clients_of l.reply.version.version) l.me (timestamp_at l.reply.version.version l.me) l.walk;
  rest : walked l.key l.me l.reply.proofs (l.before + 1) l.walk (drop l.before l.reply.pending)
      ≡ walked l.key l.me l.reply.proofs 1 (begun l.reply) l.reply.pending;
}
