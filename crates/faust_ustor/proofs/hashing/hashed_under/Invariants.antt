use Rattle.std.proofs.Common.{◌≡◌, ◌+◌, ◌++◌, drop}
use Rattle.faust_types.specs.Versions.{clients_of, timestamp_at}
use Rattle.faust_ustor.specs.Hashed.{hashed}
use Rattle.faust_ustor.specs.InRange.{IsWalkFor}
use Rattle.faust_ustor.proofs.Inputs.{rest_inputs}
use Rattle.faust_ustor.proofs.hashing.hashed_under.Given as goal

abbrev pub invariant-loop-before : goal.invariant-loop-before
invariant-loop-before l = record {
  items : l.tuple-items ≡ l.reply.pending;
  walk_for : IsWalkFor (clients_of l.own) l.me (timestamp_at l.reply.version.version l.me) l.walk;
  rest : l.inputs ++ rest_inputs l.key l.me l.reply (l.before + 1) l.walk (drop l.before l.reply.pending)
      ≡ hashed l.key l.me l.own l.op l.reply;
}
