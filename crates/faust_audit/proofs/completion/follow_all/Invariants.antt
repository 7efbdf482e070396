use Rattle.std.proofs.Common.{◌≡◌, ◌++◌, ℕ, drop}
use Rattle.faust_types.specs.Versions.{clients_of}
use Rattle.faust_ustor.specs.Hashed.{chain_inputs}
use Rattle.faust_ustor.specs.Passed.{followed}
use Rattle.faust_audit.specs.Watching.{have_next}
use Rattle.faust_audit.proofs.completion.follow_all.Given as goal

abbrev pub invariant-loop-tuple : goal.invariant-loop-tuple
invariant-loop-tuple l = record {
  items : l.tuple-items ≡ l.reply.pending;
  sized : clients_of l.walk.version ≡ clients_of l.reply.version.version;
  hashed : l.hashed ++ chain_inputs l.walk (drop l.tuple-index l.reply.pending)
      ≡ l.fn.hashed ++ chain_inputs l.fn.walk l.reply.pending;
  walked : followed l.walk (drop l.tuple-index l.reply.pending) ≡ followed l.fn.walk l.reply.pending;
  room : (me : ℕ) → have_next me l.walk (drop l.tuple-index l.reply.pending) ≡ have_next me l.fn.walk l.reply.pending;
}
