use Rattle.std.proofs.Common.{◌≡◌, drop, length}
use Rattle.faust_sim.specs.Kept.{AreToClients, noted_from}
use Rattle.faust_sim.proofs.letters.Letters.note.Given as goal

abbrev pub invariant-loop-index : goal.invariant-loop-index
invariant-loop-index l = record {
  so_far : noted_from l.self l.entry l.index (drop l.index l.posts) ≡ noted_from l.initial.self l.entry 0 l.posts;
  clients : AreToClients (length l.self) (drop l.index l.posts);
}
