use Rattle.std.proofs.Common.{◌≡◌, ◌+◌, ◌≤◌, length, drop}
use Rattle.faust_script.specs.Generated.{able_from}
use Rattle.faust_script.proofs.progress.able_count.Given as goal

abbrev pub invariant-loop-actor : goal.invariant-loop-actor
invariant-loop-actor l = record {
  few : l.count ≤ l.actor-index;
  so_far : l.count + length (able_from l.may_begin (l.actor-index + 1) (drop l.actor-index l.actors))
      ≡ length (able_from l.may_begin 1 l.actors);
}
