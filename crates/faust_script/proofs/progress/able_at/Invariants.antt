use Rattle.std.proofs.Common.{◌≡◌, ◌+◌, ◌<◌, length, drop, get_or}
use Rattle.faust_script.specs.Generated.{able_from}
use Rattle.faust_script.proofs.progress.able_at.Given as goal

abbrev pub invariant-loop-actor : goal.invariant-loop-actor
invariant-loop-actor l = record {
  client_is : l.client ≡ l.actor-index;
  within : l.left < length (able_from l.may_begin (l.actor-index + 1) (drop l.actor-index l.actors));
  so_far : get_or (able_from l.may_begin (l.actor-index + 1) (drop l.actor-index l.actors)) l.left 0
      ≡ get_or (able_from l.may_begin 1 l.actors) l.place 0;
}
