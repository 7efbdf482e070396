use Rattle.std.proofs.Common.{◌≡◌, ◌+◌, drop}
use Rattle.faust_sim.specs.Play.{head_lines, played, played_from}
use Rattle.faust_sim.specs.Playing.{IsKept, scene_of}
use Rattle.faust_sim.proofs.playing.play.Given as goal

abbrev pub invariant-loop-event : goal.invariant-loop-event
invariant-loop-event l = record {
  kept : IsKept l.stage;
  same_config : l.stage.run.config ≡ l.script.config;
  line_is : l.line ≡ head_lines l.script.format + l.event-index;
  so_far : played_from (scene_of l.stage) (l.line + 1) (drop l.event-index l.script.events) ≡ played l.script;
}
