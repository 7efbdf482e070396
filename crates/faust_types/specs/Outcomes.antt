-- The outcome of an event that gave nothing.
use Rattle.std.specs.Prelude.{[], None}
use Rattle.faust_types.specs.declared.outcome.Outcome.{Outcome}

abbrev pub nothing : Outcome
nothing = record {
  to_server = None;
  to_peers = [];
  answer = None;
  cut = None;
  probed = [];
  began = None;
  notice = None;
}
