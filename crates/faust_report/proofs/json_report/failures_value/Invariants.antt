use Rattle.std.proofs.Common.{◌≡◌, take, flat_map, map}
use Rattle.serde_json.specs.View.{view}
use Rattle.faust_report.specs.Json.{failures_in}
use Rattle.faust_report.proofs.json_report.failures_value.Given as goal

abbrev pub invariant-loop-fact : goal.invariant-loop-fact
invariant-loop-fact l = map view l.failures.items ≡ flat_map failures_in (take l.fact-index l.facts)
