use Rattle.std.proofs.Common.{◌≡◌, take, map}
use Rattle.serde_json.specs.View.{view}
use Rattle.faust_report.specs.Json.{name_data}
use Rattle.faust_report.proofs.json_report.names_value.Given as goal

abbrev pub invariant-loop-name : goal.invariant-loop-name
invariant-loop-name l = map view l.list.items ≡ map name_data (take l.name-index l.names)
