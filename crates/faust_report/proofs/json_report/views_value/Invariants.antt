use Rattle.std.proofs.Common.{◌≡◌, take, map}
use Rattle.serde_json.specs.View.{view}
use Rattle.faust_report.specs.Json.{names_data}
use Rattle.faust_report.proofs.json_report.views_value.Given as goal

abbrev pub invariant-loop-names : goal.invariant-loop-names
invariant-loop-names l = map view l.list.items ≡ map names_data (take l.names-index l.views)
