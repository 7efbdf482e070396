use Rattle.std.proofs.Common.{◌≡◌, take, map}
use Rattle.serde_json.specs.View.{view}
use Rattle.faust_report.specs.Json.{number_data}
use Rattle.faust_report.proofs.json_report.numbers_value.Given as goal

abbrev pub invariant-loop-x : goal.invariant-loop-x
invariant-loop-x l = map view l.list.items ≡ map number_data (take l.x-index l.numbers)
