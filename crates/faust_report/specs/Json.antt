-- The report of a run as JSON. The promise of `json` rests on this file: one object, compact, on one line.
use Rattle.std.specs.Prelude.{ℕ, List, [], ◌∷◌, ◌++◌, map, flat_map, codes, Option, Some, None}
use Rattle.serde_json.specs.Data.{Data, unsigned, null, number, string, array, object, member, no_members}
use Rattle.serde_json.specs.View.{items_of}
use Rattle.serde_json.specs.Written.{compact_text}
use Rattle.faust_types.specs.declared.operation.OpName.{OpName}
use Rattle.faust_types.specs.declared.operation.Answer.{Answer}
use Rattle.faust_types.specs.declared.operation.Notice.{Notice}
use Rattle.faust_record.specs.declared.findings.Fact.{Fact}
use Rattle.faust_record.specs.declared.findings.Findings.{Findings}
use Rattle.faust_report.specs.Text.{name_text}

abbrev pub list_data : List Data → Data
list_data items = array (items_of items)

abbrev pub number_data : ℕ → Data
number_data x = number (unsigned x)

-- Names are texts, as in the lines of the report.
abbrev pub name_data : OpName → Data
name_data name = string (name_text name)

abbrev pub names_data : List OpName → Data
names_data names = list_data (map name_data names)

-- `{"client":I,"cut":[..],"entry":Q}`: the cut changed.
abbrev pub cut_data : ℕ → ℕ → List ℕ → Data
cut_data entry client cut = object
    (member (codes "client") (number_data client)
    (member (codes "cut") (list_data (map number_data cut))
    (member (codes "entry") (number_data entry) no_members)))

-- `{"check":C,"client":I,"entry":Q,"place":P}`: a check broke.
abbrev pub failure_data : ℕ → ℕ → Notice → Data
failure_data entry client notice = object
    (member (codes "check") (number_data notice.check)
    (member (codes "client") (number_data client)
    (member (codes "entry") (number_data entry)
    (member (codes "place") (number_data notice.place) no_members))))

-- What an entry adds to the lists of cuts, of completed operations and of failures.
abbrev pub some_data : {A : Type 0} → (A → Data) → Option A → List Data
some_data each None = []
some_data each (Some x) = each x ∷ []

abbrev pub cuts_in : Fact → List Data
cuts_in fact = some_data (cut_data fact.entry fact.client) fact.cut

abbrev pub done_in : Fact → List Data
done_in fact = some_data (λ (answer : Answer). name_data answer.op.name) fact.done

abbrev pub failures_in : Fact → List Data
failures_in fact = some_data (failure_data fact.entry fact.client) fact.notice

-- The number of the entry that departed, or null; the order, or null where one departed.
abbrev pub departure_data : Option ℕ → Data
departure_data None = null
departure_data (Some entry) = number_data entry

abbrev pub order_data : Option ℕ → List OpName → Data
order_data None order = names_data order
order_data (Some entry) order = null

-- The whole report, its keys in their order.
abbrev pub report_data : Findings → Data
report_data found = object
    (member (codes "clients") (number_data found.clients)
    (member (codes "cuts") (list_data (flat_map cuts_in found.facts))
    (member (codes "departure") (departure_data found.departure)
    (member (codes "done") (list_data (flat_map done_in found.facts))
    (member (codes "entries") (number_data found.entries)
    (member (codes "failures") (list_data (flat_map failures_in found.facts))
    (member (codes "order") (order_data found.departure found.order)
    (member (codes "views") (list_data (map names_data found.views)) no_members))))))))

-- As text: no blank between the tokens, and a line feed at the end.
unfoldable pub json_text : Findings → List ℕ
json_text found = compact_text (report_data found) ++ 10 ∷ []
