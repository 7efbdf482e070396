-- The report of a run as text. The promises of `text` and `body` rest on this file. Each line is words with one blank
-- between them; a line of an entry begins with the entry's number.
use Rattle.std.specs.Prelude.{ℕ, ◌+◌, List, [], ◌∷◌, ◌++◌, map, flat_map, codes, Option, Some, None}
use Rattle.std.specs.Fmt.{decimal}
use Rattle.faust_types.specs.declared.operation.Kind.{Kind}
use Rattle.faust_types.specs.declared.operation.Kind.TheVariants.{Write, Read}
use Rattle.faust_types.specs.declared.operation.OpName.{OpName}
use Rattle.faust_types.specs.declared.operation.Operation.{Operation}
use Rattle.faust_types.specs.declared.operation.Answer.{Answer}
use Rattle.faust_types.specs.declared.operation.Notice.{Notice}
use Rattle.faust_text.specs.Lines.{ended_text}
use Rattle.faust_text.specs.Tokens.{joined}
use Rattle.faust_text.specs.Values.{value_text}
use Rattle.faust_record.specs.declared.findings.Fact.{Fact}
use Rattle.faust_record.specs.declared.findings.Findings.{Findings}

-- `I.T`, the name of an operation; `XJ`, a register; `I:`, whose line it is.
abbrev pub name_text : OpName → List ℕ
name_text name = decimal name.client ++ (codes "." ++ decimal name.t)

abbrev pub register_text : ℕ → List ℕ
register_text register = codes "X" ++ decimal register

abbrev pub client_text : ℕ → List ℕ
client_text client = decimal client ++ codes ":"

-- `clients N` and `entries M`.
abbrev pub clients_line : ℕ → List ℕ
clients_line n = joined (codes "clients" ∷ decimal n ∷ [])

abbrev pub entries_line : ℕ → List ℕ
entries_line m = joined (codes "entries" ∷ decimal m ∷ [])

-- `Q done I.T write XI`, or `Q done I.T read XJ V asof A`: an operation completed.
abbrev pub answer_text : Kind → Answer → List ℕ
answer_text Write answer = joined (codes "write" ∷ register_text answer.op.register ∷ [])
answer_text Read answer =
    joined (codes "read" ∷ register_text answer.op.register ∷ value_text answer.value ∷ codes "asof" ∷ decimal answer.asof ∷ [])

abbrev pub done_line : ℕ → Answer → List ℕ
done_line entry answer =
    joined (decimal entry ∷ codes "done" ∷ name_text answer.op.name ∷ answer_text answer.op.kind answer ∷ [])

-- `Q cut I: W1 .. WN`: the cut changed.
abbrev pub cut_line : ℕ → ℕ → List ℕ → List ℕ
cut_line entry client cut = joined (decimal entry ∷ codes "cut" ∷ client_text client ∷ map decimal cut)

-- `Q probe I: J ..`: these clients were probed.
abbrev pub probe_line : ℕ → ℕ → List ℕ → List ℕ
probe_line entry client probed = joined (decimal entry ∷ codes "probe" ∷ client_text client ∷ map decimal probed)

-- `Q dummy I.T XJ`: a tick began a dummy read.
abbrev pub dummy_line : ℕ → Operation → List ℕ
dummy_line entry op = joined (decimal entry ∷ codes "dummy" ∷ name_text op.name ∷ register_text op.register ∷ [])

-- `Q fail I: check C place P`: a check broke.
abbrev pub notice_text : Notice → List ℕ
notice_text notice = joined (codes "check" ∷ decimal notice.check ∷ codes "place" ∷ decimal notice.place ∷ [])

abbrev pub fail_line : ℕ → ℕ → Notice → List ℕ
fail_line entry client notice = joined (decimal entry ∷ codes "fail" ∷ client_text client ∷ notice_text notice ∷ [])

-- The lines of an entry, each only where it applies.
abbrev pub if_some : {A : Type 0} → (A → List ℕ) → Option A → List (List ℕ)
if_some line None = []
if_some line (Some x) = line x ∷ []

abbrev pub if_any : (List ℕ → List ℕ) → List ℕ → List (List ℕ)
if_any line [] = []
if_any line (x ∷ xs) = line (x ∷ xs) ∷ []

abbrev pub fact_lines : Fact → List (List ℕ)
fact_lines fact =
    if_some (done_line fact.entry) fact.done
    ++ (if_some (cut_line fact.entry fact.client) fact.cut
    ++ (if_any (probe_line fact.entry fact.client) fact.probed
    ++ (if_some (dummy_line fact.entry) fact.dummy
    ++ if_some (fail_line fact.entry fact.client) fact.notice)))

-- `view I: NAMES`: what client I saw, from client 1 on.
abbrev pub view_line : ℕ → List OpName → List ℕ
view_line client names = joined (codes "view" ∷ client_text client ∷ map name_text names)

abbrev pub view_lines : ℕ → List (List OpName) → List (List ℕ)
view_lines client [] = []
view_lines client (names ∷ views) = view_line client names ∷ view_lines (client + 1) views

-- `departure none`, or `departure Q`.
abbrev pub departure_word : Option ℕ → List ℕ
departure_word None = codes "none"
departure_word (Some entry) = decimal entry

abbrev pub departure_line : Option ℕ → List ℕ
departure_line departure = joined (codes "departure" ∷ departure_word departure ∷ [])

-- `order: NAMES`, where nothing departed.
abbrev pub order_lines : Option ℕ → List OpName → List (List ℕ)
order_lines None order = joined (codes "order:" ∷ map name_text order) ∷ []
order_lines (Some entry) order = []

-- The lines up to those of the last entry; and these with the views.
abbrev pub entry_lines : Findings → List (List ℕ)
entry_lines found = clients_line found.clients ∷ entries_line found.entries ∷ flat_map fact_lines found.facts

abbrev pub body_lines : Findings → List (List ℕ)
body_lines found = entry_lines found ++ view_lines 1 found.views

-- The whole report: its title, the entries and the views, the departure, the order, and the end.
abbrev pub report_lines : Findings → List (List ℕ)
report_lines found =
    codes "faust report 1"
    ∷ (body_lines found
    ++ (departure_line found.departure
    ∷ (order_lines found.departure found.order
    ++ codes "end" ∷ [])))

-- As text: a line feed ends each line.
unfoldable pub body_text : Findings → List ℕ
body_text found = ended_text (body_lines found)

unfoldable pub report_text : Findings → List ℕ
report_text found = ended_text (report_lines found)
