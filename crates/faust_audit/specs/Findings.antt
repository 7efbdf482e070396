-- What is found in a run, as plain data: `findings` rests on this file, and on `Departure` for the first reply that
-- departed.
use Rattle.std.specs.Prelude.{◌||◌, ℕ, cond, Bool, true, false, List, [], ◌∷◌, ◌++◌, length, Option, Some, None, is_none, is_some, option_and_then, option_to_list}
use Rattle.faust_types.specs.declared.config.Config.{Config}
use Rattle.faust_types.specs.declared.operation.Kind.{Kind}
use Rattle.faust_types.specs.declared.operation.Kind.TheVariants.{Write, Read}
use Rattle.faust_types.specs.declared.operation.OpName.{OpName}
use Rattle.faust_types.specs.declared.message.Submit.{Submit}
use Rattle.faust_types.specs.declared.message.Message.{Message}
use Rattle.faust_types.specs.declared.message.Message.TheVariants as messages
use Rattle.faust_wire.specs.Reading.{message_of}
use Rattle.faust_record.specs.Operations.{completion_named, started_among}
use Rattle.faust_record.specs.Runs.{Run, arriving}
use Rattle.faust_record.specs.declared.entry.Entry.{Entry}
use Rattle.faust_record.specs.declared.findings.Fact.{Fact}
use Rattle.faust_record.specs.declared.findings.Findings.{Findings}
use Rattle.faust_audit.specs.Departure.{first_departure}

-- What an entry gave its client.
abbrev pub fact_of : Entry → Fact
fact_of entry = record {
  entry = entry.number;
  client = entry.client;
  done = entry.outcome.answer;
  cut = entry.outcome.cut;
  probed = entry.outcome.probed;
  dummy = entry.outcome.began;
  notice = entry.outcome.notice;
}

-- One fact for each entry that isn't an arrival, in order.
abbrev pub facts_of : List Entry → List Fact
facts_of [] = []
facts_of (entry ∷ rest) = cond (is_none (arriving entry.input)) (fact_of entry ∷ facts_of rest) (facts_of rest)

-- The SUBMIT that bytes spell under the wire of the run, if they spell one.
abbrev pub as_submit : Option Message → Option Submit
as_submit None = None
as_submit (Some (messages.Submit m)) = Some m
as_submit (Some (messages.Reply m)) = None
as_submit (Some (messages.Commit m)) = None
as_submit (Some (messages.Peer m)) = None
as_submit (Some (messages.Hello client)) = None

abbrev pub submit_in : Config → List ℕ → Option Submit
submit_in config bytes = as_submit (message_of config.wire config.clients bytes)

-- The SUBMIT that arrives in an entry, if one does. It is that of the operation of its client with its number.
abbrev pub arriving_submit : Config → Entry → Option Submit
arriving_submit config entry = option_and_then (submit_in config) (arriving entry.input)

abbrev pub name_of : ℕ → Submit → OpName
name_of client m = record { client = client; t = m.t }

-- The order names an operation where its SUBMIT arrives: a write, or what completed anywhere in the run.
abbrev pub is_write : Kind → Bool
is_write Write = true
is_write Read = false

abbrev pub is_in_order : List Entry → ℕ → Submit → Bool
is_in_order entries client m = is_write m.kind || is_some (completion_named entries (name_of client m))

abbrev pub name_in_order : List Entry → ℕ → Submit → Option OpName
name_in_order entries client m = cond (is_in_order entries client m) (Some (name_of client m)) None

abbrev pub ordered_at : Config → List Entry → Entry → Option OpName
ordered_at config entries entry = option_and_then (name_in_order entries entry.client) (arriving_submit config entry)

abbrev pub order_among : Config → List Entry → List Entry → List OpName
order_among config entries [] = []
order_among config entries (entry ∷ rest) = option_to_list (ordered_at config entries entry) ++ order_among config entries rest

-- The operations that completed, and the writes whose SUBMIT arrived, by the places of their SUBMITs among what
-- arrived.
abbrev pub order_of : Config → List Entry → List OpName
order_of config entries = order_among config entries entries

-- All that is found, beside the lists of operations that clients saw. The order stands there also where a reply
-- departed.
unfoldable pub findings_of : Run → List (List OpName) → Findings
findings_of run views = record {
  clients = run.config.clients;
  entries = length run.entries;
  begun = length (started_among run.entries);
  facts = facts_of run.entries;
  views = views;
  departure = first_departure run.config run.entries;
  order = order_of run.config run.entries;
}
