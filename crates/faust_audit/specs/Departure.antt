-- The first reply of a run that departs from the protocol: `departure` rests on this file. The honest server is run
-- over the messages that arrived, and each reply that was handed to a client is compared with the one that is due.
use Rattle.std.specs.Prelude.{◌==◌, ℕ, suc, cond, Bool, false, not, if◌then◌else◌, List, [], ◌∷◌, ◌++◌, Option, Some, None, Result, Ok, Err, slice_get}
use Rattle.std.specs.Str.{bytes_eq}
use Rattle.faust_types.specs.declared.config.Config.{Config}
use Rattle.faust_types.specs.declared.message.Reply.{Reply}
use Rattle.faust_types.specs.declared.message.Message.{Message}
use Rattle.faust_types.specs.declared.message.Message.TheVariants as messages
use Rattle.faust_wire.specs.Grammar.{reply_bytes}
use Rattle.faust_wire.specs.Reading.{message_of}
use Rattle.faust_server.specs.Rows.{State, Served, committed, first_state, submitted}
use Rattle.faust_server.specs.declared.refusal.OutOfTurn.{OutOfTurn}
use Rattle.faust_record.specs.declared.entry.Input.{Input}
use Rattle.faust_record.specs.declared.entry.Input.TheVariants as inputs
use Rattle.faust_record.specs.declared.entry.Entry.{Entry}

-- A reply that the honest server gave, and to which client.
pub record Given : Type 0 where
  pub client : ℕ
  pub reply : Reply

-- The honest server behind some entries: its state, the replies that it gave, in order, and to which clients a reply
-- was handed in these entries, in order.
pub record Line : Type 0 where
  pub server : State
  pub given : List Given
  pub handed : List ℕ

abbrev pub first_line : ℕ → Line
first_line n = record { server = first_state n; given = []; handed = [] }

-- A message of client i arrives. What is no SUBMIT or COMMIT, or is out of turn, changes nothing; in a run neither
-- comes.
abbrev pub line_served : Line → ℕ → Result Served OutOfTurn → Line
line_served line i (Ok served) = record line {
  server = served.state;
  given = line.given ++ (record { client = i; reply = served.reply }) ∷ [];
}
line_served line i (Err refused) = line

abbrev pub line_settled : Line → Result State OutOfTurn → Line
line_settled line (Ok state) = record line { server = state }
line_settled line (Err refused) = line

abbrev pub line_told : Line → ℕ → Option Message → Line
line_told line i None = line
line_told line i (Some (messages.Submit m)) = line_served line i (submitted line.server i m)
line_told line i (Some (messages.Reply m)) = line
line_told line i (Some (messages.Commit m)) = line_settled line (committed line.server i m)
line_told line i (Some (messages.Peer m)) = line
line_told line i (Some (messages.Hello client)) = line

-- One more entry: a message arrives, or a reply is handed to its client.
abbrev pub line_at : Config → Line → ℕ → Input → Line
line_at config line i (inputs.Write value) = line
line_at config line i (inputs.Read register) = line
line_at config line i (inputs.Reply bytes) = record line { handed = line.handed ++ i ∷ [] }
line_at config line i (inputs.Peer bytes) = line
line_at config line i (inputs.Tick moment) = line
line_at config line i (inputs.Arrive message) = line_told line i (message_of config.wire config.clients message)

abbrev pub line_after : Config → Line → Entry → Line
line_after config line entry = line_at config line entry.client entry.input

-- The honest server behind entries, from a line on, and from the first one.
abbrev pub line_from : Config → Line → List Entry → Line
line_from config line [] = line
line_from config line (entry ∷ rest) = line_from config (line_after config line entry) rest

abbrev pub line_of : Config → List Entry → Line
line_of config entries = line_from config (first_line config.clients) entries

-- The replies that were given to client i, how often a reply was handed to it, and the reply that is due to it next:
-- where r - 1 were handed, the r-th that was given, if there is one.
abbrev pub given_to : ℕ → List Given → List Reply
given_to i [] = []
given_to i (given ∷ rest) = cond (given.client == i) (given.reply ∷ given_to i rest) (given_to i rest)

abbrev pub times_of : ℕ → List ℕ → ℕ
times_of i [] = 0
times_of i (client ∷ rest) = cond (client == i) (suc (times_of i rest)) (times_of i rest)

abbrev pub due_at : Line → ℕ → Option Reply
due_at line i = slice_get (given_to i line.given) (times_of i line.handed)

-- Bytes are the spelling of the reply that is due.
abbrev pub is_due : ℕ → List ℕ → Option Reply → Bool
is_due wire bytes None = false
is_due wire bytes (Some reply) = bytes_eq bytes (reply_bytes wire reply)

-- A reply entry departs where none is due to its client, or the one that is due has another spelling.
abbrev pub departs_at : Config → Line → ℕ → Input → Bool
departs_at config line i (inputs.Write value) = false
departs_at config line i (inputs.Read register) = false
departs_at config line i (inputs.Reply bytes) = not (is_due config.wire bytes (due_at line i))
departs_at config line i (inputs.Peer bytes) = false
departs_at config line i (inputs.Tick moment) = false
departs_at config line i (inputs.Arrive message) = false

abbrev pub departs : Config → Line → Entry → Bool
departs config line entry = departs_at config line entry.client entry.input

-- The number of the first entry that departs, if there is one.
abbrev pub first_departure_from : Config → Line → List Entry → Option ℕ
first_departure_from config line [] = None
first_departure_from config line (entry ∷ rest) =
    if departs config line entry then Some entry.number else first_departure_from config (line_after config line entry) rest

abbrev pub first_departure : Config → List Entry → Option ℕ
first_departure config entries = first_departure_from config (first_line config.clients) entries
