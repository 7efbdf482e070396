-- What a client's bytes ask of the server, and what the server does then. Each promise of the crate rests on this file.
use Rattle.std.specs.Prelude.{ℕ, List, Option, Some, None, Result, Ok, Err}
use Rattle.faust_types.specs.Ranges.{IsSubmitFor, IsCommitFor}
use Rattle.faust_types.specs.declared.message.Message.{Message}
use Rattle.faust_types.specs.declared.message.Message.TheVariants as messages
use Rattle.faust_wire.specs.Grammar.{reply_bytes}
use Rattle.faust_wire.specs.Reading.{message_of}
use Rattle.faust_server.specs.Rows.{State, Served, submitted, committed}
use Rattle.faust_server.specs.declared.refusal.OutOfTurn.{OutOfTurn}
use Rattle.faust_host.specs.declared.request.Request.{Request}
use Rattle.faust_host.specs.declared.request.Request.TheVariants as requests

-- A SUBMIT and a COMMIT ask something of the server, and no other message does.
abbrev pub asked_by : Option Message → Option Request
asked_by None = None
asked_by (Some (messages.Submit m)) = Some (requests.Submit m)
asked_by (Some (messages.Commit m)) = Some (requests.Commit m)
asked_by (Some (messages.Reply m)) = None
asked_by (Some (messages.Peer m)) = None
asked_by (Some (messages.Hello client)) = None

-- What bytes ask of the server of n clients: what the message asks that they spell under the first version of the wire.
unfoldable pub request_in : ℕ → List ℕ → Option Request
request_in n bytes = asked_by (message_of 1 n bytes)

-- The client that bytes name: that of a HELLO that they spell for n clients.
abbrev pub named_by : Option Message → Option ℕ
named_by None = None
named_by (Some (messages.Submit m)) = None
named_by (Some (messages.Commit m)) = None
named_by (Some (messages.Reply m)) = None
named_by (Some (messages.Peer m)) = None
named_by (Some (messages.Hello client)) = Some client

unfoldable pub client_in : ℕ → List ℕ → Option ℕ
client_in n bytes = named_by (message_of 1 n bytes)

-- A request is in range for n clients.
abbrev pub IsRequestFor : ℕ → Request → Type 0
IsRequestFor n (requests.Submit m) = IsSubmitFor n m
IsRequestFor n (requests.Commit m) = IsCommitFor n m

-- What the server does for a request: its state then, and the bytes of its reply, which only a SUBMIT gets.
pub record Deed : Type 0 where
  pub state : State
  pub reply : Option (List ℕ)

abbrev pub deed_of_submit : Result Served OutOfTurn → Result Deed OutOfTurn
deed_of_submit (Ok served) = Ok (record { state = served.state; reply = Some (reply_bytes 1 served.reply) })
deed_of_submit (Err refused) = Err refused

abbrev pub deed_of_commit : Result State OutOfTurn → Result Deed OutOfTurn
deed_of_commit (Ok state) = Ok (record { state = state; reply = None })
deed_of_commit (Err refused) = Err refused

-- The server's row for a request of client i.
unfoldable pub deed : State → ℕ → Request → Result Deed OutOfTurn
deed st i (requests.Submit m) = deed_of_submit (submitted st i m)
deed st i (requests.Commit m) = deed_of_commit (committed st i m)
